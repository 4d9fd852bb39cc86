-- The rules on processes that names decide, each told at one place: P1, P2, P4 and P8.
use Rattle.std.specs.Prelude.{ℕ, Bool, true, false, not, List, [], flat_map, if◌then◌else◌}
use Rattle.std.specs.List.{list_any}
use Rattle.std.specs.Str.{bytes_eq}
use Rattle.chill_tree.specs.declared.tree.name.Name.{Name}
use Rattle.chill_tree.specs.declared.tree.item.ModulionKind.{ModulionKind}
use Rattle.chill_tree.specs.declared.tree.item.Passed.{Passed}
use Rattle.chill_tree.specs.declared.tree.item.Passed.TheVariants.{Names, All}
use Rattle.chill_tree.specs.LocalTree.{synonyms, syn_modes, new_modes, locations}
use Rattle.chill_tree.specs.ItemTree.{ItemTree, ItemNodes, seize, grant, local_item, signals, procedure, process, modulion, action, items_in}
use Rattle.diagnostics.specs.declared.diagnostic.Diagnostic.{Diagnostic}
use Rattle.diagnostics.specs.declared.rule.Rule.TheVariants as rules
use Rattle.names_model.specs.NameRules.{tell}
use Rattle.names_model.specs.Seeing.{is_empty}
use Rattle.reach_tables.specs.Held.{Holdings, held}
use Rattle.checks_model.specs.Told.{tell_at, told_if, holds_of}
use Rattle.checks_model.specs.ProcessRules.{is_region, first_place, told_granted}
use Rattle.met_names.specs.declared.meeting.Meeting.{Meeting}
use Rattle.met_names.specs.declared.meeting.Meeting.TheVariants as meetings
use Rattle.met_names.specs.Facts.{Facts, declared_at}

-- ---- P1, P2

-- an item that stands directly in a modulion of a kind
abbrev pub told_place : ModulionKind → ItemTree → List Diagnostic
told_place around (process p) = told_if (is_region around) (tell p.name.at rules.P1 p.name.text)
told_place around (action s) = told_if (is_region around) (tell_at rules.P2 (first_place s))
told_place around (modulion n kind items h closing) = told_if (is_region around) (tell_at rules.P2 n.at)
told_place around (seize at passed) = []
told_place around (grant at passed) = []
told_place around (local_item l) = []
told_place around (signals at ss) = []
told_place around (procedure p) = []

-- ---- P4

abbrev pub has_name : List ℕ → List Name → Bool
has_name n names = list_any (λ own. bytes_eq own.text n) names

-- some location of that name is declared
abbrev pub declares_text : List ℕ → ItemTree → Bool
declares_text n (local_item (locations at ds)) = list_any (λ d. has_name n d.names) ds
declares_text n (local_item (synonyms at ss)) = false
declares_text n (local_item (syn_modes at ds)) = false
declares_text n (local_item (new_modes at ds)) = false
declares_text n (seize at passed) = false
declares_text n (grant at passed) = false
declares_text n (signals at ss) = false
declares_text n (procedure p) = false
declares_text n (process p) = false
declares_text n (modulion name kind items h closing) = false
declares_text n (action s) = false

-- something stands under the name in a table
abbrev pub has : Holdings → List ℕ → Bool
has t n = not (is_empty (held t n))

-- P4 of a granted name, where these are the locations of a region
abbrev pub told_had : Holdings → Name → List Diagnostic
told_had t n = told_if (has t n.text) (tell n.at rules.P4 n.text)

abbrev pub told_passed : Holdings → Passed → List Diagnostic
told_passed t (Names ns) = flat_map (told_had t) ns
told_passed t (All at) = []

abbrev pub told_grant_had : Holdings → ItemTree → List Diagnostic
told_grant_had t (grant at passed) = told_passed t passed
told_grant_had t (seize at passed) = []
told_grant_had t (local_item l) = []
told_grant_had t (signals at ss) = []
told_grant_had t (procedure p) = []
told_grant_had t (process p) = []
told_grant_had t (modulion n kind inner h closing) = []
told_grant_had t (action s) = []

-- the names that an item grants, which stands among these
abbrev pub told_grant : ItemNodes → ItemTree → List Diagnostic
told_grant items (grant at passed) = told_granted items passed
told_grant items (seize at passed) = []
told_grant items (local_item l) = []
told_grant items (signals at ss) = []
told_grant items (procedure p) = []
told_grant items (process p) = []
told_grant items (modulion n kind inner h closing) = []
told_grant items (action s) = []

-- P4 of all that a region grants
abbrev pub told_grants : ModulionKind → ItemNodes → List Diagnostic
told_grants kind items = if is_region kind then flat_map (told_grant items) (items_in items) else []

-- ---- P8

abbrev pub is_event_or_buffer : Meeting → Bool
is_event_or_buffer meetings.Event = true
is_event_or_buffer meetings.Buffer = true
is_event_or_buffer meetings.Signal = false
is_event_or_buffer meetings.Other = false

-- P8 of a location that is declared in a body
abbrev pub told_local : Facts → Name → List Diagnostic
told_local f n = told_if (holds_of is_event_or_buffer (declared_at f n)) (tell n.at rules.P8 n.text)
