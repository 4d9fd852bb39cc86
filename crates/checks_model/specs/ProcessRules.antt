-- The rules on processes, each stated of one site: P1 to P8.
use Rattle.std.specs.Prelude.{Bool, true, false, ◌&&◌, ◌||◌, ◌==◌, not, if◌then◌else◌, List, [], flat_map, Option, Some, None, option_map, pos, int_le}
use Rattle.std.specs.List.{list_any}
use Rattle.std.specs.Str.{bytes_eq}
use Rattle.chill_base.specs.declared.pos.Pos.{Pos}
use Rattle.chill_tree.specs.declared.tree.name.Name.{Name}
use Rattle.chill_tree.specs.declared.tree.item.ModulionKind.{ModulionKind}
use Rattle.chill_tree.specs.declared.tree.item.ModulionKind.TheVariants as modulions
use Rattle.chill_tree.specs.declared.tree.item.Passed.{Passed}
use Rattle.chill_tree.specs.declared.tree.item.Passed.TheVariants.{Names, All}
use Rattle.chill_tree.specs.ExprTree.{ExprTree, place_of}
use Rattle.chill_tree.specs.LocalTree.{locations}
use Rattle.chill_tree.specs.StatementTree.{StatementTree, empty, simple, bracketed}
use Rattle.chill_tree.specs.ItemTree.{ItemTree, ItemNodes, seize, grant, local_item, signals, procedure, process, modulion, action, items_in}
use Rattle.modes.specs.ModeTree.{ModeTree, int, event, buffer, read, named}
use Rattle.modes.specs.Form.{form_of}
use Rattle.diagnostics.specs.declared.diagnostic.Diagnostic.{Diagnostic}
use Rattle.diagnostics.specs.declared.rule.Rule.TheVariants as rules
use Rattle.names_model.specs.NameRules.{tell}
use Rattle.checks_model.specs.Alike.{is_instance, goes_with}
use Rattle.checks_model.specs.ValueTrees.{ValueTree, number}
use Rattle.checks_model.specs.Ground.{Ground, Origin, Entry, a_signal, a_location, number_at, origin_of, entry_of, entry_defined, mode_of_entry}
use Rattle.checks_model.specs.Classes.{class_of}
use Rattle.checks_model.specs.Told.{tell_at, told_if, holds_of, holds_of_both}
use Rattle.checks_model.specs.ValueRules.{Located, place, is_free}

-- ---- where processes meet

pub data Meeting : Type 0 where
  meets_event : Meeting
  meets_buffer : Meeting
  meets_signal : Meeting
  meets_nothing : Meeting

-- what processes meet at in a location of the mode
abbrev pub meeting_of : ModeTree → Meeting
meeting_of (event l) = meets_event
meeting_of (buffer l e) = meets_buffer
meeting_of (read m) = meeting_of m
meeting_of (named d n m) = meeting_of m
meeting_of _ = meets_nothing

abbrev pub met_by : Option Entry → Option Origin → Option Meeting
met_by e (Some (a_signal s)) = Some meets_signal
met_by e (Some (a_location d)) = option_map meeting_of (mode_of_entry e)
met_by e _ = None

-- what processes meet at under a used name
abbrev pub met_at : Ground → Name → Option Meeting
met_at g n = met_by (entry_of g n) (origin_of g n)

-- ---- P1: a process is defined in a region. P2: a region holds an action or a modulion

abbrev pub is_region : ModulionKind → Bool
is_region modulions.Module = false
is_region modulions.Region = true

abbrev pub first_place : StatementTree → Pos
first_place (empty at) = at
first_place (simple at a h) = at
first_place (bracketed at l a h closing) = at

-- ---- P4: a region grants its location by name

abbrev pub declares : Name → ItemTree → Bool
declares n (local_item (locations at ds)) = list_any (λ d. list_any (λ own. bytes_eq own.text n.text) d.names) ds
declares n _ = false

abbrev pub told_granted_name : ItemNodes → Name → List Diagnostic
told_granted_name items n = told_if (list_any (declares n) (items_in items)) (tell n.at rules.P4 n.text)

abbrev pub told_granted : ItemNodes → Passed → List Diagnostic
told_granted items (Names ns) = flat_map (told_granted_name items) ns
told_granted items (All at) = []

-- what is told of an item that stands directly in a modulion of a kind, which has these items
abbrev pub told_item : ModulionKind → ItemNodes → ItemTree → List Diagnostic
told_item around items (process p) = told_if (is_region around) (tell p.name.at rules.P1 p.name.text)
told_item around items (action s) = told_if (is_region around) (tell_at rules.P2 (first_place s))
told_item around items (modulion n kind inner h closing) = told_if (is_region around) (tell_at rules.P2 n.at)
told_item around items (grant at passed) = if is_region around then told_granted items passed else []
told_item around items (seize at passed) = []
told_item around items (local_item l) = []
told_item around items (signals at ss) = []
told_item around items (procedure p) = []

-- ---- P3: DELAY or CONTINUE of no event; SEND or RECEIVE of no buffer or signal; SEND with TO of no signal

pub data Purpose : Type 0 where
  for_events : Purpose
  for_messages : Purpose
  for_signals : Purpose

abbrev pub fits : Purpose → Meeting → Bool
fits for_events meets_event = true
fits for_messages meets_buffer = true
fits for_messages meets_signal = true
fits for_signals meets_signal = true
fits _ _ = false

abbrev pub told_misfit : Ground → Purpose → Name → List Diagnostic
told_misfit g p n = told_if (holds_of (λ m. not (fits p m)) (met_at g n)) (tell n.at rules.P3 n.text)

-- ---- P5: a DELAY CASE or RECEIVE CASE lists a name twice, or buffers and signals

-- one definition, or one is a buffer and the other a signal
abbrev pub is_other_sort : Meeting → Meeting → Bool
is_other_sort meets_buffer meets_signal = true
is_other_sort meets_signal meets_buffer = true
is_other_sort _ _ = false

abbrev pub clashes_with : Ground → Name → Name → Bool
clashes_with g n earlier =
    holds_of_both (λ a b. a == b) (number_at g.uses n.at) (number_at g.uses earlier.at) || holds_of_both is_other_sort (met_at g n) (met_at g earlier)

-- a name behind those that the action lists before it
abbrev pub told_listed : Ground → List Name → Name → List Diagnostic
told_listed g earlier n = told_if (list_any (clashes_with g n) earlier) (tell n.at rules.P5 n.text)

-- ---- P6: a priority isn't 0 to 1,000,000

abbrev pub is_priority : ValueTree → Bool
is_priority (number n) = int_le (pos 0) n && int_le n (pos 1000000)
is_priority _ = true

-- the class and the value are each asked only where they are there
abbrev pub told_priority : Ground → (ExprTree → Option ValueTree) → ExprTree → List Diagnostic
told_priority g constant e = told_if (holds_of (λ c. not (goes_with c int)) (class_of g e) || holds_of (λ v. not (is_priority v)) (constant e)) (tell_at rules.P6 (place_of e))

-- ---- P7: SET names no INSTANCE location that can be written

abbrev pub takes_instance : Located → Bool
takes_instance l = holds_of (λ m. is_instance (form_of m)) l.mode && is_free l.access

abbrev pub told_set : Ground → ExprTree → List Diagnostic
told_set g e = told_if (not (takes_instance (place g e))) (tell_at rules.P7 (place_of e))

-- ---- P8: an event or buffer is declared in a body

abbrev pub is_event_or_buffer : Meeting → Bool
is_event_or_buffer meets_event = true
is_event_or_buffer meets_buffer = true
is_event_or_buffer _ = false

abbrev pub told_local : Ground → Name → List Diagnostic
told_local g n = told_if (holds_of (λ m. is_event_or_buffer (meeting_of m)) (mode_of_entry (entry_defined g n))) (tell n.at rules.P8 n.text)
