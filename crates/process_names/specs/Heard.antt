-- What a DELAY CASE or RECEIVE CASE has listed so far, and what is told of a name behind that: P3, and P5, an action lists a
-- definition again, or a buffer behind a signal or the other way round.
use Rattle.std.specs.Prelude.{ℕ, Bool, true, false, ◌||◌, List, [], ◌∷◌, ◌++◌, Option, Some, None}
use Rattle.std.specs.List.{list_any}
use Rattle.std.specs.Ordering.{nat_cmp}
use Rattle.std.specs.BTreeSet.{insert_key}
use Rattle.std.specs.BTreeMap.{is_at}
use Rattle.chill_tree.specs.declared.tree.name.Name.{Name}
use Rattle.chill_tree.specs.StatementTree.{NamedNodes, ReceiveNodes, no_named, more_named, no_receives, more_receives}
use Rattle.diagnostics.specs.declared.diagnostic.Diagnostic.{Diagnostic}
use Rattle.diagnostics.specs.declared.rule.Rule.TheVariants as rules
use Rattle.names_model.specs.NameRules.{tell}
use Rattle.checks_model.specs.Told.{told_if}
use Rattle.met_names.specs.declared.meeting.Meeting.{Meeting}
use Rattle.met_names.specs.declared.meeting.Meeting.TheVariants as meetings
use Rattle.met_names.specs.declared.purpose.Purpose.{Purpose}
use Rattle.met_names.specs.declared.purpose.Purpose.TheVariants as purposes
use Rattle.met_names.specs.Facts.{Facts, number_of, met_at, told_misfit}

-- the numbers of the definitions in order, and whether buffers or signals are among them
pub record Heard : Type 0 where
  pub numbers : List ℕ
  pub has_buffer : Bool
  pub has_signal : Bool

abbrev pub nothing_heard : Heard
nothing_heard = record { numbers = []; has_buffer = false; has_signal = false }

abbrev pub is_buffer : Option Meeting → Bool
is_buffer (Some meetings.Buffer) = true
is_buffer (Some meetings.Event) = false
is_buffer (Some meetings.Signal) = false
is_buffer (Some meetings.Other) = false
is_buffer None = false

abbrev pub is_signal : Option Meeting → Bool
is_signal (Some meetings.Signal) = true
is_signal (Some meetings.Event) = false
is_signal (Some meetings.Buffer) = false
is_signal (Some meetings.Other) = false
is_signal None = false

abbrev pub heard_with : Heard → ℕ → Option Meeting → Heard
heard_with h d m = record { numbers = insert_key nat_cmp h.numbers d; has_buffer = h.has_buffer || is_buffer m; has_signal = h.has_signal || is_signal m }

-- a buffer behind a signal, or a signal behind a buffer
abbrev pub is_mixed : Heard → Option Meeting → Bool
is_mixed h (Some meetings.Buffer) = h.has_signal
is_mixed h (Some meetings.Signal) = h.has_buffer
is_mixed h (Some meetings.Event) = false
is_mixed h (Some meetings.Other) = false
is_mixed h None = false

abbrev pub clashes : Heard → ℕ → Option Meeting → Bool
clashes h d m = list_any (is_at (nat_cmp d)) h.numbers || is_mixed h m

-- P5 of a name that stands for the definition of a number, if for one
abbrev pub told_heard : Heard → Option ℕ → Option Meeting → Name → List Diagnostic
told_heard h None m n = []
told_heard h (Some d) m n = told_if (clashes h d m) (tell n.at rules.P5 n.text)

abbrev pub heard_behind : Heard → Option ℕ → Option Meeting → Heard
heard_behind h None m = h
heard_behind h (Some d) m = heard_with h d m

-- what is told of a name that an action lists, and what has been listed behind it
abbrev pub told_listed : Facts → Purpose → Heard → Name → List Diagnostic
told_listed f p h n = told_misfit f p n ++ told_heard h (number_of f n) (met_at f n) n

abbrev pub heard_name : Facts → Heard → Name → Heard
heard_name f h n = heard_behind h (number_of f n) (met_at f n)

abbrev pub told_names : Facts → Heard → List Name → List Diagnostic
told_names f h [] = []
told_names f h (n ∷ ns) = told_listed f purposes.Events h n ++ told_names f (heard_name f h n) ns

abbrev pub heard_names : Facts → Heard → List Name → Heard
heard_names f h [] = h
heard_names f h (n ∷ ns) = heard_names f (heard_name f h n) ns

-- the events of a DELAY CASE
abbrev pub told_events : Facts → Heard → NamedNodes → List Diagnostic
told_events f h no_named = []
told_events f h (more_named at ns ss as') = told_names f h ns ++ told_events f (heard_names f h ns) as'

-- the buffers and signals of a RECEIVE CASE
abbrev pub told_sources : Facts → Heard → ReceiveNodes → List Diagnostic
told_sources f h no_receives = []
told_sources f h (more_receives at n r ss as') = told_listed f purposes.Messages h n ++ told_sources f (heard_name f h n) as'
