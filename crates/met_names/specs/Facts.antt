-- What is known of the names of a program where processes meet, and what is told where one stands in an action that is for
-- something else.
use Rattle.std.specs.Prelude.{ℕ, Bool, true, false, not, List, Option, Some, None, slice_get}
use Rattle.chill_tree.specs.declared.tree.name.Name.{Name}
use Rattle.modes.specs.ModeTree.{ModeTree, int, boolean, char, instance, set_of, range, powerset, chars, array, structure, event, buffer, read, named}
use Rattle.diagnostics.specs.declared.diagnostic.Diagnostic.{Diagnostic}
use Rattle.diagnostics.specs.declared.rule.Rule.TheVariants as rules
use Rattle.names_model.specs.declared.names.Resolved.{Resolved}
use Rattle.names_model.specs.NameRules.{tell}
use Rattle.checks_model.specs.Ground.{number_at}
use Rattle.checks_model.specs.Told.{told_if, holds_of}
use Rattle.met_names.specs.declared.meeting.Meeting.{Meeting}
use Rattle.met_names.specs.declared.meeting.Meeting.TheVariants as meetings
use Rattle.met_names.specs.declared.purpose.Purpose.{Purpose}
use Rattle.met_names.specs.declared.purpose.Purpose.TheVariants as purposes

-- what processes meet at in a location of the mode; names and READ are looked through
abbrev pub met_in : ModeTree → Meeting
met_in (event l) = meetings.Event
met_in (buffer l e) = meetings.Buffer
met_in (read m) = met_in m
met_in (named d n m) = met_in m
met_in int = meetings.Other
met_in boolean = meetings.Other
met_in char = meetings.Other
met_in instance = meetings.Other
met_in (set_of d c) = meetings.Other
met_in (range m l h) = meetings.Other
met_in (powerset m) = meetings.Other
met_in (chars l) = meetings.Other
met_in (array i e s) = meetings.Other
met_in (structure fs p) = meetings.Other

-- what each used name stands for and which number each defined name has, by their places; and by the numbers of definitions
-- what processes meet at where one is used, and what its mode is of
pub record Facts : Type 0 where
  pub uses : List Resolved
  pub defined : List Resolved
  pub used : List (Option Meeting)
  pub declared : List (Option Meeting)

abbrev pub flat : Option (Option Meeting) → Option Meeting
flat None = None
flat (Some m) = m

abbrev pub meeting_at : List (Option Meeting) → Option ℕ → Option Meeting
meeting_at meetings None = None
meeting_at meetings (Some d) = flat (slice_get meetings d)

abbrev pub number_of : Facts → Name → Option ℕ
number_of f n = number_at f.uses n.at

-- what processes meet at under a used name
abbrev pub met_at : Facts → Name → Option Meeting
met_at f n = meeting_at f.used (number_of f n)

-- what the mode is of in what a name defines
abbrev pub declared_at : Facts → Name → Option Meeting
declared_at f n = meeting_at f.declared (number_at f.defined n.at)

abbrev pub fits : Purpose → Meeting → Bool
fits purposes.Events meetings.Event = true
fits purposes.Events meetings.Buffer = false
fits purposes.Events meetings.Signal = false
fits purposes.Events meetings.Other = false
fits purposes.Messages meetings.Event = false
fits purposes.Messages meetings.Buffer = true
fits purposes.Messages meetings.Signal = true
fits purposes.Messages meetings.Other = false
fits purposes.Signals meetings.Event = false
fits purposes.Signals meetings.Buffer = false
fits purposes.Signals meetings.Signal = true
fits purposes.Signals meetings.Other = false

-- P3 of a name in an action of a purpose
abbrev pub told_misfit : Facts → Purpose → Name → List Diagnostic
told_misfit f purpose n = told_if (holds_of (λ m. not (fits purpose m)) (met_at f n)) (tell n.at rules.P3 n.text)

-- P3 of a name from which a value is received
abbrev pub told_source : Facts → Name → List Diagnostic
told_source f n = told_misfit f purposes.Messages n
