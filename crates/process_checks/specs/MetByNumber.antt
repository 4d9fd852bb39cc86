-- What processes meet at under each definition of a program, as it is found from what is known of the definitions.
use Rattle.std.specs.Prelude.{ℕ, suc, List, [], ◌∷◌, map, Option, Some, None, option_map, slice_get}
use Rattle.modes.specs.ModeTree.{ModeTree, mode_tree}
use Rattle.definition_origins.specs.declared.origin.Origin.{Origin}
use Rattle.definition_origins.specs.declared.origin.Origin.TheVariants as origins
use Rattle.constant_operators.specs.declared.evaluation.Entry.{Entry}
use Rattle.constant_operators.specs.declared.evaluation.Evaluation.{Evaluation}
use Rattle.met_names.specs.declared.meeting.Meeting.{Meeting}
use Rattle.met_names.specs.declared.meeting.Meeting.TheVariants as meetings
use Rattle.met_names.specs.Facts.{Facts, met_in}

-- the mode of a definition, where one is known
abbrev pub mode_known : Entry → Option ModeTree
mode_known e = option_map (λ m. mode_tree m.value) e.mode

-- what that mode is of
abbrev pub declared_as : Entry → Option Meeting
declared_as e = option_map met_in (mode_known e)

abbrev pub declared_by : Option Entry → Option Meeting
declared_by None = None
declared_by (Some e) = declared_as e

-- what processes meet at where a definition is used: a signal, or in a location what its mode is of
abbrev pub used_as : Origin → Option Entry → Option Meeting
used_as (origins.Signal s) e = Some meetings.Signal
used_as (origins.Location d first) e = declared_by e
used_as (origins.Synonym s first) e = None
used_as (origins.SynMode d) e = None
used_as (origins.NewMode d) e = None
used_as (origins.Element own) e = None
used_as (origins.Parameter m passing first) e = None
used_as (origins.Counter c) e = None
used_as (origins.Received a part) e = None
used_as (origins.Procedure p) e = None
used_as (origins.Process p) e = None
used_as (origins.Modulion m) e = None
used_as (origins.Predefined own) e = None

-- of each definition from a number on
abbrev pub used_from : List Entry → ℕ → List Origin → List (Option Meeting)
used_from es number [] = []
used_from es number (o ∷ os) = used_as o (slice_get es number) ∷ used_from es (suc number) os

abbrev pub facts_of : Evaluation → Facts
facts_of e = record { uses = e.names.now.uses; defined = e.defined; used = used_from e.entries.items 0 e.origins; declared = map declared_as e.entries.items }
