-- What the walk tells, held against the phase of processes: the lines of the rules that names decide.
use Rattle.std.specs.Prelude.{◌≡◌, option_map}
use Rattle.chill_tree.specs.declared.tree.name.Name.{Name}
use Rattle.chill_tree.specs.ItemTree.{ProgramTree}
use Rattle.diagnostics.specs.Listing.{SameMembers}
use Rattle.checks_model.specs.Ground.{Ground, number_at, mode_of_entry, entry_defined}
use Rattle.checks_model.specs.ProcessRules.{Meeting as MetAt, meets_event, meets_buffer, meets_signal, meets_nothing, meeting_of}
use Rattle.checks_model.specs.ProcessRules as model
use Rattle.met_names.specs.declared.meeting.Meeting.{Meeting}
use Rattle.met_names.specs.declared.meeting.Meeting.TheVariants as meetings
use Rattle.met_names.specs.Facts.{Facts, number_of, met_at, declared_at}
use Rattle.wait_exprs.specs.Split.{told_by_names}
use Rattle.process_names.specs.Walk.{over_program}

abbrev pub as_met : Meeting → MetAt
as_met meetings.Event = meets_event
as_met meetings.Buffer = meets_buffer
as_met meetings.Signal = meets_signal
as_met meetings.Other = meets_nothing

-- the facts are those of the ground: what names stand for, and what processes meet at under them
pub record AreFactsOf (f : Facts) (g : Ground) : Type 0 where
  pub numbers : (n : Name) → number_of f n ≡ number_at g.uses n.at
  pub used : (n : Name) → model.met_at g n ≡ option_map as_met (met_at f n)
  pub declared : (n : Name) → option_map meeting_of (mode_of_entry (entry_defined g n)) ≡ option_map as_met (declared_at f n)

-- What the walk tells are the lines of the phase without P6 and P7.
abbrev pub NamesLaw : Type 0
NamesLaw = (f : Facts) (g : Ground) (t : ProgramTree) → AreFactsOf f g → SameMembers (over_program f t) (told_by_names g t)
