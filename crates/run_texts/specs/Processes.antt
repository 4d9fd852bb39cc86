-- How far each process has come, as the events alone tell it.
use Rattle.std.specs.Prelude.{ℕ, ◌==◌, Bool, true, false, List, [], ◌∷◌, ◌++◌, slice_set, slice_index_or, if◌then◌else◌, Some, None}
use Rattle.std.specs.List.{list_any}
use Rattle.std.specs.declared.option.Option.{Option}
use Rattle.kernel_base.specs.declared.ends.How.TheVariants.{Normal}
use Rattle.kernel_base.specs.declared.request.Request.{Request}
use Rattle.kernel_base.specs.declared.request.Request.TheVariants.{Enter, Leave, Start, End}
use Rattle.kernel_base.specs.declared.answer.Answer.{Answer}
use Rattle.kernel_base.specs.declared.answer.Answer.TheVariants.{Instance, Chose, Handed}
use Rattle.kernel_base.specs.declared.event.Event.{Event}
use Rattle.kernel_base.specs.declared.event.Event.TheVariants.{Did, Waits, Goes, Runs}
use Rattle.world_model.specs.Lists.{without}
use Rattle.run_texts.specs.declared.processes.ProcessState.{ProcessState}
use Rattle.run_texts.specs.declared.processes.ProcessState.TheVariants.{Active, Delayed, Chosen, Ended}
use Rattle.run_texts.specs.declared.processes.Processes.{Processes}

-- how far an instance has come; one that was never made has ended
abbrev pub state_of : Processes → ℕ → ProcessState
state_of ps instance = slice_index_or ps.states instance (Ended Normal)

-- the regions that an instance holds once it goes on
abbrev pub regions_of : Processes → ℕ → List ℕ
regions_of ps who = slice_index_or ps.regions who []

abbrev pub are_some : List ℕ → Bool
are_some [] = false
are_some (region ∷ regions) = true

abbrev pub has_regions : Processes → ℕ → Bool
has_regions ps instance = are_some (regions_of ps instance)

-- the number of an instance's process
abbrev pub number_of : Processes → ℕ → ℕ
number_of ps instance = slice_index_or ps.numbers instance 0

-- one instance more, of the process of this number
abbrev pub appended : Processes → ℕ → ProcessState → Processes
appended ps number state = record { numbers = ps.numbers ++ number ∷ []; regions = ps.regions ++ [] ∷ []; states = ps.states ++ state ∷ [] }

-- instance 0, which is none, and the outermost process
abbrev pub outermost : Processes
outermost = record { numbers = 0 ∷ 0 ∷ []; regions = [] ∷ [] ∷ []; states = Ended Normal ∷ Active ∷ [] }

abbrev pub with_state : Processes → ℕ → ProcessState → Processes
with_state ps who state = record ps { states = slice_set ps.states who state }

-- what one is that waits with this request
abbrev pub state_in_wait : Request → ProcessState
state_in_wait (Enter region) = Chosen
state_in_wait request = Delayed

-- an End ends the one that asks it
abbrev pub ended : Processes → ℕ → Request → Processes
ended ps who (End how) = with_state ps who (Ended how)
ended ps who request = ps

abbrev pub started_as : Processes → ℕ → Answer → Processes
started_as ps process (Instance i) = appended ps process Active
started_as ps process answer = ps

-- a Start that is answered with an instance makes it
abbrev pub started : Processes → Request → Answer → Processes
started ps (Start process scalars) answer = started_as ps process answer
started ps request answer = ps

-- the one that the answer tells to be chosen
abbrev pub chosen_by : Answer → Option ℕ
chosen_by (Chose chosen) = chosen
chosen_by (Handed receiver) = Some receiver
chosen_by answer = None

abbrev pub with_chosen : Processes → Option ℕ → Processes
with_chosen ps None = ps
with_chosen ps (Some who) = with_state ps who Chosen

abbrev pub has_region : ℕ → List ℕ → Bool
has_region region regions = list_any (λ other. other == region) regions

-- the regions with one more, unless it is among them
abbrev pub entered : List ℕ → ℕ → List ℕ
entered regions region = if has_region region regions then regions else regions ++ region ∷ []

abbrev pub with_regions : Processes → ℕ → List ℕ → Processes
with_regions ps who regions = record ps { regions = slice_set ps.regions who regions }

-- who asks to enter a region holds it once it goes on, and who asks to leave it doesn't
abbrev pub asked : Processes → ℕ → Request → Processes
asked ps who (Enter region) = with_regions ps who (entered (regions_of ps who) region)
asked ps who (Leave region) = with_regions ps who (without region (regions_of ps who))
asked ps who request = ps

abbrev pub after : Processes → Event → Processes
after ps (Did who ticks request answer refill) = with_chosen (with_chosen (started (ended (asked ps who request) who request) request answer) (chosen_by answer)) refill
after ps (Waits who ticks request) = with_state (asked ps who request) who (state_in_wait request)
after ps (Goes who answer) = with_state ps who Active
after ps (Runs who ticks) = ps

-- the instances after events, from others on
abbrev pub after_all : Processes → List Event → Processes
after_all ps [] = ps
after_all ps (event ∷ events) = after_all (after ps event) events

-- the instances at the end of these events
abbrev pub processes_after : List Event → Processes
processes_after events = after_all outermost events
