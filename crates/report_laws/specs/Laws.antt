-- The report of a world, and the laws that the report of its events is that.
use Rattle.std.specs.Prelude.{◌≡◌, ℕ, zero, suc, List, [], ◌++◌, length, slice_index_or, Some, None}
use Rattle.std.specs.declared.option.Option.{Option}
use Rattle.kernel_base.specs.declared.ends.How.TheVariants as hows
use Rattle.kernel_base.specs.declared.ends.Over.{Over}
use Rattle.kernel_base.specs.declared.facts.Facts.{Facts}
use Rattle.kernel_base.specs.declared.event.Event.{Event}
use Rattle.checked_program.specs.declared.program.Checked.{Checked}
use Rattle.world_model.specs.declared.world.Phase.{Phase}
use Rattle.world_model.specs.declared.world.Phase.TheVariants as phases
use Rattle.world_model.specs.declared.world.World.{World}
use Rattle.world_model.specs.Waiting.{phase_of}
use Rattle.world_model.specs.World.{world_of}
use Rattle.world_model.specs.Allowed.{IsRun}
use Rattle.run_texts.specs.declared.processes.ProcessState.{ProcessState}
use Rattle.run_texts.specs.declared.processes.ProcessState.TheVariants as states
use Rattle.run_texts.specs.declared.processes.Processes.{Processes}
use Rattle.run_texts.specs.declared.words.Told.{Told}
use Rattle.run_texts.specs.declared.words.Told.TheVariants.{Raised, Suspended, Delayed, Active}
use Rattle.run_texts.specs.Processes.{processes_after, state_of, number_of}
use Rattle.run_texts.specs.Report.{line_if, last_line, report_of}

-- how far an instance of this phase has come
abbrev pub state_in : Phase → ProcessState
state_in phases.Active = states.Active
state_in (phases.Waiting request send back) = states.Delayed
state_in (phases.Chosen answer back) = states.Chosen
state_in (phases.Ended how) = states.Ended how

-- one that was never made has ended
abbrev pub state_at : Option Phase → ProcessState
state_at None = states.Ended hows.Normal
state_at (Some phase) = state_in phase

-- the number of the process that an instance of a world is of
abbrev pub process_in : World → ℕ → ℕ
process_in w instance = slice_index_or w.processes instance 0

-- What is told of the instances is what a world has of them: as many, and of each its phase and its process.
pub record StatesAgree (ps : Processes) (w : World) : Type 0 where
  pub count : length ps.states ≡ length w.phases
  pub states : (instance : ℕ) → state_of ps instance ≡ state_at (phase_of w instance)
  pub numbers : (instance : ℕ) → number_of ps instance ≡ process_in w instance

-- What the events of an allowed journal tell of the instances is what the world has of them that the journal leaves.
abbrev pub StatesLaw : Type 0
StatesLaw = (facts : Facts) (events : List Event)
    → IsRun facts events
    → StatesAgree (processes_after events) (world_of facts events)

-- what is told of one that was chosen: it is suspended where it has a region to lock
abbrev pub told_of_back : Option ℕ → Told
told_of_back None = Active
told_of_back (Some region) = Suspended

-- what is told of a phase
abbrev pub told_in : Option Phase → Option Told
told_in (Some phases.Active) = Some Active
told_in (Some (phases.Waiting request send back)) = Some Delayed
told_in (Some (phases.Chosen answer back)) = Some (told_of_back back)
told_in (Some (phases.Ended (hows.Raised exception))) = Some (Raised exception)
told_in phase = None

-- the line of an instance of a world that has one
abbrev pub world_line : Checked → World → ℕ → List ℕ
world_line program w instance = line_if program instance (process_in w instance) (told_in (phase_of w instance))

-- the lines of the instances of a world below a number, by rising instance
abbrev pub world_lines : Checked → World → ℕ → List ℕ
world_lines program w zero = []
world_lines program w (suc n) = world_lines program w n ++ world_line program w n

-- the lines of all instances of a world, and how the run was over
abbrev pub world_report : Checked → World → Over → List ℕ
world_report program w over = world_lines program w (length w.phases) ++ last_line over

-- The report of a journal that is allowed is that of the world that it leaves.
abbrev pub ReportLaw : Type 0
ReportLaw = (program : Checked) (facts : Facts) (events : List Event) (over : Over)
    → IsRun facts events
    → report_of program events over ≡ world_report program (world_of facts events) over
