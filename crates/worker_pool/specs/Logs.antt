-- What a worker knows of a process that it took.
use Rattle.std.specs.Prelude.{◌≡◌, List, [], ◌∷◌, ◌++◌, Some, None, option_to_list}
use Rattle.std.specs.declared.option.Option.{Option}
use Rattle.kernel_base.specs.declared.answer.Answer.{Answer}
use Rattle.kernel_base.specs.declared.event.Event.{Event}
use Rattle.kernel_base.specs.declared.event.Event.TheVariants.{Did}
use Rattle.world_model.specs.Session.{Item}
use Rattle.world_model.specs.Journal.{line_of, answers_of}
use Rattle.code_types.specs.declared.code.Code.{Code}
use Rattle.code_types.specs.State.{State}
use Rattle.code_types.specs.Talk.{Leads, Reaches}
use Rattle.machine_steps.specs.Views.{state_of}
use Rattle.code_machine.specs.Running.{RunsOn}
use Rattle.serial_run.specs.Driven.{IsUncommitted}
use Rattle.worker_pool.specs.declared.log.Fit.{Fit}
use Rattle.worker_pool.specs.declared.log.Fit.TheVariants.{Fits, Misfit}
use Rattle.worker_pool.specs.declared.log.Log.{Log}

-- The line of the log's events is what the code does up to a state, with the log's process, its arguments and the answers in its
-- events.
abbrev pub HasLine : Code → Log → State → Type 0
HasLine code log state = Reaches code log.instance log.process log.scalars (answers_of log.instance log.events) (line_of log.instance log.events) state

-- The machine runs the code, and stands where the log's line leaves it.
pub record IsCurrent (code : Code) (log : Log) : Type 0 where
  pub runs : RunsOn code log.machine
  pub line : HasLine code log (state_of log.machine)

-- The machine stands where the log's line leaves it, or past it by a burst that wasn't committed.
pub record IsLog (code : Code) (log : Log) : Type 0 where
  pub left : State
  pub line : HasLine code log left
  pub burst : List Item
  pub short : IsUncommitted burst
  pub leads : Leads code left [] burst (state_of log.machine)

-- the answer that came with an event, where one came at once
abbrev pub answer_at_once : Event → Option Answer
answer_at_once (Did who ticks request answer refill) = Some answer
answer_at_once event = None

-- The machine runs the code, and stands past the log's line by a burst of which this event tells.
pub record MayNote (code : Code) (log : Log) (event : Event) : Type 0 where
  pub runs : RunsOn code log.machine
  pub left : State
  pub line : HasLine code log left
  pub short : IsUncommitted (line_of log.instance (event ∷ []))
  pub leads : Leads code left [] (line_of log.instance (event ∷ [])) (state_of log.machine)
  pub answers : answers_of log.instance (event ∷ []) ≡ option_to_list (answer_at_once event)

-- behind an event that was to be noted
abbrev pub AfterNoting : Code → Fit → Log → Type 0
AfterNoting code Fits log = IsCurrent code log
AfterNoting code Misfit log = IsLog code log

-- the event was noted
pub record HasNoted (old new : Log) (event : Event) : Type 0 where
  pub instance : new.instance ≡ old.instance
  pub process : new.process ≡ old.process
  pub scalars : new.scalars ≡ old.scalars
  pub events : new.events ≡ old.events ++ event ∷ []

-- an event was noted whose answer the machine took, or nothing was done
pub record HasTaken (old new : Log) (event : Event) (answer : Answer) : Type 0 where
  pub noted : HasNoted old new event
  pub leads : (code : Code) → Leads code (state_of old.machine) (answer ∷ []) [] (state_of new.machine)
  pub runs : (code : Code) → RunsOn code old.machine → RunsOn code new.machine

abbrev pub NotesAnswer : Log → Log → Event → Answer → Fit → Type 0
NotesAnswer old new event answer Fits = HasTaken old new event answer
NotesAnswer old new event answer Misfit = new ≡ old
