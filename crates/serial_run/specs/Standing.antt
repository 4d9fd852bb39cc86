-- Where the machines of a run stand beside the kernel.
use Rattle.std.specs.Prelude.{◌≡◌, ℕ, suc, ◌+◌, ◌-◌, ◌<◌, ◌≤◌, List, [], ◌∷◌, ◌++◌, length, slice_get, slice_set, Some, None, option_to_list}
use Rattle.kernel_base.specs.declared.event.Event.{Event}
use Rattle.kernel_base.specs.Facts.{IsSound}
use Rattle.kernel_base.specs.Units.{units_of_all}
use Rattle.world_model.specs.Allowed.{IsRun}
use Rattle.world_model.specs.Journal.{line_of, requests_of}
use Rattle.world_model.specs.Laws.{IsDoneBy}
use Rattle.world_model.specs.Over.{over_of}
use Rattle.code_types.specs.declared.code.Code.{Code}
use Rattle.code_types.specs.Talk.{Leads, start_of}
use Rattle.run_laws.specs.Laws.{HasReached}
use Rattle.kernel_steps.specs.declared.reply.New.{New}
use Rattle.kernel_steps.specs.View.{View, Grows, unfetched_of, world_seen}
use Rattle.kernel_steps.specs.declared.reply.Reply.{Reply}
use Rattle.kernel_steps.specs.declared.reply.Reply.TheVariants.{Now, Later, Over, Stranger}
use Rattle.machine_steps.specs.declared.process.Process.{Process}
use Rattle.serial_run.specs.declared.runner.Runner.{Runner}
use Rattle.code_machine.specs.Running.{GoesOnBehind, RunsOn}
use Rattle.machine_steps.specs.Views.{state_of}
use Rattle.serial_run.specs.Coming.{HasCome, WasOpen, EachFrontFollows}

-- A machine runs the code and stands where the journal leaves its instance, but for an answer that waits to be fetched.
pub record Stands (code : Code) (v : View) (r : Runner) : Type 0 where
  pub runs : RunsOn code r.machine
  pub come : HasCome code v.events (option_to_list (unfetched_of v.unfetched r.instance)) r.instance (state_of r.machine)

-- An instance has done nothing.
pub record IsFresh (v : View) (i : ℕ) : Type 0 where
  pub line : line_of i v.events ≡ []
  pub requests : requests_of i v.events ≡ []
  pub unfetched : unfetched_of v.unfetched i ≡ None

-- Each instance that was taken has its machine, in the order of instances, and the others have done nothing. There is a place
-- for the answer of each that was made, the run wasn't over before any event but a going on, and each front of the journal is a
-- run of the code.
pub record AllStand (code : Code) (v : View) (runners : List Runner) : Type 0 where
  pub sound : IsSound v.facts
  pub run : IsRun v.facts v.events
  pub count : length runners ≡ v.taken
  pub instances : (k : ℕ) (r : Runner) → slice_get runners k ≡ Some r → r.instance ≡ suc k
  pub stand : (k : ℕ) (r : Runner) → slice_get runners k ≡ Some r → Stands code v r
  pub fresh : (i : ℕ) → v.taken < i → IsFresh v i
  pub places : length v.unfetched ≡ length (world_seen v).processes
  pub there : v.taken < length v.unfetched
  pub first : v.taken ≡ 0 → v.events ≡ []
  pub was_open : WasOpen v.facts v.events
  pub follow : EachFrontFollows code v.facts v.events

-- the answer of an instance, if one waited, was fetched
pub record FetchedBy (old new : View) (who : ℕ) : Type 0 where
  pub unfetched : new.unfetched ≡ slice_set old.unfetched who None
  pub facts : new.facts ≡ old.facts
  pub events : new.events ≡ old.events
  pub taken : new.taken ≡ old.taken

-- nothing changes but the answers that wait to be fetched
pub record KeepsJournal (old new : View) : Type 0 where
  pub facts : new.facts ≡ old.facts
  pub events : new.events ≡ old.events
  pub taken : new.taken ≡ old.taken

-- no machine has an answer to fetch
abbrev pub HaveFetched : View → List Runner → Type 0
HaveFetched v runners = (k : ℕ) (r : Runner) → slice_get runners k ≡ Some r → unfetched_of v.unfetched r.instance ≡ None

-- each process that was started was taken
abbrev pub IsAllTaken : View → Type 0
IsAllTaken v = length (world_seen v).processes ≤ v.taken + 1

-- an event of an instance that is no going on was noted, with each going on that it made possible, and the run wasn't over before;
-- with this event the instance has reached what it did
pub record Advances (code : Code) (old new : View) (who : ℕ) : Type 0 where
  pub event : Event
  pub by : IsDoneBy who event
  pub reached : HasReached code (old.events ++ event ∷ []) who
  pub is_open : over_of old.facts old.events ≡ None
  pub grows : Grows old new event
  pub sound : IsSound new.facts
  pub run : IsRun new.facts new.events

-- a machine takes what its request came to
abbrev pub TakesReply : Process → Process → Reply → Type 0
TakesReply old new (Now answer) = ((code : Code) → Leads code (state_of old) (answer ∷ []) [] (state_of new)) × ((code : Code) → RunsOn code old → RunsOn code new) × GoesOnBehind (state_of old).mode (state_of new).mode
TakesReply old new Later = new ≡ old
TakesReply old new Over = ⊥
TakesReply old new Stranger = ⊥

-- a reply is an answer
abbrev pub IsAnswered : Reply → Type 0
IsAnswered (Now answer) = Unit {0}
IsAnswered Later = ⊥
IsAnswered Over = ⊥
IsAnswered Stranger = ⊥

-- a machine is at the start of a process that was taken
pub record StartsAs (code : Code) (taken : New) (r : Runner) : Type 0 where
  pub instance : r.instance ≡ taken.instance
  pub starts : start_of code taken.instance taken.process taken.scalars ≡ Some (state_of r.machine)
  pub runs : RunsOn code r.machine

-- the journal stays as it was
pub record KeepsEvents (old new : View) : Type 0 where
  pub facts : new.facts ≡ old.facts
  pub events : new.events ≡ old.events

-- less of the budget is left
pub record Spends (old new : View) : Type 0 where
  pub facts : new.facts ≡ old.facts
  pub less : new.facts.units - units_of_all new.events < old.facts.units - units_of_all old.events
