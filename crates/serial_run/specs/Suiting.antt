-- What a misfit tells of the code and the facts.
use Rattle.std.specs.Prelude.{◌≡◌, ℕ, ◌≤◌, List, length, slice_get, Some, None, IsFalse, IsSomeAnd}
use Rattle.std.specs.declared.option.Option.{Option}
use Rattle.kernel_base.specs.declared.facts.Facts.{Facts}
use Rattle.kernel_base.specs.declared.answer.Answer.{Answer}
use Rattle.world_model.specs.Over.{over_of}
use Rattle.code_types.specs.declared.code.Code.{Code}
use Rattle.code_types.specs.Runs.{IsCodeRun, Suits}
use Rattle.kernel_steps.specs.declared.reply.New.{New}
use Rattle.kernel_steps.specs.declared.reply.Reply.{Reply}
use Rattle.kernel_steps.specs.declared.reply.Reply.TheVariants.{Now, Later, Over, Stranger}
use Rattle.kernel_steps.specs.View.{View, unfetched_of}
use Rattle.machine_steps.specs.Answering.{takes_answer}
use Rattle.machine_steps.specs.declared.process.Process.{Process}
use Rattle.machine_steps.specs.Views.{state_of}
use Rattle.code_machine.specs.Running.{IsUp}
use Rattle.serial_run.specs.declared.refusal.RunRefusal.{RunRefusal}
use Rattle.serial_run.specs.declared.refusal.RunRefusal.TheVariants.{Misfit, Memory}
use Rattle.serial_run.specs.declared.runner.Runner.{Runner}
use Rattle.serial_run.specs.Standing.{AllStand}

-- A misfit comes only where the code doesn't suit the facts.
abbrev pub IsRefused : Code → Facts → RunRefusal → Type 0
IsRefused code facts Misfit = Suits code facts → ⊥
IsRefused code facts Memory = Unit {0}

-- no code with which these machines stand suits the facts
abbrev pub IsUnsuited : View → List Runner → Type 0
IsUnsuited v runners = (code : Code) → AllStand code v runners → Suits code v.facts → ⊥

-- a machine can't take the answer that waits for it
pub record CannotTake (v : View) (r : Runner) : Type 0 where
  pub answer : Answer
  pub waits : unfetched_of v.unfetched r.instance ≡ Some answer
  pub refuses : IsFalse (takes_answer (state_of r.machine).mode answer)

-- a machine can't take what its request came to
abbrev pub RefusesReply : Process → Reply → Type 0
RefusesReply p (Now answer) = IsFalse (takes_answer (state_of p).mode answer)
RefusesReply p Later = ⊥
RefusesReply p Over = Unit {0}
RefusesReply p Stranger = Unit {0}

-- where the run so far is one of the code and wasn't over, a misfit comes only where the code doesn't suit the facts
abbrev pub IsUnserved : Code → View → RunRefusal → Type 0
IsUnserved code v Misfit = IsCodeRun code v.facts v.events → over_of v.facts v.events ≡ None → Suits code v.facts → ⊥
IsUnserved code v Memory = Unit {0}

-- a machine isn't started: there is no body with as many parameters, or no memory
abbrev pub IsUnstarted : Code → New → RunRefusal → Type 0
IsUnstarted code taken Misfit = IsSomeAnd (slice_get code.bodies taken.process) (λ row. row.params ≡ length taken.scalars) → ⊥
IsUnstarted code taken Memory = Unit {0}

-- a machine can't go, and no answer waits for it
pub record Rests (v : View) (r : Runner) : Type 0 where
  pub down : IsUp (state_of r.machine).mode → ⊥
  pub fetched : unfetched_of v.unfetched r.instance ≡ None

-- where none was found that can go, each machine from a place on rests
abbrev pub RestFrom : View → List Runner → ℕ → Option ℕ → Type 0
RestFrom v runners from None = (k : ℕ) (r : Runner) → from ≤ k → slice_get runners k ≡ Some r → Rests v r
RestFrom v runners from (Some k) = Unit {0}
