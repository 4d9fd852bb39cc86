-- How a process comes to its end.
use Rattle.std.specs.Prelude.{◌≡◌, ℕ, ◌+◌, ◌^◌, ◌<◌, ◌≤◌, List, [], ◌∷◌, ◌++◌, length, vec_capacity}
use Rattle.machine_frames.specs.declared.activation.Activation.{Activation}
use Rattle.kernel_base.specs.declared.ends.How.{How}
use Rattle.kernel_base.specs.declared.request.Request.TheVariants.{End}
use Rattle.code_types.specs.State.{Asking}
use Rattle.machine_steps.specs.declared.process.Process.{Process}
use Rattle.machine_steps.specs.declared.process.Doing.{Doing}
use Rattle.machine_steps.specs.declared.process.Doing.TheVariants.{Running, Called, Raising, Ended}
use Rattle.machine_steps.specs.declared.process.Doing.TheVariants.{Asking as AsksNow}
use Rattle.machine_steps.specs.declared.process.Stepped.{Stepped}
use Rattle.machine_steps.specs.declared.process.Stepped.TheVariants.{Asks}
use Rattle.machine_steps.specs.Views.{state_of}

-- the process hasn't ended
abbrev pub IsGoing : Doing → Type 0
IsGoing Running = Unit {0}
IsGoing Called = Unit {0}
IsGoing (AsksNow request slots) = Unit {0}
IsGoing (Raising exception) = Unit {0}
IsGoing Ended = ⊥

-- the process asks to end, and nothing else changes
pub record EndsBy (how : How) (old new : Process) (stepped : Stepped) : Type 0 where
  pub asks : stepped ≡ Asks (End how)
  pub state : state_of new ≡ record (state_of old) { mode = Asking (End how) [] }

-- the innermost caller has room for so many results, and for the next place
abbrev pub CanReturn : ℕ → List Activation → Type 0
CanReturn results below = (rest : List Activation) (caller : Activation) → below ≡ rest ++ caller ∷ [] → (length caller.stack.items + results ≤ vec_capacity caller.stack) × (caller.place + 1 < 2 ^ 64)
