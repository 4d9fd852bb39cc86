-- The pending signals that an instance may receive.
use Rattle.std.specs.Prelude.{◌≡◌, ℕ, ◌≤◌, List, if◌then◌else◌, ℤ, Some, None}
use Rattle.std.specs.declared.option.Option.{Option}
use Rattle.kernel_base.specs.declared.facts.Facts.{Facts}
use Rattle.kernel_base.specs.declared.request.Alternative.{Alternative}
use Rattle.world_model.specs.declared.world.PendingSignal.{PendingSignal}
use Rattle.world_model.specs.declared.world.World.{World}
use Rattle.world_model.specs.Lists.{number_for}
use Rattle.world_model.specs.Waiting.{may_receive}
use Rattle.world_model.specs.Allowed.{IsPendingFor}

-- the alternative through which `who` may receive a signal
abbrev pub alternative_for : Facts → World → ℕ → List Alternative → PendingSignal → Option ℕ
alternative_for facts w who signals signal = if may_receive facts w signal.signal signal.to who then number_for signals signal.signal else None

-- no signal that `who` may receive has a higher priority
abbrev pub NoSignalAbove : Facts → World → ℕ → List Alternative → ℕ → Type 0
NoSignalAbove facts w who signals priority = (n : ℕ) (other : PendingSignal) → IsPendingFor facts w who signals n other → other.value.priority ≤ priority

-- The signal may be taken through this alternative, with this send number, scalars and sender, and none has a higher priority.
pub record MayTake (facts : Facts) (w : World) (who : ℕ) (signals : List Alternative) (alternative send : ℕ) (scalars : List ℤ) (by : ℕ) (signal : PendingSignal) : Type 0 where
  pub listed : alternative_for facts w who signals signal ≡ Some alternative
  pub is : signal.value ≡ record { send = send; sender = by; scalars = scalars; priority = signal.value.priority }
  pub highest : NoSignalAbove facts w who signals signal.value.priority
