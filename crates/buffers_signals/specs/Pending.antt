-- Which of the pending signals a process receives, by the queue of each.
use Rattle.std.specs.Prelude.{◌≡◌, ℕ, ◌<◌, Bool, List, length, slice_get, Some, IsFalse}
use Rattle.std.specs.List.{find}
use Rattle.std.specs.Option.{option_map}
use Rattle.std.specs.declared.option.Option.{Option}
use Rattle.kernel_base.specs.declared.request.Alternative.{Alternative}
use Rattle.world_model.specs.declared.world.PendingSignal.{PendingSignal}
use Rattle.kernel_lists.specs.declared.best.Rank.{Rank}
use Rattle.kernel_lists.specs.Best.{precedes_in}
use Rattle.value_queues.specs.Queues.{rank_of}
use Rattle.signal_queues.specs.Pending.{SeenPending, pending_in, queue_of}
use Rattle.buffers_signals.specs.declared.signals.Chosen.{Chosen}
use Rattle.buffers_signals.specs.Signals.{MayTake, may_receive}

-- the process may receive the signal
abbrev pub may_take : List (Option ℕ) → ℕ → ℕ → PendingSignal → Bool
may_take wanted who process signal = may_receive wanted signal.signal signal.to who process

abbrev pub rank_in : PendingSignal → Rank
rank_in signal = rank_of signal.value

-- how the first stands of the pending signals of a name that the process may receive
abbrev pub rank_for : List (Option ℕ) → List (List PendingSignal) → ℕ → ℕ → ℕ → Option Rank
rank_for wanted queues who process signal = option_map rank_in (find (may_take wanted who process) (queue_of queues signal))

-- the signal at the place may be received, and none goes before it
pub record IsChosen (wanted : List (Option ℕ)) (pending : SeenPending) (who process : ℕ) (signals : List Alternative) (chosen : Chosen) : Type 0 where
  pub signal : PendingSignal
  pub within : chosen.place < length (queue_of pending.queues chosen.signal)
  pub at : slice_get (queue_of pending.queues chosen.signal) chosen.place ≡ Some signal
  pub may : MayTake wanted (pending_in pending) who process signals signal
  pub best : (other : PendingSignal) → MayTake wanted (pending_in pending) who process signals other → IsFalse (precedes_in (rank_of other.value) (rank_of signal.value))
