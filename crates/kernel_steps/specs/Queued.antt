-- How those that wait for events, buffers and signals, and what was sent, stand for a world.
use Rattle.std.specs.Prelude.{◌≡◌, ℕ, List, length, slice_get, slice_index_or, Some, None}
use Rattle.std.specs.declared.option.Option.{Option}
use Rattle.kernel_base.specs.declared.facts.Facts.{Facts}
use Rattle.kernel_base.specs.declared.request.Request.TheVariants.{Delay, SendBuffer, ReceiveBuffer, ReceiveSignal}
use Rattle.world_model.specs.declared.world.Phase.{Phase}
use Rattle.world_model.specs.declared.world.Phase.TheVariants.{Waiting}
use Rattle.world_model.specs.declared.world.World.{World}
use Rattle.world_model.specs.Waiting.{count_of_sleepers}
use Rattle.world_model.specs.World.{stored_in}
use Rattle.event_queues.specs.declared.sets.Delayed.{Delayed}
use Rattle.event_queues.specs.Delayed.{Sets, listed_in}
use Rattle.wait_queues.specs.declared.waiters.Waiter.{Waiter}
use Rattle.buffers_signals.specs.declared.messages.Held.{Held}
use Rattle.buffers_signals.specs.declared.messages.Receiver.{Receiver}
use Rattle.value_queues.specs.Queues.{values_in}
use Rattle.buffers_signals.specs.Lists.{sender_of, receiver_of}
use Rattle.buffers_signals.specs.Buffers.{SeenBuffers}
use Rattle.buffers_signals.specs.Signals.{SeenSignals}
use Rattle.kernel_steps.specs.Keyed.{AreTold, Mirrors}
use Rattle.kernel_steps.specs.Shuffled.{Shuffled}

-- what one that is delayed waits for
abbrev pub delayed_in : ℕ → Phase → Option Delayed
delayed_in who (Waiting (Delay events priority) send back) = Some (record { events = events; priority = priority })
delayed_in who phase = None

-- one that waits to send to a buffer
abbrev pub sending_in : ℕ → Phase → Option Held
sending_in who (Waiting (SendBuffer buffer scalars priority) (Some send) back) = Some (record { buffer = buffer; value = record { send = send; sender = who; scalars = scalars; priority = priority } })
sending_in who phase = None

-- one that waits to receive from buffers
abbrev pub receiving_in : List ℕ → ℕ → Phase → Option Receiver
receiving_in processes who (Waiting (ReceiveBuffer buffers otherwise) send back) = Some (record { who = who; process = slice_index_or processes who 0; things = buffers })
receiving_in processes who phase = None

-- one that waits for signals
abbrev pub hearing_in : List ℕ → ℕ → Phase → Option Receiver
hearing_in processes who (Waiting (ReceiveSignal signals otherwise) send back) = Some (record { who = who; process = slice_index_or processes who 0; things = signals })
hearing_in processes who phase = None

-- those that are delayed on events are those of the world
pub record Sleeps (facts : Facts) (w : World) (s : Sets) : Type 0 where
  pub lengths : s.lengths ≡ facts.events
  pub each : length s.waiting ≡ length facts.events
  pub delayed : AreTold delayed_in (listed_in s.delayed) w.phases
  pub counts : (event : ℕ) (ws : List Waiter) → slice_get s.waiting event ≡ Some ws → length ws ≡ count_of_sleepers w event

-- the values in buffers, and those that wait to send and to receive, are those of the world
pub record Trades (facts : Facts) (w : World) (b : SeenBuffers) : Type 0 where
  pub lengths : b.lengths ≡ facts.buffers
  pub each : length w.stored ≡ length facts.buffers
  pub stored : (buffer : ℕ) → Shuffled (values_in b.stored buffer) (stored_in w buffer)
  pub senders : Mirrors sender_of sending_in b.senders w.phases
  pub receivers : Mirrors receiver_of (receiving_in w.processes) b.receivers w.phases

-- the pending signals and their receivers are those of the world
pub record Hears (facts : Facts) (w : World) (s : SeenSignals) : Type 0 where
  pub wanted : s.wanted ≡ facts.signals
  pub pending : s.pending ≡ w.pending
  pub receivers : Mirrors receiver_of (hearing_in w.processes) s.receivers w.phases
