-- Who waits for what: those delayed on an event, receivers and senders.
use Rattle.std.specs.Prelude.{◌≡◌, ℕ, ◌==◌, nat_le, Bool, true, false, List, slice_get, slice_index_or, if◌then◌else◌, Some, None, is_some}
use Rattle.std.specs.Option.{option_map, option_and_then}
use Rattle.std.specs.List.{count_by, list_any}
use Rattle.std.specs.declared.option.Option.{Option}
use Rattle.kernel_base.specs.declared.facts.Facts.{Facts}
use Rattle.kernel_base.specs.declared.request.Alternative.{Alternative}
use Rattle.kernel_base.specs.declared.request.Request.TheVariants.{Delay, SendBuffer, ReceiveBuffer, ReceiveSignal}
use Rattle.world_model.specs.declared.world.Phase.{Phase}
use Rattle.world_model.specs.declared.world.Phase.TheVariants.{Active, Waiting, Ended}
use Rattle.world_model.specs.declared.waiting.Waiter.{Waiter}
use Rattle.world_model.specs.declared.waiting.Offer.{Offer}
use Rattle.world_model.specs.declared.world.World.{World}
use Rattle.world_model.specs.Lists.{number_for}

abbrev pub phase_of : World → ℕ → Option Phase
phase_of w who = slice_get w.phases who

abbrev pub IsActive : World → ℕ → Type 0
IsActive w who = phase_of w who ≡ Some Active

abbrev pub waiter_for : Option ℕ → ℕ → Option ℕ → Option Waiter
waiter_for alternative priority back = option_map (λ number. record { alternative = number; priority = priority; back = back }) alternative

-- one that is delayed on this event
abbrev pub sleeper_in : ℕ → Phase → Option Waiter
sleeper_in event (Waiting (Delay events priority) send back) = waiter_for (number_for events event) priority back
sleeper_in event phase = None

abbrev pub sleeper : World → ℕ → ℕ → Option Waiter
sleeper w event who = option_and_then (sleeper_in event) (phase_of w who)

-- one that waits to receive from this buffer
abbrev pub buffer_receiver_in : ℕ → Phase → Option Waiter
buffer_receiver_in buffer (Waiting (ReceiveBuffer buffers otherwise) send back) = waiter_for (number_for buffers buffer) 0 back
buffer_receiver_in buffer phase = None

abbrev pub buffer_receiver : World → ℕ → ℕ → Option Waiter
buffer_receiver w buffer who = option_and_then (buffer_receiver_in buffer) (phase_of w who)

-- one that waits for this signal
abbrev pub signal_receiver_in : ℕ → Phase → Option Waiter
signal_receiver_in signal (Waiting (ReceiveSignal signals otherwise) send back) = waiter_for (number_for signals signal) 0 back
signal_receiver_in signal phase = None

-- any process where the signal's definition names none
abbrev pub is_process : Option ℕ → ℕ → Bool
is_process None process = true
is_process (Some wanted) process = process == wanted

-- who may receive a signal: the instance that it was sent to, else any of the process that its definition names, else any
abbrev pub may_receive : Facts → World → ℕ → Option ℕ → ℕ → Bool
may_receive facts w signal (Some to) who = who == to
may_receive facts w signal None who = is_process (slice_index_or facts.signals signal None) (slice_index_or w.processes who 0)

abbrev pub signal_receiver : Facts → World → ℕ → Option ℕ → ℕ → Option Waiter
signal_receiver facts w signal to who = if may_receive facts w signal to who then option_and_then (signal_receiver_in signal) (phase_of w who) else None

-- a value whose sender waits
abbrev pub offer_in : ℕ → Phase → Option Offer
offer_in who (Waiting (SendBuffer buffer scalars priority) (Some send) back) = Some (record { buffer = buffer; value = record { send = send; sender = who; scalars = scalars; priority = priority }; back = back })
offer_in who phase = None

abbrev pub offer : World → ℕ → Option Offer
offer w who = option_and_then (offer_in who) (phase_of w who)

-- how many are delayed on an event
abbrev pub count_of_sleepers : World → ℕ → ℕ
count_of_sleepers w event = count_by (λ phase. is_some (sleeper_in event phase)) w.phases

abbrev pub is_full_at : Option ℕ → ℕ → Bool
is_full_at None count = false
is_full_at (Some most) count = nat_le most count

-- some listed event has as many delayed processes as its length
abbrev pub is_full : Facts → World → List Alternative → Bool
is_full facts w events = list_any (λ a. is_full_at (slice_index_or facts.events a.thing None) (count_of_sleepers w a.thing)) events

abbrev pub is_live_in : Phase → Bool
is_live_in (Ended how) = false
is_live_in phase = true

abbrev pub is_live_at : Option Phase → Bool
is_live_at None = false
is_live_at (Some phase) = is_live_in phase

-- made, and not ended
abbrev pub is_live : World → ℕ → Bool
is_live w who = is_live_at (phase_of w who)

abbrev pub count_of_live : World → ℕ
count_of_live w = count_by is_live_in w.phases
