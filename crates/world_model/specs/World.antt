-- The world of all processes: how it opens, and what an event makes of it.
use Rattle.std.specs.Prelude.{ℕ, zero, suc, ◌+◌, ◌==◌, List, [], ◌∷◌, ◌++◌, ℤ, length, map, not, replicate, slice_set, slice_index_or, if◌then◌else◌, Some, None}
use Rattle.std.specs.List.{filter}
use Rattle.std.specs.declared.option.Option.{Option}
use Rattle.kernel_base.specs.declared.ends.How.{How}
use Rattle.kernel_base.specs.declared.ends.How.TheVariants.{Normal}
use Rattle.kernel_base.specs.declared.ends.Exc.{Exc}
use Rattle.kernel_base.specs.declared.ends.Exc.TheVariants.{Empty, Extinct}
use Rattle.kernel_base.specs.declared.facts.Facts.{Facts}
use Rattle.kernel_base.specs.declared.request.Place.{Place}
use Rattle.kernel_base.specs.declared.request.Request.{Request}
use Rattle.kernel_base.specs.declared.request.Request.TheVariants.{Read, Write, Enter, Leave, Delay, Continue, SendBuffer, ReceiveBuffer, SendSignal, ReceiveSignal, Start, Put, Get, End}
use Rattle.kernel_base.specs.declared.answer.Answer.{Answer}
use Rattle.kernel_base.specs.declared.answer.Answer.TheVariants.{Done, Woken, Got, Instance, Chose, Handed, Stored}
use Rattle.kernel_base.specs.declared.event.Event.{Event}
use Rattle.kernel_base.specs.declared.event.Event.TheVariants.{Did, Waits, Goes, Runs}
use Rattle.kernel_base.specs.Value.{scalars_of}
use Rattle.world_model.specs.declared.world.Phase.{Phase}
use Rattle.world_model.specs.declared.world.Phase.TheVariants.{Active, Waiting, Chosen, Ended}
use Rattle.world_model.specs.declared.world.StoredValue.{StoredValue}
use Rattle.world_model.specs.declared.world.PendingSignal.{PendingSignal}
use Rattle.world_model.specs.declared.world.World.{World}
use Rattle.world_model.specs.Lists.{last_of, without, with_scalars}
use Rattle.world_model.specs.Input.{input_behind}
use Rattle.world_model.specs.declared.waiting.Waiter.{Waiter}
use Rattle.world_model.specs.declared.waiting.Offer.{Offer}
use Rattle.world_model.specs.Waiting.{phase_of, sleeper, buffer_receiver, signal_receiver, offer, is_live}

-- Instance 1 is active on process 0; nothing is held, stored, pending or put.
abbrev pub opening : Facts → World
opening facts = record {
  processes = 0 ∷ 0 ∷ [];
  arguments = [] ∷ [] ∷ [];
  phases = Ended Normal ∷ Active ∷ [];
  held = [] ∷ [] ∷ [];
  occupants = replicate facts.regions None;
  store = map scalars_of facts.store;
  stored = replicate (length facts.buffers) [];
  pending = [];
  input = facts.input;
  output = [];
  sends = 0;
}

-- the occupant of a region
abbrev pub occupant : World → ℕ → Option ℕ
occupant w region = slice_index_or w.occupants region None

-- the regions that an instance holds, in the order of locking
abbrev pub held_by : World → ℕ → List ℕ
held_by w who = slice_index_or w.held who []

abbrev pub with_phase : World → ℕ → Phase → World
with_phase w who phase = record w { phases = slice_set w.phases who phase }

-- `who` locks the region, which comes last in its list
abbrev pub locked : World → ℕ → ℕ → World
locked w who region = record w { occupants = slice_set w.occupants region (Some who); held = slice_set w.held who (held_by w who ++ region ∷ []) }

-- `who` frees the region, which leaves its list
abbrev pub freed : World → ℕ → ℕ → World
freed w who region = record w { occupants = slice_set w.occupants region None; held = slice_set w.held who (without region (held_by w who)) }

-- where the region was free, `who` locks it
abbrev pub entered : World → ℕ → ℕ → Option ℕ → World
entered w who region None = locked w who region
entered w who region (Some other) = w

-- where `who` occupies the region, it becomes free
abbrev pub left : World → ℕ → ℕ → Option ℕ → World
left w who region None = w
left w who region (Some other) = if other == who then freed w who region else w

-- `back`, where there is one, is locked
abbrev pub locked_back : World → ℕ → Option ℕ → World
locked_back w who None = w
locked_back w who (Some region) = locked w who region

-- the region that `who` locked last, if any, becomes free
abbrev pub freed_last : World → ℕ → Option ℕ → World
freed_last w who None = w
freed_last w who (Some region) = freed w who region

-- an occupant that isn't `who`
abbrev pub other_occupant : ℕ → Option ℕ → Option ℕ
other_occupant who None = None
other_occupant who (Some other) = if other == who then None else Some other

-- all regions of `who` become free, and it has ended
abbrev pub ended : World → ℕ → How → World
ended w who how = record w { phases = slice_set w.phases who (Ended how); occupants = map (other_occupant who) w.occupants; held = slice_set w.held who [] }

-- one that waits is chosen; its answer goes by its alternative
abbrev pub chosen : World → ℕ → Option Waiter → (ℕ → Answer) → World
chosen w who None answer = w
chosen w who (Some waiter) answer = with_phase w who (Chosen (answer waiter.alternative) waiter.back)

abbrev pub with_next_send : World → World
with_next_send w = record w { sends = w.sends + 1 }

-- the value that `who` sends, under the next send number
abbrev pub next_value : World → ℕ → List ℤ → ℕ → StoredValue
next_value w who scalars priority = record { send = w.sends + 1; sender = who; scalars = scalars; priority = priority }

abbrev pub stored_in : World → ℕ → List StoredValue
stored_in w buffer = slice_index_or w.stored buffer []

-- one more value in a buffer
abbrev pub with_stored : World → ℕ → StoredValue → World
with_stored w buffer value = record w { stored = slice_set w.stored buffer (stored_in w buffer ++ value ∷ []) }

-- all values but the one of this send number
abbrev pub values_but : ℕ → List StoredValue → List StoredValue
values_but send values = filter (λ value. not (value.send == send)) values

abbrev pub signals_but : ℕ → List PendingSignal → List PendingSignal
signals_but send signals = filter (λ signal. not (signal.value.send == send)) signals

abbrev pub buffer_length : Facts → ℕ → Option ℕ
buffer_length facts buffer = slice_index_or facts.buffers buffer None

-- In a buffer of length 0 nothing is stored: the value that was taken was the sender's own.
abbrev pub refilled_buffer : World → Option ℕ → Offer → World
refilled_buffer w (Some zero) o = w
refilled_buffer w length o = with_stored w o.buffer o.value

abbrev pub refilled_by : Facts → World → ℕ → Option Offer → World
refilled_by facts w sender None = w
refilled_by facts w sender (Some o) = with_phase (refilled_buffer w (buffer_length facts o.buffer) o) sender (Chosen Stored o.back)

-- the sender whose value takes the place of the one that was taken is chosen
abbrev pub refilled : Facts → World → Option ℕ → World
refilled facts w None = w
refilled facts w (Some sender) = refilled_by facts w sender (offer w sender)

abbrev pub after_continue : World → ℕ → ℕ → Answer → World
after_continue w who event (Chose (Some p)) = chosen w p (sleeper w event p) (λ alternative. Woken alternative who)
after_continue w who event answer = w

abbrev pub after_send_buffer : World → ℕ → ℕ → List ℤ → ℕ → Answer → World
after_send_buffer w who buffer scalars priority (Handed p) = chosen (with_next_send w) p (buffer_receiver w buffer p) (λ alternative. Got alternative (w.sends + 1) scalars who)
after_send_buffer w who buffer scalars priority answer = with_stored (with_next_send w) buffer (next_value w who scalars priority)

abbrev pub after_receive_buffer : Facts → World → Answer → Option ℕ → World
after_receive_buffer facts w (Got alternative send scalars by) refill = refilled facts (record w { stored = map (values_but send) w.stored }) refill
after_receive_buffer facts w answer refill = w

-- the exception at a signal sent to no instance, or to one that isn't live
abbrev pub refusal : World → Option ℕ → Option Exc
refusal w None = None
refusal w (Some zero) = Some Empty
refusal w (Some (suc i)) = if is_live w (suc i) then None else Some Extinct

abbrev pub after_send_signal : Facts → World → ℕ → ℕ → List ℤ → Option ℕ → ℕ → Answer → World
after_send_signal facts w who signal scalars to priority (Handed p) = chosen (with_next_send w) p (signal_receiver facts w signal to p) (λ alternative. Got alternative (w.sends + 1) scalars who)
after_send_signal facts w who signal scalars to priority Stored = record (with_next_send w) { pending = w.pending ++ record { signal = signal; to = to; value = next_value w who scalars priority } ∷ [] }
after_send_signal facts w who signal scalars to priority answer = w

abbrev pub after_receive_signal : World → Answer → World
after_receive_signal w (Got alternative send scalars by) = record w { pending = signals_but send w.pending }
after_receive_signal w answer = w

abbrev pub after_start : World → ℕ → List ℤ → Answer → World
after_start w process scalars (Instance i) = record w { processes = w.processes ++ process ∷ []; arguments = w.arguments ++ scalars ∷ []; phases = w.phases ++ Active ∷ []; held = w.held ++ [] ∷ [] }
after_start w process scalars answer = w

abbrev pub written : World → Place → List ℤ → World
written w place scalars = record w { store = slice_set w.store place.location (with_scalars (slice_index_or w.store place.location []) place.first scalars) }

-- what a request does that is answered at once
abbrev pub after_request : Facts → World → ℕ → Request → Answer → Option ℕ → World
after_request facts w who (Read place) answer refill = w
after_request facts w who (Write place scalars) answer refill = written w place scalars
after_request facts w who (Enter region) answer refill = entered w who region (occupant w region)
after_request facts w who (Leave region) answer refill = left w who region (occupant w region)
after_request facts w who (Delay events priority) answer refill = w
after_request facts w who (Continue event) answer refill = after_continue w who event answer
after_request facts w who (SendBuffer buffer scalars priority) answer refill = after_send_buffer w who buffer scalars priority answer
after_request facts w who (ReceiveBuffer buffers otherwise) answer refill = after_receive_buffer facts w answer refill
after_request facts w who (SendSignal signal scalars to priority) answer refill = after_send_signal facts w who signal scalars to priority answer
after_request facts w who (ReceiveSignal signals otherwise) answer refill = after_receive_signal w answer
after_request facts w who (Start process scalars) answer refill = after_start w process scalars answer
after_request facts w who (Put bytes) answer refill = record w { output = w.output ++ bytes }
after_request facts w who Get answer refill = record w { input = input_behind w.input }
after_request facts w who (End how) answer refill = ended w who how

-- the send number that a request draws as it comes to wait
abbrev pub drawn : World → Request → Option ℕ
drawn w (SendBuffer buffer scalars priority) = Some (w.sends + 1)
drawn w request = None

abbrev pub with_drawn : World → Option ℕ → World
with_drawn w None = w
with_drawn w (Some send) = record w { sends = send }

-- One that comes to wait for anything but a region frees the region that it locked last, to lock it again later.
abbrev pub after_waits : World → ℕ → Request → World
after_waits w who (Enter region) = with_phase w who (Chosen Done (Some region))
after_waits w who request =
    let back = last_of (held_by w who) in
    with_phase (freed_last (with_drawn w (drawn w request)) who back) who (Waiting request (drawn w request) back)

-- the region that a chosen process has to lock again
abbrev pub back_in : Option Phase → Option ℕ
back_in (Some (Chosen answer back)) = back
back_in phase = None

-- the world after an event
abbrev pub after : Facts → World → Event → World
after facts w (Did who ticks request answer refill) = after_request facts w who request answer refill
after facts w (Waits who ticks request) = after_waits w who request
after facts w (Goes who answer) = with_phase (locked_back w who (back_in (phase_of w who))) who Active
after facts w (Runs who ticks) = w

-- the world after events, from a world on
abbrev pub after_all : Facts → World → List Event → World
after_all facts w [] = w
after_all facts w (event ∷ events) = after_all facts (after facts w event) events

-- the world that a journal leaves
abbrev pub world_of : Facts → List Event → World
world_of facts events = after_all facts (opening facts) events
