-- No send number is got twice.
use Rattle.std.proofs.Common.{◌≡◌, ◌≢◌, ◌≤◌, ◌<◌, ◌+◌, ℕ, zero, suc, Bool, true, false, List, [], ◌∷◌, ◌++◌, ℤ, length, refl, sym, ap, ◌∙◌, inl, inr, arith, Option, Some, None, replicate}
use Rattle.std.specs.Prelude.{if◌then◌else◌, ◌==◌}
use Rattle.std.proofs.lemmas.Bool.{cases_eq, cases_Bool, eqb-true}
use Rattle.kernel_base.specs.declared.facts.Facts.{Facts}
use Rattle.kernel_base.specs.declared.request.Request.{Request}
use Rattle.kernel_base.specs.declared.request.Request.TheVariants.{Read, Write, Enter, Leave, Delay, Continue, SendBuffer, ReceiveBuffer, SendSignal, ReceiveSignal, Start, Put, Get, End}
use Rattle.kernel_base.specs.declared.answer.Answer.{Answer}
use Rattle.kernel_base.specs.declared.answer.Answer.TheVariants.{Woken, Got, Instance, Chose, Handed, Stored}
use Rattle.kernel_base.specs.declared.event.Event.{Event}
use Rattle.kernel_base.specs.declared.event.Event.TheVariants.{Did, Waits, Goes, Runs}
use Rattle.world_model.specs.declared.world.StoredValue.{StoredValue}
use Rattle.world_model.specs.declared.world.World.{World}
use Rattle.world_model.specs.Lists.{last_of}
use Rattle.world_model.specs.declared.waiting.Waiter.{Waiter}
use Rattle.world_model.specs.declared.waiting.Offer.{Offer}
use Rattle.world_model.specs.Waiting.{phase_of, sleeper, buffer_receiver, signal_receiver, offer}
use Rattle.world_model.specs.World.{opening, occupant, held_by, entered, left, freed, locked_back, back_in, freed_last, with_drawn, chosen, with_next_send, refilled, refilled_by, refilled_buffer, buffer_length, after_continue, after_send_buffer, after_receive_buffer, after_send_signal, after_receive_signal, after_start, after_request, after_waits, after}
use Rattle.world_model.specs.Allowed.{IsPossible, IsRunFrom, IsRun}
use Rattle.world_model.specs.Laws.{Message, got_in, next_message, sent_at_once, sent_later, sent_in, if_sent}
use Rattle.world_model.proofs.Counting.{tally, tells, tells_same, in_stored, in_message, total, step_total}

abbrev count_of : Option Message → ℕ
count_of None = 0
count_of (Some message) = 1

-- a send draws the next number, and nothing else does
chosen_sends : (w : World) (p : ℕ) (waiter : Option Waiter) (answer : ℕ → Answer) → (chosen w p waiter answer).sends ≡ w.sends
chosen_sends w p None answer = refl
chosen_sends w p (Some waiter) answer = refl

continue_sends : (w : World) (who event : ℕ) (answer : Answer) → (after_continue w who event answer).sends ≡ w.sends
continue_sends w who event (Chose (Some p)) = chosen_sends w p (sleeper w event p) (λ alternative. Woken alternative who)
continue_sends w who event answer = refl

send_sends : (w : World) (who buffer : ℕ) (scalars : List ℤ) (priority : ℕ) (answer : Answer) → (after_send_buffer w who buffer scalars priority answer).sends ≡ w.sends + 1
send_sends w who buffer scalars priority (Handed p) = chosen_sends (with_next_send w) p (buffer_receiver w buffer p) (λ alternative. Got alternative (w.sends + 1) scalars who)
send_sends w who buffer scalars priority answer = refl

signal_sends : (facts : Facts) (w : World) (who signal : ℕ) (scalars : List ℤ) (to : Option ℕ) (priority : ℕ) (answer : Answer) → (after_send_signal facts w who signal scalars to priority answer).sends ≡ w.sends + count_of (if_sent answer (next_message w who scalars))
signal_sends facts w who signal scalars to priority (Handed p) = chosen_sends (with_next_send w) p (signal_receiver facts w signal to p) (λ alternative. Got alternative (w.sends + 1) scalars who)
signal_sends facts w who signal scalars to priority Stored = refl
signal_sends facts w who signal scalars to priority answer = omega arith

refilled_buffer_sends : (w : World) (length : Option ℕ) (o : Offer) → (refilled_buffer w length o).sends ≡ w.sends
refilled_buffer_sends w None o = refl
refilled_buffer_sends w (Some zero) o = refl
refilled_buffer_sends w (Some (suc n)) o = refl

refilled_by_sends : (facts : Facts) (w : World) (sender : ℕ) (o : Option Offer) → (refilled_by facts w sender o).sends ≡ w.sends
refilled_by_sends facts w sender None = refl
refilled_by_sends facts w sender (Some o) = refilled_buffer_sends w (buffer_length facts o.buffer) o

refilled_sends : (facts : Facts) (w : World) (refill : Option ℕ) → (refilled facts w refill).sends ≡ w.sends
refilled_sends facts w None = refl
refilled_sends facts w (Some sender) = refilled_by_sends facts w sender (offer w sender)

receive_sends : (facts : Facts) (w : World) (answer : Answer) (refill : Option ℕ) → (after_receive_buffer facts w answer refill).sends ≡ w.sends
receive_sends facts w (Got alternative send scalars by) refill = refilled_sends facts _ refill
receive_sends facts w answer refill = refl

hear_sends : (w : World) (answer : Answer) → (after_receive_signal w answer).sends ≡ w.sends
hear_sends w (Got alternative send scalars by) = refl
hear_sends w answer = refl

start_sends : (w : World) (process : ℕ) (scalars : List ℤ) (answer : Answer) → (after_start w process scalars answer).sends ≡ w.sends
start_sends w process scalars (Instance i) = refl
start_sends w process scalars answer = refl

entered_sends : (w : World) (who at : ℕ) (o : Option ℕ) → (entered w who at o).sends ≡ w.sends
entered_sends w who at None = refl
entered_sends w who at (Some other) = refl

left_if_sends : (w : World) (who at : ℕ) (mine : Bool) → (if mine then freed w who at else w).sends ≡ w.sends
left_if_sends w who at true = refl
left_if_sends w who at false = refl

left_sends : (w : World) (who at : ℕ) (o : Option ℕ) → (left w who at o).sends ≡ w.sends
left_sends w who at None = refl
left_sends w who at (Some other) = left_if_sends w who at (other == who)

did_sends : (facts : Facts) (w : World) (who : ℕ) (request : Request) (answer : Answer) (refill : Option ℕ) → (after_request facts w who request answer refill).sends ≡ w.sends + count_of (sent_at_once w who request answer)
did_sends facts w who (Read place) answer refill = omega arith
did_sends facts w who (Write place scalars) answer refill = omega arith
did_sends facts w who (Enter at) answer refill = omega (arith, entered_sends w who at (occupant w at))
did_sends facts w who (Leave at) answer refill = omega (arith, left_sends w who at (occupant w at))
did_sends facts w who (Delay events priority) answer refill = omega arith
did_sends facts w who (Continue event) answer refill = omega (arith, continue_sends w who event answer)
did_sends facts w who (SendBuffer buffer scalars priority) answer refill = send_sends w who buffer scalars priority answer
did_sends facts w who (ReceiveBuffer buffers otherwise) answer refill = omega (arith, receive_sends facts w answer refill)
did_sends facts w who (SendSignal signal scalars to priority) answer refill = signal_sends facts w who signal scalars to priority answer
did_sends facts w who (ReceiveSignal signals otherwise) answer refill = omega (arith, hear_sends w answer)
did_sends facts w who (Start process scalars) answer refill = omega (arith, start_sends w process scalars answer)
did_sends facts w who (Put bytes) answer refill = omega arith
did_sends facts w who Get answer refill = omega arith
did_sends facts w who (End how) answer refill = omega arith

freeing_sends : (w : World) (who : ℕ) (back : Option ℕ) → (freed_last w who back).sends ≡ w.sends
freeing_sends w who None = refl
freeing_sends w who (Some at) = refl

waits_sends : (w : World) (who : ℕ) (request : Request) → (after_waits w who request).sends ≡ w.sends + count_of (sent_later w who request)
waits_sends w who (Enter region) = omega arith
waits_sends w who (SendBuffer buffer scalars priority) = freeing_sends (with_drawn w (Some (w.sends + 1))) who (last_of (held_by w who))
waits_sends w who request = omega (arith, freeing_sends w who (last_of (held_by w who)))

back_sends : (w : World) (who : ℕ) (back : Option ℕ) → (locked_back w who back).sends ≡ w.sends
back_sends w who None = refl
back_sends w who (Some at) = refl

step_sends : (facts : Facts) (w : World) (event : Event) → (after facts w event).sends ≡ w.sends + count_of (sent_in w event)
step_sends facts w (Did who ticks request answer refill) = did_sends facts w who request answer refill
step_sends facts w (Waits who ticks request) = waits_sends w who request
step_sends facts w (Goes who answer) = omega (arith, back_sends w who (back_in (phase_of w who)))
step_sends facts w (Runs who ticks) = omega arith

at_most_one : (sent : Option Message) → count_of sent ≤ 1
at_most_one None = omega arith
at_most_one (Some message) = omega arith

-- an event draws at most one number
pub sends_rise : (facts : Facts) (w : World) (event : Event) → (after facts w event).sends ≤ w.sends + 1
sends_rise facts w event = omega (arith, step_sends facts w event, at_most_one (sent_in w event))

abbrev number_in : Option Message → ℕ
number_in None = 0
number_in (Some message) = message.number

-- the number of a value that an event sends is the next one
if_sent_next : (w : World) (who : ℕ) (scalars : List ℤ) (answer : Answer) (message : Message) → if_sent answer (next_message w who scalars) ≡ Some message → message.number ≡ w.sends + 1
if_sent_next w who scalars (Handed p) message is = sym (ap number_in is)
if_sent_next w who scalars Stored message is = sym (ap number_in is)
if_sent_next w who scalars answer message is = absurd (let f : ⊥ = cc in f)

at_once_next : (w : World) (who : ℕ) (request : Request) (answer : Answer) (message : Message) → sent_at_once w who request answer ≡ Some message → message.number ≡ w.sends + 1
at_once_next w who (SendBuffer buffer scalars priority) answer message is = sym (ap number_in is)
at_once_next w who (SendSignal signal scalars to priority) answer message is = if_sent_next w who scalars answer message is
at_once_next w who request answer message is = absurd (let f : ⊥ = cc in f)

later_next : (w : World) (who : ℕ) (request : Request) (message : Message) → sent_later w who request ≡ Some message → message.number ≡ w.sends + 1
later_next w who (SendBuffer buffer scalars priority) message is = sym (ap number_in is)
later_next w who request message is = absurd (let f : ⊥ = cc in f)

sent_next : (w : World) (event : Event) (message : Message) → sent_in w event ≡ Some message → message.number ≡ w.sends + 1
sent_next w (Did who ticks request answer refill) message is = at_once_next w who request answer message is
sent_next w (Waits who ticks request) message is = later_next w who request message is
sent_next w (Goes who answer) message is = absurd (let f : ⊥ = cc in f)
sent_next w (Runs who ticks) message is = absurd (let f : ⊥ = cc in f)

-- n was got so often, and is on its way at most once more; a number that isn't drawn yet is nowhere
record IsOnce (n : ℕ) (w : World) (got : ℕ) : Type 0 where
  most : total n w + got ≤ 1
  undrawn : w.sends < n → total n w + got ≡ 0

tells_other : (n number : ℕ) → number ≢ n → tells n number ≡ 0
tells_other n number apart = elim (cases_Bool (number == n)) [
  | inl same ↦ absurd (apart (eqb-true number n same))
  | inr fails ↦ rw fails refl
]

-- by what an event sends
once_by : (facts : Facts) (n : ℕ) (w : World) (event : Event) (got : ℕ) (sent : Option Message) → sent_in w event ≡ sent → IsPossible facts w event → IsOnce n w got → IsOnce n (after facts w event) (got + in_message n (got_in event))
once_by facts n w event got None is may once =
    let step = step_total facts n w event may in
    let none : in_message n (sent_in w event) ≡ 0 = ap (in_message n) is in
    let same : (after facts w event).sends ≡ w.sends + count_of (sent_in w event) = step_sends facts w event in
    let count : count_of (sent_in w event) ≡ 0 = ap count_of is in
    record {
      most = omega (arith, once.most);
      undrawn = λ low. let before : total n w + got ≡ 0 = once.undrawn (omega arith) in omega arith;
    }
once_by facts n w event got (Some message) is may once =
    let step = step_total facts n w event may in
    let told : in_message n (sent_in w event) ≡ tells n message.number = ap (in_message n) is in
    let next : message.number ≡ w.sends + 1 = sent_next w event message is in
    let same : (after facts w event).sends ≡ w.sends + count_of (sent_in w event) = step_sends facts w event in
    let count : count_of (sent_in w event) ≡ 1 = ap count_of is in
    elim (cases_eq message.number n) [
      | inl here ↦ (let one : tells n message.number ≤ 1 = omega (arith, tells_same n message.number here) in
          let before : total n w + got ≡ 0 = once.undrawn (omega arith) in
          record { most = omega arith; undrawn = λ low. absurd (let f : ⊥ = omega arith in f) })
      | inr apart ↦ (let none : tells n message.number ≡ 0 = tells_other n message.number apart in
          record {
            most = omega (arith, once.most);
            undrawn = λ low. let before : total n w + got ≡ 0 = once.undrawn (omega arith) in omega arith;
          })
    ]

abbrev gots : ℕ → List Event → ℕ
gots n events = tally (λ event. in_message n (got_in event)) events

run_once : (facts : Facts) (n : ℕ) (w : World) (events : List Event) (got : ℕ) → IsRunFrom facts w events → IsOnce n w got → got + gots n events ≤ 1
run_once facts n w [] got run once = omega (arith, once.most)
run_once facts n w (event ∷ events) got run once =
    omega (arith, run_once facts n (after facts w event) events (got + in_message n (got_in event)) run.1 (once_by facts n w event got (sent_in w event) refl run.0.possible once))

nothing_stored : (n count : ℕ) → in_stored n (replicate count (let none : List StoredValue = [] in none)) ≡ 0
nothing_stored n zero = refl
nothing_stored n (suc count) = omega (arith, nothing_stored n count)

opening_once : (facts : Facts) (n : ℕ) → IsOnce n (opening facts) 0
opening_once facts n = record { most = omega (arith, nothing_stored n (length facts.buffers)); undrawn = λ low. omega (arith, nothing_stored n (length facts.buffers)) }

tally_append : {X : Type 0} (f : X → ℕ) (xs ys : List X) → tally f (xs ++ ys) ≡ tally f xs + tally f ys
tally_append f [] ys = omega arith
tally_append f (x ∷ xs) ys = omega (arith, tally_append f xs ys)

pub got_once : (facts : Facts) (before : List Event) (first : Event) (between : List Event) (second : Event) (behind : List Event) (a b : Message)
    → IsRun facts (before ++ first ∷ (between ++ second ∷ behind)) → got_in first ≡ Some a → got_in second ≡ Some b → a.number ≢ b.number
got_once facts before first between second behind a b run is_a is_b same =
    let n : ℕ = a.number in
    let f = (λ (event : Event). in_message n (got_in event)) in
    let most = run_once facts n (opening facts) (before ++ first ∷ (between ++ second ∷ behind)) 0 run (opening_once facts n) in
    let one : f first ≡ 1 = ap (in_message n) is_a ∙ tells_same n a.number refl in
    let two : f second ≡ 1 = ap (in_message n) is_b ∙ tells_same n b.number (sym same) in
    omega (arith, most, one, two, tally_append f before (first ∷ (between ++ second ∷ behind)), tally_append f between (second ∷ behind))
