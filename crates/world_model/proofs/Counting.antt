-- How often a send number is on its way: stored, pending, waiting to be stored, or handed to one that was chosen.
use Rattle.std.proofs.Common.{◌≡◌, ◌≤◌, ◌+◌, ℕ, zero, suc, Bool, true, false, not, List, [], ◌∷◌, ◌++◌, ℤ, map, refl, ap, ◌∙◌, inl, inr, arith, Option, Some, None, slice_get, slice_set}
use Rattle.std.specs.Prelude.{if◌then◌else◌, ◌==◌, slice_index_or}
use Rattle.std.specs.Option.{option_and_then}
use Rattle.std.proofs.Common.{eq-eqb}
use Rattle.std.proofs.lemmas.Bool.{cases_Bool, eqb-true}
use Rattle.kernel_base.specs.declared.facts.Facts.{Facts}
use Rattle.kernel_base.specs.declared.request.Request.{Request}
use Rattle.kernel_base.specs.declared.request.Request.TheVariants.{Read, Write, Enter, Leave, Delay, Continue, SendBuffer, ReceiveBuffer, SendSignal, ReceiveSignal, Start, Put, Get, End}
use Rattle.kernel_base.specs.declared.answer.Answer.{Answer}
use Rattle.kernel_base.specs.declared.answer.Answer.TheVariants.{Done, Woken, Got, Otherwise, Instance, Fail, Chose, Handed, Stored}
use Rattle.kernel_base.specs.declared.event.Event.{Event}
use Rattle.kernel_base.specs.declared.event.Event.TheVariants.{Did, Waits, Goes, Runs}
use Rattle.world_model.specs.declared.world.Phase.{Phase}
use Rattle.world_model.specs.declared.world.Phase.TheVariants.{Active, Waiting, Chosen, Ended}
use Rattle.world_model.specs.declared.world.StoredValue.{StoredValue}
use Rattle.world_model.specs.declared.world.PendingSignal.{PendingSignal}
use Rattle.world_model.specs.declared.world.World.{World}
use Rattle.world_model.specs.Lists.{last_of}
use Rattle.world_model.specs.declared.waiting.Waiter.{Waiter}
use Rattle.world_model.specs.declared.waiting.Offer.{Offer}
use Rattle.world_model.specs.Waiting.{phase_of, sleeper, buffer_receiver, signal_receiver, offer_in, offer}
use Rattle.world_model.specs.World.{with_phase, occupant, held_by, entered, left, freed, locked_back, back_in, freed_last, with_drawn, chosen, with_next_send, next_value, stored_in, values_but, signals_but, refilled, refilled_by, refilled_buffer, buffer_length, after_continue, after_send_buffer, after_receive_buffer, after_send_signal, after_receive_signal, after_start, after_request, after_waits, after}
use Rattle.world_model.specs.Allowed.{IsPossible, IsRefill, IsCandidateOf, ReceivesFromBuffer, ReceivesSignal, SendsToBuffer, SendsSignalTo, Continues, Starts}
use Rattle.std.specs.List.{take_while}
use Rattle.std.specs.Prelude.{int_le, ◌&&◌, pos, neg_ℤ}
use Rattle.kernel_base.specs.declared.ends.Exc.{Exc}
use Rattle.kernel_base.specs.declared.ends.Exc.TheVariants.{Delayfail}
use Rattle.world_model.specs.Input.{answer_for, get_answer_at, get_answer, signed_value, behind_separators, is_separator}
use Rattle.world_model.specs.World.{refusal}
use Rattle.world_model.specs.Laws.{Message, message_got, got_in, if_sent, next_message, sent_at_once, sent_later, sent_in}
use Rattle.world_model.proofs.Freeing.{freeing_kept}
use Rattle.world_model.proofs.Well.{freeing_stores}

-- the sum of a number of each item
abbrev pub tally : {X : Type 0} → (X → ℕ) → List X → ℕ
tally f [] = 0
tally f (x ∷ xs) = f x + tally f xs

-- 1 where the number is n
abbrev pub tells : ℕ → ℕ → ℕ
tells n number = if number == n then 1 else 0

abbrev pub in_values : ℕ → List StoredValue → ℕ
in_values n values = tally (λ value. tells n value.send) values

abbrev pub in_stored : ℕ → List (List StoredValue) → ℕ
in_stored n stored = tally (in_values n) stored

abbrev pub in_pending : ℕ → List PendingSignal → ℕ
in_pending n signals = tally (λ signal. tells n signal.value.send) signals

abbrev pub in_answer : ℕ → Answer → ℕ
in_answer n (Got alternative send scalars by) = tells n send
in_answer n answer = 0

abbrev pub in_phase : ℕ → Phase → ℕ
in_phase n (Waiting request (Some send) back) = tells n send
in_phase n (Waiting request None back) = 0
in_phase n (Chosen answer back) = in_answer n answer
in_phase n phase = 0

abbrev pub in_phases : ℕ → List Phase → ℕ
in_phases n phases = tally (in_phase n) phases

abbrev pub total : ℕ → World → ℕ
total n w = in_stored n w.stored + in_pending n w.pending + in_phases n w.phases

abbrev pub in_message : ℕ → Option Message → ℕ
in_message n None = 0
in_message n (Some message) = tells n message.number

-- sums and writes
sum_set : {X : Type 0} (f : X → ℕ) (xs : List X) (i : ℕ) (new old : X) → slice_get xs i ≡ Some old → tally f (slice_set xs i new) + f old ≡ tally f xs + f new
sum_set f [] i new old at = absurd (let no' : ⊥ = cc in no')
sum_set f (x ∷ xs) zero new old at = let e : f x ≡ f old = ap f (let same : x ≡ old = cc in same) in omega arith
sum_set f (x ∷ xs) (suc i) new old at = omega (arith, sum_set f xs i new old at)

sum_set_most : {X : Type 0} (f : X → ℕ) (xs : List X) (i : ℕ) (new : X) → tally f (slice_set xs i new) ≤ tally f xs + f new
sum_set_most f [] i new = omega arith
sum_set_most f (x ∷ xs) zero new = omega arith
sum_set_most f (x ∷ xs) (suc i) new = omega (arith, sum_set_most f xs i new)

sum_push : {X : Type 0} (f : X → ℕ) (xs : List X) (new : X) → tally f (xs ++ new ∷ []) ≡ tally f xs + f new
sum_push f [] new = omega arith
sum_push f (x ∷ xs) new = omega (arith, sum_push f xs new)

-- one more value in a buffer
stored_push : (n : ℕ) (stored : List (List StoredValue)) (buffer : ℕ) (value : StoredValue) → in_stored n (slice_set stored buffer (slice_index_or stored buffer [] ++ value ∷ [])) ≤ in_stored n stored + tells n value.send
stored_push n [] buffer value = omega arith
stored_push n (values ∷ stored) zero value = omega (arith, sum_push (λ (v : StoredValue). tells n v.send) values value)
stored_push n (values ∷ stored) (suc buffer) value = omega (arith, stored_push n stored buffer value)

-- what a filter takes out
pub tells_same : (n send : ℕ) → send ≡ n → tells n send ≡ 1
tells_same n send same = let e : (send == n) ≡ true = eq-eqb send n same in rw e refl

dropped : (n send : ℕ) (value : StoredValue) → (value.send == send) ≡ true → tells n value.send ≡ tells n send
dropped n send value same = ap (tells n) (eqb-true value.send send same)

filter_fewer : (n send : ℕ) (values : List StoredValue) → in_values n (values_but send values) ≤ in_values n values
filter_fewer n send [] = omega arith
filter_fewer n send (value ∷ values) = elim (cases_Bool (value.send == send)) [
  | inl same ↦ (let is : values_but send (value ∷ values) ≡ values_but send values = rw same refl in
      let e = ap (in_values n) is in omega (arith, e, filter_fewer n send values))
  | inr other ↦ (let is : values_but send (value ∷ values) ≡ value ∷ values_but send values = rw other refl in
      let e = ap (in_values n) is in omega (arith, e, filter_fewer n send values))
]

filter_takes : (n send : ℕ) (values : List StoredValue) (k : ℕ) (taken : StoredValue) → slice_get values k ≡ Some taken → taken.send ≡ send → in_values n (values_but send values) + tells n send ≤ in_values n values
filter_takes n send [] k taken at is = absurd (let no' : ⊥ = cc in no')
filter_takes n send (value ∷ values) zero taken at is =
    let same : value.send ≡ send = ap (λ (v : StoredValue). v.send) (let e : value ≡ taken = cc in e) ∙ is in
    let eq : (value.send == send) ≡ true = eq-eqb value.send send same in
    let all : values_but send (value ∷ values) ≡ values_but send values = rw eq refl in
    let e = ap (in_values n) all in
    let t : tells n value.send ≡ tells n send = ap (tells n) same in
    omega (arith, e, t, filter_fewer n send values)
filter_takes n send (value ∷ values) (suc k) taken at is = elim (cases_Bool (value.send == send)) [
  | inl same ↦ (let all : values_but send (value ∷ values) ≡ values_but send values = rw same refl in
      let e = ap (in_values n) all in omega (arith, e, filter_takes n send values k taken at is))
  | inr other ↦ (let all : values_but send (value ∷ values) ≡ value ∷ values_but send values = rw other refl in
      let e = ap (in_values n) all in omega (arith, e, filter_takes n send values k taken at is))
]

stored_fewer : (n send : ℕ) (stored : List (List StoredValue)) → in_stored n (map (values_but send) stored) ≤ in_stored n stored
stored_fewer n send [] = omega arith
stored_fewer n send (values ∷ stored) = omega (arith, filter_fewer n send values, stored_fewer n send stored)

stored_takes : (n send : ℕ) (stored : List (List StoredValue)) (buffer k : ℕ) (taken : StoredValue) → slice_get (slice_index_or stored buffer []) k ≡ Some taken → taken.send ≡ send → in_stored n (map (values_but send) stored) + tells n send ≤ in_stored n stored
stored_takes n send [] buffer k taken at is = absurd (let no' : ⊥ = cc in no')
stored_takes n send (values ∷ stored) zero k taken at is = omega (arith, filter_takes n send values k taken at is, stored_fewer n send stored)
stored_takes n send (values ∷ stored) (suc buffer) k taken at is = omega (arith, filter_fewer n send values, stored_takes n send stored buffer k taken at is)

pending_fewer : (n send : ℕ) (signals : List PendingSignal) → in_pending n (signals_but send signals) ≤ in_pending n signals
pending_fewer n send [] = omega arith
pending_fewer n send (signal ∷ signals) = elim (cases_Bool (signal.value.send == send)) [
  | inl same ↦ (let all : signals_but send (signal ∷ signals) ≡ signals_but send signals = rw same refl in
      let e = ap (in_pending n) all in omega (arith, e, pending_fewer n send signals))
  | inr other ↦ (let all : signals_but send (signal ∷ signals) ≡ signal ∷ signals_but send signals = rw other refl in
      let e = ap (in_pending n) all in omega (arith, e, pending_fewer n send signals))
]

pending_takes : (n send : ℕ) (signals : List PendingSignal) (k : ℕ) (taken : PendingSignal) → slice_get signals k ≡ Some taken → taken.value.send ≡ send → in_pending n (signals_but send signals) + tells n send ≤ in_pending n signals
pending_takes n send [] k taken at is = absurd (let no' : ⊥ = cc in no')
pending_takes n send (signal ∷ signals) zero taken at is =
    let same : signal.value.send ≡ send = ap (λ (s : PendingSignal). s.value.send) (let e : signal ≡ taken = cc in e) ∙ is in
    let eq : (signal.value.send == send) ≡ true = eq-eqb signal.value.send send same in
    let all : signals_but send (signal ∷ signals) ≡ signals_but send signals = rw eq refl in
    let e = ap (in_pending n) all in
    let t : tells n signal.value.send ≡ tells n send = ap (tells n) same in
    omega (arith, e, t, pending_fewer n send signals)
pending_takes n send (signal ∷ signals) (suc k) taken at is = elim (cases_Bool (signal.value.send == send)) [
  | inl same ↦ (let all : signals_but send (signal ∷ signals) ≡ signals_but send signals = rw same refl in
      let e = ap (in_pending n) all in omega (arith, e, pending_takes n send signals k taken at is))
  | inr other ↦ (let all : signals_but send (signal ∷ signals) ≡ signal ∷ signals_but send signals = rw other refl in
      let e = ap (in_pending n) all in omega (arith, e, pending_takes n send signals k taken at is))
]

-- how often a number is on its way after a step

chosen_total : (n : ℕ) (w : World) (p : ℕ) (waiter : Option Waiter) (answer : ℕ → Answer) (bound : ℕ) → ((alternative : ℕ) → in_answer n (answer alternative) ≤ bound) → total n (chosen w p waiter answer) ≤ total n w + bound
chosen_total n w p None answer bound most = omega arith
chosen_total n w p (Some waiter) answer bound most = omega (arith, sum_set_most (in_phase n) w.phases p (Chosen (answer waiter.alternative) waiter.back), most waiter.alternative)

continue_total : (n : ℕ) (w : World) (who event : ℕ) (answer : Answer) → total n (after_continue w who event answer) ≤ total n w
continue_total n w who event (Chose (Some p)) = omega (arith, chosen_total n w p (sleeper w event p) (λ alternative. Woken alternative who) 0 (λ alternative. omega arith))
continue_total n w who event answer = omega arith

send_total : (n : ℕ) (w : World) (who buffer : ℕ) (scalars : List ℤ) (priority : ℕ) (answer : Answer) → total n (after_send_buffer w who buffer scalars priority answer) ≤ total n w + tells n (w.sends + 1)
send_total n w who buffer scalars priority (Handed p) = chosen_total n (with_next_send w) p (buffer_receiver w buffer p) (λ alternative. Got alternative (w.sends + 1) scalars who) (tells n (w.sends + 1)) (λ alternative. omega arith)
send_total n w who buffer scalars priority answer = omega (arith, stored_push n w.stored buffer (next_value w who scalars priority))

signal_total : (facts : Facts) (n : ℕ) (w : World) (who signal : ℕ) (scalars : List ℤ) (to : Option ℕ) (priority : ℕ) (answer : Answer) → total n (after_send_signal facts w who signal scalars to priority answer) ≤ total n w + in_message n (if_sent answer (next_message w who scalars))
signal_total facts n w who signal scalars to priority (Handed p) = chosen_total n (with_next_send w) p (signal_receiver facts w signal to p) (λ alternative. Got alternative (w.sends + 1) scalars who) (tells n (w.sends + 1)) (λ alternative. omega arith)
signal_total facts n w who signal scalars to priority Stored = omega (arith, sum_push (λ (s : PendingSignal). tells n s.value.send) w.pending (record { signal = signal; to = to; value = next_value w who scalars priority }))
signal_total facts n w who signal scalars to priority answer = omega arith

abbrev sent_of : Option Offer → ℕ
sent_of None = 0
sent_of (Some o) = o.value.send

-- the phase of one whose value is offered
offer_send : (who buffer : ℕ) (scalars : List ℤ) (priority send : ℕ) (back : Option ℕ) (o : Offer) → offer_in who (Waiting (SendBuffer buffer scalars priority) (Some send) back) ≡ Some o → send ≡ o.value.send
offer_send who buffer scalars priority send back o is = ap (λ (x : Option Offer). sent_of x) is

offer_phase : (who : ℕ) (old : Option Phase) (o : Offer) → option_and_then (offer_in who) old ≡ Some o → (request : Request) × (back : Option ℕ) × (old ≡ Some (Waiting request (Some o.value.send) back))
offer_phase who None o is = absurd (let f : ⊥ = cc in f)
offer_phase who (Some (Waiting (SendBuffer buffer scalars priority) (Some send) back)) o is = (SendBuffer buffer scalars priority, back, ap (λ (n : ℕ). Some (Waiting (SendBuffer buffer scalars priority) (Some n) back)) (let e : send ≡ o.value.send = offer_send who buffer scalars priority send back o is in e))
offer_phase who (Some phase) o is = absurd (let f : ⊥ = cc in f)

refilled_buffer_total : (n : ℕ) (w : World) (length : Option ℕ) (o : Offer) → total n (refilled_buffer w length o) ≤ total n w + tells n o.value.send
refilled_buffer_total n w None o = omega (arith, stored_push n w.stored o.buffer o.value)
refilled_buffer_total n w (Some zero) o = omega arith
refilled_buffer_total n w (Some (suc m)) o = omega (arith, stored_push n w.stored o.buffer o.value)

refilled_buffer_phases : (w : World) (length : Option ℕ) (o : Offer) → (refilled_buffer w length o).phases ≡ w.phases
refilled_buffer_phases w None o = refl
refilled_buffer_phases w (Some zero) o = refl
refilled_buffer_phases w (Some (suc n)) o = refl

-- setting the phase of one that waits to send
sender_set : (n : ℕ) (phases : List Phase) (sender : ℕ) (o : Offer) (old : (request : Request) × (back : Option ℕ) × (slice_get phases sender ≡ Some (Waiting request (Some o.value.send) back))) → in_phases n (slice_set phases sender (Chosen Stored o.back)) + tells n o.value.send ≡ in_phases n phases
sender_set n phases sender o old = omega (arith, sum_set (in_phase n) phases sender (Chosen Stored o.back) (Waiting old.0 (Some o.value.send) old.1) old.2)

refilled_by_total : (facts : Facts) (n : ℕ) (w : World) (sender : ℕ) (o : Option Offer) → offer w sender ≡ o → total n (refilled_by facts w sender o) ≤ total n w
refilled_by_total facts n w sender None is = omega arith
refilled_by_total facts n w sender (Some o) is =
    let filled : World = refilled_buffer w (buffer_length facts o.buffer) o in
    let same : filled.phases ≡ w.phases = refilled_buffer_phases w (buffer_length facts o.buffer) o in
    let most = refilled_buffer_total n w (buffer_length facts o.buffer) o in
    let set = sender_set n w.phases sender o (offer_phase sender (phase_of w sender) o is) in
    let counts : in_phases n (slice_set filled.phases sender (Chosen Stored o.back)) ≡ in_phases n (slice_set w.phases sender (Chosen Stored o.back)) = ap (λ (ps : List Phase). in_phases n (slice_set ps sender (Chosen Stored o.back))) same in
    let before : in_phases n filled.phases ≡ in_phases n w.phases = ap (in_phases n) same in
    omega (arith, most, set, counts, before)

refilled_total : (facts : Facts) (n : ℕ) (w : World) (refill : Option ℕ) → total n (refilled facts w refill) ≤ total n w
refilled_total facts n w None = omega arith
refilled_total facts n w (Some sender) = refilled_by_total facts n w sender (offer w sender) refl

-- a value that is stored is taken
stored_taken : (facts : Facts) (n : ℕ) (w : World) (buffer : ℕ) (value : StoredValue) (refill : Option ℕ) → (k : ℕ) × (slice_get (stored_in w buffer) k ≡ Some value) → total n (refilled facts (record w { stored = map (values_but value.send) w.stored }) refill) + tells n value.send ≤ total n w
stored_taken facts n w buffer value refill at = omega (arith, refilled_total facts n (record w { stored = map (values_but value.send) w.stored }) refill, stored_takes n value.send w.stored buffer at.0 value at.1 refl)

-- the value of a sender that waits is taken, and the sender is chosen
offered_filled : (facts : Facts) (n : ℕ) (w : World) (sender : ℕ) (o : Offer) (o' : Option Offer) → o' ≡ Some o → buffer_length facts o.buffer ≡ Some zero → offer w sender ≡ Some o → total n (refilled_by facts (record w { stored = map (values_but o.value.send) w.stored }) sender o') + tells n o.value.send ≤ total n w
offered_filled facts n w sender o o' same empty is =
    let filled : World = record w { stored = map (values_but o.value.send) w.stored } in
    let set = sender_set n w.phases sender o (offer_phase sender (phase_of w sender) o is) in
    let world : refilled_by facts filled sender o' ≡ with_phase filled sender (Chosen Stored o.back) = ap (refilled_by facts filled sender) same ∙ ap (λ (l : Option ℕ). with_phase (refilled_buffer filled l o) sender (Chosen Stored o.back)) empty in
    let counts : total n (refilled_by facts filled sender o') ≡ total n (with_phase filled sender (Chosen Stored o.back)) = ap (total n) world in
    omega (arith, counts, set, stored_fewer n o.value.send w.stored)

value_taken : (facts : Facts) (n : ℕ) (w : World) (length : Option ℕ) (buffer : ℕ) (value : StoredValue) (refill : Option ℕ) → buffer_length facts buffer ≡ length → IsCandidateOf length w buffer value → IsRefill length w buffer value.sender refill
    → total n (refilled facts (record w { stored = map (values_but value.send) w.stored }) refill) + tells n value.send ≤ total n w
value_taken facts n w None buffer value refill is from fills = stored_taken facts n w buffer value refill from
value_taken facts n w (Some (suc m)) buffer value refill is from fills = stored_taken facts n w buffer value refill from
value_taken facts n w (Some zero) buffer value refill is from fills =
    let o : Offer = record { buffer = buffer; value = value; back = from.back } in
    let filled : World = record w { stored = map (values_but value.send) w.stored } in
    let world : refilled facts filled refill ≡ refilled_by facts filled value.sender (offer w value.sender) = ap (refilled facts filled) fills in
    let counts : total n (refilled facts filled refill) ≡ total n (refilled_by facts filled value.sender (offer w value.sender)) = ap (total n) world in
    omega (arith, counts, offered_filled facts n w value.sender o (offer w value.sender) from.waits is from.waits)

receive_total : (facts : Facts) (n : ℕ) (w : World) (buffers : _) (otherwise : Bool) (answer : Answer) (refill : Option ℕ) → ReceivesFromBuffer facts w buffers otherwise answer refill → total n (after_receive_buffer facts w answer refill) + in_message n (message_got answer) ≤ total n w
receive_total facts n w buffers otherwise (Got alternative send scalars by) refill may =
    let value : StoredValue = record { send = send; sender = by; scalars = scalars; priority = may.0 } in
    value_taken facts n w (buffer_length facts may.1.buffer) may.1.buffer value refill refl may.1.candidate may.1.refills
receive_total facts n w buffers otherwise Otherwise refill may = omega arith
receive_total facts n w buffers otherwise answer refill may = absurd may

hear_total : (facts : Facts) (n : ℕ) (w : World) (who : ℕ) (signals : _) (otherwise : Bool) (answer : Answer) → ReceivesSignal facts w who signals otherwise answer → total n (after_receive_signal w answer) + in_message n (message_got answer) ≤ total n w
hear_total facts n w who signals otherwise (Got alternative send scalars by) may =
    let is : may.signal.value.send ≡ send = ap (λ (v : StoredValue). v.send) may.is in
    omega (arith, pending_takes n send w.pending may.pends.place may.signal may.pends.pends is)
hear_total facts n w who signals otherwise Otherwise may = omega arith
hear_total facts n w who signals otherwise answer may = absurd may

start_total : (n : ℕ) (w : World) (process : ℕ) (scalars : List ℤ) (answer : Answer) → total n (after_start w process scalars answer) ≤ total n w
start_total n w process scalars (Instance i) = omega (arith, sum_push (in_phase n) w.phases Active)
start_total n w process scalars answer = omega arith

entered_total : (n : ℕ) (w : World) (who at : ℕ) (o : Option ℕ) → total n (entered w who at o) ≡ total n w
entered_total n w who at None = refl
entered_total n w who at (Some other) = refl

left_if_total : (n : ℕ) (w : World) (who at : ℕ) (mine : Bool) → total n (if mine then freed w who at else w) ≡ total n w
left_if_total n w who at true = refl
left_if_total n w who at false = refl

left_total : (n : ℕ) (w : World) (who at : ℕ) (o : Option ℕ) → total n (left w who at o) ≡ total n w
left_total n w who at None = refl
left_total n w who at (Some other) = left_if_total n w who at (other == who)

-- an answer that isn't Got hands over nothing
no_message : (n : ℕ) (answer other : Answer) → answer ≡ other → message_got other ≡ None → in_message n (message_got answer) ≡ 0
no_message n answer other is none = ap (λ (a : Answer). in_message n (message_got a)) is ∙ ap (in_message n) none

pub send_none : (facts : Facts) (w : World) (buffer : ℕ) (answer : Answer) → SendsToBuffer facts w buffer answer → message_got answer ≡ None
send_none facts w buffer (Handed p) may = refl
send_none facts w buffer Stored may = refl
send_none facts w buffer answer may = absurd may

pub continue_none : (w : World) (event : ℕ) (answer : Answer) → Continues w event answer → message_got answer ≡ None
continue_none w event (Chose chosen) may = refl
continue_none w event answer may = absurd may

pub signal_none : (facts : Facts) (w : World) (signal : ℕ) (to : Option ℕ) (refused : Option Exc) (answer : Answer) → SendsSignalTo facts w signal to refused answer → message_got answer ≡ None
signal_none facts w signal to (Some exception) answer may = ap message_got may
signal_none facts w signal to None (Handed p) may = refl
signal_none facts w signal to None Stored may = refl
signal_none facts w signal to None answer may = absurd may

pub start_none : (w : World) (answer : Answer) → Starts w answer → message_got answer ≡ None
start_none w (Instance i) may = refl
start_none w (Fail exception) may = refl
start_none w answer may = absurd may

number_none : (number : Option ℤ) → message_got (answer_for number) ≡ None
number_none None = refl
number_none (Some number) = elim (cases_Bool (int_le (neg_ℤ (pos 2147483648)) number && int_le number (pos 2147483647))) [
  | inl fits ↦ rw fits refl
  | inr fails ↦ rw fails refl
]

pub get_none : (rest : List ℕ) → message_got (get_answer_at rest) ≡ None
get_none [] = refl
get_none (byte ∷ bytes) = number_none (signed_value (take_while (λ b. not (is_separator b)) (byte ∷ bytes)))

did_total : (facts : Facts) (n : ℕ) (w : World) (who ticks : ℕ) (request : Request) (answer : Answer) (refill : Option ℕ) → IsPossible facts w (Did who ticks request answer refill) → total n (after_request facts w who request answer refill) + in_message n (message_got answer) ≤ total n w + in_message n (sent_at_once w who request answer)
did_total facts n w who ticks (Read place) answer refill may = omega (arith, no_message n answer _ may.1.1 refl)
did_total facts n w who ticks (Write place scalars) answer refill may = omega (arith, no_message n answer Done may.1.1 refl)
did_total facts n w who ticks (Enter at) answer refill may = omega (arith, no_message n answer Done may.1.1.0 refl, entered_total n w who at (occupant w at))
did_total facts n w who ticks (Leave at) answer refill may = omega (arith, no_message n answer Done may.1.1 refl, left_total n w who at (occupant w at))
did_total facts n w who ticks (Delay events priority) answer refill may = omega (arith, no_message n answer (Fail Delayfail) may.1.1.0 refl)
did_total facts n w who ticks (Continue event) answer refill may = omega (arith, ap (in_message n) (continue_none w event answer may.1.1), continue_total n w who event answer)
did_total facts n w who ticks (SendBuffer buffer scalars priority) answer refill may = omega (arith, ap (in_message n) (send_none facts w buffer answer may.1.1), send_total n w who buffer scalars priority answer)
did_total facts n w who ticks (ReceiveBuffer buffers otherwise) answer refill may = omega (arith, receive_total facts n w buffers otherwise answer refill may.1)
did_total facts n w who ticks (SendSignal signal scalars to priority) answer refill may = omega (arith, ap (in_message n) (signal_none facts w signal to (refusal w to) answer may.1.1), signal_total facts n w who signal scalars to priority answer)
did_total facts n w who ticks (ReceiveSignal signals otherwise) answer refill may = omega (arith, hear_total facts n w who signals otherwise answer may.1.1)
did_total facts n w who ticks (Start process scalars) answer refill may = omega (arith, ap (in_message n) (start_none w answer may.1.1), start_total n w process scalars answer)
did_total facts n w who ticks (Put bytes) answer refill may = omega (arith, no_message n answer Done may.1.1 refl)
did_total facts n w who ticks Get answer refill may = omega (arith, no_message n answer (get_answer w.input) may.1.1 (get_none (behind_separators w.input)))
did_total facts n w who ticks (End how) answer refill may = omega (arith, no_message n answer Done may.1.1 refl, sum_set_most (in_phase n) w.phases who (Ended how))

-- a phase set behind the freeing of a region
waiting_total : (n : ℕ) (w : World) (who : ℕ) (draws back : Option ℕ) (new : Phase) → total n (with_phase (freed_last (with_drawn w draws) who back) who new) ≤ total n w + in_phase n new
waiting_total n w who draws back new =
    let stores = freeing_stores w who draws back in
    let phases = ap (λ (ps : List Phase). in_phases n (slice_set ps who new)) (freeing_kept w who draws back) in
    omega (arith, ap (in_stored n) stores.1, ap (in_pending n) stores.2, phases, sum_set_most (in_phase n) w.phases who new)

waits_total : (n : ℕ) (w : World) (who : ℕ) (request : Request) → total n (after_waits w who request) ≤ total n w + in_message n (sent_later w who request)
waits_total n w who (Enter region) = omega (arith, sum_set_most (in_phase n) w.phases who (Chosen Done (Some region)))
waits_total n w who (SendBuffer buffer scalars priority) = waiting_total n w who (Some (w.sends + 1)) (last_of (held_by w who)) (Waiting (SendBuffer buffer scalars priority) (Some (w.sends + 1)) (last_of (held_by w who)))
waits_total n w who request = waiting_total n w who None (last_of (held_by w who)) (Waiting request None (last_of (held_by w who)))

got_answer : (n : ℕ) (answer : Answer) → in_message n (message_got answer) ≡ in_answer n answer
got_answer n (Got alternative send scalars by) = refl
got_answer n answer = refl

back_total : (n : ℕ) (w : World) (who : ℕ) (back : Option ℕ) (new : Phase) → total n (with_phase (locked_back w who back) who new) ≡ in_stored n w.stored + in_pending n w.pending + in_phases n (slice_set w.phases who new)
back_total n w who None new = refl
back_total n w who (Some at) new = refl

-- What is on its way behind an event and what the event hands over was on its way before, or is sent by it.
pub step_total : (facts : Facts) (n : ℕ) (w : World) (event : Event) → IsPossible facts w event → total n (after facts w event) + in_message n (got_in event) ≤ total n w + in_message n (sent_in w event)
step_total facts n w (Did who ticks request answer refill) may = did_total facts n w who ticks request answer refill may
step_total facts n w (Waits who ticks request) may = omega (arith, waits_total n w who request)
step_total facts n w (Goes who answer) may =
    omega (arith, back_total n w who (back_in (phase_of w who)) Active, sum_set (in_phase n) w.phases who Active (Chosen answer may.back) may.chosen, got_answer n answer)
step_total facts n w (Runs who ticks) may = omega arith
