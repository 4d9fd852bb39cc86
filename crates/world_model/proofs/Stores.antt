-- What is stored and pending was sent by somebody, under a number from 1 on; and how long the shared locations are.
use Rattle.std.proofs.Common.{◌≡◌, ◌≤◌, ◌+◌, ℕ, zero, suc, Bool, true, false, not, List, [], ◌∷◌, ◌++◌, ℤ, map, refl, sym, ap, ◌∙◌, subst, inl, inr, arith, Option, Some, None, slice_get}
use Rattle.std.specs.Prelude.{if◌then◌else◌, ◌==◌, slice_index_or}
use Rattle.std.specs.List.{filter}
use Rattle.std.proofs.lemmas.Bool.{cases_eq, cases_Bool}
use Rattle.kernel_base.specs.declared.facts.Facts.{Facts}
use Rattle.kernel_base.specs.declared.request.Request.{Request}
use Rattle.kernel_base.specs.declared.request.Request.TheVariants.{Read, Write, Enter, Leave, Delay, Continue, SendBuffer, ReceiveBuffer, SendSignal, ReceiveSignal, Start, Put, Get, End}
use Rattle.kernel_base.specs.declared.answer.Answer.{Answer}
use Rattle.kernel_base.specs.declared.answer.Answer.TheVariants.{Woken, Got, Instance, Chose, Handed, Stored}
use Rattle.world_model.specs.declared.world.StoredValue.{StoredValue}
use Rattle.world_model.specs.declared.world.PendingSignal.{PendingSignal}
use Rattle.world_model.specs.declared.world.World.{World}
use Rattle.world_model.specs.declared.waiting.Waiter.{Waiter}
use Rattle.world_model.specs.declared.waiting.Offer.{Offer}
use Rattle.world_model.specs.Waiting.{sleeper, buffer_receiver, signal_receiver, offer}
use Rattle.world_model.specs.World.{occupant, entered, left, freed, chosen, with_next_send, next_value, stored_in, with_stored, values_but, refilled, refilled_by, refilled_buffer, buffer_length, after_continue, after_send_buffer, after_receive_buffer, after_send_signal, after_receive_signal, after_start, after_request}
use Rattle.world_model.proofs.ChangedLists.{read_elsewhere, read_here, pushed_or_old}

-- the store, the stored values and the pending signals are as before
abbrev pub KeepsStores : World → World → Type 0
KeepsStores old new = (new.store ≡ old.store) × (new.stored ≡ old.stored) × (new.pending ≡ old.pending)

-- sent by somebody, under a number from 1 on
pub record IsSent (value : StoredValue) : Type 0 where
  pub send : 1 ≤ value.send
  pub sender : 1 ≤ value.sender

pub record AreSent (w : World) : Type 0 where
  pub values : (buffer k : ℕ) (value : StoredValue) → slice_get (stored_in w buffer) k ≡ Some value → IsSent value
  pub signals : (k : ℕ) (signal : PendingSignal) → slice_get w.pending k ≡ Some signal → IsSent signal.value

kept_sent : (old new : World) → KeepsStores old new → AreSent old → AreSent new
kept_sent old new kept sent = record {
  values = λ buffer k value at. sent.values buffer k value (ap (λ (ss : List (List StoredValue)). slice_get (slice_index_or ss buffer []) k) (sym kept.1) ∙ at);
  signals = λ k signal at. sent.signals k signal (ap (λ (ps : List PendingSignal). slice_get ps k) (sym kept.2) ∙ at);
}

pub chosen_stores : (w : World) (p : ℕ) (waiter : Option Waiter) (answer : ℕ → Answer) → KeepsStores w (chosen w p waiter answer)
chosen_stores w p None answer = (refl, refl, refl)
chosen_stores w p (Some waiter) answer = (refl, refl, refl)

pub continue_stores : (w : World) (who event : ℕ) (answer : Answer) → KeepsStores w (after_continue w who event answer)
continue_stores w who event (Chose (Some p)) = chosen_stores w p (sleeper w event p) (λ alternative. Woken alternative who)
continue_stores w who event answer = (refl, refl, refl)

pub start_stores : (w : World) (process : ℕ) (scalars : List ℤ) (answer : Answer) → KeepsStores w (after_start w process scalars answer)
start_stores w process scalars (Instance i) = (refl, refl, refl)
start_stores w process scalars answer = (refl, refl, refl)

pub entered_stores : (w : World) (who at : ℕ) (o : Option ℕ) → KeepsStores w (entered w who at o)
entered_stores w who at None = (refl, refl, refl)
entered_stores w who at (Some other) = (refl, refl, refl)

left_if_stores : (w : World) (who at : ℕ) (mine : Bool) → KeepsStores w (if mine then freed w who at else w)
left_if_stores w who at true = (refl, refl, refl)
left_if_stores w who at false = (refl, refl, refl)

pub left_stores : (w : World) (who at : ℕ) (o : Option ℕ) → KeepsStores w (left w who at o)
left_stores w who at None = (refl, refl, refl)
left_stores w who at (Some other) = left_if_stores w who at (other == who)

in_pushed : (w : World) (buffer : ℕ) (value : StoredValue) → IsSent value → AreSent w → (k : ℕ) (v : StoredValue) → slice_get (stored_in (with_stored w buffer value) buffer) k ≡ Some v → IsSent v
in_pushed w buffer value is sent k v at = elim (read_here w.stored buffer (stored_in w buffer ++ value ∷ []) []) [
  | inr none ↦ absurd (let e : slice_get [] k ≡ Some v = ap (λ (vs : List StoredValue). slice_get vs k) (sym none) ∙ at in let f : ⊥ = cc in f)
  | inl new ↦ elim (pushed_or_old (stored_in w buffer) k value v (ap (λ (vs : List StoredValue). slice_get vs k) (sym new) ∙ at)) [
    | inl last ↦ subst IsSent (sym last.1) is
    | inr old ↦ sent.values buffer k v old
  ]
]

-- the values of a buffer after one more was stored
with_stored_sent : (w : World) (buffer : ℕ) (value : StoredValue) → IsSent value → AreSent w → AreSent (with_stored w buffer value)
with_stored_sent w buffer value is sent = record {
  values = λ b k v at. elim (cases_eq b buffer) [
    | inr apart ↦ sent.values b k v (ap (λ (vs : List StoredValue). slice_get vs k) (sym (read_elsewhere w.stored buffer b (stored_in w buffer ++ value ∷ []) [] apart)) ∙ at)
    | inl same ↦ in_pushed w buffer value is sent k v (ap (λ (n : ℕ). slice_get (stored_in (with_stored w buffer value) n) k) (sym same) ∙ at)
  ];
  signals = sent.signals;
}

in_cons : {X : Type 0} (test : X → Bool) (x : X) (xs : List X) (k : ℕ) (y : X) → ((j : ℕ) → slice_get (filter test xs) j ≡ Some y → (i : ℕ) × (slice_get xs i ≡ Some y)) → slice_get (x ∷ filter test xs) k ≡ Some y → (j : ℕ) × (slice_get (x ∷ xs) j ≡ Some y)
in_cons test x xs zero y rest at = (zero, at)
in_cons test x xs (suc k) y rest at = let found = rest k at in (suc found.0, found.1)

-- what a filter keeps stood there
pub in_filter : {X : Type 0} (test : X → Bool) (xs : List X) (k : ℕ) (y : X) → slice_get (filter test xs) k ≡ Some y → (j : ℕ) × (slice_get xs j ≡ Some y)
in_filter test [] k y at = absurd (let f : ⊥ = cc in f)
in_filter test (x ∷ xs) k y at = elim (cases_Bool (test x)) [
  | inl kept ↦ (let all : filter test (x ∷ xs) ≡ x ∷ filter test xs = rw kept refl in
      in_cons test x xs k y (λ j. in_filter test xs j y) (ap (λ l. slice_get l k) (sym all) ∙ at))
  | inr dropped ↦ (let all : filter test (x ∷ xs) ≡ filter test xs = rw dropped refl in
      let rest = in_filter test xs k y (ap (λ l. slice_get l k) (sym all) ∙ at) in (suc rest.0, rest.1))
]

pub read_mapped : {X : Type 0} (f : List X → List X) (xs : List (List X)) (i : ℕ) → f [] ≡ [] → slice_index_or (map f xs) i [] ≡ f (slice_index_or xs i [])
read_mapped f [] i none = sym none
read_mapped f (x ∷ xs) zero none = refl
read_mapped f (x ∷ xs) (suc i) none = read_mapped f xs i none

without_sent : (w : World) (send : ℕ) → AreSent w → AreSent (record w { stored = map (values_but send) w.stored })
without_sent w send sent = record {
  values = λ buffer k value at.
      let kept = in_filter (λ (v : StoredValue). not (v.send == send)) (stored_in w buffer) k value (ap (λ (vs : List StoredValue). slice_get vs k) (sym (read_mapped (values_but send) w.stored buffer refl)) ∙ at) in
      sent.values buffer kept.0 value kept.1;
  signals = sent.signals;
}

refilled_buffer_sent : (w : World) (length : Option ℕ) (o : Offer) → IsSent o.value → AreSent w → AreSent (refilled_buffer w length o)
refilled_buffer_sent w None o is sent = with_stored_sent w o.buffer o.value is sent
refilled_buffer_sent w (Some zero) o is sent = sent
refilled_buffer_sent w (Some (suc n)) o is sent = with_stored_sent w o.buffer o.value is sent

abbrev pub OfferSent : Option Offer → Type 0
OfferSent None = Unit {0}
OfferSent (Some o) = IsSent o.value

refilled_by_sent : (facts : Facts) (w : World) (sender : ℕ) (o : Option Offer) → OfferSent o → AreSent w → AreSent (refilled_by facts w sender o)
refilled_by_sent facts w sender None is sent = sent
refilled_by_sent facts w sender (Some o) is sent = kept_sent (refilled_buffer w (buffer_length facts o.buffer) o) _ (refl, refl, refl) (refilled_buffer_sent w (buffer_length facts o.buffer) o is sent)

refilled_sent : (facts : Facts) (w : World) (refill : Option ℕ) → ((p : ℕ) → OfferSent (offer w p)) → AreSent w → AreSent (refilled facts w refill)
refilled_sent facts w None offers sent = sent
refilled_sent facts w (Some sender) offers sent = refilled_by_sent facts w sender (offer w sender) (offers sender) sent

receive_sent : (facts : Facts) (w : World) (answer : Answer) (refill : Option ℕ) → ((p : ℕ) → OfferSent (offer w p)) → AreSent w → AreSent (after_receive_buffer facts w answer refill)
receive_sent facts w (Got alternative send scalars by) refill offers sent = refilled_sent facts (record w { stored = map (values_but send) w.stored }) refill offers (without_sent w send sent)
receive_sent facts w answer refill offers sent = sent

new_sent : (w : World) (who : ℕ) (scalars : List ℤ) (priority : ℕ) → 1 ≤ who → IsSent (next_value w who scalars priority)
new_sent w who scalars priority some = record { send = omega arith; sender = some }

send_sent : (w : World) (who buffer : ℕ) (scalars : List ℤ) (priority : ℕ) (answer : Answer) → 1 ≤ who → AreSent w → AreSent (after_send_buffer w who buffer scalars priority answer)
send_sent w who buffer scalars priority (Handed p) some sent = kept_sent w _ (chosen_stores (with_next_send w) p (buffer_receiver w buffer p) (λ alternative. Got alternative (w.sends + 1) scalars who)) sent
send_sent w who buffer scalars priority answer some sent = with_stored_sent (with_next_send w) buffer (next_value w who scalars priority) (new_sent w who scalars priority some) (kept_sent w (with_next_send w) (refl, refl, refl) sent)

signal_sent : (facts : Facts) (w : World) (who signal : ℕ) (scalars : List ℤ) (to : Option ℕ) (priority : ℕ) (answer : Answer) → 1 ≤ who → AreSent w → AreSent (after_send_signal facts w who signal scalars to priority answer)
signal_sent facts w who signal scalars to priority (Handed p) some sent = kept_sent w _ (chosen_stores (with_next_send w) p (signal_receiver facts w signal to p) (λ alternative. Got alternative (w.sends + 1) scalars who)) sent
signal_sent facts w who signal scalars to priority Stored some sent = record {
  values = sent.values;
  signals = λ k s at. elim (pushed_or_old w.pending k (record { signal = signal; to = to; value = next_value w who scalars priority }) s at) [
    | inl last ↦ subst (λ (x : PendingSignal). IsSent x.value) (sym last.1) (new_sent w who scalars priority some)
    | inr old ↦ sent.signals k s old
  ];
}
signal_sent facts w who signal scalars to priority answer some sent = sent

hear_sent : (w : World) (answer : Answer) → AreSent w → AreSent (after_receive_signal w answer)
hear_sent w (Got alternative send scalars by) sent = record {
  values = sent.values;
  signals = λ k s at. let kept = in_filter (λ (x : PendingSignal). not (x.value.send == send)) w.pending k s at in sent.signals kept.0 s kept.1;
}
hear_sent w answer sent = sent

pub did_sent : (facts : Facts) (w : World) (who : ℕ) (request : Request) (answer : Answer) (refill : Option ℕ) → 1 ≤ who → ((p : ℕ) → OfferSent (offer w p)) → AreSent w → AreSent (after_request facts w who request answer refill)
did_sent facts w who (Read place) answer refill some offers sent = sent
did_sent facts w who (Write place scalars) answer refill some offers sent = record { values = sent.values; signals = sent.signals }
did_sent facts w who (Enter at) answer refill some offers sent = kept_sent w _ (entered_stores w who at (occupant w at)) sent
did_sent facts w who (Leave at) answer refill some offers sent = kept_sent w _ (left_stores w who at (occupant w at)) sent
did_sent facts w who (Delay events priority) answer refill some offers sent = sent
did_sent facts w who (Continue event) answer refill some offers sent = kept_sent w _ (continue_stores w who event answer) sent
did_sent facts w who (SendBuffer buffer scalars priority) answer refill some offers sent = send_sent w who buffer scalars priority answer some sent
did_sent facts w who (ReceiveBuffer buffers otherwise) answer refill some offers sent = receive_sent facts w answer refill offers sent
did_sent facts w who (SendSignal signal scalars to priority) answer refill some offers sent = signal_sent facts w who signal scalars to priority answer some sent
did_sent facts w who (ReceiveSignal signals otherwise) answer refill some offers sent = hear_sent w answer sent
did_sent facts w who (Start process scalars) answer refill some offers sent = kept_sent w _ (start_stores w process scalars answer) sent
did_sent facts w who (Put bytes) answer refill some offers sent = kept_sent w _ (refl, refl, refl) sent
did_sent facts w who Get answer refill some offers sent = kept_sent w _ (refl, refl, refl) sent
did_sent facts w who (End how) answer refill some offers sent = kept_sent w _ (refl, refl, refl) sent

-- the store alone
refilled_buffer_store : (w : World) (length : Option ℕ) (o : Offer) → (refilled_buffer w length o).store ≡ w.store
refilled_buffer_store w None o = refl
refilled_buffer_store w (Some zero) o = refl
refilled_buffer_store w (Some (suc n)) o = refl

refilled_by_store : (facts : Facts) (w : World) (sender : ℕ) (o : Option Offer) → (refilled_by facts w sender o).store ≡ w.store
refilled_by_store facts w sender None = refl
refilled_by_store facts w sender (Some o) = refilled_buffer_store w (buffer_length facts o.buffer) o

refilled_store : (facts : Facts) (w : World) (refill : Option ℕ) → (refilled facts w refill).store ≡ w.store
refilled_store facts w None = refl
refilled_store facts w (Some sender) = refilled_by_store facts w sender (offer w sender)

receive_store : (facts : Facts) (w : World) (answer : Answer) (refill : Option ℕ) → (after_receive_buffer facts w answer refill).store ≡ w.store
receive_store facts w (Got alternative send scalars by) refill = refilled_store facts _ refill
receive_store facts w answer refill = refl

send_store : (w : World) (who buffer : ℕ) (scalars : List ℤ) (priority : ℕ) (answer : Answer) → (after_send_buffer w who buffer scalars priority answer).store ≡ w.store
send_store w who buffer scalars priority (Handed p) = (chosen_stores (with_next_send w) p (buffer_receiver w buffer p) (λ alternative. Got alternative (w.sends + 1) scalars who)).0
send_store w who buffer scalars priority answer = refl

signal_store : (facts : Facts) (w : World) (who signal : ℕ) (scalars : List ℤ) (to : Option ℕ) (priority : ℕ) (answer : Answer) → (after_send_signal facts w who signal scalars to priority answer).store ≡ w.store
signal_store facts w who signal scalars to priority (Handed p) = (chosen_stores (with_next_send w) p (signal_receiver facts w signal to p) (λ alternative. Got alternative (w.sends + 1) scalars who)).0
signal_store facts w who signal scalars to priority answer = refl

hear_store : (w : World) (answer : Answer) → (after_receive_signal w answer).store ≡ w.store
hear_store w (Got alternative send scalars by) = refl
hear_store w answer = refl

abbrev pub IsWrite : Request → Type 0
IsWrite (Write place scalars) = Unit {0}
IsWrite request = ⊥

pub did_store : (facts : Facts) (w : World) (who : ℕ) (request : Request) (answer : Answer) (refill : Option ℕ) → (IsWrite request → ⊥) → (after_request facts w who request answer refill).store ≡ w.store
did_store facts w who (Read place) answer refill other = refl
did_store facts w who (Write place scalars) answer refill other = absurd (other tt)
did_store facts w who (Enter at) answer refill other = (entered_stores w who at (occupant w at)).0
did_store facts w who (Leave at) answer refill other = (left_stores w who at (occupant w at)).0
did_store facts w who (Delay events priority) answer refill other = refl
did_store facts w who (Continue event) answer refill other = (continue_stores w who event answer).0
did_store facts w who (SendBuffer buffer scalars priority) answer refill other = send_store w who buffer scalars priority answer
did_store facts w who (ReceiveBuffer buffers otherwise) answer refill other = receive_store facts w answer refill
did_store facts w who (SendSignal signal scalars to priority) answer refill other = signal_store facts w who signal scalars to priority answer
did_store facts w who (ReceiveSignal signals otherwise) answer refill other = hear_store w answer
did_store facts w who (Start process scalars) answer refill other = (start_stores w process scalars answer).0
did_store facts w who (Put bytes) answer refill other = refl
did_store facts w who Get answer refill other = refl
did_store facts w who (End how) answer refill other = refl
