-- What is stored and pending stays of its mode.
use Rattle.std.proofs.Common.{◌≡◌, ◌+◌, ◌≤◌, take, drop, ℕ, zero, suc, List, [], ◌∷◌, ◌++◌, ℤ, map, refl, sym, ap, ◌∙◌, subst, inl, inr, ◌⊎◌, arith, Option, Some, None, slice_get, slice_set}
use Rattle.std.specs.Prelude.{◌==◌, not, slice_index_or}
use Rattle.std.specs.Option.{option_and_then}
use Rattle.std.proofs.lemmas.List.{length-take, length-drop}
use Rattle.std.proofs.lemmas.Bool.{cases_eq}
use Rattle.kernel_base.specs.declared.facts.Facts.{Facts}
use Rattle.kernel_base.specs.declared.request.Place.{Place}
use Rattle.kernel_base.specs.declared.request.Request.{Request}
use Rattle.kernel_base.specs.declared.request.Request.TheVariants.{Read, Write, Enter, Leave, Delay, Continue, SendBuffer, ReceiveBuffer, SendSignal, ReceiveSignal, Start, Put, Get, End}
use Rattle.kernel_base.specs.declared.answer.Answer.{Answer}
use Rattle.kernel_base.specs.declared.answer.Answer.TheVariants.{Got, Handed, Stored}
use Rattle.world_model.specs.declared.world.Phase.{Phase}
use Rattle.world_model.specs.declared.world.Phase.TheVariants.{Waiting}
use Rattle.world_model.specs.declared.world.StoredValue.{StoredValue}
use Rattle.world_model.specs.declared.world.PendingSignal.{PendingSignal}
use Rattle.world_model.specs.declared.world.World.{World}
use Rattle.world_model.specs.declared.waiting.Offer.{Offer}
use Rattle.world_model.specs.Lists.{with_scalars}
use Rattle.world_model.specs.Waiting.{buffer_receiver, signal_receiver, offer_in, offer}
use Rattle.world_model.specs.World.{occupant, with_next_send, next_value, stored_in, with_stored, values_but, refilled, refilled_by, refilled_buffer, buffer_length, after_send_buffer, after_receive_buffer, after_send_signal, after_receive_signal, after_request}
use Rattle.world_model.proofs.ChangedLists.{read_elsewhere, read_here, pushed_or_old}
use Rattle.world_model.proofs.Stores.{KeepsStores, chosen_stores, continue_stores, start_stores, entered_stores, left_stores, in_filter, read_mapped, did_store}
use Rattle.program_trees.specs.ProgramTree.{LocationRowTree, CheckedTree}
use Rattle.source_meaning.specs.Values.{domains_of, AreWithin, IsValueOf}
use Rattle.source_meaning.specs.Fitting.{domains_at, domains_in_buffer, domains_in_signal}
use Rattle.modes.specs.Scalars.{scalars_of}
use Rattle.text_laws.specs.Requests.{LiesInText, FitsText}
use Rattle.text_laws.proofs.Values.{within_length, count_domains}
use Rattle.text_laws.proofs.Stores.{patched}

-- a value of the buffer
abbrev pub IsOfBuffer : CheckedTree → ℕ → StoredValue → Type 0
IsOfBuffer p b value = AreWithin (domains_in_buffer (slice_get p.buffers b)) value.scalars

abbrev pub IsOfSignal : CheckedTree → PendingSignal → Type 0
IsOfSignal p signal = AreWithin (domains_in_signal (slice_get p.signals signal.signal)) signal.value.scalars

-- what is stored and pending is of its mode
pub record AreOfModes (p : CheckedTree) (w : World) : Type 0 where
  pub values : (b k : ℕ) (value : StoredValue) → slice_get (stored_in w b) k ≡ Some value → IsOfBuffer p b value
  pub signals : (k : ℕ) (signal : PendingSignal) → slice_get w.pending k ≡ Some signal → IsOfSignal p signal

pub kept_modes : (p : CheckedTree) (old new : World) → KeepsStores old new → AreOfModes p old → AreOfModes p new
kept_modes p old new kept m = record {
  values = λ b k value at. m.values b k value (ap (λ (ss : List (List StoredValue)). slice_get (slice_index_or ss b []) k) (sym kept.1) ∙ at);
  signals = λ k signal at. m.signals k signal (ap (λ (ps : List PendingSignal). slice_get ps k) (sym kept.2) ∙ at);
}

in_pushed : (p : CheckedTree) (w : World) (b : ℕ) (value : StoredValue) → IsOfBuffer p b value → AreOfModes p w → (k : ℕ) (v : StoredValue) → slice_get (stored_in (with_stored w b value) b) k ≡ Some v → IsOfBuffer p b v
in_pushed p w b value is m k v at = elim (read_here w.stored b (stored_in w b ++ value ∷ []) []) [
  | inr none ↦ absurd (let e : slice_get [] k ≡ Some v = ap (λ (vs : List StoredValue). slice_get vs k) (sym none) ∙ at in let f : ⊥ = cc in f)
  | inl new ↦ elim (pushed_or_old (stored_in w b) k value v (ap (λ (vs : List StoredValue). slice_get vs k) (sym new) ∙ at)) [
    | inl last ↦ subst (λ (x : StoredValue). IsOfBuffer p b x) (sym last.1) is
    | inr old ↦ m.values b k v old
  ]
]

with_stored_modes : (p : CheckedTree) (w : World) (b : ℕ) (value : StoredValue) → IsOfBuffer p b value → AreOfModes p w → AreOfModes p (with_stored w b value)
with_stored_modes p w b value is m = record {
  values = λ c k v at. elim (cases_eq c b) [
    | inr apart ↦ m.values c k v (ap (λ (vs : List StoredValue). slice_get vs k) (sym (read_elsewhere w.stored b c (stored_in w b ++ value ∷ []) [] apart)) ∙ at)
    | inl same ↦ subst (λ (n : ℕ). IsOfBuffer p n v) (sym same) (in_pushed p w b value is m k v (ap (λ (n : ℕ). slice_get (stored_in (with_stored w b value) n) k) (sym same) ∙ at))
  ];
  signals = m.signals;
}

without_modes : (p : CheckedTree) (w : World) (send : ℕ) → AreOfModes p w → AreOfModes p (record w { stored = map (values_but send) w.stored })
without_modes p w send m = record {
  values = λ b k value at.
      let kept = in_filter (λ (v : StoredValue). not (v.send == send)) (stored_in w b) k value (ap (λ (vs : List StoredValue). slice_get vs k) (sym (read_mapped (values_but send) w.stored b refl)) ∙ at) in
      m.values b kept.0 value kept.1;
  signals = m.signals;
}

refilled_buffer_modes : (p : CheckedTree) (w : World) (length : Option ℕ) (o : Offer) → IsOfBuffer p o.buffer o.value → AreOfModes p w → AreOfModes p (refilled_buffer w length o)
refilled_buffer_modes p w None o is m = with_stored_modes p w o.buffer o.value is m
refilled_buffer_modes p w (Some zero) o is m = m
refilled_buffer_modes p w (Some (suc n)) o is m = with_stored_modes p w o.buffer o.value is m

-- what a process offers is of its buffer
abbrev pub OfferFits : CheckedTree → Option Offer → Type 0
OfferFits p None = Unit {0}
OfferFits p (Some o) = IsOfBuffer p o.buffer o.value

refilled_by_modes : (p : CheckedTree) (facts : Facts) (w : World) (sender : ℕ) (o : Option Offer) → OfferFits p o → AreOfModes p w → AreOfModes p (refilled_by facts w sender o)
refilled_by_modes p facts w sender None is m = m
refilled_by_modes p facts w sender (Some o) is m = kept_modes p (refilled_buffer w (buffer_length facts o.buffer) o) _ (refl, refl, refl) (refilled_buffer_modes p w (buffer_length facts o.buffer) o is m)

refilled_modes : (p : CheckedTree) (facts : Facts) (w : World) (refill : Option ℕ) → ((q : ℕ) → OfferFits p (offer w q)) → AreOfModes p w → AreOfModes p (refilled facts w refill)
refilled_modes p facts w None offers m = m
refilled_modes p facts w (Some sender) offers m = refilled_by_modes p facts w sender (offer w sender) (offers sender) m

receive_modes : (p : CheckedTree) (facts : Facts) (w : World) (answer : Answer) (refill : Option ℕ) → ((q : ℕ) → OfferFits p (offer w q)) → AreOfModes p w → AreOfModes p (after_receive_buffer facts w answer refill)
receive_modes p facts w (Got alternative send scalars by) refill offers m = refilled_modes p facts (record w { stored = map (values_but send) w.stored }) refill offers (without_modes p w send m)
receive_modes p facts w answer refill offers m = m

send_modes : (p : CheckedTree) (w : World) (who b : ℕ) (scalars : List ℤ) (priority : ℕ) (answer : Answer) → AreWithin (domains_in_buffer (slice_get p.buffers b)) scalars → AreOfModes p w → AreOfModes p (after_send_buffer w who b scalars priority answer)
send_modes p w who b scalars priority (Handed q) is m = kept_modes p w _ (chosen_stores (with_next_send w) q (buffer_receiver w b q) (λ alternative. Got alternative (w.sends + 1) scalars who)) m
send_modes p w who b scalars priority answer is m = with_stored_modes p (with_next_send w) b (next_value w who scalars priority) is (kept_modes p w (with_next_send w) (refl, refl, refl) m)

signal_modes : (p : CheckedTree) (facts : Facts) (w : World) (who signal : ℕ) (scalars : List ℤ) (to : Option ℕ) (priority : ℕ) (answer : Answer) → AreWithin (domains_in_signal (slice_get p.signals signal)) scalars → AreOfModes p w → AreOfModes p (after_send_signal facts w who signal scalars to priority answer)
signal_modes p facts w who signal scalars to priority (Handed q) is m = kept_modes p w _ (chosen_stores (with_next_send w) q (signal_receiver facts w signal to q) (λ alternative. Got alternative (w.sends + 1) scalars who)) m
signal_modes p facts w who signal scalars to priority Stored is m = record {
  values = m.values;
  signals = λ k s at. elim (pushed_or_old w.pending k (record { signal = signal; to = to; value = next_value w who scalars priority }) s at) [
    | inl last ↦ subst (λ (x : PendingSignal). IsOfSignal p x) (sym last.1) is
    | inr old ↦ m.signals k s old
  ];
}
signal_modes p facts w who signal scalars to priority answer is m = m

hear_modes : (p : CheckedTree) (w : World) (answer : Answer) → AreOfModes p w → AreOfModes p (after_receive_signal w answer)
hear_modes p w (Got alternative send scalars by) m = record {
  values = m.values;
  signals = λ k s at. let kept = in_filter (λ (x : PendingSignal). not (x.value.send == send)) w.pending k s at in m.signals kept.0 s kept.1;
}
hear_modes p w answer m = m

pub did_modes : (p : CheckedTree) (facts : Facts) (w : World) (who : ℕ) (request : Request) (answer : Answer) (refill : Option ℕ) → FitsText p request → ((q : ℕ) → OfferFits p (offer w q)) → AreOfModes p w → AreOfModes p (after_request facts w who request answer refill)
did_modes p facts w who (Read place) answer refill fits offers m = m
did_modes p facts w who (Write place scalars) answer refill fits offers m = record { values = m.values; signals = m.signals }
did_modes p facts w who (Enter at) answer refill fits offers m = kept_modes p w _ (entered_stores w who at (occupant w at)) m
did_modes p facts w who (Leave at) answer refill fits offers m = kept_modes p w _ (left_stores w who at (occupant w at)) m
did_modes p facts w who (Delay events priority) answer refill fits offers m = m
did_modes p facts w who (Continue event) answer refill fits offers m = kept_modes p w _ (continue_stores w who event answer) m
did_modes p facts w who (SendBuffer b scalars priority) answer refill fits offers m = send_modes p w who b scalars priority answer fits.1 m
did_modes p facts w who (ReceiveBuffer buffers otherwise) answer refill fits offers m = receive_modes p facts w answer refill offers m
did_modes p facts w who (SendSignal signal scalars to priority) answer refill fits offers m = signal_modes p facts w who signal scalars to priority answer fits.1 m
did_modes p facts w who (ReceiveSignal signals otherwise) answer refill fits offers m = hear_modes p w answer m
did_modes p facts w who (Start process scalars) answer refill fits offers m = kept_modes p w _ (start_stores w process scalars answer) m
did_modes p facts w who (Put bytes) answer refill fits offers m = kept_modes p w _ (refl, refl, refl) m
did_modes p facts w who Get answer refill fits offers m = kept_modes p w _ (refl, refl, refl) m
did_modes p facts w who (End how) answer refill fits offers m = kept_modes p w _ (refl, refl, refl) m

-- ---- the store

abbrev pub StoreIsOfModes : CheckedTree → List (List ℤ) → Type 0
StoreIsOfModes p store = (l : ℕ) (row : LocationRowTree) → slice_get p.locations l ≡ Some row → IsValueOf row.mode (slice_index_or store l [])

read_set : (xs : List (List ℤ)) (i : ℕ) (new : List ℤ) → (slice_index_or (slice_set xs i new) i [] ≡ new) ⊎ (slice_index_or (slice_set xs i new) i [] ≡ slice_index_or xs i [])
read_set [] i new = inr refl
read_set (x ∷ xs) zero new = inl refl
read_set (x ∷ xs) (suc i) new = read_set xs i new

written_modes : (p : CheckedTree) (store : List (List ℤ)) (place : Place) (scalars : List ℤ) → LiesInText p place → AreWithin (domains_at (slice_get p.locations place.location) place.first place.count) scalars → StoreIsOfModes p store → StoreIsOfModes p (slice_set store place.location (with_scalars (slice_index_or store place.location []) place.first scalars))
written_modes p store place scalars lies v m l row at =
    let old : List ℤ = slice_index_or store place.location [] in
    let new : List ℤ = with_scalars old place.first scalars in
    elim (cases_eq l place.location) [
      | inr apart ↦ subst (λ (xs : List ℤ). IsValueOf row.mode xs) (sym (read_elsewhere store place.location l new [] apart)) (m l row at)
      | inl same ↦ (
          let here : slice_get p.locations place.location ≡ Some row = ap (slice_get p.locations) (sym same) ∙ at in
          let both : Some lies.0 ≡ Some row = sym lies.1 ∙ here in
          let is : lies.0 ≡ row = cc in
          let inside : place.first + place.count ≤ scalars_of row.mode = subst (λ (x : LocationRowTree). place.first + place.count ≤ scalars_of x.mode) is lies.2 in
          let part = subst (λ (o : Option LocationRowTree). AreWithin (domains_at o place.first place.count) scalars) here v in
          let count = count_domains row.mode in
          let long = within_length (take place.count (drop place.first (domains_of row.mode))) scalars part in
          let a = length-take place.count (drop place.first (domains_of row.mode)) in
          let b = length-drop place.first (domains_of row.mode) in
          let fits : IsValueOf row.mode new = patched (domains_of row.mode) old scalars place.first place.count (m place.location row here) (omega (arith, long, a, b, count, inside)) (omega (arith, count, inside)) part in
          subst (λ (n : ℕ). IsValueOf row.mode (slice_index_or (slice_set store place.location new) n [])) (sym same)
          (elim (read_set store place.location new) [
            | inl written ↦ subst (λ (xs : List ℤ). IsValueOf row.mode xs) (sym written) fits
            | inr stays ↦ subst (λ (xs : List ℤ). IsValueOf row.mode xs) (sym stays) (m place.location row here)
          ]))
    ]

pub did_store_modes : (p : CheckedTree) (facts : Facts) (w : World) (who : ℕ) (request : Request) (answer : Answer) (refill : Option ℕ) → FitsText p request → StoreIsOfModes p w.store → StoreIsOfModes p (after_request facts w who request answer refill).store
did_store_modes p facts w who (Write place scalars) answer refill fits m = written_modes p w.store place scalars fits.0 fits.1 m
did_store_modes p facts w who request answer refill fits m = subst (StoreIsOfModes p) (sym (did_store facts w who request answer refill (λ is. is))) m

-- ---- offers

pub offer_fits : (p : CheckedTree) (who : ℕ) (o : Option Phase) → ((request : Request) (send back : Option ℕ) → o ≡ Some (Waiting request send back) → FitsText p request) → OfferFits p (option_and_then (offer_in who) o)
offer_fits p who None fits = tt
offer_fits p who (Some (Waiting (SendBuffer b scalars priority) (Some send) back)) fits = (fits (SendBuffer b scalars priority) (Some send) back refl).1
offer_fits p who (Some phase) fits = tt
