-- A value that is taken from buffers, and the world.
use Rattle.std.proofs.Common.{◌≡◌, ℕ, zero, suc, ◌≤◌, List, ℤ, refl, sym, ap, ◌∙◌, arith, Option, Some, None, subst}
use Rattle.std.specs.Prelude.{slice_index_or, IsFalse, IsSome}
use Rattle.std.specs.Option.{option_and_then}
use Rattle.std.proofs.lemmas.Bool.Decides.{nat_tests}
use Rattle.kernel_base.specs.declared.facts.Facts.{Facts}
use Rattle.kernel_base.specs.declared.request.Alternative.{Alternative}
use Rattle.kernel_base.specs.declared.request.Request.TheVariants.{Read, Write, Enter, Leave, Delay, Continue, SendBuffer, ReceiveBuffer, SendSignal, ReceiveSignal, Start, Put, Get, End}
use Rattle.world_model.specs.declared.world.Phase.{Phase}
use Rattle.world_model.specs.declared.world.Phase.TheVariants.{Active, Waiting, Chosen, Ended}
use Rattle.world_model.specs.declared.world.StoredValue.{StoredValue}
use Rattle.world_model.specs.declared.world.World.{World}
use Rattle.world_model.specs.declared.waiting.Offer.{Offer}
use Rattle.world_model.specs.Waiting.{phase_of, offer_in}
use Rattle.world_model.specs.World.{buffer_length, stored_in}
use Rattle.world_model.specs.Allowed as worlds
use Rattle.world_model.specs.Allowed.{IsStored, IsOffered, IsRefill, IsRefillBy, TakesValue, NothingToTake}
use Rattle.kernel_lists.specs.declared.best.Rank.{Rank}
use Rattle.kernel_lists.specs.Best.{precedes_in}
use Rattle.kernel_lists.specs.Once.{entry_of}
use Rattle.buffers_signals.specs.declared.messages.Held.{Held}
use Rattle.value_queues.specs.Queues.{values_in, rank_of}
use Rattle.buffers_signals.specs.Lists.{sender_of, IsIn}
use Rattle.buffers_signals.specs.Buffers.{SeenBuffers, IsCandidateOf, IsCandidate, NoCandidate, IsChoice, Values, values_of, values_but, RefillsBy, Refills}
use Rattle.kernel_steps.specs.Queued.{sending_in, Trades}
use Rattle.kernel_steps.proofs.Keyed.{found_there}
use Rattle.kernel_steps.proofs.Shuffled.{shuffled_in, shuffled_from}

-- what a phase tells of one that waits to send
pub record Sends (w : World) (held : Held) : Type 0 where
  pub back : Option ℕ
  pub is : phase_of w held.value.sender ≡ Some (Waiting (SendBuffer held.buffer held.value.scalars held.value.priority) (Some held.value.send) back)

sends_drawn : (w : World) (who : ℕ) (held : Held) (buffer : ℕ) (scalars : List ℤ) (priority : ℕ) (send back : Option ℕ) → phase_of w who ≡ Some (Waiting (SendBuffer buffer scalars priority) send back) → sending_in who (Waiting (SendBuffer buffer scalars priority) send back) ≡ Some held → Sends w held
sends_drawn w who held buffer scalars priority None back at told = absurd (let f : ⊥ = cc in f)
sends_drawn w who held buffer scalars priority (Some send) back at told =
    let e : record { buffer = buffer; value = record { send = send; sender = who; scalars = scalars; priority = priority } } ≡ held = cc in
    record { back = back; is = ap (λ (h : Held). phase_of w h.value.sender) (sym e) ∙ at ∙ ap (λ (h : Held). Some (Waiting (SendBuffer h.buffer h.value.scalars h.value.priority) (Some h.value.send) back)) e }

sends_by_phase : (w : World) (who : ℕ) (held : Held) (phase : Phase) → phase_of w who ≡ Some phase → sending_in who phase ≡ Some held → Sends w held
sends_by_phase w who held (Waiting (SendBuffer buffer scalars priority) send back) at told = sends_drawn w who held buffer scalars priority send back at told
sends_by_phase w who held (Waiting (Read place) send back) at told = absurd (let f : ⊥ = cc in f)
sends_by_phase w who held (Waiting (Write place scalars) send back) at told = absurd (let f : ⊥ = cc in f)
sends_by_phase w who held (Waiting (Enter region) send back) at told = absurd (let f : ⊥ = cc in f)
sends_by_phase w who held (Waiting (Leave region) send back) at told = absurd (let f : ⊥ = cc in f)
sends_by_phase w who held (Waiting (Delay events priority) send back) at told = absurd (let f : ⊥ = cc in f)
sends_by_phase w who held (Waiting (Continue event) send back) at told = absurd (let f : ⊥ = cc in f)
sends_by_phase w who held (Waiting (ReceiveBuffer buffers otherwise) send back) at told = absurd (let f : ⊥ = cc in f)
sends_by_phase w who held (Waiting (SendSignal signal scalars to priority) send back) at told = absurd (let f : ⊥ = cc in f)
sends_by_phase w who held (Waiting (ReceiveSignal signals otherwise) send back) at told = absurd (let f : ⊥ = cc in f)
sends_by_phase w who held (Waiting (Start process scalars) send back) at told = absurd (let f : ⊥ = cc in f)
sends_by_phase w who held (Waiting (Put bytes) send back) at told = absurd (let f : ⊥ = cc in f)
sends_by_phase w who held (Waiting Get send back) at told = absurd (let f : ⊥ = cc in f)
sends_by_phase w who held (Waiting (End how) send back) at told = absurd (let f : ⊥ = cc in f)
sends_by_phase w who held Active at told = absurd (let f : ⊥ = cc in f)
sends_by_phase w who held (Chosen answer back) at told = absurd (let f : ⊥ = cc in f)
sends_by_phase w who held (Ended how) at told = absurd (let f : ⊥ = cc in f)

sends_at : (w : World) (who : ℕ) (held : Held) (phase : Option Phase) → phase_of w who ≡ phase → option_and_then (sending_in who) phase ≡ Some held → Sends w held
sends_at w who held None at told = absurd (let f : ⊥ = cc in f)
sends_at w who held (Some phase) at told = sends_by_phase w who held phase at told

pub sender_waits : (facts : Facts) (w : World) (b : SeenBuffers) (held : Held) → IsIn b.senders held → Trades facts w b → Sends w held
sender_waits facts w b held at h = sends_at w held.value.sender held (phase_of w held.value.sender) refl (sym (h.senders.each held.value.sender) ∙ h.senders.once at.0 held at.1)

pub offered_of : (facts : Facts) (w : World) (b : SeenBuffers) (held : Held) → IsIn b.senders held → Trades facts w b → IsOffered w held.buffer held.value
offered_of facts w b held at h = let t = sender_waits facts w b held at h in record { back = t.back; waits = ap (option_and_then (offer_in held.value.sender)) t.is }

-- the sender of an offer stands in the list
offers_drawn : (who : ℕ) (buffer : ℕ) (scalars : List ℤ) (priority : ℕ) (send back : Option ℕ) (o : Offer) → offer_in who (Waiting (SendBuffer buffer scalars priority) send back) ≡ Some o → sending_in who (Waiting (SendBuffer buffer scalars priority) send back) ≡ Some (record { buffer = o.buffer; value = o.value })
offers_drawn who buffer scalars priority None back o told = absurd (let f : ⊥ = cc in f)
offers_drawn who buffer scalars priority (Some send) back o told =
    let e : record { buffer = buffer; value = record { send = send; sender = who; scalars = scalars; priority = priority }; back = back } ≡ o = cc in
    ap (λ (x : Offer). Some (record { buffer = x.buffer; value = x.value })) e

offers_by_phase : (who : ℕ) (o : Offer) (phase : Phase) → offer_in who phase ≡ Some o → sending_in who phase ≡ Some (record { buffer = o.buffer; value = o.value })
offers_by_phase who o (Waiting (SendBuffer buffer scalars priority) send back) told = offers_drawn who buffer scalars priority send back o told
offers_by_phase who o (Waiting (Read place) send back) told = absurd (let f : ⊥ = cc in f)
offers_by_phase who o (Waiting (Write place scalars) send back) told = absurd (let f : ⊥ = cc in f)
offers_by_phase who o (Waiting (Enter region) send back) told = absurd (let f : ⊥ = cc in f)
offers_by_phase who o (Waiting (Leave region) send back) told = absurd (let f : ⊥ = cc in f)
offers_by_phase who o (Waiting (Delay events priority) send back) told = absurd (let f : ⊥ = cc in f)
offers_by_phase who o (Waiting (Continue event) send back) told = absurd (let f : ⊥ = cc in f)
offers_by_phase who o (Waiting (ReceiveBuffer buffers otherwise) send back) told = absurd (let f : ⊥ = cc in f)
offers_by_phase who o (Waiting (SendSignal signal scalars to priority) send back) told = absurd (let f : ⊥ = cc in f)
offers_by_phase who o (Waiting (ReceiveSignal signals otherwise) send back) told = absurd (let f : ⊥ = cc in f)
offers_by_phase who o (Waiting (Start process scalars) send back) told = absurd (let f : ⊥ = cc in f)
offers_by_phase who o (Waiting (Put bytes) send back) told = absurd (let f : ⊥ = cc in f)
offers_by_phase who o (Waiting Get send back) told = absurd (let f : ⊥ = cc in f)
offers_by_phase who o (Waiting (End how) send back) told = absurd (let f : ⊥ = cc in f)
offers_by_phase who o Active told = absurd (let f : ⊥ = cc in f)
offers_by_phase who o (Chosen answer back) told = absurd (let f : ⊥ = cc in f)
offers_by_phase who o (Ended how) told = absurd (let f : ⊥ = cc in f)

offers_at : (who : ℕ) (o : Offer) (phase : Option Phase) → option_and_then (offer_in who) phase ≡ Some o → option_and_then (sending_in who) phase ≡ Some (record { buffer = o.buffer; value = o.value })
offers_at who o None told = absurd (let f : ⊥ = cc in f)
offers_at who o (Some phase) told = offers_by_phase who o phase told

pub of_offered : (facts : Facts) (w : World) (b : SeenBuffers) (buffer : ℕ) (v : StoredValue) → IsOffered w buffer v → Trades facts w b → IsIn b.senders (record { buffer = buffer; value = v })
of_offered facts w b buffer v o h =
    let entry : entry_of sender_of b.senders v.sender ≡ Some (record { buffer = buffer; value = v }) = h.senders.each v.sender ∙ offers_at v.sender (record { buffer = buffer; value = v; back = o.back }) (phase_of w v.sender) o.waits in
    found_there sender_of b.senders v.sender (record { buffer = buffer; value = v }) entry

stored_of : (facts : Facts) (w : World) (b : SeenBuffers) (held : Held) → IsIn (values_in b.stored held.buffer) held.value → Trades facts w b → IsStored w held.buffer held.value
stored_of facts w b held at h = shuffled_in (values_in b.stored held.buffer) (stored_in w held.buffer) at.0 held.value (h.stored held.buffer) at.1

of_stored : (facts : Facts) (w : World) (b : SeenBuffers) (buffer : ℕ) (v : StoredValue) → IsStored w buffer v → Trades facts w b → IsIn (values_in b.stored buffer) v
of_stored facts w b buffer v s h = shuffled_from (values_in b.stored buffer) (stored_in w buffer) s.0 v (h.stored buffer) s.1

candidate_by : (facts : Facts) (w : World) (b : SeenBuffers) (held : Held) (most : Option ℕ) → IsCandidateOf most b held → Trades facts w b → worlds.IsCandidateOf most w held.buffer held.value
candidate_by facts w b held None may h = stored_of facts w b held may h
candidate_by facts w b held (Some zero) may h = offered_of facts w b held may h
candidate_by facts w b held (Some (suc n)) may h = stored_of facts w b held may h

by_candidate : (facts : Facts) (w : World) (b : SeenBuffers) (buffer : ℕ) (v : StoredValue) (most : Option ℕ) → worlds.IsCandidateOf most w buffer v → Trades facts w b → IsCandidateOf most b (record { buffer = buffer; value = v })
by_candidate facts w b buffer v None may h = of_stored facts w b buffer v may h
by_candidate facts w b buffer v (Some zero) may h = of_offered facts w b buffer v may h
by_candidate facts w b buffer v (Some (suc n)) may h = of_stored facts w b buffer v may h

pub same_length : (facts : Facts) (w : World) (b : SeenBuffers) (buffer : ℕ) → Trades facts w b → slice_index_or b.lengths buffer None ≡ buffer_length facts buffer
same_length facts w b buffer h = ap (λ (l : List (Option ℕ)). slice_index_or l buffer None) h.lengths

pub candidate_of : (facts : Facts) (w : World) (b : SeenBuffers) (held : Held) → IsCandidate b held → Trades facts w b → worlds.IsCandidate facts w held.buffer held.value
candidate_of facts w b held may h = candidate_by facts w b held (buffer_length facts held.buffer) (subst (λ (l : Option ℕ). IsCandidateOf l b held) (same_length facts w b held.buffer h) may) h

pub of_candidate : (facts : Facts) (w : World) (b : SeenBuffers) (buffer : ℕ) (v : StoredValue) → worlds.IsCandidate facts w buffer v → Trades facts w b → IsCandidate b (record { buffer = buffer; value = v })
of_candidate facts w b buffer v may h = subst (λ (l : Option ℕ). IsCandidateOf l b (record { buffer = buffer; value = v })) (sym (same_length facts w b buffer h)) (by_candidate facts w b buffer v (buffer_length facts buffer) may h)

rank_low : (r s : Rank) → IsFalse (precedes_in r s) → r.priority ≤ s.priority
rank_low r s below = grind (arith, nat_tests)

-- nothing to take for the part is nothing to take in the world
pub nothing_taken : (facts : Facts) (w : World) (b : SeenBuffers) (buffers : List Alternative) → NoCandidate b buffers → Trades facts w b → NothingToTake facts w buffers
nothing_taken facts w b buffers none h buffer n v listed may = let no = none (record { buffer = buffer; value = v }) (of_candidate facts w b buffer v may h) in let f : ⊥ = cc in f

refill_by : (facts : Facts) (w : World) (old : SeenBuffers) (new : Values) (send buffer : ℕ) (refill : Option ℕ) → RefillsBy (values_but send old) new buffer refill → Trades facts w old → IsRefillBy w buffer refill
refill_by facts w old new send buffer None r h = λ v offered. r.0 (record { buffer = buffer; value = v }) (of_offered facts w old buffer v offered h) refl
refill_by facts w old new send buffer (Some sender) r h = (
  r.offer.value,
  r.sender_is,
  subst (λ (n : ℕ). IsOffered w n r.offer.value) r.buffer_is (offered_of facts w old r.offer r.waits h),
  λ v offered. rank_low (rank_of v) (rank_of r.offer.value) (r.best (record { buffer = buffer; value = v }) (of_offered facts w old buffer v offered h) refl),
)

refill_at : (facts : Facts) (w : World) (old : SeenBuffers) (new : Values) (send buffer by : ℕ) (refill : Option ℕ) (most : Option ℕ) → Refills most (values_but send old) new buffer by refill → Trades facts w old → IsRefill most w buffer by refill
refill_at facts w old new send buffer by refill None r h = r.0
refill_at facts w old new send buffer by refill (Some zero) r h = r.0
refill_at facts w old new send buffer by refill (Some (suc n)) r h = refill_by facts w old new send buffer refill r h

-- the value that the part takes may be taken in the world
pub takes_value : (facts : Facts) (w : World) (old new : SeenBuffers) (buffers : List Alternative) (taken : Held) (refill : Option ℕ) → (choice : IsChoice old buffers taken) → Refills (slice_index_or old.lengths taken.buffer None) (values_but taken.value.send old) (values_of new) taken.buffer taken.value.sender refill → Trades facts w old → TakesValue facts w buffers choice.alternative taken.value refill
takes_value facts w old new buffers taken refill choice r h = record {
  buffer = taken.buffer;
  listed = choice.listed;
  candidate = candidate_of facts w old taken choice.candidate h;
  highest = λ b n other listed may. rank_low (rank_of other) (rank_of taken.value) (choice.best (record { buffer = b; value = other }) (of_candidate facts w old b other may h) (subst (λ (o : Option ℕ). IsSome o) (sym listed) refl));
  refills = refill_at facts w old (values_of new) taken.value.send taken.buffer taken.value.sender refill (buffer_length facts taken.buffer) (subst (λ (l : Option ℕ). Refills l (values_but taken.value.send old) (values_of new) taken.buffer taken.value.sender refill) (same_length facts w old taken.buffer h) r) h;
}
