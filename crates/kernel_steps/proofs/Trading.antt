-- The values in buffers, those that wait to send and to receive, and the world.
use Rattle.std.proofs.Common.{◌≡◌, ℕ, ◌<◌, Bool, true, not, List, [], ◌∷◌, ◌++◌, length, map, refl, sym, ap, ◌∙◌, inl, inr, Option, Some, None, slice_get, slice_set, subst}
use Rattle.std.specs.Prelude.{◌==◌, slice_index_or, is_some}
use Rattle.std.specs.Option.{option_and_then}
use Rattle.std.proofs.lemmas.Bool.{cases_eq}
use Rattle.kernel_base.specs.declared.facts.Facts.{Facts}
use Rattle.kernel_base.specs.declared.request.Alternative.{Alternative}
use Rattle.kernel_base.specs.declared.request.Request.TheVariants.{Read, Write, Enter, Leave, Delay, Continue, SendBuffer, ReceiveBuffer, SendSignal, ReceiveSignal, Start, Put, Get, End}
use Rattle.world_model.specs.declared.world.Phase.{Phase}
use Rattle.world_model.specs.declared.world.Phase.TheVariants.{Active, Waiting, Chosen, Ended}
use Rattle.world_model.specs.declared.world.StoredValue.{StoredValue}
use Rattle.world_model.specs.declared.world.World.{World}
use Rattle.world_model.specs.declared.waiting.Waiter.{Waiter}
use Rattle.world_model.specs.Lists.{number_for}
use Rattle.world_model.specs.Waiting.{phase_of, waiter_for, buffer_receiver_in, buffer_receiver}
use Rattle.world_model.specs.World.{stored_in, buffer_length, values_but}
use Rattle.world_model.specs.Allowed.{NobodyReceives, has_room, is_below}
use Rattle.world_model.proofs.ChangedLists.{read_elsewhere}
use Rattle.world_model.proofs.Stores.{read_mapped}
use Rattle.kernel_lists.specs.Once.{entry_of}
use Rattle.kernel_lists.proofs.Entries.{found_at, none_passes}
use Rattle.buffers_signals.specs.declared.messages.Held.{Held}
use Rattle.buffers_signals.specs.declared.messages.Receiver.{Receiver}
use Rattle.value_queues.specs.Queues.{values_in, placed, with_placed, stored_but}
use Rattle.buffers_signals.specs.Lists.{receiver_of, lists}
use Rattle.buffers_signals.specs.Buffers.{SeenBuffers, receiver_for, takes_more}
use Rattle.kernel_steps.specs.Queued.{receiving_in, Trades}
use Rattle.kernel_steps.specs.Shuffled.{Shuffled}
use Rattle.kernel_steps.proofs.Shuffled.{shuffled_placed, shuffled_filter, shuffled_length}
use Rattle.kernel_steps.proofs.Keyed.{found_there}
use Rattle.kernel_steps.proofs.Placed.{read_written}

-- the values of the buffers and of the world are the same
abbrev pub SameStored : List (List StoredValue) → World → Type 0
SameStored stored w = (q : ℕ) → Shuffled (values_in stored q) (stored_in w q)

pub stored_kept : (w w' : World) (old new : List (List StoredValue)) → w'.stored ≡ w.stored → new ≡ old → SameStored old w → SameStored new w'
stored_kept w w' old new is same before q =
    subst (λ (all : List (List StoredValue)). Shuffled (values_in new q) (slice_index_or all q [])) (sym is) (subst (λ (all : List (List StoredValue)). Shuffled (values_in all q) (stored_in w q)) (sym same) (before q))

-- one more value
pub stored_push : (w w' : World) (old new : List (List StoredValue)) (one : Held) → one.buffer < length w.stored → one.buffer < length old → w'.stored ≡ slice_set w.stored one.buffer (stored_in w one.buffer ++ one.value ∷ []) → new ≡ with_placed old one.buffer one.value
    → SameStored old w → SameStored new w'
stored_push w w' old new one low there is more before q =
    let world : List (List StoredValue) = slice_set w.stored one.buffer (stored_in w one.buffer ++ one.value ∷ []) in
    let now : Shuffled (values_in (with_placed old one.buffer one.value) q) (slice_index_or world q []) = elim (cases_eq q one.buffer) [
      | inl same ↦ (let here = shuffled_placed one.value (values_in old one.buffer) (stored_in w one.buffer) (before one.buffer) in
          let part = subst (λ (l : List StoredValue). Shuffled l (stored_in w one.buffer ++ one.value ∷ [])) (sym (read_written old one.buffer (placed one.value (values_in old one.buffer)) [] there)) here in
          let all = subst (λ (l : List StoredValue). Shuffled (values_in (with_placed old one.buffer one.value) one.buffer) l) (sym (read_written w.stored one.buffer (stored_in w one.buffer ++ one.value ∷ []) [] low)) part in
          subst (λ (n : ℕ). Shuffled (values_in (with_placed old one.buffer one.value) n) (slice_index_or (slice_set w.stored one.buffer (stored_in w one.buffer ++ one.value ∷ [])) n [])) (sym same) all)
      | inr apart ↦ (let part = subst (λ (l : List StoredValue). Shuffled l (stored_in w q)) (sym (read_elsewhere old one.buffer q (placed one.value (values_in old one.buffer)) [] apart)) (before q) in
          subst (λ (l : List StoredValue). Shuffled (values_in (with_placed old one.buffer one.value) q) l) (sym (read_elsewhere w.stored one.buffer q (stored_in w one.buffer ++ one.value ∷ []) [] apart)) part)
    ] in
    subst (λ (all : List (List StoredValue)). Shuffled (values_in new q) (slice_index_or all q [])) (sym is) (subst (λ (all : List (List StoredValue)). Shuffled (values_in all q) (slice_index_or world q [])) (sym more) now)

-- without the value of a send number
pub stored_without : (w w' : World) (old new : List (List StoredValue)) (send : ℕ) → w'.stored ≡ map (values_but send) w.stored → new ≡ stored_but send old → SameStored old w → SameStored new w'
stored_without w w' old new send is less before q =
    let part = shuffled_filter (λ (value : StoredValue). not (value.send == send)) (values_in old q) (stored_in w q) (before q) in
    let left = subst (λ (l : List StoredValue). Shuffled l (values_but send (stored_in w q))) (sym (read_mapped (values_but send) old q refl)) part in
    let all = subst (λ (l : List StoredValue). Shuffled (values_in (stored_but send old) q) l) (sym (read_mapped (values_but send) w.stored q refl)) left in
    subst (λ (all : List (List StoredValue)). Shuffled (values_in new q) (slice_index_or all q [])) (sym is) (subst (λ (l : List (List StoredValue)). Shuffled (values_in l q) (slice_index_or (map (values_but send) w.stored) q [])) (sym less) all)

-- what a phase tells of one that waits to receive
pub record Receives (w : World) (r : Receiver) : Type 0 where
  pub otherwise : Bool
  pub send : Option ℕ
  pub back : Option ℕ
  pub is : phase_of w r.who ≡ Some (Waiting (ReceiveBuffer r.things otherwise) send back)

receives_by_phase : (w : World) (who : ℕ) (r : Receiver) (phase : Phase) → phase_of w who ≡ Some phase → receiving_in w.processes who phase ≡ Some r → Receives w r
receives_by_phase w who r (Waiting (ReceiveBuffer buffers otherwise) send back) at told =
    let e : record { who = who; process = slice_index_or w.processes who 0; things = buffers } ≡ r = cc in
    record { otherwise = otherwise; send = send; back = back; is = ap (λ (x : Receiver). phase_of w x.who) (sym e) ∙ at ∙ ap (λ (x : Receiver). Some (Waiting (ReceiveBuffer x.things otherwise) send back)) e }
receives_by_phase w who r (Waiting (Read place) send back) at told = absurd (let f : ⊥ = cc in f)
receives_by_phase w who r (Waiting (Write place scalars) send back) at told = absurd (let f : ⊥ = cc in f)
receives_by_phase w who r (Waiting (Enter region) send back) at told = absurd (let f : ⊥ = cc in f)
receives_by_phase w who r (Waiting (Leave region) send back) at told = absurd (let f : ⊥ = cc in f)
receives_by_phase w who r (Waiting (Delay events priority) send back) at told = absurd (let f : ⊥ = cc in f)
receives_by_phase w who r (Waiting (Continue event) send back) at told = absurd (let f : ⊥ = cc in f)
receives_by_phase w who r (Waiting (SendBuffer buffer scalars priority) send back) at told = absurd (let f : ⊥ = cc in f)
receives_by_phase w who r (Waiting (SendSignal signal scalars to priority) send back) at told = absurd (let f : ⊥ = cc in f)
receives_by_phase w who r (Waiting (ReceiveSignal signals otherwise) send back) at told = absurd (let f : ⊥ = cc in f)
receives_by_phase w who r (Waiting (Start process scalars) send back) at told = absurd (let f : ⊥ = cc in f)
receives_by_phase w who r (Waiting (Put bytes) send back) at told = absurd (let f : ⊥ = cc in f)
receives_by_phase w who r (Waiting Get send back) at told = absurd (let f : ⊥ = cc in f)
receives_by_phase w who r (Waiting (End how) send back) at told = absurd (let f : ⊥ = cc in f)
receives_by_phase w who r Active at told = absurd (let f : ⊥ = cc in f)
receives_by_phase w who r (Chosen answer back) at told = absurd (let f : ⊥ = cc in f)
receives_by_phase w who r (Ended how) at told = absurd (let f : ⊥ = cc in f)

receives_at : (w : World) (who : ℕ) (r : Receiver) (phase : Option Phase) → phase_of w who ≡ phase → option_and_then (receiving_in w.processes who) phase ≡ Some r → Receives w r
receives_at w who r None at told = absurd (let f : ⊥ = cc in f)
receives_at w who r (Some phase) at told = receives_by_phase w who r phase at told

pub receiver_waits : (facts : Facts) (w : World) (b : SeenBuffers) (k : ℕ) (r : Receiver) → slice_get b.receivers k ≡ Some r → Trades facts w b → Receives w r
receiver_waits facts w b k r at h = receives_at w r.who r (phase_of w r.who) refl (sym (h.receivers.each r.who) ∙ h.receivers.once k r at)

-- the first receiver may be handed the value
pub record MayHand (w : World) (buffer : ℕ) (r : Receiver) (alternative : ℕ) : Type 0 where
  pub otherwise : Bool
  pub send : Option ℕ
  pub back : Option ℕ
  pub is : phase_of w r.who ≡ Some (Waiting (ReceiveBuffer r.things otherwise) send back)
  pub found : buffer_receiver w buffer r.who ≡ Some (record { alternative = alternative; priority = 0; back = back })

pub may_hand : (facts : Facts) (w : World) (b : SeenBuffers) (buffer : ℕ) (r : Receiver) (alternative : ℕ) → receiver_for b buffer ≡ Some r → number_for r.things buffer ≡ Some alternative → Trades facts w b → MayHand w buffer r alternative
may_hand facts w b buffer r alternative first listed h =
    let there = found_at (lists buffer) b.receivers r first in
    let t = receiver_waits facts w b there.0.0 r there.0.1 h in
    record { otherwise = t.otherwise; send = t.send; back = t.back; is = t.is; found = ap (option_and_then (buffer_receiver_in buffer)) t.is ∙ ap (λ n. waiter_for n 0 t.back) listed }

-- what a phase tells of a receiver of the world
pub record IsReceiver (w : World) (buffer who : ℕ) : Type 0 where
  pub buffers : List Alternative
  pub otherwise : Bool
  pub send : Option ℕ
  pub back : Option ℕ
  pub is : phase_of w who ≡ Some (Waiting (ReceiveBuffer buffers otherwise) send back)
  pub number : ℕ
  pub listed : number_for buffers buffer ≡ Some number

receiver_by_number : (w : World) (buffer who : ℕ) (waiter : Waiter) (buffers : List Alternative) (otherwise : Bool) (send back n : Option ℕ) → phase_of w who ≡ Some (Waiting (ReceiveBuffer buffers otherwise) send back) → number_for buffers buffer ≡ n → waiter_for n 0 back ≡ Some waiter → IsReceiver w buffer who
receiver_by_number w buffer who waiter buffers otherwise send back None at is told = absurd (let f : ⊥ = cc in f)
receiver_by_number w buffer who waiter buffers otherwise send back (Some n) at is told = record { buffers = buffers; otherwise = otherwise; send = send; back = back; is = at; number = n; listed = is }

receiver_by_phase : (w : World) (b who : ℕ) (waiter : Waiter) (phase : Phase) → phase_of w who ≡ Some phase → buffer_receiver_in b phase ≡ Some waiter → IsReceiver w b who
receiver_by_phase w b who waiter (Waiting (ReceiveBuffer buffers otherwise) send back) at told = receiver_by_number w b who waiter buffers otherwise send back (number_for buffers b) at refl told
receiver_by_phase w b who waiter (Waiting (Read place) send back) at told = absurd (let f : ⊥ = cc in f)
receiver_by_phase w b who waiter (Waiting (Write place scalars) send back) at told = absurd (let f : ⊥ = cc in f)
receiver_by_phase w b who waiter (Waiting (Enter region) send back) at told = absurd (let f : ⊥ = cc in f)
receiver_by_phase w b who waiter (Waiting (Leave region) send back) at told = absurd (let f : ⊥ = cc in f)
receiver_by_phase w b who waiter (Waiting (Delay events priority) send back) at told = absurd (let f : ⊥ = cc in f)
receiver_by_phase w b who waiter (Waiting (Continue event) send back) at told = absurd (let f : ⊥ = cc in f)
receiver_by_phase w b who waiter (Waiting (SendBuffer buffer scalars priority) send back) at told = absurd (let f : ⊥ = cc in f)
receiver_by_phase w b who waiter (Waiting (SendSignal signal scalars to priority) send back) at told = absurd (let f : ⊥ = cc in f)
receiver_by_phase w b who waiter (Waiting (ReceiveSignal signals otherwise) send back) at told = absurd (let f : ⊥ = cc in f)
receiver_by_phase w b who waiter (Waiting (Start process scalars) send back) at told = absurd (let f : ⊥ = cc in f)
receiver_by_phase w b who waiter (Waiting (Put bytes) send back) at told = absurd (let f : ⊥ = cc in f)
receiver_by_phase w b who waiter (Waiting Get send back) at told = absurd (let f : ⊥ = cc in f)
receiver_by_phase w b who waiter (Waiting (End how) send back) at told = absurd (let f : ⊥ = cc in f)
receiver_by_phase w b who waiter Active at told = absurd (let f : ⊥ = cc in f)
receiver_by_phase w b who waiter (Chosen answer back) at told = absurd (let f : ⊥ = cc in f)
receiver_by_phase w b who waiter (Ended how) at told = absurd (let f : ⊥ = cc in f)

receiver_at : (w : World) (b who : ℕ) (waiter : Waiter) (phase : Option Phase) → phase_of w who ≡ phase → option_and_then (buffer_receiver_in b) phase ≡ Some waiter → IsReceiver w b who
receiver_at w b who waiter None at told = absurd (let f : ⊥ = cc in f)
receiver_at w b who waiter (Some phase) at told = receiver_by_phase w b who waiter phase at told

-- no receiver in the list is none in the world
nobody_by : (facts : Facts) (w : World) (s : SeenBuffers) (buffer who : ℕ) (waiter : Option Waiter) → buffer_receiver w buffer who ≡ waiter → receiver_for s buffer ≡ None → Trades facts w s → waiter ≡ None
nobody_by facts w s buffer who None is none h = refl
nobody_by facts w s buffer who (Some waiter) is none h = absurd (
    let t = receiver_at w buffer who waiter (phase_of w who) refl is in
    let r : Receiver = record { who = who; process = slice_index_or w.processes who 0; things = t.buffers } in
    let entry : entry_of receiver_of s.receivers who ≡ Some r = h.receivers.each who ∙ ap (option_and_then (receiving_in w.processes who)) t.is in
    let there = found_there receiver_of s.receivers who r entry in
    let fails = none_passes (lists buffer) s.receivers there.0 r none there.1 in
    let passes : lists buffer r ≡ true = ap is_some t.listed in
    let f : ⊥ = cc in f)

pub nobody_receives : (facts : Facts) (w : World) (s : SeenBuffers) (buffer : ℕ) → receiver_for s buffer ≡ None → Trades facts w s → NobodyReceives w buffer
nobody_receives facts w s buffer none h p = nobody_by facts w s buffer p (buffer_receiver w buffer p) refl none h

-- the room of a buffer
pub room_same : (facts : Facts) (w : World) (s : SeenBuffers) (buffer : ℕ) → Trades facts w s → takes_more s buffer ≡ has_room facts w buffer
room_same facts w s buffer h = ap (λ (lengths : List (Option ℕ)). is_below (slice_index_or lengths buffer None) (length (values_in s.stored buffer))) h.lengths ∙ ap (is_below (buffer_length facts buffer)) (shuffled_length (values_in s.stored buffer) (stored_in w buffer) (h.stored buffer))
