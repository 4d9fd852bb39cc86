-- Each value that is on its way was sent by an earlier event.
use Rattle.std.proofs.Common.{◌≡◌, ◌+◌, ℕ, zero, suc, Bool, not, List, [], ◌∷◌, ◌++◌, ℤ, length, map, replicate, refl, sym, ap, ap₂, ◌∙◌, subst, inl, inr, Option, Some, None, slice_get, append_assoc}
use Rattle.std.specs.Prelude.{◌==◌, slice_index_or}
use Rattle.std.specs.Option.{option_and_then}
use Rattle.std.proofs.lemmas.Bool.{cases_eq}
use Rattle.kernel_base.specs.declared.facts.Facts.{Facts}
use Rattle.kernel_base.specs.declared.ends.How.TheVariants.{Normal}
use Rattle.kernel_base.specs.declared.request.Request.{Request}
use Rattle.kernel_base.specs.declared.request.Request.TheVariants.{Read, Write, Enter, Leave, Delay, Continue, SendBuffer, ReceiveBuffer, SendSignal, ReceiveSignal, Start, Put, Get, End}
use Rattle.kernel_base.specs.declared.answer.Answer.{Answer}
use Rattle.kernel_base.specs.declared.answer.Answer.TheVariants.{Done, Woken, Got, Otherwise, Instance, Fail, Chose, Handed, Stored}
use Rattle.kernel_base.specs.declared.event.Event.{Event}
use Rattle.kernel_base.specs.declared.event.Event.TheVariants.{Did, Waits, Goes, Runs}
use Rattle.world_model.specs.declared.world.Phase.{Phase}
use Rattle.world_model.specs.declared.world.Phase.TheVariants.{Active, Waiting, Chosen, Ended}
use Rattle.world_model.specs.declared.world.StoredValue.{StoredValue}
use Rattle.world_model.specs.declared.world.PendingSignal.{PendingSignal}
use Rattle.world_model.specs.declared.world.World.{World}
use Rattle.world_model.specs.Lists.{last_of}
use Rattle.world_model.specs.declared.waiting.Waiter.{Waiter}
use Rattle.world_model.specs.declared.waiting.Offer.{Offer}
use Rattle.world_model.specs.Waiting.{phase_of, sleeper, buffer_receiver, signal_receiver, offer_in, offer}
use Rattle.world_model.specs.World.{opening, after_all, with_phase, occupant, held_by, locked_back, back_in, freed_last, with_drawn, chosen, with_next_send, next_value, stored_in, with_stored, values_but, refilled, refilled_by, refilled_buffer, buffer_length, after_continue, after_send_buffer, after_receive_buffer, after_send_signal, after_receive_signal, after_start, after_request, after_waits, after}
use Rattle.world_model.specs.Allowed.{IsPossible, IsCandidateOf, ReceivesFromBuffer, ReceivesSignal}
use Rattle.world_model.specs.Laws.{Message, message_got, got_in, next_message, sent_at_once, sent_later, sent_in, if_sent, WasSent, EachValueOnceLaw}
use Rattle.world_model.proofs.RunParts.{rest_runs}
use Rattle.world_model.proofs.ChangedLists.{read_elsewhere, read_here, pushed_or_old, written_or_old}
use Rattle.world_model.proofs.Freeing.{freeing_kept, back_kept}
use Rattle.world_model.proofs.Stores.{KeepsStores, in_filter, read_mapped, entered_stores, left_stores}
use Rattle.world_model.proofs.PhaseMoves.{entered_phases, left_phases}
use Rattle.world_model.proofs.Well.{freeing_stores, back_stores}
use Rattle.kernel_base.specs.declared.ends.Exc.TheVariants.{Delayfail}
use Rattle.std.proofs.Common.{append-nil}
use Rattle.world_model.specs.World.{refusal}
use Rattle.world_model.specs.Input.{get_answer, behind_separators}
use Rattle.world_model.proofs.NumbersGotOnce.{got_once}
use Rattle.world_model.proofs.Counting.{continue_none, send_none, signal_none, start_none, get_none}

abbrev message_of : StoredValue → Message
message_of value = record { number = value.send; sender = value.sender; scalars = value.scalars }

-- the value that an instance sends or was handed
abbrev held_in : ℕ → Phase → Option Message
held_in p (Waiting (SendBuffer buffer scalars priority) (Some send) back) = Some (record { number = send; sender = p; scalars = scalars })
held_in p (Chosen answer back) = message_got answer
held_in p phase = None

abbrev told_by : Option Offer → Option Message
told_by None = None
told_by (Some o) = Some (message_of o.value)

module _ (K : Message → Type 0) where
  -- all that is stored, pending, sent by one that waits or handed to one that was chosen is known
  record AllKnown (w : World) : Type 0 where
    values : (buffer k : ℕ) (value : StoredValue) → slice_get (stored_in w buffer) k ≡ Some value → K (message_of value)
    signals : (k : ℕ) (signal : PendingSignal) → slice_get w.pending k ≡ Some signal → K (message_of signal.value)
    phases : (p : ℕ) (phase : Phase) (message : Message) → slice_get w.phases p ≡ Some phase → held_in p phase ≡ Some message → K message

  kept_known : (old new : World) → KeepsStores old new → new.phases ≡ old.phases → AllKnown old → AllKnown new
  kept_known old new kept same known = record {
    values = λ buffer k value at. known.values buffer k value (ap (λ (ss : List (List StoredValue)). slice_get (slice_index_or ss buffer []) k) (sym kept.1) ∙ at);
    signals = λ k signal at. known.signals k signal (ap (λ (ps : List PendingSignal). slice_get ps k) (sym kept.2) ∙ at);
    phases = λ p phase message at is. known.phases p phase message (ap (λ (ps : List Phase). slice_get ps p) (sym same) ∙ at) is;
  }

  set_known : (w : World) (p : ℕ) (new : Phase) → ((message : Message) → held_in p new ≡ Some message → K message) → AllKnown w → AllKnown (with_phase w p new)
  set_known w p new fresh known = record {
    values = known.values;
    signals = known.signals;
    phases = λ q phase message at is. elim (written_or_old w.phases p q new phase at) [
      | inl here ↦ fresh message (ap₂ held_in (sym here.0) (sym here.1) ∙ is)
      | inr old ↦ known.phases q phase message old is
    ];
  }

  chosen_known : (w : World) (p : ℕ) (waiter : Option Waiter) (answer : ℕ → Answer) → ((alternative : ℕ) (message : Message) → message_got (answer alternative) ≡ Some message → K message) → AllKnown w → AllKnown (chosen w p waiter answer)
  chosen_known w p None answer fresh known = known
  chosen_known w p (Some waiter) answer fresh known = set_known w p (Chosen (answer waiter.alternative) waiter.back) (fresh waiter.alternative) known

  in_pushed : (w : World) (buffer : ℕ) (value : StoredValue) → K (message_of value) → AllKnown w → (k : ℕ) (v : StoredValue) → slice_get (stored_in (with_stored w buffer value) buffer) k ≡ Some v → K (message_of v)
  in_pushed w buffer value is known k v at = elim (read_here w.stored buffer (stored_in w buffer ++ value ∷ []) []) [
    | inr none ↦ absurd (let e : slice_get [] k ≡ Some v = ap (λ (vs : List StoredValue). slice_get vs k) (sym none) ∙ at in let f : ⊥ = cc in f)
    | inl new ↦ elim (pushed_or_old (stored_in w buffer) k value v (ap (λ (vs : List StoredValue). slice_get vs k) (sym new) ∙ at)) [
      | inl last ↦ subst (λ (x : StoredValue). K (message_of x)) (sym last.1) is
      | inr old ↦ known.values buffer k v old
    ]
  ]

  stored_known : (w : World) (buffer : ℕ) (value : StoredValue) → K (message_of value) → AllKnown w → AllKnown (with_stored w buffer value)
  stored_known w buffer value is known = record {
    values = λ b k v at. elim (cases_eq b buffer) [
      | inr apart ↦ known.values b k v (ap (λ (vs : List StoredValue). slice_get vs k) (sym (read_elsewhere w.stored buffer b (stored_in w buffer ++ value ∷ []) [] apart)) ∙ at)
      | inl same ↦ in_pushed w buffer value is known k v (ap (λ (n : ℕ). slice_get (stored_in (with_stored w buffer value) n) k) (sym same) ∙ at)
    ];
    signals = known.signals;
    phases = known.phases;
  }

  without_known : (w : World) (send : ℕ) → AllKnown w → AllKnown (record w { stored = map (values_but send) w.stored })
  without_known w send known = record {
    values = λ buffer k value at.
        let kept = in_filter (λ (v : StoredValue). not (v.send == send)) (stored_in w buffer) k value (ap (λ (vs : List StoredValue). slice_get vs k) (sym (read_mapped (values_but send) w.stored buffer refl)) ∙ at) in
        known.values buffer kept.0 value kept.1;
    signals = known.signals;
    phases = known.phases;
  }

  -- the value that is offered is one that its sender holds
  offer_held : (p : ℕ) (old : Option Phase) (o : Offer) → option_and_then (offer_in p) old ≡ Some o → (phase : Phase) × (old ≡ Some phase) × (held_in p phase ≡ Some (message_of o.value))
  offer_held p None o is = absurd (let f : ⊥ = cc in f)
  offer_held p (Some (Waiting (SendBuffer buffer scalars priority) (Some send) back)) o is = (Waiting (SendBuffer buffer scalars priority) (Some send) back, refl, ap (λ (x : Option Offer). told_by x) is)
  offer_held p (Some phase) o is = absurd (let f : ⊥ = cc in f)

  offered_known : (w : World) (p : ℕ) (o : Offer) → offer w p ≡ Some o → AllKnown w → K (message_of o.value)
  offered_known w p o is known = let held = offer_held p (phase_of w p) o is in known.phases p held.0 (message_of o.value) held.1 held.2

  refilled_buffer_known : (w : World) (length : Option ℕ) (o : Offer) → K (message_of o.value) → AllKnown w → AllKnown (refilled_buffer w length o)
  refilled_buffer_known w None o is known = stored_known w o.buffer o.value is known
  refilled_buffer_known w (Some zero) o is known = known
  refilled_buffer_known w (Some (suc n)) o is known = stored_known w o.buffer o.value is known

  refilled_by_known : (facts : Facts) (w : World) (sender : ℕ) (o : Option Offer) → offer w sender ≡ o → AllKnown w → AllKnown (refilled_by facts w sender o)
  refilled_by_known facts w sender None is known = known
  refilled_by_known facts w sender (Some o) is known =
      set_known (refilled_buffer w (buffer_length facts o.buffer) o) sender (Chosen Stored o.back) (λ message none. absurd (let f : ⊥ = cc in f))
      (refilled_buffer_known w (buffer_length facts o.buffer) o (offered_known w sender o is known) known)

  refilled_known : (facts : Facts) (w : World) (refill : Option ℕ) → AllKnown w → AllKnown (refilled facts w refill)
  refilled_known facts w None known = known
  refilled_known facts w (Some sender) known = refilled_by_known facts w sender (offer w sender) refl known

  receive_known : (facts : Facts) (w : World) (answer : Answer) (refill : Option ℕ) → AllKnown w → AllKnown (after_receive_buffer facts w answer refill)
  receive_known facts w (Got alternative send scalars by) refill known = refilled_known facts (record w { stored = map (values_but send) w.stored }) refill (without_known w send known)
  receive_known facts w answer refill known = known

  continue_known : (w : World) (who event : ℕ) (answer : Answer) → AllKnown w → AllKnown (after_continue w who event answer)
  continue_known w who event (Chose (Some p)) known = chosen_known w p (sleeper w event p) (λ alternative. Woken alternative who) (λ alternative message none. absurd (let f : ⊥ = cc in f)) known
  continue_known w who event answer known = known

  handed : (w : World) (who : ℕ) (scalars : List ℤ) → K (next_message w who scalars) → (alternative : ℕ) (message : Message) → message_got (Got alternative (w.sends + 1) scalars who) ≡ Some message → K message
  handed w who scalars is alternative message same = subst K (let e : next_message w who scalars ≡ message = cc in e) is

  next_known : (w : World) → AllKnown w → AllKnown (with_next_send w)
  next_known w known = record { values = known.values; signals = known.signals; phases = known.phases }

  send_known : (w : World) (who buffer : ℕ) (scalars : List ℤ) (priority : ℕ) (answer : Answer) → K (next_message w who scalars) → AllKnown w → AllKnown (after_send_buffer w who buffer scalars priority answer)
  send_known w who buffer scalars priority (Handed p) is known = chosen_known (with_next_send w) p (buffer_receiver w buffer p) (λ alternative. Got alternative (w.sends + 1) scalars who) (handed w who scalars is) (next_known w known)
  send_known w who buffer scalars priority answer is known = stored_known (with_next_send w) buffer (next_value w who scalars priority) is (next_known w known)

  signal_known : (facts : Facts) (w : World) (who signal : ℕ) (scalars : List ℤ) (to : Option ℕ) (priority : ℕ) (answer : Answer) → (if_sent answer (next_message w who scalars) ≡ Some (next_message w who scalars) → K (next_message w who scalars)) → AllKnown w → AllKnown (after_send_signal facts w who signal scalars to priority answer)
  signal_known facts w who signal scalars to priority (Handed p) is known = chosen_known (with_next_send w) p (signal_receiver facts w signal to p) (λ alternative. Got alternative (w.sends + 1) scalars who) (handed w who scalars (is refl)) (next_known w known)
  signal_known facts w who signal scalars to priority Stored is known = record {
    values = known.values;
    signals = λ k s at. elim (pushed_or_old w.pending k (record { signal = signal; to = to; value = next_value w who scalars priority }) s at) [
      | inl last ↦ subst (λ (x : PendingSignal). K (message_of x.value)) (sym last.1) (is refl)
      | inr old ↦ known.signals k s old
    ];
    phases = known.phases;
  }
  signal_known facts w who signal scalars to priority answer is known = known

  hear_known : (w : World) (answer : Answer) → AllKnown w → AllKnown (after_receive_signal w answer)
  hear_known w (Got alternative send scalars by) known = record {
    values = known.values;
    signals = λ k s at. let kept = in_filter (λ (x : PendingSignal). not (x.value.send == send)) w.pending k s at in known.signals kept.0 s kept.1;
    phases = known.phases;
  }
  hear_known w answer known = known

  start_known : (w : World) (process : ℕ) (scalars : List ℤ) (answer : Answer) → AllKnown w → AllKnown (after_start w process scalars answer)
  start_known w process scalars (Instance i) known = record {
    values = known.values;
    signals = known.signals;
    phases = λ p phase message at is. elim (pushed_or_old w.phases p Active phase at) [
      | inl here ↦ absurd (let e : None ≡ Some message = ap (held_in p) (sym here.1) ∙ is in let f : ⊥ = cc in f)
      | inr old ↦ known.phases p phase message old is
    ];
  }
  start_known w process scalars answer known = known

  did_known : (facts : Facts) (w : World) (who : ℕ) (request : Request) (answer : Answer) (refill : Option ℕ) → ((message : Message) → sent_at_once w who request answer ≡ Some message → K message) → AllKnown w → AllKnown (after_request facts w who request answer refill)
  did_known facts w who (Read place) answer refill fresh known = known
  did_known facts w who (Write place scalars) answer refill fresh known = record { values = known.values; signals = known.signals; phases = known.phases }
  did_known facts w who (Enter at) answer refill fresh known = kept_known w _ (entered_stores w who at (occupant w at)) (entered_phases w who at (occupant w at)) known
  did_known facts w who (Leave at) answer refill fresh known = kept_known w _ (left_stores w who at (occupant w at)) (left_phases w who at (occupant w at)) known
  did_known facts w who (Delay events priority) answer refill fresh known = known
  did_known facts w who (Continue event) answer refill fresh known = continue_known w who event answer known
  did_known facts w who (SendBuffer buffer scalars priority) answer refill fresh known = send_known w who buffer scalars priority answer (fresh (next_message w who scalars) refl) known
  did_known facts w who (ReceiveBuffer buffers otherwise) answer refill fresh known = receive_known facts w answer refill known
  did_known facts w who (SendSignal signal scalars to priority) answer refill fresh known = signal_known facts w who signal scalars to priority answer (fresh (next_message w who scalars)) known
  did_known facts w who (ReceiveSignal signals otherwise) answer refill fresh known = hear_known w answer known
  did_known facts w who (Start process scalars) answer refill fresh known = start_known w process scalars answer known
  did_known facts w who (Put bytes) answer refill fresh known = record { values = known.values; signals = known.signals; phases = known.phases }
  did_known facts w who Get answer refill fresh known = record { values = known.values; signals = known.signals; phases = known.phases }
  did_known facts w who (End how) answer refill fresh known =
      let set = set_known w who (Ended how) (λ message none. absurd (let f : ⊥ = cc in f)) known in record { values = set.values; signals = set.signals; phases = set.phases }

  waits_known : (w : World) (who : ℕ) (request : Request) → ((message : Message) → sent_later w who request ≡ Some message → K message) → AllKnown w → AllKnown (after_waits w who request)
  waits_known w who (Enter region) fresh known = set_known w who (Chosen Done (Some region)) (λ message none. absurd (let f : ⊥ = cc in f)) known
  waits_known w who (SendBuffer buffer scalars priority) fresh known =
      let back : Option ℕ = last_of (held_by w who) in
      set_known (freed_last (with_drawn w (Some (w.sends + 1))) who back) who (Waiting (SendBuffer buffer scalars priority) (Some (w.sends + 1)) back) fresh
      (kept_known w _ (freeing_stores w who (Some (w.sends + 1)) back) (freeing_kept w who (Some (w.sends + 1)) back) known)
  waits_known w who request fresh known =
      let back : Option ℕ = last_of (held_by w who) in
      set_known (freed_last w who back) who (Waiting request None back) (λ message none. absurd (let f : ⊥ = cc in f))
      (kept_known w (freed_last w who back) (freeing_stores w who None back) (freeing_kept w who None back) known)

  step_known : (facts : Facts) (w : World) (event : Event) → ((message : Message) → sent_in w event ≡ Some message → K message) → AllKnown w → AllKnown (after facts w event)
  step_known facts w (Did who ticks request answer refill) fresh known = did_known facts w who request answer refill fresh known
  step_known facts w (Waits who ticks request) fresh known = waits_known w who request fresh known
  step_known facts w (Goes who answer) fresh known =
      let back : Option ℕ = back_in (phase_of w who) in
      set_known (locked_back w who back) who Active (λ message none. absurd (let f : ⊥ = cc in f)) (kept_known w (locked_back w who back) (back_stores w who back) (back_kept w who back) known)
  step_known facts w (Runs who ticks) fresh known = known

  candidate_known : (w : World) (length : Option ℕ) (buffer : ℕ) (value : StoredValue) → AllKnown w → IsCandidateOf length w buffer value → K (message_of value)
  candidate_known w None buffer value known at = known.values buffer at.0 value at.1
  candidate_known w (Some zero) buffer value known at = offered_known w value.sender (record { buffer = buffer; value = value; back = at.back }) at.waits known
  candidate_known w (Some (suc n)) buffer value known at = known.values buffer at.0 value at.1

  receive_got : (facts : Facts) (w : World) (buffers : _) (otherwise : Bool) (answer : Answer) (refill : Option ℕ) (message : Message) → AllKnown w → ReceivesFromBuffer facts w buffers otherwise answer refill → message_got answer ≡ Some message → K message
  receive_got facts w buffers otherwise (Got alternative send scalars by) refill message known may is =
      let value : StoredValue = record { send = send; sender = by; scalars = scalars; priority = may.0 } in
      subst K (let e : message_of value ≡ message = cc in e) (candidate_known w (buffer_length facts may.1.buffer) may.1.buffer value known may.1.candidate)
  receive_got facts w buffers otherwise Otherwise refill message known may is = absurd (let f : ⊥ = cc in f)
  receive_got facts w buffers otherwise answer refill message known may is = absurd may

  hear_got : (facts : Facts) (w : World) (who : ℕ) (signals : _) (otherwise : Bool) (answer : Answer) (message : Message) → AllKnown w → ReceivesSignal facts w who signals otherwise answer → message_got answer ≡ Some message → K message
  hear_got facts w who signals otherwise (Got alternative send scalars by) message known may is =
      let same : message_of may.signal.value ≡ record { number = send; sender = by; scalars = scalars } = ap message_of may.is in
      subst K (let e : message_of may.signal.value ≡ message = cc in e) (known.signals may.pends.place may.signal may.pends.pends)
  hear_got facts w who signals otherwise Otherwise message known may is = absurd (let f : ⊥ = cc in f)
  hear_got facts w who signals otherwise answer message known may is = absurd may

  -- an answer that hands nothing over
  nothing_got : (answer other : Answer) (message : Message) → answer ≡ other → message_got other ≡ None → message_got answer ≡ Some message → K message
  nothing_got answer other message same none is = absurd (let e : None ≡ Some message = sym none ∙ sym (ap message_got same) ∙ is in let f : ⊥ = cc in f)

  did_got : (facts : Facts) (w : World) (who ticks : ℕ) (request : Request) (answer : Answer) (refill : Option ℕ) (message : Message) → AllKnown w → IsPossible facts w (Did who ticks request answer refill) → message_got answer ≡ Some message → K message
  did_got facts w who ticks (Read place) answer refill message known may is = nothing_got answer _ message may.1.1 refl is
  did_got facts w who ticks (Write place scalars) answer refill message known may is = nothing_got answer Done message may.1.1 refl is
  did_got facts w who ticks (Enter at) answer refill message known may is = nothing_got answer Done message may.1.1.0 refl is
  did_got facts w who ticks (Leave at) answer refill message known may is = nothing_got answer Done message may.1.1 refl is
  did_got facts w who ticks (Delay events priority) answer refill message known may is = nothing_got answer (Fail Delayfail) message may.1.1.0 refl is
  did_got facts w who ticks (Continue event) answer refill message known may is = nothing_got answer answer message refl (continue_none w event answer may.1.1) is
  did_got facts w who ticks (SendBuffer buffer scalars priority) answer refill message known may is = nothing_got answer answer message refl (send_none facts w buffer answer may.1.1) is
  did_got facts w who ticks (ReceiveBuffer buffers otherwise) answer refill message known may is = receive_got facts w buffers otherwise answer refill message known may.1 is
  did_got facts w who ticks (SendSignal signal scalars to priority) answer refill message known may is = nothing_got answer answer message refl (signal_none facts w signal to (refusal w to) answer may.1.1) is
  did_got facts w who ticks (ReceiveSignal signals otherwise) answer refill message known may is = hear_got facts w who signals otherwise answer message known may.1.1 is
  did_got facts w who ticks (Start process scalars) answer refill message known may is = nothing_got answer answer message refl (start_none w answer may.1.1) is
  did_got facts w who ticks (Put bytes) answer refill message known may is = nothing_got answer Done message may.1.1 refl is
  did_got facts w who ticks Get answer refill message known may is = nothing_got answer (get_answer w.input) message may.1.1 (get_none (behind_separators w.input)) is
  did_got facts w who ticks (End how) answer refill message known may is = nothing_got answer Done message may.1.1 refl is

  -- what an event hands over is known
  got_known : (facts : Facts) (w : World) (event : Event) (message : Message) → AllKnown w → IsPossible facts w event → got_in event ≡ Some message → K message
  got_known facts w (Did who ticks request answer refill) message known may is = did_got facts w who ticks request answer refill message known may is
  got_known facts w (Waits who ticks request) message known may is = absurd (let f : ⊥ = cc in f)
  got_known facts w (Goes who answer) message known may is = known.phases who (Chosen answer may.back) message may.chosen is
  got_known facts w (Runs who ticks) message known may is = absurd (let f : ⊥ = cc in f)

  nothing_stored : (count buffer : ℕ) → slice_index_or (replicate count (let none : List StoredValue = [] in none)) buffer [] ≡ []
  nothing_stored zero buffer = refl
  nothing_stored (suc count) zero = refl
  nothing_stored (suc count) (suc buffer) = nothing_stored count buffer

  opening_phases : (p : ℕ) (phase : Phase) (message : Message) → slice_get (Ended Normal ∷ Active ∷ []) p ≡ Some phase → held_in p phase ≡ Some message → K message
  opening_phases zero phase message at is = absurd (let e : None ≡ Some message = ap (held_in 0) (let same : Ended Normal ≡ phase = cc in same) ∙ is in let f : ⊥ = cc in f)
  opening_phases (suc zero) phase message at is = absurd (let e : None ≡ Some message = ap (held_in 1) (let same : Active ≡ phase = cc in same) ∙ is in let f : ⊥ = cc in f)
  opening_phases (suc (suc p)) phase message at is = absurd (let f : ⊥ = cc in f)

  opening_known : (facts : Facts) → AllKnown (opening facts)
  opening_known facts = record {
    values = λ buffer k value at. absurd (let e : slice_get (let none : List StoredValue = [] in none) k ≡ Some value = ap (λ (vs : List StoredValue). slice_get vs k) (sym (nothing_stored (length facts.buffers) buffer)) ∙ at in let f : ⊥ = cc in f);
    signals = λ k signal at. absurd (let f : ⊥ = cc in f);
    phases = opening_phases;
  }

wider : (K L : Message → Type 0) (w : World) → ((message : Message) → K message → L message) → AllKnown K w → AllKnown L w
wider K L w more known = record {
  values = λ buffer k value at. more (message_of value) (known.values buffer k value at);
  signals = λ k signal at. more (message_of signal.value) (known.signals k signal at);
  phases = λ p phase message at is. more message (known.phases p phase message at is);
}

after_push : (facts : Facts) (w : World) (before : List Event) (event : Event) → after_all facts w (before ++ event ∷ []) ≡ after facts (after_all facts w before) event
after_push facts w [] event = refl
after_push facts w (e ∷ before) event = after_push facts (after facts w e) before event

sent_still : (facts : Facts) (before : List Event) (event : Event) (message : Message) → WasSent facts before message → WasSent facts (before ++ event ∷ []) message
sent_still facts before event message sent = record {
  front = sent.front;
  event = sent.event;
  rest = sent.rest ++ event ∷ [];
  parts = ap (λ (es : List Event). es ++ event ∷ []) sent.parts ∙ append_assoc sent.front (sent.event ∷ sent.rest) (event ∷ []);
  sends = sent.sends;
}

run_known : (facts : Facts) (before : List Event) (events : List Event) → AllKnown (WasSent facts before) (after_all facts (opening facts) before) → AllKnown (WasSent facts (before ++ events)) (after_all facts (after_all facts (opening facts) before) events)
run_known facts before [] known = subst (λ (es : List Event). AllKnown (WasSent facts es) (after_all facts (opening facts) before)) (sym (append-nil before)) known
run_known facts before (event ∷ events) known =
    let w : World = after_all facts (opening facts) before in
    let more : List Event = before ++ event ∷ [] in
    let next : AllKnown (WasSent facts more) (after facts w event) = step_known (WasSent facts more) facts w event
    (λ message sends. record { front = before; event = event; rest = []; parts = refl; sends = sends })
    (wider (WasSent facts before) (WasSent facts more) w (λ message. sent_still facts before event message) known) in
    let here : AllKnown (WasSent facts more) (after_all facts (opening facts) more) = subst (λ (x : World). AllKnown (WasSent facts more) x) (sym (after_push facts (opening facts) before event)) next in
    let rest : AllKnown (WasSent facts (more ++ events)) (after_all facts (after_all facts (opening facts) more) events) = run_known facts more events here in
    let world : AllKnown (WasSent facts (more ++ events)) (after_all facts (after facts w event) events) = subst (λ (x : World). AllKnown (WasSent facts (more ++ events)) (after_all facts x events)) (after_push facts (opening facts) before event) rest in
    subst (λ (es : List Event). AllKnown (WasSent facts es) (after_all facts (after facts w event) events)) (append_assoc before (event ∷ []) events) world

pub each_value_once_law : EachValueOnceLaw
each_value_once_law = record {
  sent = λ facts before event behind message run is.
      got_known (WasSent facts before) facts (after_all facts (opening facts) before) event message
      (run_known facts [] before (opening_known (WasSent facts []) facts))
      (rest_runs facts (opening facts) before (event ∷ behind) run).0.possible is;
  once = got_once;
}
