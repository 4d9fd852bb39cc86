-- The states that the events tell are those of the phases in the world.
use Rattle.std.proofs.Common.{◌≡◌, ℕ, zero, suc, Bool, true, false, List, [], ◌∷◌, ◌++◌, ℤ, map, refl, sym, ap, ◌∙◌, subst, Option, Some, None, slice_set}
use Rattle.std.specs.Prelude.{if◌then◌else◌, ◌&&◌, not, int_le, neg_ℤ, pos}
use Rattle.std.specs.List.{take_while}
use Rattle.std.proofs.lemmas.List.{map-append}
use Rattle.kernel_base.specs.declared.facts.Facts.{Facts}
use Rattle.kernel_base.specs.declared.ends.How.{How}
use Rattle.kernel_base.specs.declared.ends.Exc.{Exc}
use Rattle.kernel_base.specs.declared.ends.Exc.TheVariants.{Rangefail, Delayfail, Spacefail}
use Rattle.kernel_base.specs.declared.request.Alternative.{Alternative}
use Rattle.kernel_base.specs.declared.request.Request.{Request}
use Rattle.kernel_base.specs.declared.request.Request.TheVariants.{Read, Write, Enter, Leave, Delay, Continue, SendBuffer, ReceiveBuffer, SendSignal, ReceiveSignal, Start, Put, Get, End}
use Rattle.kernel_base.specs.declared.answer.Answer.{Answer}
use Rattle.kernel_base.specs.declared.answer.Answer.TheVariants.{Value, Done, Got, Otherwise, Instance, Fail, Chose, Handed, Stored}
use Rattle.kernel_base.specs.declared.event.Event.{Event}
use Rattle.kernel_base.specs.declared.event.Event.TheVariants.{Did, Waits, Goes, Runs}
use Rattle.world_model.specs.declared.world.Phase.{Phase}
use Rattle.world_model.specs.declared.world.Phase.TheVariants as phases
use Rattle.world_model.specs.declared.world.StoredValue.{StoredValue}
use Rattle.world_model.specs.declared.world.World.{World}
use Rattle.world_model.specs.declared.waiting.Waiter.{Waiter}
use Rattle.world_model.specs.declared.waiting.Offer.{Offer}
use Rattle.world_model.specs.Input.{is_separator, answer_for, signed_value, behind_separators, get_answer, get_answer_at}
use Rattle.world_model.specs.Lists.{last_of}
use Rattle.world_model.specs.Waiting.{phase_of, sleeper, buffer_receiver, signal_receiver, offer}
use Rattle.world_model.specs.World as worlds
use Rattle.world_model.specs.World.{values_but, occupant, held_by, chosen, with_next_send, buffer_length, refilled, refilled_by, refilled_buffer, refusal, drawn, back_in, after_continue, after_send_buffer, after_receive_buffer, after_send_signal, after_receive_signal, after_start, after_request, after_waits}
use Rattle.world_model.specs.Allowed.{IsPossible, Continues, SendsToBuffer, SendsSignalTo, ReceivesFromBuffer, ReceivesSignal, IsRefill, IsRefillBy, IsCandidateOf, Starts}
use Rattle.world_model.proofs.Freeing.{freeing_kept, back_kept}
use Rattle.world_model.proofs.PhaseMoves.{entered_phases, left_phases, refilled_buffer_phases}
use Rattle.run_texts.specs.declared.processes.ProcessState.{ProcessState}
use Rattle.run_texts.specs.declared.processes.ProcessState.TheVariants as states
use Rattle.run_texts.specs.declared.processes.Processes.{Processes}
use Rattle.run_texts.specs.Processes as told
use Rattle.run_texts.specs.Processes.{asked, started, started_as, chosen_by, with_chosen, with_state, state_in_wait}
use Rattle.report_laws.specs.Laws.{state_in}

-- the states of phases
abbrev pub states_in : List Phase → List ProcessState
states_in ps = map state_in ps

pub set_states : (ps : List Phase) (i : ℕ) (phase : Phase) → states_in (slice_set ps i phase) ≡ slice_set (states_in ps) i (state_in phase)
set_states [] i phase = refl
set_states (p ∷ ps) zero phase = refl
set_states (p ∷ ps) (suc i) phase = ap (λ (rest : List ProcessState). state_in p ∷ rest) (set_states ps i phase)

-- one more is chosen, if any
abbrev chosen_states : List ProcessState → Option ℕ → List ProcessState
chosen_states xs None = xs
chosen_states xs (Some who) = slice_set xs who states.Chosen

with_chosen_states : (ps : Processes) (o : Option ℕ) → (with_chosen ps o).states ≡ chosen_states ps.states o
with_chosen_states ps None = refl
with_chosen_states ps (Some who) = refl

pub asked_states : (ps : Processes) (who : ℕ) (request : Request) → (asked ps who request).states ≡ ps.states
asked_states ps who (Enter region) = refl
asked_states ps who (Leave region) = refl
asked_states ps who request = refl

-- the states where a request is answered that starts nothing and doesn't end
did_states : (ps : Processes) (answer : Answer) (refill : Option ℕ) → (with_chosen (with_chosen ps (chosen_by answer)) refill).states ≡ chosen_states (chosen_states ps.states (chosen_by answer)) refill
did_states ps answer refill = with_chosen_states (with_chosen ps (chosen_by answer)) refill ∙ ap (λ (xs : List ProcessState). chosen_states xs refill) (with_chosen_states ps (chosen_by answer))

-- those that are chosen with a request are these
record Chooses (old new : List Phase) (answer : Answer) (refill : Option ℕ) : Type 0 where
  pub is : states_in new ≡ chosen_states (chosen_states (states_in old) (chosen_by answer)) refill

none_chosen : (old new : List Phase) (answer : Answer) (refill : Option ℕ) → new ≡ old → chosen_by answer ≡ None → refill ≡ None → Chooses old new answer refill
none_chosen old new answer refill same none no_refill = record {
  is = ap states_in same ∙ sym (ap (chosen_states (chosen_states (states_in old) (chosen_by answer))) no_refill ∙ ap (chosen_states (states_in old)) none);
}

-- one is chosen by the answer
one_chosen : (old : List Phase) (p : ℕ) (given : Answer) (back : Option ℕ) (answer : Answer) (refill : Option ℕ) → chosen_by answer ≡ Some p → refill ≡ None → Chooses old (slice_set old p (phases.Chosen given back)) answer refill
one_chosen old p given back answer refill one no_refill = record {
  is = set_states old p (phases.Chosen given back) ∙ sym (ap (chosen_states (chosen_states (states_in old) (chosen_by answer))) no_refill ∙ ap (chosen_states (states_in old)) one);
}

-- one is chosen as the refill
one_refills : (old : List Phase) (p : ℕ) (given : Answer) (back : Option ℕ) (answer : Answer) (refill : Option ℕ) → chosen_by answer ≡ None → refill ≡ Some p → Chooses old (slice_set old p (phases.Chosen given back)) answer refill
one_refills old p given back answer refill none one = record {
  is = set_states old p (phases.Chosen given back) ∙ sym (ap (chosen_states (chosen_states (states_in old) (chosen_by answer))) one ∙ ap (λ (o : Option ℕ). chosen_states (chosen_states (states_in old) o) (Some p)) none);
}

done_none : (answer given : Answer) → answer ≡ given → chosen_by given ≡ None → chosen_by answer ≡ None
done_none answer given is none = ap chosen_by is ∙ none

chosen_phases : (w : World) (p : ℕ) (o : Option Waiter) (waiter : Waiter) (given : ℕ → Answer) → o ≡ Some waiter → (chosen w p o given).phases ≡ slice_set w.phases p (phases.Chosen (given waiter.alternative) waiter.back)
chosen_phases w p None waiter given is = absurd (let f : ⊥ = cc in f)
chosen_phases w p (Some other) waiter given is = ap (λ (x : Waiter). slice_set w.phases p (phases.Chosen (given x.alternative) x.back)) (let e : other ≡ waiter = cc in e)

same_chooses : (old new new' : List Phase) (answer : Answer) (refill : Option ℕ) → new ≡ new' → Chooses old new' answer refill → Chooses old new answer refill
same_chooses old new new' answer refill same chooses = record { is = ap states_in same ∙ chooses.is }

continue_chooses : (w : World) (who event : ℕ) (answer : Answer) (refill : Option ℕ) → Continues w event answer → refill ≡ None → Chooses w.phases (after_continue w who event answer).phases answer refill
continue_chooses w who event (Chose None) refill may none = none_chosen w.phases _ (Chose None) refill refl refl none
continue_chooses w who event (Chose (Some p)) refill may none =
    same_chooses w.phases _ _ (Chose (Some p)) refill (chosen_phases w p (sleeper w event p) may.waiter _ may.sleeps) (one_chosen w.phases p _ may.waiter.back (Chose (Some p)) refill refl none)
continue_chooses w who event answer refill may none = absurd may

send_chooses : (facts : Facts) (w : World) (who buffer : ℕ) (scalars : List ℤ) (priority : ℕ) (answer : Answer) (refill : Option ℕ) → SendsToBuffer facts w buffer answer → refill ≡ None → Chooses w.phases (after_send_buffer w who buffer scalars priority answer).phases answer refill
send_chooses facts w who buffer scalars priority (Handed p) refill may none =
    same_chooses w.phases _ _ (Handed p) refill (chosen_phases (with_next_send w) p (buffer_receiver w buffer p) may.0 _ may.1) (one_chosen w.phases p _ may.0.back (Handed p) refill refl none)
send_chooses facts w who buffer scalars priority Stored refill may none = none_chosen w.phases _ Stored refill refl refl none
send_chooses facts w who buffer scalars priority answer refill may none = absurd may

fails_chooses : (facts : Facts) (w : World) (who signal : ℕ) (scalars : List ℤ) (to : Option ℕ) (priority : ℕ) (exception : Exc) (answer : Answer) (refill : Option ℕ) → answer ≡ Fail exception → refill ≡ None → Chooses w.phases (after_send_signal facts w who signal scalars to priority answer).phases answer refill
fails_chooses facts w who signal scalars to priority exception answer refill is none =
    none_chosen w.phases _ answer refill (ap (λ (a : Answer). (after_send_signal facts w who signal scalars to priority a).phases) is) (ap chosen_by is) none

signal_chooses : (facts : Facts) (w : World) (who signal : ℕ) (scalars : List ℤ) (to : Option ℕ) (priority : ℕ) (refused : Option Exc) (answer : Answer) (refill : Option ℕ) → SendsSignalTo facts w signal to refused answer → refill ≡ None → Chooses w.phases (after_send_signal facts w who signal scalars to priority answer).phases answer refill
signal_chooses facts w who signal scalars to priority (Some exception) answer refill may none = fails_chooses facts w who signal scalars to priority exception answer refill may none
signal_chooses facts w who signal scalars to priority None (Handed p) refill may none =
    same_chooses w.phases _ _ (Handed p) refill (chosen_phases (with_next_send w) p (signal_receiver facts w signal to p) may.0 _ may.1) (one_chosen w.phases p _ may.0.back (Handed p) refill refl none)
signal_chooses facts w who signal scalars to priority None Stored refill may none = none_chosen w.phases _ Stored refill refl refl none
signal_chooses facts w who signal scalars to priority None answer refill may none = absurd may

refilled_phases : (facts : Facts) (w : World) (sender : ℕ) (o : Option Offer) (o' : Offer) → o ≡ Some o' → (refilled_by facts w sender o).phases ≡ slice_set w.phases sender (phases.Chosen Stored o'.back)
refilled_phases facts w sender None o' is = absurd (let f : ⊥ = cc in f)
refilled_phases facts w sender (Some o) o' is =
    ap (λ (ps : List Phase). slice_set ps sender (phases.Chosen Stored o.back)) (refilled_buffer_phases w (buffer_length facts o.buffer) o)
    ∙ ap (λ (x : Offer). slice_set w.phases sender (phases.Chosen Stored x.back)) (let e : o ≡ o' = cc in e)

-- the refill is nobody, or one that offers
abbrev RefillOffers : World → Option ℕ → Type 0
RefillOffers w None = Unit {0}
RefillOffers w (Some sender) = (o : Offer) × (offer w sender ≡ Some o)

found_refill : (w : World) (buffer : ℕ) (refill : Option ℕ) → IsRefillBy w buffer refill → RefillOffers w refill
found_refill w buffer None may = tt
found_refill w buffer (Some sender) may = (_, ap (offer w) (sym may.1) ∙ may.2.waits)

refill_offers : (w : World) (buffer : ℕ) (value : StoredValue) (length' : Option ℕ) (refill : Option ℕ) → IsCandidateOf length' w buffer value → IsRefill length' w buffer value.sender refill → RefillOffers w refill
refill_offers w buffer value None refill candidate is = subst (RefillOffers w) (sym is) tt
refill_offers w buffer value (Some zero) refill candidate is = subst (RefillOffers w) (sym is) (_, candidate.waits)
refill_offers w buffer value (Some (suc n)) refill candidate is = found_refill w buffer refill is

got_chooses : (facts : Facts) (w : World) (alternative send : ℕ) (scalars : List ℤ) (by : ℕ) (refill : Option ℕ) → RefillOffers w refill → Chooses w.phases (after_receive_buffer facts w (Got alternative send scalars by) refill).phases (Got alternative send scalars by) refill
got_chooses facts w alternative send scalars by None offers = none_chosen w.phases _ (Got alternative send scalars by) None refl refl refl
got_chooses facts w alternative send scalars by (Some sender) offers =
    same_chooses w.phases _ _ (Got alternative send scalars by) (Some sender)
    (refilled_phases facts (record w { stored = map (values_but send) w.stored }) sender (offer w sender) offers.0 offers.1)
    (one_refills w.phases sender Stored offers.0.back (Got alternative send scalars by) (Some sender) refl refl)

receive_chooses : (facts : Facts) (w : World) (buffers : List Alternative) (otherwise : Bool) (answer : Answer) (refill : Option ℕ) → ReceivesFromBuffer facts w buffers otherwise answer refill → Chooses w.phases (after_receive_buffer facts w answer refill).phases answer refill
receive_chooses facts w buffers otherwise (Got alternative send scalars by) refill may =
    let takes = may.1 in
    got_chooses facts w alternative send scalars by refill (refill_offers w takes.buffer _ (buffer_length facts takes.buffer) refill takes.candidate takes.refills)
receive_chooses facts w buffers otherwise Otherwise refill may = none_chosen w.phases _ Otherwise refill refl refl may.0
receive_chooses facts w buffers otherwise answer refill may = absurd may

hear_chooses : (facts : Facts) (w : World) (who : ℕ) (signals : List Alternative) (otherwise : Bool) (answer : Answer) (refill : Option ℕ) → ReceivesSignal facts w who signals otherwise answer → refill ≡ None → Chooses w.phases (after_receive_signal w answer).phases answer refill
hear_chooses facts w who signals otherwise (Got alternative send scalars by) refill may none = none_chosen w.phases _ (Got alternative send scalars by) refill refl refl none
hear_chooses facts w who signals otherwise Otherwise refill may none = none_chosen w.phases _ Otherwise refill refl refl none
hear_chooses facts w who signals otherwise answer refill may none = absurd may

if_none : (b : Bool) (number : ℤ) (exception : Exc) → chosen_by (if b then Value (number ∷ []) else Fail exception) ≡ None
if_none true number exception = refl
if_none false number exception = refl

number_none : (o : Option ℤ) → chosen_by (answer_for o) ≡ None
number_none None = refl
number_none (Some number) = if_none (int_le (neg_ℤ (pos 2147483648)) number && int_le number (pos 2147483647)) number Rangefail

get_none : (rest : List ℕ) → chosen_by (get_answer_at rest) ≡ None
get_none [] = refl
get_none (byte ∷ bytes) = number_none (signed_value (take_while (λ b. not (is_separator b)) (byte ∷ bytes)))

plain_states : (ps : Processes) (old new : List Phase) (answer : Answer) (refill : Option ℕ) → ps.states ≡ states_in old → Chooses old new answer refill → (with_chosen (with_chosen ps (chosen_by answer)) refill).states ≡ states_in new
plain_states ps old new answer refill same chooses =
    did_states ps answer refill ∙ (ap (λ (xs : List ProcessState). chosen_states (chosen_states xs (chosen_by answer)) refill) same ∙ sym chooses.is)

unchosen : (ps : Processes) (answer : Answer) (refill : Option ℕ) → chosen_by answer ≡ None → refill ≡ None → (with_chosen (with_chosen ps (chosen_by answer)) refill).states ≡ ps.states
unchosen ps answer refill none no_refill =
    did_states ps answer refill ∙ (ap (chosen_states (chosen_states ps.states (chosen_by answer))) no_refill ∙ ap (chosen_states ps.states) none)

start_states : (w : World) (ps : Processes) (process : ℕ) (scalars : List ℤ) (answer : Answer) (refill : Option ℕ) → Starts w answer → refill ≡ None → ps.states ≡ states_in w.phases
    → (with_chosen (with_chosen (started_as ps process answer) (chosen_by answer)) refill).states ≡ states_in (after_start w process scalars answer).phases
start_states w ps process scalars (Instance i) refill may none same =
    unchosen (started_as ps process (Instance i)) (Instance i) refill refl none
    ∙ (ap (λ (xs : List ProcessState). xs ++ states.Active ∷ []) same ∙ sym (map-append state_in w.phases (phases.Active ∷ [])))
start_states w ps process scalars (Fail Spacefail) refill may none same = unchosen ps (Fail Spacefail) refill refl none ∙ same
start_states w ps process scalars answer refill may none same = absurd may

end_states : (w : World) (ps : Processes) (who : ℕ) (how : How) (answer : Answer) (refill : Option ℕ) → answer ≡ Done → refill ≡ None → ps.states ≡ states_in w.phases
    → (with_chosen (with_chosen (with_state ps who (states.Ended how)) (chosen_by answer)) refill).states ≡ states_in (slice_set w.phases who (phases.Ended how))
end_states w ps who how answer refill is none same =
    unchosen (with_state ps who (states.Ended how)) answer refill (done_none answer Done is refl) none
    ∙ (ap (λ (xs : List ProcessState). slice_set xs who (states.Ended how)) same ∙ sym (set_states w.phases who (phases.Ended how)))

did_agree : (facts : Facts) (w : World) (ps : Processes) (who ticks : ℕ) (request : Request) (answer : Answer) (refill : Option ℕ) → IsPossible facts w (Did who ticks request answer refill) → ps.states ≡ states_in w.phases
    → (told.after ps (Did who ticks request answer refill)).states ≡ states_in (after_request facts w who request answer refill).phases
did_agree facts w ps who ticks (Read place) answer refill may same = plain_states ps w.phases _ answer refill same (none_chosen w.phases _ answer refill refl (done_none answer (Value _) may.1.1 refl) may.1.0)
did_agree facts w ps who ticks (Write place scalars) answer refill may same = plain_states ps w.phases _ answer refill same (none_chosen w.phases _ answer refill refl (done_none answer Done may.1.1 refl) may.1.0)
did_agree facts w ps who ticks (Enter region) answer refill may same = plain_states (asked ps who (Enter region)) w.phases _ answer refill same (none_chosen w.phases _ answer refill (entered_phases w who region (occupant w region)) (done_none answer Done may.1.1.0 refl) may.1.0)
did_agree facts w ps who ticks (Leave region) answer refill may same = plain_states (asked ps who (Leave region)) w.phases _ answer refill same (none_chosen w.phases _ answer refill (left_phases w who region (occupant w region)) (done_none answer Done may.1.1 refl) may.1.0)
did_agree facts w ps who ticks (Delay events priority) answer refill may same = plain_states ps w.phases _ answer refill same (none_chosen w.phases _ answer refill refl (done_none answer (Fail Delayfail) may.1.1.0 refl) may.1.0)
did_agree facts w ps who ticks (Continue event) answer refill may same = plain_states ps w.phases _ answer refill same (continue_chooses w who event answer refill may.1.1 may.1.0)
did_agree facts w ps who ticks (SendBuffer buffer scalars priority) answer refill may same = plain_states ps w.phases _ answer refill same (send_chooses facts w who buffer scalars priority answer refill may.1.1 may.1.0)
did_agree facts w ps who ticks (ReceiveBuffer buffers otherwise) answer refill may same = plain_states ps w.phases _ answer refill same (receive_chooses facts w buffers otherwise answer refill may.1)
did_agree facts w ps who ticks (SendSignal signal scalars to priority) answer refill may same = plain_states ps w.phases _ answer refill same (signal_chooses facts w who signal scalars to priority (refusal w to) answer refill may.1.1 may.1.0)
did_agree facts w ps who ticks (ReceiveSignal signals otherwise) answer refill may same = plain_states ps w.phases _ answer refill same (hear_chooses facts w who signals otherwise answer refill may.1.1 may.1.0)
did_agree facts w ps who ticks (Start process scalars) answer refill may same = start_states w ps process scalars answer refill may.1.1 may.1.0 same
did_agree facts w ps who ticks (Put bytes) answer refill may same = plain_states ps w.phases _ answer refill same (none_chosen w.phases _ answer refill refl (done_none answer Done may.1.1 refl) may.1.0)
did_agree facts w ps who ticks Get answer refill may same = plain_states ps w.phases _ answer refill same (none_chosen w.phases _ answer refill refl (done_none answer (get_answer w.input) may.1.1 (get_none (behind_separators w.input))) may.1.0)
did_agree facts w ps who ticks (End how) answer refill may same = end_states w ps who how answer refill may.1.1 may.1.0 same

set_agree : (ps : Processes) (w : World) (old : List Phase) (who : ℕ) (phase : Phase) → ps.states ≡ states_in w.phases → old ≡ w.phases → slice_set ps.states who (state_in phase) ≡ states_in (slice_set old who phase)
set_agree ps w old who phase same is = ap (λ (xs : List ProcessState). slice_set xs who (state_in phase)) (same ∙ sym (ap states_in is)) ∙ sym (set_states old who phase)

-- one that comes to wait for anything but a region
waiting_agree : (w : World) (ps : Processes) (who : ℕ) (request : Request) → ps.states ≡ states_in w.phases
    → slice_set ps.states who states.Delayed ≡ states_in (slice_set (worlds.freed_last (worlds.with_drawn w (drawn w request)) who (last_of (held_by w who))).phases who (phases.Waiting request (drawn w request) (last_of (held_by w who))))
waiting_agree w ps who request same = set_agree ps w _ who (phases.Waiting request (drawn w request) (last_of (held_by w who))) same (freeing_kept w who (drawn w request) (last_of (held_by w who)))

waits_agree : (w : World) (ps : Processes) (who ticks : ℕ) (request : Request) → ps.states ≡ states_in w.phases → (told.after ps (Waits who ticks request)).states ≡ states_in (after_waits w who request).phases
waits_agree w ps who ticks (Enter region) same = set_agree ps w w.phases who (phases.Chosen Done (Some region)) same refl
waits_agree w ps who ticks (Leave region) same = waiting_agree w ps who (Leave region) same
waits_agree w ps who ticks request same = waiting_agree w ps who request same

pub step_states : (facts : Facts) (w : World) (ps : Processes) (event : Event) → IsPossible facts w event → ps.states ≡ states_in w.phases → (told.after ps event).states ≡ states_in (worlds.after facts w event).phases
step_states facts w ps (Did who ticks request answer refill) may same = did_agree facts w ps who ticks request answer refill may same
step_states facts w ps (Waits who ticks request) may same = waits_agree w ps who ticks request same
step_states facts w ps (Goes who answer) may same = set_agree ps w _ who phases.Active same (back_kept w who (back_in (phase_of w who)))
step_states facts w ps (Runs who ticks) may same = same
