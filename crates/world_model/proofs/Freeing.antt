-- One that waits and freed a region does nothing before it has locked it again.
use Rattle.std.proofs.Common.{◌≡◌, ◌≢◌, ◌⊎◌, ℕ, zero, suc, ◌+◌, Bool, true, false, List, ℤ, refl, sym, ap, ◌∙◌, subst, inl, inr, Option, Some, None, slice_get, slice_set}
use Rattle.std.specs.Prelude.{if◌then◌else◌, ◌==◌}
use Rattle.std.specs.Option.{option_and_then}
use Rattle.std.proofs.lemmas.Bool.{cases_eq, cases_Bool}
use Rattle.kernel_base.specs.declared.facts.Facts.{Facts}
use Rattle.kernel_base.specs.declared.request.Request.{Request}
use Rattle.kernel_base.specs.declared.request.Request.TheVariants.{Read, Write, Enter, Leave, Delay, Continue, SendBuffer, ReceiveBuffer, SendSignal, ReceiveSignal, Start, Put, Get, End}
use Rattle.kernel_base.specs.declared.answer.Answer.{Answer}
use Rattle.kernel_base.specs.declared.answer.Answer.TheVariants.{Done, Woken, Got, Instance, Chose, Handed, Stored}
use Rattle.kernel_base.specs.declared.event.Event.{Event}
use Rattle.kernel_base.specs.declared.event.Event.TheVariants.{Did, Waits, Goes, Runs}
use Rattle.world_model.specs.declared.world.Phase.{Phase}
use Rattle.world_model.specs.declared.world.Phase.TheVariants.{Active, Waiting, Chosen, Ended}
use Rattle.world_model.specs.declared.world.World.{World}
use Rattle.world_model.specs.Lists.{last_of}
use Rattle.world_model.specs.declared.waiting.Waiter.{Waiter}
use Rattle.world_model.specs.declared.waiting.Offer.{Offer}
use Rattle.world_model.specs.Waiting.{phase_of, waiter_for, sleeper_in, sleeper, buffer_receiver_in, buffer_receiver, signal_receiver_in, signal_receiver, may_receive, offer_in, offer}
use Rattle.world_model.specs.World.{occupant, held_by, entered, left, locked_back, freed_last, freed, chosen, with_next_send, refilled, refilled_by, refilled_buffer, buffer_length, after_continue, after_send_buffer, after_receive_buffer, after_send_signal, after_receive_signal, after_start, after_request, drawn, with_drawn, after_waits, back_in, after}
use Rattle.world_model.specs.Allowed.{IsPossible}
use Rattle.world_model.specs.Laws.{IsDoneBy}
use Rattle.world_model.proofs.ChangedLists.{written_elsewhere, written_here, pushed_keeps}

-- the phase has this region to lock again
abbrev pub BackIs : ℕ → Phase → Type 0
BackIs region (Waiting request send back) = back ≡ Some region
BackIs region (Chosen answer back) = back ≡ Some region
BackIs region phase = ⊥

-- `who` waits or was chosen, and has this region to lock again
pub record HasBack (phases : List Phase) (who region : ℕ) : Type 0 where
  pub phase : Phase
  pub at : slice_get phases who ≡ Some phase
  pub back : BackIs region phase

not_active : (phases : List Phase) (who region : ℕ) → HasBack phases who region → slice_get phases who ≡ Some Active → ⊥
not_active phases who region has active = let e : has.phase ≡ Active = let both : Some has.phase ≡ Some Active = sym has.at ∙ active in cc in subst (λ (p : Phase). BackIs region p) e has.back

apart_from : (phases : List Phase) (who p region : ℕ) → HasBack phases who region → slice_get phases p ≡ Some Active → who ≢ p
apart_from phases who p region has active same = not_active phases who region has (ap (slice_get phases) same ∙ active)

-- it stays so where the phase of another changes
kept_elsewhere : (phases : List Phase) (who p region : ℕ) (new : Phase) → who ≢ p → HasBack phases who region → HasBack (slice_set phases p new) who region
kept_elsewhere phases who p region new apart has = record { phase = has.phase; at = written_elsewhere phases p who new apart ∙ has.at; back = has.back }

-- and where it is chosen itself, with the region that it had
kept_here : (phases : List Phase) (who p region : ℕ) (new : Phase) → (who ≡ p → BackIs region new) → HasBack phases who region → HasBack (slice_set phases p new) who region
kept_here phases who p region new same has = elim (cases_eq who p) [
  | inr apart ↦ kept_elsewhere phases who p region new apart has
  | inl here ↦ record { phase = new; at = ap (slice_get (slice_set phases p new)) here ∙ written_here phases p new has.phase (ap (slice_get phases) (sym here) ∙ has.at); back = same here }
]

-- a waiter that is found has the region that its phase has
abbrev WaiterBack : ℕ → Option Waiter → Type 0
WaiterBack region None = Unit {0}
WaiterBack region (Some waiter) = waiter.back ≡ Some region

for_back : (region : ℕ) (alternative : Option ℕ) (priority : ℕ) (back : Option ℕ) → back ≡ Some region → WaiterBack region (waiter_for alternative priority back)
for_back region None priority back is = tt
for_back region (Some n) priority back is = is

request_sleeper : (region event : ℕ) (request : Request) (send back : Option ℕ) → back ≡ Some region → WaiterBack region (sleeper_in event (Waiting request send back))
request_sleeper region event (Delay events priority) send back is = for_back region _ priority back is
request_sleeper region event request send back is = tt

sleeper_back : (region event : ℕ) (phase : Phase) → BackIs region phase → WaiterBack region (sleeper_in event phase)
sleeper_back region event (Waiting request send back) is = request_sleeper region event request send back is
sleeper_back region event phase is = tt

request_receiver : (region buffer : ℕ) (request : Request) (send back : Option ℕ) → back ≡ Some region → WaiterBack region (buffer_receiver_in buffer (Waiting request send back))
request_receiver region buffer (ReceiveBuffer buffers otherwise) send back is = for_back region _ 0 back is
request_receiver region buffer request send back is = tt

receiver_back : (region buffer : ℕ) (phase : Phase) → BackIs region phase → WaiterBack region (buffer_receiver_in buffer phase)
receiver_back region buffer (Waiting request send back) is = request_receiver region buffer request send back is
receiver_back region buffer phase is = tt

request_hearer : (region signal : ℕ) (request : Request) (send back : Option ℕ) → back ≡ Some region → WaiterBack region (signal_receiver_in signal (Waiting request send back))
request_hearer region signal (ReceiveSignal signals otherwise) send back is = for_back region _ 0 back is
request_hearer region signal request send back is = tt

hearer_back : (region signal : ℕ) (phase : Phase) → BackIs region phase → WaiterBack region (signal_receiver_in signal phase)
hearer_back region signal (Waiting request send back) is = request_hearer region signal request send back is
hearer_back region signal phase is = tt

abbrev OfferBack : ℕ → Option Offer → Type 0
OfferBack region None = Unit {0}
OfferBack region (Some o) = o.back ≡ Some region

request_offer : (region who : ℕ) (request : Request) (send back : Option ℕ) → back ≡ Some region → OfferBack region (offer_in who (Waiting request send back))
request_offer region who (SendBuffer buffer scalars priority) (Some send) back is = is
request_offer region who (SendBuffer buffer scalars priority) None back is = tt
request_offer region who request send back is = tt

offer_back : (region who : ℕ) (phase : Phase) → BackIs region phase → OfferBack region (offer_in who phase)
offer_back region who (Waiting request send back) is = request_offer region who request send back is
offer_back region who phase is = tt

-- what is found at `who` goes by its phase
found : {A : Type 0} (phases : List Phase) (who : ℕ) (f : Phase → Option A) (phase : Phase) → slice_get phases who ≡ Some phase → option_and_then f (slice_get phases who) ≡ f phase
found phases who f phase at = ap (option_and_then f) at

-- choosing keeps the region, whoever is chosen
chosen_kept : (w : World) (who p region : ℕ) (waiter : Option Waiter) (answer : ℕ → Answer) → (who ≡ p → WaiterBack region waiter) → HasBack w.phases who region → HasBack (chosen w p waiter answer).phases who region
chosen_kept w who p region None answer back has = has
chosen_kept w who p region (Some waiter) answer back has = kept_here w.phases who p region (Chosen (answer waiter.alternative) waiter.back) back has

-- whatever is found by the phase of the one that is chosen
found_back : (phases : List Phase) (who p region : ℕ) (f : Phase → Option Waiter) → ((phase : Phase) → BackIs region phase → WaiterBack region (f phase)) → HasBack phases who region → who ≡ p → WaiterBack region (option_and_then f (slice_get phases p))
found_back phases who p region f keeps has same =
    subst (λ (x : Option Waiter). WaiterBack region x) (sym (found phases p f has.phase (ap (slice_get phases) (sym same) ∙ has.at))) (keeps has.phase has.back)

signal_back : (facts : Facts) (w : World) (signal : ℕ) (to : Option ℕ) (who p region : ℕ) → HasBack w.phases who region → who ≡ p → WaiterBack region (signal_receiver facts w signal to p)
signal_back facts w signal to who p region has same = elim (cases_Bool (may_receive facts w signal to p)) [
  | inl may ↦ rw may (found_back w.phases who p region (signal_receiver_in signal) (hearer_back region signal) has same)
  | inr not ↦ rw not tt
]

continue_kept : (w : World) (p event : ℕ) (answer : Answer) (who region : ℕ) → HasBack w.phases who region → HasBack (after_continue w p event answer).phases who region
continue_kept w p event (Chose (Some q)) who region has = chosen_kept w who q region (sleeper w event q) (λ alternative. Woken alternative p) (found_back w.phases who q region (sleeper_in event) (sleeper_back region event) has) has
continue_kept w p event answer who region has = has

send_kept : (w : World) (p buffer : ℕ) (scalars : List ℤ) (priority : ℕ) (answer : Answer) (who region : ℕ) → HasBack w.phases who region → HasBack (after_send_buffer w p buffer scalars priority answer).phases who region
send_kept w p buffer scalars priority (Handed q) who region has = chosen_kept (with_next_send w) who q region (buffer_receiver w buffer q) (λ alternative. Got alternative (w.sends + 1) scalars p) (found_back w.phases who q region (buffer_receiver_in buffer) (receiver_back region buffer) has) has
send_kept w p buffer scalars priority answer who region has = has

refilled_buffer_kept : (w : World) (length : Option ℕ) (o : Offer) (who region : ℕ) → HasBack w.phases who region → HasBack (refilled_buffer w length o).phases who region
refilled_buffer_kept w None o who region has = has
refilled_buffer_kept w (Some zero) o who region has = has
refilled_buffer_kept w (Some (suc n)) o who region has = has

refilled_by_kept : (facts : Facts) (w : World) (sender : ℕ) (o : Option Offer) (who region : ℕ) → (who ≡ sender → OfferBack region o) → HasBack w.phases who region → HasBack (refilled_by facts w sender o).phases who region
refilled_by_kept facts w sender None who region back has = has
refilled_by_kept facts w sender (Some o) who region back has =
    kept_here (refilled_buffer w (buffer_length facts o.buffer) o).phases who sender region (Chosen Stored o.back) back (refilled_buffer_kept w (buffer_length facts o.buffer) o who region has)

refilled_kept : (facts : Facts) (w : World) (refill : Option ℕ) (who region : ℕ) → HasBack w.phases who region → HasBack (refilled facts w refill).phases who region
refilled_kept facts w None who region has = has
refilled_kept facts w (Some sender) who region has = refilled_by_kept facts w sender (offer w sender) who region
    (λ same. subst (λ (x : Option Offer). OfferBack region x) (sym (found w.phases sender (offer_in sender) has.phase (ap (slice_get w.phases) (sym same) ∙ has.at))) (offer_back region sender has.phase has.back)) has

receive_kept : (facts : Facts) (w : World) (answer : Answer) (refill : Option ℕ) (who region : ℕ) → HasBack w.phases who region → HasBack (after_receive_buffer facts w answer refill).phases who region
receive_kept facts w (Got alternative send scalars by) refill who region has = refilled_kept facts _ refill who region has
receive_kept facts w answer refill who region has = has

signal_kept : (facts : Facts) (w : World) (p signal : ℕ) (scalars : List ℤ) (to : Option ℕ) (priority : ℕ) (answer : Answer) (who region : ℕ) → HasBack w.phases who region → HasBack (after_send_signal facts w p signal scalars to priority answer).phases who region
signal_kept facts w p signal scalars to priority (Handed q) who region has = chosen_kept (with_next_send w) who q region (signal_receiver facts w signal to q) (λ alternative. Got alternative (w.sends + 1) scalars p) (signal_back facts w signal to who q region has) has
signal_kept facts w p signal scalars to priority answer who region has = has

hear_kept : (w : World) (answer : Answer) (who region : ℕ) → HasBack w.phases who region → HasBack (after_receive_signal w answer).phases who region
hear_kept w (Got alternative send scalars by) who region has = has
hear_kept w answer who region has = has

start_kept : (w : World) (process : ℕ) (scalars : List ℤ) (answer : Answer) (who region : ℕ) → HasBack w.phases who region → HasBack (after_start w process scalars answer).phases who region
start_kept w process scalars (Instance i) who region has = record { phase = has.phase; at = pushed_keeps w.phases who Active has.phase has.at; back = has.back }
start_kept w process scalars answer who region has = has

entered_kept : (w : World) (p at : ℕ) (o : Option ℕ) (who region : ℕ) → HasBack w.phases who region → HasBack (entered w p at o).phases who region
entered_kept w p at None who region has = has
entered_kept w p at (Some other) who region has = has

left_if_kept : (w : World) (p at : ℕ) (mine : Bool) (who region : ℕ) → HasBack w.phases who region → HasBack (if mine then freed w p at else w).phases who region
left_if_kept w p at true who region has = has
left_if_kept w p at false who region has = has

left_kept : (w : World) (p at : ℕ) (o : Option ℕ) (who region : ℕ) → HasBack w.phases who region → HasBack (left w p at o).phases who region
left_kept w p at None who region has = has
left_kept w p at (Some other) who region has = left_if_kept w p at (other == p) who region has

did_kept : (facts : Facts) (w : World) (p : ℕ) (request : Request) (answer : Answer) (refill : Option ℕ) (who region : ℕ) → who ≢ p → HasBack w.phases who region → HasBack (after_request facts w p request answer refill).phases who region
did_kept facts w p (Read place) answer refill who region apart has = has
did_kept facts w p (Write place scalars) answer refill who region apart has = has
did_kept facts w p (Enter at) answer refill who region apart has = entered_kept w p at (occupant w at) who region has
did_kept facts w p (Leave at) answer refill who region apart has = left_kept w p at (occupant w at) who region has
did_kept facts w p (Delay events priority) answer refill who region apart has = has
did_kept facts w p (Continue event) answer refill who region apart has = continue_kept w p event answer who region has
did_kept facts w p (SendBuffer buffer scalars priority) answer refill who region apart has = send_kept w p buffer scalars priority answer who region has
did_kept facts w p (ReceiveBuffer buffers otherwise) answer refill who region apart has = receive_kept facts w answer refill who region has
did_kept facts w p (SendSignal signal scalars to priority) answer refill who region apart has = signal_kept facts w p signal scalars to priority answer who region has
did_kept facts w p (ReceiveSignal signals otherwise) answer refill who region apart has = hear_kept w answer who region has
did_kept facts w p (Start process scalars) answer refill who region apart has = start_kept w process scalars answer who region has
did_kept facts w p (Put bytes) answer refill who region apart has = has
did_kept facts w p Get answer refill who region apart has = has
did_kept facts w p (End how) answer refill who region apart has = kept_elsewhere w.phases who p region (Ended how) apart has

freed_last_kept : (w : World) (p : ℕ) (back : Option ℕ) → (freed_last w p back).phases ≡ w.phases
freed_last_kept w p None = refl
freed_last_kept w p (Some at) = refl

pub drawn_kept : (w : World) (draws : Option ℕ) → (with_drawn w draws).phases ≡ w.phases
drawn_kept w None = refl
drawn_kept w (Some send) = refl

pub back_kept : (w : World) (p : ℕ) (back : Option ℕ) → (locked_back w p back).phases ≡ w.phases
back_kept w p None = refl
back_kept w p (Some at) = refl

pub freeing_kept : (w : World) (p : ℕ) (draws back : Option ℕ) → (freed_last (with_drawn w draws) p back).phases ≡ w.phases
freeing_kept w p draws back = freed_last_kept (with_drawn w draws) p back ∙ drawn_kept w draws

elsewhere_of : (old new : List Phase) (who p region : ℕ) (phase : Phase) → new ≡ old → who ≢ p → HasBack old who region → HasBack (slice_set new p phase) who region
elsewhere_of old new who p region phase same apart has = subst (λ (ps : List Phase). HasBack (slice_set ps p phase) who region) (sym same) (kept_elsewhere old who p region phase apart has)

waits_kept : (w : World) (p : ℕ) (request : Request) (who region : ℕ) → who ≢ p → HasBack w.phases who region → HasBack (after_waits w p request).phases who region
waits_kept w p (Enter at) who region apart has = kept_elsewhere w.phases who p region (Chosen Done (Some at)) apart has
waits_kept w p request who region apart has = elsewhere_of w.phases _ who p region (Waiting request (drawn w request) (last_of (held_by w p))) (freeing_kept w p (drawn w request) (last_of (held_by w p))) apart has

-- Behind an event `who` still has the region to lock again, and the event is none that it did; or it is its going on.
pub step_kept : (facts : Facts) (w : World) (event : Event) (who region : ℕ) → IsPossible facts w event → HasBack w.phases who region
    → ((HasBack (after facts w event).phases who region) × (IsDoneBy who event → ⊥)) ⊎ ((answer : Answer) × (event ≡ Goes who answer))
step_kept facts w (Did p ticks request answer refill) who region may has =
    let apart = apart_from w.phases who p region has may.0.active in
    inl (did_kept facts w p request answer refill who region apart has, λ same. apart (sym same))
step_kept facts w (Waits p ticks request) who region may has =
    let apart = apart_from w.phases who p region has may.0.active in
    inl (waits_kept w p request who region apart has, λ same. apart (sym same))
step_kept facts w (Goes p answer) who region may has = elim (cases_eq who p) [
  | inl same ↦ inr (answer, ap (λ (n : ℕ). Goes n answer) (sym same))
  | inr apart ↦ inl (elsewhere_of w.phases _ who p region Active (back_kept w p (back_in (phase_of w p))) apart has, λ done. done)
]
step_kept facts w (Runs p ticks) who region may has = inl (has, λ same. apart_from w.phases who p region has may.0 (sym same))
