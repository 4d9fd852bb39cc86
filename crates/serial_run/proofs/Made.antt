-- As many instances have a place for their answers as were made.
use Rattle.std.proofs.Common.{◌≡◌, ℕ, zero, suc, ◌+◌, List, [], ◌∷◌, ◌++◌, ℤ, length, length-set, map, refl, sym, ap, ◌∙◌, inl, inr, Option, Some, None}
use Rattle.std.specs.Prelude.{◌==◌}
use Rattle.std.proofs.lemmas.Bool.{cases_Bool}
use Rattle.std.proofs.lemmas.List.{length_push}
use Rattle.kernel_base.specs.declared.facts.Facts.{Facts}
use Rattle.kernel_base.specs.declared.request.Request.{Request}
use Rattle.kernel_base.specs.declared.request.Request.TheVariants.{Read, Write, Enter, Leave, Delay, Continue, SendBuffer, ReceiveBuffer, SendSignal, ReceiveSignal, Start, Put, Get, End}
use Rattle.kernel_base.specs.declared.answer.Answer.{Answer}
use Rattle.kernel_base.specs.declared.answer.Answer.TheVariants.{Got, Instance, Chose, Handed}
use Rattle.kernel_base.specs.declared.event.Event.{Event}
use Rattle.kernel_base.specs.declared.event.Event.TheVariants.{Did, Waits, Goes, Runs}
use Rattle.world_model.specs.declared.world.World.{World}
use Rattle.world_model.specs.declared.waiting.Waiter.{Waiter}
use Rattle.world_model.specs.declared.waiting.Offer.{Offer}
use Rattle.world_model.specs.Lists.{last_of}
use Rattle.world_model.specs.Waiting.{phase_of, sleeper, buffer_receiver, signal_receiver, offer}
use Rattle.world_model.specs.Allowed.{IsPossible, IsRunFrom, IsRun}
use Rattle.world_model.specs.World.{opening, occupant, held_by, values_but, entered, left, freed_last, locked_back, back_in, chosen, with_next_send, buffer_length, refilled_buffer, refilled_by, refilled, with_drawn, drawn, after_continue, after_send_buffer, after_receive_buffer, after_send_signal, after_receive_signal, after_start, after_request, after_waits, after, after_all, world_of}
use Rattle.world_model.specs.Gives.{Gives}
use Rattle.kernel_base.specs.Facts.{IsSound}
use Rattle.world_model.proofs.Given.{did_gives}
use Rattle.world_model.proofs.RunParts.{front_runs, rest_runs}
use Rattle.world_model.proofs.Well.{IsWell, step_well, opening_well, run_well}
use Rattle.kernel_steps.specs.View.{handed_by, handed}

chosen_made : (w : World) (p : ℕ) (waiter : Option Waiter) (answer : ℕ → Answer) → (chosen w p waiter answer).processes ≡ w.processes
chosen_made w p None answer = refl
chosen_made w p (Some waiter) answer = refl

entered_made : (w : World) (who region : ℕ) (o : Option ℕ) → (entered w who region o).processes ≡ w.processes
entered_made w who region None = refl
entered_made w who region (Some other) = refl

left_made : (w : World) (who region : ℕ) (o : Option ℕ) → (left w who region o).processes ≡ w.processes
left_made w who region None = refl
left_made w who region (Some other) = elim (cases_Bool (other == who)) [
  | inl mine ↦ rw mine refl
  | inr apart ↦ rw apart refl
]

buffer_made : (w : World) (length : Option ℕ) (o : Offer) → (refilled_buffer w length o).processes ≡ w.processes
buffer_made w None o = refl
buffer_made w (Some zero) o = refl
buffer_made w (Some (suc n)) o = refl

refilled_made : (facts : Facts) (w : World) (sender : ℕ) (o : Option Offer) → (refilled_by facts w sender o).processes ≡ w.processes
refilled_made facts w sender None = refl
refilled_made facts w sender (Some o) = buffer_made w (buffer_length facts o.buffer) o

refill_made : (facts : Facts) (w : World) (refill : Option ℕ) → (refilled facts w refill).processes ≡ w.processes
refill_made facts w None = refl
refill_made facts w (Some sender) = refilled_made facts w sender (offer w sender)

continue_made : (w : World) (who event : ℕ) (answer : Answer) → (after_continue w who event answer).processes ≡ w.processes
continue_made w who event (Chose (Some p)) = chosen_made w p (sleeper w event p) _
continue_made w who event answer = refl

send_made : (w : World) (who buffer : ℕ) (scalars : List ℤ) (priority : ℕ) (answer : Answer) → (after_send_buffer w who buffer scalars priority answer).processes ≡ w.processes
send_made w who buffer scalars priority (Handed p) = chosen_made (with_next_send w) p (buffer_receiver w buffer p) _
send_made w who buffer scalars priority answer = refl

receive_made : (facts : Facts) (w : World) (answer : Answer) (refill : Option ℕ) → (after_receive_buffer facts w answer refill).processes ≡ w.processes
receive_made facts w (Got alternative send scalars by) refill = refill_made facts (record w { stored = map (values_but send) w.stored }) refill
receive_made facts w answer refill = refl

signal_made : (facts : Facts) (w : World) (who signal : ℕ) (scalars : List ℤ) (to : Option ℕ) (priority : ℕ) (answer : Answer) → (after_send_signal facts w who signal scalars to priority answer).processes ≡ w.processes
signal_made facts w who signal scalars to priority (Handed p) = chosen_made (with_next_send w) p (signal_receiver facts w signal to p) _
signal_made facts w who signal scalars to priority answer = refl

hear_made : (w : World) (answer : Answer) → (after_receive_signal w answer).processes ≡ w.processes
hear_made w (Got alternative send scalars by) = refl
hear_made w answer = refl

abbrev IsStart : Request → Type 0
IsStart (Start process scalars) = Unit {0}
IsStart request = ⊥

-- only a start makes an instance
did_made : (facts : Facts) (w : World) (who : ℕ) (request : Request) (answer : Answer) (refill : Option ℕ) → (IsStart request → ⊥) → (after_request facts w who request answer refill).processes ≡ w.processes
did_made facts w who (Read place) answer refill other = refl
did_made facts w who (Write place scalars) answer refill other = refl
did_made facts w who (Enter region) answer refill other = entered_made w who region (occupant w region)
did_made facts w who (Leave region) answer refill other = left_made w who region (occupant w region)
did_made facts w who (Delay events priority) answer refill other = refl
did_made facts w who (Continue event) answer refill other = continue_made w who event answer
did_made facts w who (SendBuffer buffer scalars priority) answer refill other = send_made w who buffer scalars priority answer
did_made facts w who (ReceiveBuffer buffers otherwise) answer refill other = receive_made facts w answer refill
did_made facts w who (SendSignal signal scalars to priority) answer refill other = signal_made facts w who signal scalars to priority answer
did_made facts w who (ReceiveSignal signals otherwise) answer refill other = hear_made w answer
did_made facts w who (Start process scalars) answer refill other = absurd (other tt)
did_made facts w who (Put bytes) answer refill other = refl
did_made facts w who Get answer refill other = refl
did_made facts w who (End how) answer refill other = refl

-- only a start is answered by a new instance
gives_none : (request : Request) (i : ℕ) → (IsStart request → ⊥) → Gives request (Instance i) → ⊥
gives_none (Read place) i other gives = gives
gives_none (Write place scalars) i other gives = let f : ⊥ = cc in f
gives_none (Enter region) i other gives = let f : ⊥ = cc in f
gives_none (Leave region) i other gives = let f : ⊥ = cc in f
gives_none (Delay events priority) i other gives = gives
gives_none (Continue event) i other gives = gives
gives_none (SendBuffer buffer scalars priority) i other gives = gives
gives_none (ReceiveBuffer buffers otherwise) i other gives = gives
gives_none (SendSignal signal scalars None priority) i other gives = gives
gives_none (SendSignal signal scalars (Some zero) priority) i other gives = gives
gives_none (SendSignal signal scalars (Some (suc j)) priority) i other gives = gives
gives_none (ReceiveSignal signals otherwise) i other gives = gives
gives_none (Start process scalars) i other gives = other tt
gives_none (Put bytes) i other gives = let f : ⊥ = cc in f
gives_none Get i other gives = gives
gives_none (End how) i other gives = let f : ⊥ = cc in f

-- as many places as before where no instance is made
none_counted : (facts : Facts) (w : World) (xs : List (Option Answer)) (who ticks : ℕ) (request : Request) (answer : Answer) (refill : Option ℕ) → (IsStart request → ⊥) → Gives request answer → length (handed_by xs (Did who ticks request answer refill)) ≡ length xs
none_counted facts w xs who ticks request (Instance i) refill other gives = absurd (gives_none request i other gives)
none_counted facts w xs who ticks request answer refill other gives = refl

start_counted : (w : World) (xs : List (Option Answer)) (who ticks process : ℕ) (scalars : List ℤ) (answer : Answer) (refill : Option ℕ) → length xs ≡ length w.processes → length (handed_by xs (Did who ticks (Start process scalars) answer refill)) ≡ length (after_start w process scalars answer).processes
start_counted w xs who ticks process scalars (Instance i) refill same = length_push xs None ∙ (ap (λ (n : ℕ). n + 1) same ∙ sym (length_push w.processes process))
start_counted w xs who ticks process scalars answer refill same = same

did_counted : (facts : Facts) (w : World) (xs : List (Option Answer)) (who ticks : ℕ) (request : Request) (answer : Answer) (refill : Option ℕ) → Gives request answer → length xs ≡ length w.processes → length (handed_by xs (Did who ticks request answer refill)) ≡ length (after_request facts w who request answer refill).processes
did_counted facts w xs who ticks (Start process scalars) answer refill gives same = start_counted w xs who ticks process scalars answer refill same
did_counted facts w xs who ticks request answer refill gives same = none_counted facts w xs who ticks request answer refill (λ is. is) gives ∙ (same ∙ sym (ap length (did_made facts w who request answer refill (λ is. is))))

freed_made : (w : World) (who : ℕ) (back d : Option ℕ) → (freed_last (with_drawn w d) who back).processes ≡ w.processes
freed_made w who None None = refl
freed_made w who None (Some send) = refl
freed_made w who (Some region) None = refl
freed_made w who (Some region) (Some send) = refl

waits_made : (w : World) (who : ℕ) (request : Request) → (after_waits w who request).processes ≡ w.processes
waits_made w who (Enter region) = refl
waits_made w who request = freed_made w who (last_of (held_by w who)) (drawn w request)

goes_made : (w : World) (who : ℕ) (back : Option ℕ) → (locked_back w who back).processes ≡ w.processes
goes_made w who None = refl
goes_made w who (Some region) = refl

event_counted : (facts : Facts) (w : World) (xs : List (Option Answer)) (event : Event) → IsWell facts w → IsPossible facts w event → length xs ≡ length w.processes → length (handed_by xs event) ≡ length (after facts w event).processes
event_counted facts w xs (Did who ticks request answer refill) well may same = did_counted facts w xs who ticks request answer refill (did_gives facts w who ticks request answer refill well may) same
event_counted facts w xs (Waits who ticks request) well may same = same ∙ sym (ap length (waits_made w who request))
event_counted facts w xs (Goes who answer) well may same = length-set xs who (Some answer) ∙ (same ∙ sym (ap length (goes_made w who (back_in (phase_of w who)))))
event_counted facts w xs (Runs who ticks) well may same = same

events_counted : (facts : Facts) (w : World) (xs : List (Option Answer)) (events : List Event) → IsWell facts w → IsRunFrom facts w events → length xs ≡ length w.processes → length (handed xs events) ≡ length (after_all facts w events).processes
events_counted facts w xs [] well run same = same
events_counted facts w xs (event ∷ events) well run same = events_counted facts (after facts w event) (handed_by xs event) events (step_well facts w event run.0.possible well) run.1 (event_counted facts w xs event well run.0.possible same)

after_both : (facts : Facts) (w : World) (events more : List Event) → after_all facts w (events ++ more) ≡ after_all facts (after_all facts w events) more
after_both facts w [] more = refl
after_both facts w (event ∷ events) more = after_both facts (after facts w event) events more

pub counted_more : (facts : Facts) (xs : List (Option Answer)) (events more : List Event) → IsSound facts → IsRun facts (events ++ more) → length xs ≡ length (world_of facts events).processes → length (handed xs more) ≡ length (world_of facts (events ++ more)).processes
counted_more facts xs events more sound run same =
    let well = run_well facts (opening facts) events (front_runs facts (opening facts) events more run) (opening_well facts sound) in
    events_counted facts (world_of facts events) xs more well (rest_runs facts (opening facts) events more run) same ∙ sym (ap (λ (w : World). length w.processes) (after_both facts (opening facts) events more))
