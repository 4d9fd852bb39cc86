-- In the world that a journal leaves, each instance has a process, arguments and a phase, and there are at most 2^32, the
-- one numbered 0 with them.
use Rattle.std.proofs.Common.{◌≡◌, ◌⊎◌, ℕ, zero, suc, ◌+◌, ◌≤◌, ◌<◌, ◌^◌, List, [], ◌∷◌, ◌++◌, ℤ, length, map, length-set, refl, sym, ap, ◌∙◌, inl, inr, arith, subst, Option, Some, None}
use Rattle.std.specs.Prelude.{◌==◌}
use Rattle.std.proofs.lemmas.Bool.{cases_Bool}
use Rattle.std.proofs.lemmas.List.{length_push}
use Rattle.kernel_base.specs.declared.facts.Facts.{Facts}
use Rattle.kernel_base.specs.declared.request.Request.{Request}
use Rattle.kernel_base.specs.declared.request.Request.TheVariants.{Read, Write, Enter, Leave, Delay, Continue, SendBuffer, ReceiveBuffer, SendSignal, ReceiveSignal, Start, Put, Get, End}
use Rattle.kernel_base.specs.declared.answer.Answer.{Answer}
use Rattle.kernel_base.specs.declared.answer.Answer.TheVariants.{Got, Instance, Chose, Handed, Stored}
use Rattle.kernel_base.specs.declared.event.Event.{Event}
use Rattle.kernel_base.specs.declared.event.Event.TheVariants.{Did, Waits, Goes, Runs}
use Rattle.world_model.specs.declared.world.Phase.{Phase}
use Rattle.world_model.specs.declared.world.Phase.TheVariants.{Active}
use Rattle.world_model.specs.declared.world.World.{World}
use Rattle.world_model.specs.declared.waiting.Waiter.{Waiter}
use Rattle.world_model.specs.declared.waiting.Offer.{Offer}
use Rattle.world_model.specs.Lists.{last_of}
use Rattle.world_model.specs.Waiting.{phase_of, sleeper, buffer_receiver, signal_receiver, offer}
use Rattle.world_model.specs.Allowed.{IsAllowed, IsRunFrom, IsRun}
use Rattle.world_model.specs.World.{opening, occupant, held_by, with_phase, values_but, entered, left, freed_last, locked_back, back_in, chosen, with_next_send, buffer_length, refilled_buffer, refilled_by, refilled, with_drawn, drawn, after_continue, after_send_buffer, after_receive_buffer, after_send_signal, after_receive_signal, after_start, after_request, after_waits, after, after_all, world_of}

-- as many processes as phases
abbrev pub IsNumbered : World → Type 0
IsNumbered w = length w.processes ≡ length w.phases

-- no instance is made
record Keeps (w w' : World) : Type 0 where
  pub processes : w'.processes ≡ w.processes
  pub arguments : w'.arguments ≡ w.arguments
  pub phases : length w'.phases ≡ length w.phases

same : (w : World) → Keeps w w
same w = record { processes = refl; arguments = refl; phases = refl }

chosen_keeps : (w : World) (p : ℕ) (waiter : Option Waiter) (answer : ℕ → Answer) → Keeps w (chosen w p waiter answer)
chosen_keeps w p None answer = same w
chosen_keeps w p (Some waiter) answer = record { processes = refl; arguments = refl; phases = length-set w.phases p _ }

entered_keeps : (w : World) (who region : ℕ) (o : Option ℕ) → Keeps w (entered w who region o)
entered_keeps w who region None = record { processes = refl; arguments = refl; phases = refl }
entered_keeps w who region (Some other) = same w

left_keeps : (w : World) (who region : ℕ) (o : Option ℕ) → Keeps w (left w who region o)
left_keeps w who region None = same w
left_keeps w who region (Some other) = elim (cases_Bool (other == who)) [
  | inl mine ↦ rw mine (record { processes = refl; arguments = refl; phases = refl })
  | inr apart ↦ rw apart (same w)
]

refilled_buffer_keeps : (w : World) (length : Option ℕ) (o : Offer) (sender : ℕ) (phase : Phase) → Keeps w (with_phase (refilled_buffer w length o) sender phase)
refilled_buffer_keeps w None o sender phase = record { processes = refl; arguments = refl; phases = length-set w.phases sender phase }
refilled_buffer_keeps w (Some zero) o sender phase = record { processes = refl; arguments = refl; phases = length-set w.phases sender phase }
refilled_buffer_keeps w (Some (suc n)) o sender phase = record { processes = refl; arguments = refl; phases = length-set w.phases sender phase }

refilled_by_keeps : (facts : Facts) (w : World) (sender : ℕ) (o : Option Offer) → Keeps w (refilled_by facts w sender o)
refilled_by_keeps facts w sender None = same w
refilled_by_keeps facts w sender (Some o) = refilled_buffer_keeps w (buffer_length facts o.buffer) o sender _

refilled_keeps : (facts : Facts) (w : World) (refill : Option ℕ) → Keeps w (refilled facts w refill)
refilled_keeps facts w None = same w
refilled_keeps facts w (Some sender) = refilled_by_keeps facts w sender (offer w sender)

continue_keeps : (w : World) (who event : ℕ) (answer : Answer) → Keeps w (after_continue w who event answer)
continue_keeps w who event (Chose (Some p)) = chosen_keeps w p (sleeper w event p) _
continue_keeps w who event answer = same w

send_keeps : (w : World) (who buffer : ℕ) (scalars : List ℤ) (priority : ℕ) (answer : Answer) → Keeps w (after_send_buffer w who buffer scalars priority answer)
send_keeps w who buffer scalars priority (Handed p) = let k = chosen_keeps (with_next_send w) p (buffer_receiver w buffer p) _ in record { processes = k.processes; arguments = k.arguments; phases = k.phases }
send_keeps w who buffer scalars priority answer = record { processes = refl; arguments = refl; phases = refl }

receive_keeps : (facts : Facts) (w : World) (answer : Answer) (refill : Option ℕ) → Keeps w (after_receive_buffer facts w answer refill)
receive_keeps facts w (Got alternative send scalars by) refill = let k = refilled_keeps facts (record w { stored = map (values_but send) w.stored }) refill in record { processes = k.processes; arguments = k.arguments; phases = k.phases }
receive_keeps facts w answer refill = same w

signal_keeps : (facts : Facts) (w : World) (who signal : ℕ) (scalars : List ℤ) (to : Option ℕ) (priority : ℕ) (answer : Answer) → Keeps w (after_send_signal facts w who signal scalars to priority answer)
signal_keeps facts w who signal scalars to priority (Handed p) = let k = chosen_keeps (with_next_send w) p (signal_receiver facts w signal to p) _ in record { processes = k.processes; arguments = k.arguments; phases = k.phases }
signal_keeps facts w who signal scalars to priority Stored = record { processes = refl; arguments = refl; phases = refl }
signal_keeps facts w who signal scalars to priority answer = same w

hear_keeps : (w : World) (answer : Answer) → Keeps w (after_receive_signal w answer)
hear_keeps w (Got alternative send scalars by) = record { processes = refl; arguments = refl; phases = refl }
hear_keeps w answer = same w

-- the event makes an instance
record Makes (w w' : World) (event : Event) : Type 0 where
  pub who : ℕ
  pub ticks : ℕ
  pub process : ℕ
  pub scalars : List ℤ
  pub instance : ℕ
  pub refill : Option ℕ
  pub is : event ≡ Did who ticks (Start process scalars) (Instance instance) refill
  pub processes : w'.processes ≡ w.processes ++ process ∷ []
  pub arguments : w'.arguments ≡ w.arguments ++ scalars ∷ []
  pub phases : w'.phases ≡ w.phases ++ Active ∷ []

start_counts : (facts : Facts) (w : World) (who ticks process : ℕ) (scalars : List ℤ) (answer : Answer) (refill : Option ℕ) → Keeps w (after_start w process scalars answer) ⊎ Makes w (after_start w process scalars answer) (Did who ticks (Start process scalars) answer refill)
start_counts facts w who ticks process scalars (Instance i) refill = inr (record { who = who; ticks = ticks; process = process; scalars = scalars; instance = i; refill = refill; is = refl; processes = refl; arguments = refl; phases = refl })
start_counts facts w who ticks process scalars answer refill = inl (same w)

did_counts : (facts : Facts) (w : World) (who ticks : ℕ) (request : Request) (answer : Answer) (refill : Option ℕ) → Keeps w (after_request facts w who request answer refill) ⊎ Makes w (after_request facts w who request answer refill) (Did who ticks request answer refill)
did_counts facts w who ticks (Read place) answer refill = inl (same w)
did_counts facts w who ticks (Write place scalars) answer refill = inl (record { processes = refl; arguments = refl; phases = refl })
did_counts facts w who ticks (Enter region) answer refill = inl (entered_keeps w who region (occupant w region))
did_counts facts w who ticks (Leave region) answer refill = inl (left_keeps w who region (occupant w region))
did_counts facts w who ticks (Delay events priority) answer refill = inl (same w)
did_counts facts w who ticks (Continue event) answer refill = inl (continue_keeps w who event answer)
did_counts facts w who ticks (SendBuffer buffer scalars priority) answer refill = inl (send_keeps w who buffer scalars priority answer)
did_counts facts w who ticks (ReceiveBuffer buffers otherwise) answer refill = inl (receive_keeps facts w answer refill)
did_counts facts w who ticks (SendSignal signal scalars to priority) answer refill = inl (signal_keeps facts w who signal scalars to priority answer)
did_counts facts w who ticks (ReceiveSignal signals otherwise) answer refill = inl (hear_keeps w answer)
did_counts facts w who ticks (Start process scalars) answer refill = start_counts facts w who ticks process scalars answer refill
did_counts facts w who ticks (Put bytes) answer refill = inl (record { processes = refl; arguments = refl; phases = refl })
did_counts facts w who ticks Get answer refill = inl (record { processes = refl; arguments = refl; phases = refl })
did_counts facts w who ticks (End how) answer refill = inl (record { processes = refl; arguments = refl; phases = length-set w.phases who _ })

freed_keeps : (w : World) (who : ℕ) (back d : Option ℕ) (phase : Phase) → Keeps w (with_phase (freed_last (with_drawn w d) who back) who phase)
freed_keeps w who None None phase = record { processes = refl; arguments = refl; phases = length-set w.phases who phase }
freed_keeps w who None (Some send) phase = record { processes = refl; arguments = refl; phases = length-set w.phases who phase }
freed_keeps w who (Some region) None phase = record { processes = refl; arguments = refl; phases = length-set w.phases who phase }
freed_keeps w who (Some region) (Some send) phase = record { processes = refl; arguments = refl; phases = length-set w.phases who phase }

waits_keeps : (w : World) (who : ℕ) (request : Request) → Keeps w (after_waits w who request)
waits_keeps w who (Enter region) = record { processes = refl; arguments = refl; phases = length-set w.phases who _ }
waits_keeps w who request = freed_keeps w who (last_of (held_by w who)) (drawn w request) _

goes_keeps : (w : World) (who : ℕ) (back : Option ℕ) → Keeps w (with_phase (locked_back w who back) who Active)
goes_keeps w who None = record { processes = refl; arguments = refl; phases = length-set w.phases who Active }
goes_keeps w who (Some region) = record { processes = refl; arguments = refl; phases = length-set w.phases who Active }

after_counts : (facts : Facts) (w : World) (event : Event) → Keeps w (after facts w event) ⊎ Makes w (after facts w event) event
after_counts facts w (Did who ticks request answer refill) = did_counts facts w who ticks request answer refill
after_counts facts w (Waits who ticks request) = inl (waits_keeps w who request)
after_counts facts w (Goes who answer) = inl (goes_keeps w who (back_in (phase_of w who)))
after_counts facts w (Runs who ticks) = inl (same w)

-- as many processes, and as many lists of arguments, as phases
record IsCounted (w : World) : Type 0 where
  pub processes : IsNumbered w
  pub arguments : length w.arguments ≡ length w.phases

after_counted : (facts : Facts) (w : World) (event : Event) → IsCounted w → IsCounted (after facts w event)
after_counted facts w event h = elim (after_counts facts w event) [
  | inl keeps ↦ record {
    processes = ap length keeps.processes ∙ h.processes ∙ sym keeps.phases;
    arguments = ap length keeps.arguments ∙ h.arguments ∙ sym keeps.phases;
  }
  | inr makes ↦ (let phases : length (w.phases ++ Active ∷ []) ≡ length w.phases + 1 = length_push w.phases Active in record {
    processes = ap length makes.processes ∙ length_push w.processes makes.process ∙ ap (λ n. n + 1) h.processes ∙ sym phases ∙ sym (ap length makes.phases);
    arguments = ap length makes.arguments ∙ length_push w.arguments makes.scalars ∙ ap (λ n. n + 1) h.arguments ∙ sym phases ∙ sym (ap length makes.phases);
  })
]

all_counted : (facts : Facts) (w : World) (events : List Event) → IsCounted w → IsCounted (after_all facts w events)
all_counted facts w [] h = h
all_counted facts w (event ∷ events) h = all_counted facts (after facts w event) events (after_counted facts w event h)

world_counted : (facts : Facts) (events : List Event) → IsCounted (world_of facts events)
world_counted facts events = all_counted facts (opening facts) events (record { processes = refl; arguments = refl })

pub world_numbered : (facts : Facts) (events : List Event) → IsNumbered (world_of facts events)
world_numbered facts events = (world_counted facts events).processes

pub world_argued : (facts : Facts) (events : List Event) → length (world_of facts events).arguments ≡ length (world_of facts events).phases
world_argued facts events = (world_counted facts events).arguments

-- The number of a new instance is told by its event, and has 32 bits.
after_few : (facts : Facts) (w : World) (event : Event) → IsAllowed facts w event → length w.phases ≤ 2 ^ 32 → length (after facts w event).phases ≤ 2 ^ 32
after_few facts w event allowed few = elim (after_counts facts w event) [
  | inl keeps ↦ (let e = keeps.phases in omega (arith, e, few))
  | inr makes ↦ (
      let now : IsAllowed facts w (Did makes.who makes.ticks (Start makes.process makes.scalars) (Instance makes.instance) makes.refill) = subst (λ (e : Event). IsAllowed facts w e) makes.is allowed in
      let number : makes.instance < 2 ^ 32 = now.in_range.3 in
      let next : makes.instance ≡ length w.phases = now.possible.1.1.1 in
      let more : length (after facts w event).phases ≡ length w.phases + 1 = ap length makes.phases ∙ length_push w.phases Active in
      omega (arith, number, next, more))
]

all_few : (facts : Facts) (w : World) (events : List Event) → IsRunFrom facts w events → length w.phases ≤ 2 ^ 32 → length (after_all facts w events).phases ≤ 2 ^ 32
all_few facts w [] run few = few
all_few facts w (event ∷ events) run few = all_few facts (after facts w event) events run.1 (after_few facts w event run.0 few)

-- Instance 0, which is none, is one of them: fewer than 2^32 are made.
pub world_few : (facts : Facts) (events : List Event) → IsRun facts events → length (world_of facts events).phases ≤ 2 ^ 32
world_few facts events run = all_few facts (opening facts) events run (omega arith)
