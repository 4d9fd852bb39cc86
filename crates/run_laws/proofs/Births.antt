-- How instances are born.
use Rattle.std.proofs.Common.{◌≡◌, ◌⊎◌, ℕ, zero, suc, ◌+◌, ◌≤◌, ◌<◌, List, [], ◌∷◌, ◌++◌, ℤ, length, map, length-set, refl, sym, ap, ◌∙◌, inl, inr, arith, subst, append_assoc, append-nil, true, false, Option, Some, None, slice_get}
use Rattle.std.specs.Prelude.{◌==◌, if◌then◌else◌}
use Rattle.std.specs.List.{flat_map}
use Rattle.std.proofs.lemmas.Bool.{cases_Bool, cases_eq, cases_lt, eqb-true, eq-eqb}
use Rattle.std.proofs.lemmas.List.Concat.{flat_map-append}
use Rattle.std.proofs.lemmas.List.{length_push}
use Rattle.std.proofs.lemmas.Option.{slice_get_past, slice_get_within, slice_get_cases}
use Rattle.kernel_base.proofs.Layers.{slice_get-append_left, slice_get-append_right}
use Rattle.kernel_base.specs.declared.facts.Facts.{Facts}
use Rattle.kernel_base.specs.declared.request.Request.{Request}
use Rattle.kernel_base.specs.declared.request.Request.TheVariants.{Read, Write, Enter, Leave, Delay, Continue, SendBuffer, ReceiveBuffer, SendSignal, ReceiveSignal, Start, Put, Get, End}
use Rattle.kernel_base.specs.declared.answer.Answer.{Answer}
use Rattle.kernel_base.specs.declared.answer.Answer.TheVariants.{Got, Instance, Chose, Handed, Stored}
use Rattle.kernel_base.specs.declared.event.Event.{Event}
use Rattle.kernel_base.specs.declared.event.Event.TheVariants.{Did, Waits, Goes, Runs}
use Rattle.world_model.specs.declared.world.Phase.{Phase}
use Rattle.world_model.specs.declared.world.Phase.TheVariants.{Active}
use Rattle.world_model.specs.declared.world.World.{World}
use Rattle.world_model.specs.declared.waiting.Waiter.{Waiter}
use Rattle.world_model.specs.declared.waiting.Offer.{Offer}
use Rattle.world_model.specs.Lists.{last_of}
use Rattle.world_model.specs.Journal.{items_by, line_of, answers_by, answers_of, Birth, births_by, first_birth, started_as}
use Rattle.world_model.specs.Waiting.{phase_of, sleeper, buffer_receiver, signal_receiver, offer}
use Rattle.world_model.specs.Allowed.{IsAllowed, IsPossible, IsRunFrom}
use Rattle.world_model.specs.World.{opening, occupant, held_by, with_phase, values_but, entered, left, freed_last, locked_back, back_in, chosen, with_next_send, buffer_length, refilled_buffer, refilled_by, refilled, with_drawn, drawn, after_continue, after_send_buffer, after_receive_buffer, after_send_signal, after_receive_signal, after_start, after_request, after_waits, after, after_all}
use Rattle.run_laws.specs.Laws.{birth_in, birth_at, Births, BirthsLaw}

-- no instance is made
pub record Keeps (w w' : World) : Type 0 where
  pub processes : w'.processes ≡ w.processes
  pub arguments : w'.arguments ≡ w.arguments
  pub phases : length w'.phases ≡ length w.phases

same : (w : World) → Keeps w w
same w = record { processes = refl; arguments = refl; phases = refl }

chosen_keeps : (w : World) (p : ℕ) (waiter : Option Waiter) (answer : ℕ → Answer) → Keeps w (chosen w p waiter answer)
chosen_keeps w p None answer = same w
chosen_keeps w p (Some waiter) answer = record { processes = refl; arguments = refl; phases = length-set w.phases p _ }

pub entered_keeps : (w : World) (who region : ℕ) (o : Option ℕ) → Keeps w (entered w who region o)
entered_keeps w who region None = record { processes = refl; arguments = refl; phases = refl }
entered_keeps w who region (Some other) = same w

pub left_keeps : (w : World) (who region : ℕ) (o : Option ℕ) → Keeps w (left w who region o)
left_keeps w who region None = same w
left_keeps w who region (Some other) = elim (cases_Bool (other == who)) [
  | inl mine ↦ rw mine (record { processes = refl; arguments = refl; phases = refl })
  | inr apart ↦ rw apart (same w)
]

refilled_buffer_keeps : (w : World) (length : Option ℕ) (o : Offer) (sender : ℕ) (phase : Phase) → Keeps w (with_phase (refilled_buffer w length o) sender phase)
refilled_buffer_keeps w None o sender phase = record { processes = refl; arguments = refl; phases = length-set w.phases sender phase }
refilled_buffer_keeps w (Some zero) o sender phase = record { processes = refl; arguments = refl; phases = length-set w.phases sender phase }
refilled_buffer_keeps w (Some (suc n)) o sender phase = record { processes = refl; arguments = refl; phases = length-set w.phases sender phase }

refilled_by_keeps : (facts : Facts) (w : World) (sender : ℕ) (o : Option Offer) → Keeps w (refilled_by facts w sender o)
refilled_by_keeps facts w sender None = same w
refilled_by_keeps facts w sender (Some o) = refilled_buffer_keeps w (buffer_length facts o.buffer) o sender _

refilled_keeps : (facts : Facts) (w : World) (refill : Option ℕ) → Keeps w (refilled facts w refill)
refilled_keeps facts w None = same w
refilled_keeps facts w (Some sender) = refilled_by_keeps facts w sender (offer w sender)

pub continue_keeps : (w : World) (who event : ℕ) (answer : Answer) → Keeps w (after_continue w who event answer)
continue_keeps w who event (Chose (Some p)) = chosen_keeps w p (sleeper w event p) _
continue_keeps w who event answer = same w

pub send_keeps : (w : World) (who buffer : ℕ) (scalars : List ℤ) (priority : ℕ) (answer : Answer) → Keeps w (after_send_buffer w who buffer scalars priority answer)
send_keeps w who buffer scalars priority (Handed p) = let k = chosen_keeps (with_next_send w) p (buffer_receiver w buffer p) _ in record { processes = k.processes; arguments = k.arguments; phases = k.phases }
send_keeps w who buffer scalars priority answer = record { processes = refl; arguments = refl; phases = refl }

pub receive_keeps : (facts : Facts) (w : World) (answer : Answer) (refill : Option ℕ) → Keeps w (after_receive_buffer facts w answer refill)
receive_keeps facts w (Got alternative send scalars by) refill = let k = refilled_keeps facts (record w { stored = map (values_but send) w.stored }) refill in record { processes = k.processes; arguments = k.arguments; phases = k.phases }
receive_keeps facts w answer refill = same w

pub signal_keeps : (facts : Facts) (w : World) (who signal : ℕ) (scalars : List ℤ) (to : Option ℕ) (priority : ℕ) (answer : Answer) → Keeps w (after_send_signal facts w who signal scalars to priority answer)
signal_keeps facts w who signal scalars to priority (Handed p) = let k = chosen_keeps (with_next_send w) p (signal_receiver facts w signal to p) _ in record { processes = k.processes; arguments = k.arguments; phases = k.phases }
signal_keeps facts w who signal scalars to priority Stored = record { processes = refl; arguments = refl; phases = refl }
signal_keeps facts w who signal scalars to priority answer = same w

pub hear_keeps : (w : World) (answer : Answer) → Keeps w (after_receive_signal w answer)
hear_keeps w (Got alternative send scalars by) = record { processes = refl; arguments = refl; phases = refl }
hear_keeps w answer = same w

-- the event makes no instance
record MakesNone (w w' : World) (event : Event) : Type 0 where
  pub keeps : Keeps w w'
  pub none : (i : ℕ) → births_by i event ≡ []

-- the event makes an instance, the next one
record MakesOne (w w' : World) (event : Event) : Type 0 where
  pub process : ℕ
  pub scalars : List ℤ
  pub births : (i : ℕ) → births_by i event ≡ (if length w.phases == i then record { process = process; arguments = scalars } ∷ [] else [])
  pub processes : w'.processes ≡ w.processes ++ process ∷ []
  pub arguments : w'.arguments ≡ w.arguments ++ scalars ∷ []
  pub phases : w'.phases ≡ w.phases ++ Active ∷ []

start_makes : (facts : Facts) (w : World) (who ticks process : ℕ) (scalars : List ℤ) (answer : Answer) (refill : Option ℕ) → IsPossible facts w (Did who ticks (Start process scalars) answer refill)
    → MakesNone w (after_start w process scalars answer) (Did who ticks (Start process scalars) answer refill) ⊎ MakesOne w (after_start w process scalars answer) (Did who ticks (Start process scalars) answer refill)
start_makes facts w who ticks process scalars (Instance j) refill may =
    let is : j ≡ length w.phases = may.1.1.1 in
    let births : (i : ℕ) → births_by i (Did who ticks (Start process scalars) (Instance j) refill) ≡ (if length w.phases == i then record { process = process; arguments = scalars } ∷ [] else []) = λ i. rw is refl in
    inr (record { process = process; scalars = scalars; births = births; processes = refl; arguments = refl; phases = refl })
start_makes facts w who ticks process scalars answer refill may = inl (record { keeps = same w; none = λ i. refl })

did_makes : (facts : Facts) (w : World) (who ticks : ℕ) (request : Request) (answer : Answer) (refill : Option ℕ) → IsPossible facts w (Did who ticks request answer refill)
    → MakesNone w (after_request facts w who request answer refill) (Did who ticks request answer refill) ⊎ MakesOne w (after_request facts w who request answer refill) (Did who ticks request answer refill)
did_makes facts w who ticks (Read place) answer refill may = inl (record { keeps = same w; none = λ i. refl })
did_makes facts w who ticks (Write place scalars) answer refill may = inl (record { keeps = record { processes = refl; arguments = refl; phases = refl }; none = λ i. refl })
did_makes facts w who ticks (Enter region) answer refill may = inl (record { keeps = entered_keeps w who region (occupant w region); none = λ i. refl })
did_makes facts w who ticks (Leave region) answer refill may = inl (record { keeps = left_keeps w who region (occupant w region); none = λ i. refl })
did_makes facts w who ticks (Delay events priority) answer refill may = inl (record { keeps = same w; none = λ i. refl })
did_makes facts w who ticks (Continue event) answer refill may = inl (record { keeps = continue_keeps w who event answer; none = λ i. refl })
did_makes facts w who ticks (SendBuffer buffer scalars priority) answer refill may = inl (record { keeps = send_keeps w who buffer scalars priority answer; none = λ i. refl })
did_makes facts w who ticks (ReceiveBuffer buffers otherwise) answer refill may = inl (record { keeps = receive_keeps facts w answer refill; none = λ i. refl })
did_makes facts w who ticks (SendSignal signal scalars to priority) answer refill may = inl (record { keeps = signal_keeps facts w who signal scalars to priority answer; none = λ i. refl })
did_makes facts w who ticks (ReceiveSignal signals otherwise) answer refill may = inl (record { keeps = hear_keeps w answer; none = λ i. refl })
did_makes facts w who ticks (Start process scalars) answer refill may = start_makes facts w who ticks process scalars answer refill may
did_makes facts w who ticks (Put bytes) answer refill may = inl (record { keeps = record { processes = refl; arguments = refl; phases = refl }; none = λ i. refl })
did_makes facts w who ticks Get answer refill may = inl (record { keeps = record { processes = refl; arguments = refl; phases = refl }; none = λ i. refl })
did_makes facts w who ticks (End how) answer refill may = inl (record { keeps = record { processes = refl; arguments = refl; phases = length-set w.phases who _ }; none = λ i. refl })

freed_keeps : (w : World) (who : ℕ) (back d : Option ℕ) (phase : Phase) → Keeps w (with_phase (freed_last (with_drawn w d) who back) who phase)
freed_keeps w who None None phase = record { processes = refl; arguments = refl; phases = length-set w.phases who phase }
freed_keeps w who None (Some send) phase = record { processes = refl; arguments = refl; phases = length-set w.phases who phase }
freed_keeps w who (Some region) None phase = record { processes = refl; arguments = refl; phases = length-set w.phases who phase }
freed_keeps w who (Some region) (Some send) phase = record { processes = refl; arguments = refl; phases = length-set w.phases who phase }

pub waits_keeps : (w : World) (who : ℕ) (request : Request) → Keeps w (after_waits w who request)
waits_keeps w who (Enter region) = record { processes = refl; arguments = refl; phases = length-set w.phases who _ }
waits_keeps w who request = freed_keeps w who (last_of (held_by w who)) (drawn w request) _

pub goes_keeps : (w : World) (who : ℕ) (back : Option ℕ) → Keeps w (with_phase (locked_back w who back) who Active)
goes_keeps w who None = record { processes = refl; arguments = refl; phases = length-set w.phases who Active }
goes_keeps w who (Some region) = record { processes = refl; arguments = refl; phases = length-set w.phases who Active }

after_makes : (facts : Facts) (w : World) (event : Event) → IsPossible facts w event → MakesNone w (after facts w event) event ⊎ MakesOne w (after facts w event) event
after_makes facts w (Did who ticks request answer refill) may = did_makes facts w who ticks request answer refill may
after_makes facts w (Waits who ticks request) may = inl (record { keeps = waits_keeps w who request; none = λ i. refl })
after_makes facts w (Goes who answer) may = inl (record { keeps = goes_keeps w who (back_in (phase_of w who)); none = λ i. refl })
after_makes facts w (Runs who ticks) may = inl (record { keeps = same w; none = λ i. refl })

-- one that wasn't made has no part in the event
apart : (a b : ℕ) → a < b → (a == b) ≡ false
apart a b low = elim (cases_Bool (a == b)) [
  | inl is ↦ absurd (let e : a ≡ b = eqb-true a b is in let f : ⊥ = omega (arith, e, low) in f)
  | inr other ↦ other
]

below : (w : World) (who i : ℕ) (phase : Phase) → slice_get w.phases who ≡ Some phase → length w.phases ≤ i → (who == i) ≡ false
below w who i phase at past = let low = slice_get_within w.phases who phase at in apart who i (omega (arith, low, past))

has_no_part : (facts : Facts) (w : World) (event : Event) (i : ℕ) → IsPossible facts w event → length w.phases ≤ i → (items_by i event ≡ []) × (answers_by i event ≡ [])
has_no_part facts w (Did who ticks request answer refill) i may past = let no = below w who i Active may.0.active past in (rw no refl, rw no refl)
has_no_part facts w (Waits who ticks request) i may past = let no = below w who i Active may.0.active past in (rw no refl, refl)
has_no_part facts w (Goes who answer) i may past = let no = below w who i _ may.chosen past in (refl, rw no refl)
has_no_part facts w (Runs who ticks) i may past = let no = below w who i Active may.0 past in (rw no refl, refl)

line_on : (i : ℕ) (events : List Event) (event : Event) → line_of i (events ++ event ∷ []) ≡ line_of i events ++ (items_by i event ++ [])
line_on i events event = flat_map-append (items_by i) events (event ∷ [])

answers_on : (i : ℕ) (events : List Event) (event : Event) → answers_of i (events ++ event ∷ []) ≡ answers_of i events ++ (answers_by i event ++ [])
answers_on i events event = flat_map-append (answers_by i) events (event ∷ [])

started_on : (i : ℕ) (events : List Event) (event : Event) → started_as i (events ++ event ∷ []) ≡ first_birth (flat_map (births_by i) events ++ (births_by i event ++ []))
started_on i events event = ap first_birth (flat_map-append (births_by i) events (event ∷ []))

stays_quiet : (facts : Facts) (w : World) (events : List Event) (event : Event) (i : ℕ) → IsPossible facts w event → length w.phases ≤ i → (line_of i events ≡ []) × (answers_of i events ≡ []) → (line_of i (events ++ event ∷ []) ≡ []) × (answers_of i (events ++ event ∷ []) ≡ [])
stays_quiet facts w events event i may past quiet =
    let part = has_no_part facts w event i may past in
    (line_on i events event ∙ rw (quiet.0, part.0) refl, answers_on i events event ∙ rw (quiet.1, part.1) refl)

no_more : (i : ℕ) (events : List Event) (event : Event) → births_by i event ≡ [] → started_as i (events ++ event ∷ []) ≡ started_as i events
no_more i events event none = started_on i events event ∙ (ap (λ (more : List Birth). first_birth (flat_map (births_by i) events ++ (more ++ []))) none ∙ ap first_birth (append-nil (flat_map (births_by i) events)))

first_after_none : (births : List Birth) (birth : Birth) → first_birth births ≡ None → first_birth (births ++ birth ∷ []) ≡ Some birth
first_after_none [] birth none = refl
first_after_none (other ∷ births) birth none = absurd (let f : ⊥ = cc in f)

pushed_within : {A : Type 0} (xs : List A) (x : A) (i : ℕ) → i < length xs → slice_get (xs ++ x ∷ []) i ≡ slice_get xs i
pushed_within xs x i low = elim ((slice_get_cases xs i).1) [
  | inl (y, inside, at, item) ↦ slice_get-append_left xs (x ∷ []) i y at ∙ sym at
  | inr (past, at) ↦ absurd (let f : ⊥ = omega (arith, low, past) in f)
]

pushed_last : {A : Type 0} (xs : List A) (x : A) → slice_get (xs ++ x ∷ []) (length xs) ≡ Some x
pushed_last xs x = slice_get-append_right xs (x ∷ []) (length xs) 0 x (omega arith) refl

pushed_past : {A : Type 0} (xs : List A) (x : A) (i : ℕ) → length xs < i → slice_get (xs ++ x ∷ []) i ≡ None
pushed_past xs x i high = let n = length_push xs x in slice_get_past (xs ++ x ∷ []) i (omega (arith, n, high))

-- where no instance is made
none_made : (facts : Facts) (w w' : World) (events : List Event) (event : Event) → IsPossible facts w event → MakesNone w w' event → Births w events → Births w' (events ++ event ∷ [])
none_made facts w w' events event may m b = record {
  processes = ap length m.keeps.processes ∙ (b.processes ∙ sym m.keeps.phases);
  arguments = ap length m.keeps.arguments ∙ (b.arguments ∙ sym m.keeps.phases);
  some = let e = m.keeps.phases in let s = b.some in omega (arith, e, s);
  nobody = no_more 0 events event (m.none 0) ∙ b.nobody;
  births = λ i low. no_more i events event (m.none i) ∙ (b.births i low ∙ sym (ap (λ (l : List ℕ). birth_in (slice_get l i) (slice_get w'.arguments i)) m.keeps.processes ∙ ap (λ (l : List (List ℤ)). birth_in (slice_get w.processes i) (slice_get l i)) m.keeps.arguments));
  quiet = λ i past. let e = m.keeps.phases in stays_quiet facts w events event i may (omega (arith, e, past)) (b.quiet i (omega (arith, e, past)));
}

-- a birth in lists that have one more
grown_birth : (processes : List ℕ) (arguments : List (List ℤ)) (process : ℕ) (scalars : List ℤ) (n i : ℕ) → length processes ≡ n → length arguments ≡ n → (n ≡ i → ⊥) → birth_in (slice_get (processes ++ process ∷ []) i) (slice_get (arguments ++ scalars ∷ []) i) ≡ birth_in (slice_get processes i) (slice_get arguments i)
grown_birth processes arguments process scalars n i p a other = elim (cases_lt i n) [
  | inl low ↦ rw (pushed_within processes process i (omega (arith, p, low)), pushed_within arguments scalars i (omega (arith, a, low))) refl
  | inr high ↦ (
      let above : n < i = grind (arith, other, high) in
      rw (pushed_past processes process i (omega (arith, p, above)), slice_get_past processes i (omega (arith, p, above))) refl)
]

-- where one is made
one_made_births : (w w' : World) (events : List Event) (event : Event) (m : MakesOne w w' event) → Births w events → (i : ℕ) → 2 ≤ i → started_as i (events ++ event ∷ []) ≡ birth_at w' i
one_made_births w w' events event m b i low = elim (cases_eq (length w.phases) i) [
  | inl here ↦ (
      let test : (length w.phases == i) ≡ true = eq-eqb (length w.phases) i here in
      let one : births_by i event ≡ record { process = m.process; arguments = m.scalars } ∷ [] = m.births i ∙ rw test refl in
      let none : started_as i events ≡ None = b.births i low ∙ ap (λ (o : Option ℕ). birth_in o (slice_get w.arguments i)) (slice_get_past w.processes i (let e = b.processes in omega (arith, e, here))) in
      let is_process : slice_get w'.processes i ≡ Some m.process = ap (λ (l : List ℕ). slice_get l i) m.processes ∙ (ap (λ (n : ℕ). slice_get (w.processes ++ m.process ∷ []) n) (sym here ∙ sym b.processes) ∙ pushed_last w.processes m.process) in
      let are_arguments : slice_get w'.arguments i ≡ Some m.scalars = ap (λ (l : List (List ℤ)). slice_get l i) m.arguments ∙ (ap (λ (n : ℕ). slice_get (w.arguments ++ m.scalars ∷ []) n) (sym here ∙ sym b.arguments) ∙ pushed_last w.arguments m.scalars) in
      started_on i events event ∙ (ap (λ (more : List Birth). first_birth (flat_map (births_by i) events ++ (more ++ []))) one ∙ (first_after_none (flat_map (births_by i) events) (record { process = m.process; arguments = m.scalars }) none ∙ sym (rw (is_process, are_arguments) refl))))
  | inr other ↦ (
      let test : (length w.phases == i) ≡ false = elim (cases_Bool (length w.phases == i)) [ inl is ↦ absurd (other (eqb-true (length w.phases) i is)) | inr different ↦ different ] in
      let none : births_by i event ≡ [] = m.births i ∙ rw test refl in
      no_more i events event none ∙ (b.births i low ∙ sym (
      ap (λ (l : List ℕ). birth_in (slice_get l i) (slice_get w'.arguments i)) m.processes
      ∙ (ap (λ (l : List (List ℤ)). birth_in (slice_get (w.processes ++ m.process ∷ []) i) (slice_get l i)) m.arguments
      ∙ grown_birth w.processes w.arguments m.process m.scalars (length w.phases) i b.processes b.arguments other))))
]

not_first : (n : ℕ) → 2 ≤ n → (n == 0) ≡ false
not_first n low = elim (cases_Bool (n == 0)) [
  | inl is ↦ absurd (let e : n ≡ 0 = eqb-true n 0 is in let f : ⊥ = omega (arith, e, low) in f)
  | inr different ↦ different
]

one_made : (facts : Facts) (w w' : World) (events : List Event) (event : Event) → IsPossible facts w event → MakesOne w w' event → Births w events → Births w' (events ++ event ∷ [])
one_made facts w w' events event may m b =
    let p = length_push w.processes m.process in
    let a = length_push w.arguments m.scalars in
    let n = length_push w.phases Active in
    let phases : length w'.phases ≡ length w.phases + 1 = ap length m.phases ∙ n in
    record {
      processes = ap length m.processes ∙ (p ∙ (ap (λ (k : ℕ). k + 1) b.processes ∙ sym phases));
      arguments = ap length m.arguments ∙ (a ∙ (ap (λ (k : ℕ). k + 1) b.arguments ∙ sym phases));
      some = let s = b.some in omega (arith, phases, s);
      nobody = no_more 0 events event (m.births 0 ∙ rw (not_first (length w.phases) b.some) refl) ∙ b.nobody;
      births = one_made_births w w' events event m b;
      quiet = λ i past. stays_quiet facts w events event i may (omega (arith, phases, past)) (b.quiet i (omega (arith, phases, past)));
    }

step_births : (facts : Facts) (w : World) (events : List Event) (event : Event) → IsAllowed facts w event → Births w events → Births (after facts w event) (events ++ event ∷ [])
step_births facts w events event may b = elim (after_makes facts w event may.possible) [
  | inl none ↦ none_made facts w (after facts w event) events event may.possible none b
  | inr one ↦ one_made facts w (after facts w event) events event may.possible one b
]

all_births : (facts : Facts) (w : World) (before events : List Event) → IsRunFrom facts w events → Births w before → Births (after_all facts w events) (before ++ events)
all_births facts w before [] run b = subst (λ (l : List Event). Births w l) (sym (append-nil before)) b
all_births facts w before (event ∷ events) run b =
    subst (λ (l : List Event). Births (after_all facts (after facts w event) events) l) (append_assoc before (event ∷ []) events)
    (all_births facts (after facts w event) (before ++ event ∷ []) events run.1 (step_births facts w before event run.0 b))

opening_births : (facts : Facts) → Births (opening facts) []
opening_births facts = record {
  processes = refl;
  arguments = refl;
  some = omega arith;
  nobody = refl;
  births = λ i low. nobody_else i low;
  quiet = λ i past. (refl, refl);
}
  where
    nobody_else : (i : ℕ) → 2 ≤ i → started_as i [] ≡ birth_at (opening facts) i
    nobody_else zero low = absurd (let f : ⊥ = omega arith in f)
    nobody_else (suc zero) low = absurd (let f : ⊥ = omega arith in f)
    nobody_else (suc (suc i)) low = refl

pub births_law : BirthsLaw
births_law facts events run = all_births facts (opening facts) [] events run (opening_births facts)
