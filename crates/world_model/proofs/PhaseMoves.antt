-- How an event moves the phases of the instances.
use Rattle.std.proofs.Common.{◌≡◌, ◌≤◌, ℕ, zero, suc, ◌+◌, Bool, true, false, List, [], ◌∷◌, ◌++◌, ℤ, refl, sym, ap, ◌∙◌, subst, inl, inr, arith, Option, Some, None, slice_get, slice_set}
use Rattle.std.specs.Prelude.{if◌then◌else◌, ◌==◌}
use Rattle.std.specs.Option.{option_and_then}
use Rattle.std.proofs.lemmas.Bool.{cases_eq, cases_Bool}
use Rattle.kernel_base.specs.declared.facts.Facts.{Facts}
use Rattle.kernel_base.specs.declared.request.Alternative.{Alternative}
use Rattle.kernel_base.specs.declared.request.Request.{Request}
use Rattle.kernel_base.specs.declared.request.Request.TheVariants.{Read, Write, Enter, Leave, Delay, Continue, SendBuffer, ReceiveBuffer, SendSignal, ReceiveSignal, Start, Put, Get, End}
use Rattle.kernel_base.specs.declared.answer.Answer.{Answer}
use Rattle.kernel_base.specs.declared.answer.Answer.TheVariants.{Woken, Got, Instance, Chose, Handed, Stored}
use Rattle.world_model.specs.declared.world.Phase.{Phase}
use Rattle.world_model.specs.declared.world.Phase.TheVariants.{Active, Waiting, Chosen}
use Rattle.world_model.specs.declared.world.World.{World}
use Rattle.world_model.specs.Lists.{number_for}
use Rattle.world_model.specs.Gives.{Gives}
use Rattle.world_model.specs.declared.waiting.Waiter.{Waiter}
use Rattle.world_model.specs.declared.waiting.Offer.{Offer}
use Rattle.world_model.specs.Waiting.{phase_of, waiter_for, sleeper_in, sleeper, buffer_receiver_in, buffer_receiver, signal_receiver_in, signal_receiver, may_receive, offer_in, offer}
use Rattle.world_model.specs.World.{occupant, entered, left, freed, chosen, with_next_send, refilled, refilled_by, refilled_buffer, buffer_length, after_continue, after_send_buffer, after_receive_buffer, after_send_signal, after_receive_signal, after_start, after_request}
use Rattle.world_model.proofs.ChangedLists.{written_here, written_elsewhere}

-- one that waited was chosen, with an answer that can come for its request
pub record IsChosen (old new : Option Phase) : Type 0 where
  pub request : Request
  pub send : Option ℕ
  pub back : Option ℕ
  pub answer : Answer
  pub waited : old ≡ Some (Waiting request send back)
  pub has_answer : new ≡ Some (Chosen answer back)
  pub gives : Gives request answer

-- a phase stays, is chosen, or begins
pub data Moves (old new : Option Phase) : Type 0 where
  Stays : new ≡ old → Moves old new
  IsChosenNow : IsChosen old new → Moves old new
  Begins : old ≡ None → new ≡ Some Active → Moves old new

-- a waiter was found by its phase, and this answer can come for its request
pub record WaitsFor (phase : Phase) (waiter : Waiter) (answer : Answer) : Type 0 where
  pub request : Request
  pub send : Option ℕ
  pub waits : phase ≡ Waiting request send waiter.back
  pub gives : Gives request answer

abbrev MayChoose : Phase → Option Waiter → (ℕ → Answer) → Type 0
MayChoose phase None answer = Unit {0}
MayChoose phase (Some waiter) answer = WaitsFor phase waiter (answer waiter.alternative)

delay_waiter : (events : List Alternative) (priority : ℕ) (send back : Option ℕ) (event by : ℕ) (n : Option ℕ) → number_for events event ≡ n → 1 ≤ by → MayChoose (Waiting (Delay events priority) send back) (waiter_for n priority back) (λ alternative. Woken alternative by)
delay_waiter events priority send back event by None is some = tt
delay_waiter events priority send back event by (Some n) is some = record { request = Delay events priority; send = send; waits = refl; gives = ((event, is), some) }

request_sleeps : (event by : ℕ) (request : Request) (send back : Option ℕ) → 1 ≤ by → MayChoose (Waiting request send back) (sleeper_in event (Waiting request send back)) (λ alternative. Woken alternative by)
request_sleeps event by (Delay events priority) send back some = delay_waiter events priority send back event by (number_for events event) refl some
request_sleeps event by request send back some = tt

pub sleeper_gives : (event by : ℕ) (phase : Phase) → 1 ≤ by → MayChoose phase (sleeper_in event phase) (λ alternative. Woken alternative by)
sleeper_gives event by (Waiting request send back) some = request_sleeps event by request send back some
sleeper_gives event by phase some = tt

buffer_waiter : (buffers : List Alternative) (otherwise : Bool) (send back : Option ℕ) (buffer number by : ℕ) (scalars : List ℤ) (n : Option ℕ) → number_for buffers buffer ≡ n → 1 ≤ number → 1 ≤ by → MayChoose (Waiting (ReceiveBuffer buffers otherwise) send back) (waiter_for n 0 back) (λ alternative. Got alternative number scalars by)
buffer_waiter buffers otherwise send back buffer number by scalars None is sent some = tt
buffer_waiter buffers otherwise send back buffer number by scalars (Some n) is sent some = record { request = ReceiveBuffer buffers otherwise; send = send; waits = refl; gives = ((buffer, is), sent, some) }

request_receives : (buffer number by : ℕ) (scalars : List ℤ) (request : Request) (send back : Option ℕ) → 1 ≤ number → 1 ≤ by → MayChoose (Waiting request send back) (buffer_receiver_in buffer (Waiting request send back)) (λ alternative. Got alternative number scalars by)
request_receives buffer number by scalars (ReceiveBuffer buffers otherwise) send back sent some = buffer_waiter buffers otherwise send back buffer number by scalars (number_for buffers buffer) refl sent some
request_receives buffer number by scalars request send back sent some = tt

pub receiver_gives : (buffer number by : ℕ) (scalars : List ℤ) (phase : Phase) → 1 ≤ number → 1 ≤ by → MayChoose phase (buffer_receiver_in buffer phase) (λ alternative. Got alternative number scalars by)
receiver_gives buffer number by scalars (Waiting request send back) sent some = request_receives buffer number by scalars request send back sent some
receiver_gives buffer number by scalars phase sent some = tt

signal_waiter : (signals : List Alternative) (otherwise : Bool) (send back : Option ℕ) (signal number by : ℕ) (scalars : List ℤ) (n : Option ℕ) → number_for signals signal ≡ n → 1 ≤ number → 1 ≤ by → MayChoose (Waiting (ReceiveSignal signals otherwise) send back) (waiter_for n 0 back) (λ alternative. Got alternative number scalars by)
signal_waiter signals otherwise send back signal number by scalars None is sent some = tt
signal_waiter signals otherwise send back signal number by scalars (Some n) is sent some = record { request = ReceiveSignal signals otherwise; send = send; waits = refl; gives = ((signal, is), sent, some) }

request_hears : (signal number by : ℕ) (scalars : List ℤ) (request : Request) (send back : Option ℕ) → 1 ≤ number → 1 ≤ by → MayChoose (Waiting request send back) (signal_receiver_in signal (Waiting request send back)) (λ alternative. Got alternative number scalars by)
request_hears signal number by scalars (ReceiveSignal signals otherwise) send back sent some = signal_waiter signals otherwise send back signal number by scalars (number_for signals signal) refl sent some
request_hears signal number by scalars request send back sent some = tt

pub hearer_gives : (signal number by : ℕ) (scalars : List ℤ) (phase : Phase) → 1 ≤ number → 1 ≤ by → MayChoose phase (signal_receiver_in signal phase) (λ alternative. Got alternative number scalars by)
hearer_gives signal number by scalars (Waiting request send back) sent some = request_hears signal number by scalars request send back sent some
hearer_gives signal number by scalars phase sent some = tt

-- a choice at q by what stands there
abbrev MayChooseAt : Option Phase → Option Waiter → (ℕ → Answer) → Type 0
MayChooseAt old None answer = Unit {0}
MayChooseAt old (Some waiter) answer = (phase : Phase) × (old ≡ Some phase) × WaitsFor phase waiter (answer waiter.alternative)

some_phase : (phase : Phase) (waiter : Option Waiter) (answer : ℕ → Answer) → MayChoose phase waiter answer → MayChooseAt (Some phase) waiter answer
some_phase phase None answer may = tt
some_phase phase (Some waiter) answer may = (phase, refl, may)

at_phase : (f : Phase → Option Waiter) (old : Option Phase) (answer : ℕ → Answer) → ((phase : Phase) → MayChoose phase (f phase) answer) → MayChooseAt old (option_and_then f old) answer
at_phase f None answer may = tt
at_phase f (Some phase) answer may = some_phase phase (f phase) answer (may phase)

moved_at : (phases : List Phase) (i q : ℕ) (new : Phase) → (i ≡ q → Moves (slice_get phases i) (slice_get (slice_set phases q new) i)) → Moves (slice_get phases i) (slice_get (slice_set phases q new) i)
moved_at phases i q new here = elim (cases_eq i q) [
  | inl same ↦ here same
  | inr apart ↦ Stays (written_elsewhere phases q i new apart)
]

chosen_moves : (w : World) (i q : ℕ) (waiter : Option Waiter) (answer : ℕ → Answer) → MayChooseAt (phase_of w q) waiter answer → Moves (phase_of w i) (phase_of (chosen w q waiter answer) i)
chosen_moves w i q None answer may = Stays refl
chosen_moves w i q (Some waiter) answer may = moved_at w.phases i q (Chosen (answer waiter.alternative) waiter.back) (λ same.
    IsChosenNow record {
      request = may.2.request;
      send = may.2.send;
      back = waiter.back;
      answer = answer waiter.alternative;
      waited = ap (slice_get w.phases) same ∙ may.1 ∙ ap Some may.2.waits;
      has_answer = ap (slice_get (slice_set w.phases q (Chosen (answer waiter.alternative) waiter.back))) same ∙ written_here w.phases q (Chosen (answer waiter.alternative) waiter.back) may.0 may.1;
      gives = may.2.gives;
    })

continue_moves : (w : World) (who event : ℕ) (answer : Answer) (i : ℕ) → 1 ≤ who → Moves (phase_of w i) (phase_of (after_continue w who event answer) i)
continue_moves w who event (Chose (Some p)) i some = chosen_moves w i p (sleeper w event p) (λ alternative. Woken alternative who) (at_phase (sleeper_in event) (phase_of w p) (λ alternative. Woken alternative who) (λ phase. sleeper_gives event who phase some))
continue_moves w who event answer i some = Stays refl

send_moves : (w : World) (who buffer : ℕ) (scalars : List ℤ) (priority : ℕ) (answer : Answer) (i : ℕ) → 1 ≤ who → Moves (phase_of w i) (phase_of (after_send_buffer w who buffer scalars priority answer) i)
send_moves w who buffer scalars priority (Handed p) i some = chosen_moves (with_next_send w) i p (buffer_receiver w buffer p) (λ alternative. Got alternative (w.sends + 1) scalars who) (at_phase (buffer_receiver_in buffer) (phase_of w p) (λ alternative. Got alternative (w.sends + 1) scalars who) (λ phase. receiver_gives buffer (w.sends + 1) who scalars phase (omega arith) some))
send_moves w who buffer scalars priority answer i some = Stays refl

hearer_may : (facts : Facts) (w : World) (signal : ℕ) (to : Option ℕ) (p who : ℕ) (scalars : List ℤ) → 1 ≤ who → MayChooseAt (phase_of w p) (signal_receiver facts w signal to p) (λ alternative. Got alternative (w.sends + 1) scalars who)
hearer_may facts w signal to p who scalars some = elim (cases_Bool (may_receive facts w signal to p)) [
  | inl may ↦ rw may (at_phase (signal_receiver_in signal) (phase_of w p) (λ alternative. Got alternative (w.sends + 1) scalars who) (λ phase. hearer_gives signal (w.sends + 1) who scalars phase (omega arith) some))
  | inr not ↦ rw not tt
]

signal_moves : (facts : Facts) (w : World) (who signal : ℕ) (scalars : List ℤ) (to : Option ℕ) (priority : ℕ) (answer : Answer) (i : ℕ) → 1 ≤ who → Moves (phase_of w i) (phase_of (after_send_signal facts w who signal scalars to priority answer) i)
signal_moves facts w who signal scalars to priority (Handed p) i some = chosen_moves (with_next_send w) i p (signal_receiver facts w signal to p) (λ alternative. Got alternative (w.sends + 1) scalars who) (hearer_may facts w signal to p who scalars some)
signal_moves facts w who signal scalars to priority answer i some = Stays refl

pub refilled_buffer_phases : (w : World) (length : Option ℕ) (o : Offer) → (refilled_buffer w length o).phases ≡ w.phases
refilled_buffer_phases w None o = refl
refilled_buffer_phases w (Some zero) o = refl
refilled_buffer_phases w (Some (suc n)) o = refl

-- an offer was found by its phase
pub record Sends (phase : Phase) (o : Offer) : Type 0 where
  pub scalars : List ℤ
  pub priority : ℕ
  pub send : Option ℕ
  pub waits : phase ≡ Waiting (SendBuffer o.buffer scalars priority) send o.back

abbrev MaySend : Option Phase → Option Offer → Type 0
MaySend old None = Unit {0}
MaySend old (Some o) = (phase : Phase) × (old ≡ Some phase) × Sends phase o

request_sends : (who : ℕ) (request : Request) (send back : Option ℕ) → MaySend (Some (Waiting request send back)) (offer_in who (Waiting request send back))
request_sends who (SendBuffer buffer scalars priority) (Some send) back = (Waiting (SendBuffer buffer scalars priority) (Some send) back, refl, record { scalars = scalars; priority = priority; send = Some send; waits = refl })
request_sends who (SendBuffer buffer scalars priority) None back = tt
request_sends who request send back = tt

offer_sends : (who : ℕ) (old : Option Phase) → MaySend old (option_and_then (offer_in who) old)
offer_sends who None = tt
offer_sends who (Some (Waiting request send back)) = request_sends who request send back
offer_sends who (Some phase) = tt

refilled_by_moves : (facts : Facts) (w : World) (sender : ℕ) (o : Option Offer) (i : ℕ) → MaySend (phase_of w sender) o → Moves (phase_of w i) (phase_of (refilled_by facts w sender o) i)
refilled_by_moves facts w sender None i may = Stays refl
refilled_by_moves facts w sender (Some o) i may =
    subst (λ (ps : List Phase). Moves (phase_of w i) (slice_get (slice_set ps sender (Chosen Stored o.back)) i)) (sym (refilled_buffer_phases w (buffer_length facts o.buffer) o))
    (moved_at w.phases i sender (Chosen Stored o.back) (λ same. IsChosenNow record {
      request = SendBuffer o.buffer may.2.scalars may.2.priority;
      send = may.2.send;
      back = o.back;
      answer = Stored;
      waited = ap (slice_get w.phases) same ∙ may.1 ∙ ap Some may.2.waits;
      has_answer = ap (slice_get (slice_set w.phases sender (Chosen Stored o.back))) same ∙ written_here w.phases sender (Chosen Stored o.back) may.0 may.1;
      gives = tt;
    }))

refilled_moves : (facts : Facts) (w : World) (refill : Option ℕ) (i : ℕ) → Moves (phase_of w i) (phase_of (refilled facts w refill) i)
refilled_moves facts w None i = Stays refl
refilled_moves facts w (Some sender) i = refilled_by_moves facts w sender (offer w sender) i (offer_sends sender (phase_of w sender))

receive_moves : (facts : Facts) (w : World) (answer : Answer) (refill : Option ℕ) (i : ℕ) → Moves (phase_of w i) (phase_of (after_receive_buffer facts w answer refill) i)
receive_moves facts w (Got alternative send scalars by) refill i = refilled_moves facts _ refill i
receive_moves facts w answer refill i = Stays refl

hear_moves : (w : World) (answer : Answer) (i : ℕ) → Moves (phase_of w i) (phase_of (after_receive_signal w answer) i)
hear_moves w (Got alternative send scalars by) i = Stays refl
hear_moves w answer i = Stays refl

pushed_moves : (phases : List Phase) (i : ℕ) → Moves (slice_get phases i) (slice_get (phases ++ Active ∷ []) i)
pushed_moves [] zero = Begins refl refl
pushed_moves [] (suc i) = Stays refl
pushed_moves (phase ∷ phases) zero = Stays refl
pushed_moves (phase ∷ phases) (suc i) = pushed_moves phases i

start_moves : (w : World) (process : ℕ) (scalars : List ℤ) (answer : Answer) (i : ℕ) → Moves (phase_of w i) (phase_of (after_start w process scalars answer) i)
start_moves w process scalars (Instance j) i = pushed_moves w.phases i
start_moves w process scalars answer i = Stays refl

pub entered_phases : (w : World) (who at : ℕ) (o : Option ℕ) → (entered w who at o).phases ≡ w.phases
entered_phases w who at None = refl
entered_phases w who at (Some other) = refl

left_if_phases : (w : World) (who at : ℕ) (mine : Bool) → (if mine then freed w who at else w).phases ≡ w.phases
left_if_phases w who at true = refl
left_if_phases w who at false = refl

pub left_phases : (w : World) (who at : ℕ) (o : Option ℕ) → (left w who at o).phases ≡ w.phases
left_phases w who at None = refl
left_phases w who at (Some other) = left_if_phases w who at (other == who)

abbrev pub IsEnd : Request → Type 0
IsEnd (End how) = Unit {0}
IsEnd request = ⊥

-- a request other than End that is answered at once moves phases in these ways alone
pub did_moves : (facts : Facts) (w : World) (who : ℕ) (request : Request) (answer : Answer) (refill : Option ℕ) (i : ℕ) → 1 ≤ who → (IsEnd request → ⊥) → Moves (phase_of w i) (phase_of (after_request facts w who request answer refill) i)
did_moves facts w who (Read place) answer refill i some other = Stays refl
did_moves facts w who (Write place scalars) answer refill i some other = Stays refl
did_moves facts w who (Enter at) answer refill i some other = Stays (ap (λ (ps : List Phase). slice_get ps i) (entered_phases w who at (occupant w at)))
did_moves facts w who (Leave at) answer refill i some other = Stays (ap (λ (ps : List Phase). slice_get ps i) (left_phases w who at (occupant w at)))
did_moves facts w who (Delay events priority) answer refill i some other = Stays refl
did_moves facts w who (Continue event) answer refill i some other = continue_moves w who event answer i some
did_moves facts w who (SendBuffer buffer scalars priority) answer refill i some other = send_moves w who buffer scalars priority answer i some
did_moves facts w who (ReceiveBuffer buffers otherwise) answer refill i some other = receive_moves facts w answer refill i
did_moves facts w who (SendSignal signal scalars to priority) answer refill i some other = signal_moves facts w who signal scalars to priority answer i some
did_moves facts w who (ReceiveSignal signals otherwise) answer refill i some other = hear_moves w answer i
did_moves facts w who (Start process scalars) answer refill i some other = start_moves w process scalars answer i
did_moves facts w who (Put bytes) answer refill i some other = Stays refl
did_moves facts w who Get answer refill i some other = Stays refl
did_moves facts w who (End how) answer refill i some other = absurd (other tt)
