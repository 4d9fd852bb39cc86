-- Each answer that an event gives can come for its request.
use Rattle.std.proofs.Common.{◌≡◌, ◌≤◌, ◌<◌, ◌+◌, ℕ, zero, suc, Bool, true, false, List, [], ◌∷◌, ℤ, pos, neg_ℤ, length, drop, refl, sym, ap, ◌∙◌, subst, inl, inr, arith, Option, Some, None, slice_get, length-take, length-drop}
use Rattle.std.specs.Prelude.{not, if◌then◌else◌, slice_index_or, IsSomeAnd, IsTrue, int_le, ◌&&◌}
use Rattle.std.specs.Option.{option_and_then}
use Rattle.std.specs.List.{take_while}
use Rattle.std.proofs.lemmas.Bool.{cases_Bool, eqb-true}
use Rattle.std.proofs.lemmas.Option.{slice_get_within}
use Rattle.std.proofs.lemmas.Int.{ints}
use Rattle.kernel_base.specs.declared.facts.Facts.{Facts}
use Rattle.chill_base.specs.declared.layout.Bits.{Bits}
use Rattle.kernel_base.specs.declared.ends.Exc.TheVariants.{Spacefail, Extinct}
use Rattle.kernel_base.specs.declared.ends.How.TheVariants.{Normal}
use Rattle.kernel_base.specs.declared.request.Alternative.{Alternative}
use Rattle.kernel_base.specs.declared.request.Place.{Place}
use Rattle.kernel_base.specs.declared.request.Request.{Request}
use Rattle.kernel_base.specs.declared.request.Request.TheVariants.{Read, Write, Enter, Leave, Delay, Continue, SendBuffer, ReceiveBuffer, SendSignal, ReceiveSignal, Start, Put, Get, End}
use Rattle.kernel_base.specs.declared.answer.Answer.{Answer}
use Rattle.kernel_base.specs.declared.answer.Answer.TheVariants.{Got, Otherwise, Instance, Fail, Chose, Handed, Stored}
use Rattle.kernel_base.specs.declared.event.Event.TheVariants.{Did}
use Rattle.kernel_base.specs.Facts.{LiesInLocation}
use Rattle.world_model.specs.declared.world.Phase.{Phase}
use Rattle.world_model.specs.declared.world.Phase.TheVariants.{Ended}
use Rattle.world_model.specs.declared.world.StoredValue.{StoredValue}
use Rattle.world_model.specs.declared.world.World.{World}
use Rattle.world_model.specs.Lists.{scalars_at}
use Rattle.world_model.specs.Input.{answer_for, get_answer_at, signed_value, behind_separators, is_separator}
use Rattle.world_model.specs.declared.waiting.Waiter.{Waiter}
use Rattle.world_model.specs.Waiting.{phase_of, sleeper_in, buffer_receiver_in, signal_receiver, signal_receiver_in, may_receive, is_live}
use Rattle.world_model.specs.World.{refusal, buffer_length}
use Rattle.world_model.specs.Allowed.{IsPossible, Continues, SendsToBuffer, SendsSignalTo, ReceivesFromBuffer, ReceivesSignal, Starts, IsCandidateOf}
use Rattle.world_model.specs.Gives.{Gives, GivesRead, GivesDelay, GivesContinue, GivesSendBuffer, GivesReceive, GivesSendSignal, GivesStart, GivesGet, IsInt}
use Rattle.world_model.proofs.Stores.{IsSent, AreSent, OfferSent}
use Rattle.world_model.proofs.Well.{PhasesWell, StoreFits, IsWell, offers_sent}

-- whoever is found by a phase that isn't instance 0's is an instance
found_some : (phases : List Phase) (p : ℕ) (f : Phase → Option Waiter) (waiter : Waiter) → PhasesWell phases → f (Ended Normal) ≡ None → option_and_then f (slice_get phases p) ≡ Some waiter → 1 ≤ p
found_some phases zero f waiter well none found = absurd (let e : None ≡ Some waiter = sym none ∙ sym (ap (option_and_then f) well.nobody) ∙ found in let no' : ⊥ = cc in no')
found_some phases (suc p) f waiter well none found = omega arith

hearer_some : (facts : Facts) (w : World) (signal : ℕ) (to : Option ℕ) (p : ℕ) (waiter : Waiter) → PhasesWell w.phases → signal_receiver facts w signal to p ≡ Some waiter → (1 ≤ p) × IsTrue (may_receive facts w signal to p)
hearer_some facts w signal to p waiter well found = elim (cases_Bool (may_receive facts w signal to p)) [
  | inl may ↦ (let is : signal_receiver facts w signal to p ≡ option_and_then (signal_receiver_in signal) (phase_of w p) = rw may refl in
      (found_some w.phases p (signal_receiver_in signal) waiter well refl (sym is ∙ found), may))
  | inr fails ↦ absurd (let is : signal_receiver facts w signal to p ≡ None = rw fails refl in let e : None ≡ Some waiter = sym is ∙ found in let no' : ⊥ = cc in no')
]

gives_continue : (w : World) (event : ℕ) (answer : Answer) → PhasesWell w.phases → Continues w event answer → GivesContinue answer
gives_continue w event (Chose None) well may = tt
gives_continue w event (Chose (Some p)) well may = found_some w.phases p (sleeper_in event) may.waiter well refl may.sleeps
gives_continue w event answer well may = absurd may

gives_send : (facts : Facts) (w : World) (buffer : ℕ) (answer : Answer) → PhasesWell w.phases → SendsToBuffer facts w buffer answer → GivesSendBuffer answer
gives_send facts w buffer (Handed p) well may = found_some w.phases p (buffer_receiver_in buffer) may.0 well refl may.1
gives_send facts w buffer Stored well may = tt
gives_send facts w buffer answer well may = absurd may

candidate_sent : (length : Option ℕ) (w : World) (buffer : ℕ) (value : StoredValue) → PhasesWell w.phases → AreSent w → IsCandidateOf length w buffer value → IsSent value
candidate_sent None w buffer value well sent may = sent.values buffer may.0 value may.1
candidate_sent (Some zero) w buffer value well sent may = subst OfferSent may.waits (offers_sent w well value.sender)
candidate_sent (Some (suc n)) w buffer value well sent may = sent.values buffer may.0 value may.1

gives_receive : (facts : Facts) (w : World) (buffers : List Alternative) (otherwise : Bool) (answer : Answer) (refill : Option ℕ) → PhasesWell w.phases → AreSent w → ReceivesFromBuffer facts w buffers otherwise answer refill → GivesReceive buffers otherwise answer
gives_receive facts w buffers otherwise (Got alternative send scalars by) refill well sent may =
    let takes = may.1 in
    let is = candidate_sent (buffer_length facts takes.buffer) w takes.buffer (record { send = send; sender = by; scalars = scalars; priority = may.0 }) well sent takes.candidate in
    ((takes.buffer, takes.listed), is.send, is.sender)
gives_receive facts w buffers otherwise Otherwise refill well sent may = may.1
gives_receive facts w buffers otherwise answer refill well sent may = absurd may

gives_hear : (facts : Facts) (w : World) (who : ℕ) (signals : List Alternative) (otherwise : Bool) (answer : Answer) → AreSent w → ReceivesSignal facts w who signals otherwise answer → GivesReceive signals otherwise answer
gives_hear facts w who signals otherwise (Got alternative send scalars by) sent may =
    let is = subst IsSent may.is (sent.signals may.pends.place may.signal may.pends.pends) in
    ((may.signal.signal, may.pends.listed), is.send, is.sender)
gives_hear facts w who signals otherwise Otherwise sent may = may.0
gives_hear facts w who signals otherwise answer sent may = absurd may

gives_to_some : (facts : Facts) (w : World) (signal i : ℕ) (live : Bool) (answer : Answer) → PhasesWell w.phases → SendsSignalTo facts w signal (Some (suc i)) (if live then None else Some Extinct) answer → GivesSendSignal (Some (suc i)) answer
gives_to_some facts w signal i false answer well may = subst (λ (a : Answer). GivesSendSignal (Some (suc i)) a) (sym may) tt
gives_to_some facts w signal i true (Handed p) well may = eqb-true p (suc i) (hearer_some facts w signal (Some (suc i)) p may.0 well may.1).1
gives_to_some facts w signal i true Stored well may = tt
gives_to_some facts w signal i true answer well may = absurd may

gives_signal : (facts : Facts) (w : World) (signal : ℕ) (to : Option ℕ) (answer : Answer) → PhasesWell w.phases → SendsSignalTo facts w signal to (refusal w to) answer → GivesSendSignal to answer
gives_signal facts w signal (Some zero) answer well may = subst (λ (a : Answer). GivesSendSignal (Some zero) a) (sym may) tt
gives_signal facts w signal (Some (suc i)) answer well may = gives_to_some facts w signal i (is_live w (suc i)) answer well may
gives_signal facts w signal None (Handed p) well may = (hearer_some facts w signal None p may.0 well may.1).0
gives_signal facts w signal None Stored well may = tt
gives_signal facts w signal None answer well may = absurd may

gives_start : (w : World) (answer : Answer) → PhasesWell w.phases → Starts w answer → GivesStart answer
gives_start w (Instance i) well may =
    let low : 1 < length w.phases = slice_get_within w.phases 1 well.first well.made in
    let is : i ≡ length w.phases = may.1 in
    omega arith
gives_start w (Fail Spacefail) well may = tt
gives_start w answer well may = absurd may

in_int : (number : ℤ) → int_le (neg_ℤ (pos 2147483648)) number && int_le number (pos 2147483647) ≡ true → IsInt number
in_int number fits = (grind (arith, ints), grind (arith, ints))

gives_number : (number : Option ℤ) → GivesGet (answer_for number)
gives_number None = tt
gives_number (Some number) = elim (cases_Bool (int_le (neg_ℤ (pos 2147483648)) number && int_le number (pos 2147483647))) [
  | inl fits ↦ rw fits (in_int number fits)
  | inr fails ↦ rw fails tt
]

gives_at : (rest : List ℕ) → GivesGet (get_answer_at rest)
gives_at [] = tt
gives_at (byte ∷ bytes) = gives_number (signed_value (take_while (λ b. not (is_separator b)) (byte ∷ bytes)))

read_length : (facts : Facts) (w : World) (place : Place) (layouts : Option (List Bits)) → StoreFits facts w → slice_get facts.layouts place.location ≡ layouts → IsSomeAnd layouts (λ (l : List Bits). place.first + place.count ≤ length l) → length (scalars_at (slice_index_or w.store place.location []) place.first place.count) ≡ place.count
read_length facts w place None fits is low = absurd low
read_length facts w place (Some layout) fits is low =
    let old : List ℤ = slice_index_or w.store place.location [] in
    let long : length old ≡ length layout = fits place.location layout is in
    let room : place.first + place.count ≤ length layout = low in
    omega (arith, length-take place.count (drop place.first old), length-drop place.first old)

gives_read : (facts : Facts) (w : World) (place : Place) → StoreFits facts w → LiesInLocation facts place → length (scalars_at (slice_index_or w.store place.location []) place.first place.count) ≡ place.count
gives_read facts w place fits lies = read_length facts w place (slice_get facts.layouts place.location) fits refl lies.scalars

-- the answer of an event that is possible can come for its request
pub did_gives : (facts : Facts) (w : World) (who ticks : ℕ) (request : Request) (answer : Answer) (refill : Option ℕ) → IsWell facts w → IsPossible facts w (Did who ticks request answer refill) → Gives request answer
did_gives facts w who ticks (Read place) answer refill well may = subst (λ (a : Answer). GivesRead place.count a) (sym may.1.1) (gives_read facts w place well.store may.0.fits)
did_gives facts w who ticks (Write place scalars) answer refill well may = may.1.1
did_gives facts w who ticks (Enter region) answer refill well may = may.1.1.0
did_gives facts w who ticks (Leave region) answer refill well may = may.1.1
did_gives facts w who ticks (Delay events priority) answer refill well may = subst (λ (a : Answer). GivesDelay events a) (sym may.1.1.0) tt
did_gives facts w who ticks (Continue event) answer refill well may = gives_continue w event answer well.phases may.1.1
did_gives facts w who ticks (SendBuffer buffer scalars priority) answer refill well may = gives_send facts w buffer answer well.phases may.1.1
did_gives facts w who ticks (ReceiveBuffer buffers otherwise) answer refill well may = gives_receive facts w buffers otherwise answer refill well.phases well.sent may.1
did_gives facts w who ticks (SendSignal signal scalars to priority) answer refill well may = gives_signal facts w signal to answer well.phases may.1.1
did_gives facts w who ticks (ReceiveSignal signals otherwise) answer refill well may = gives_hear facts w who signals otherwise answer well.sent may.1.1
did_gives facts w who ticks (Start process scalars) answer refill well may = gives_start w answer well.phases may.1.1
did_gives facts w who ticks (Put bytes) answer refill well may = may.1.1
did_gives facts w who ticks Get answer refill well may = subst (λ (a : Answer). GivesGet a) (sym may.1.1) (gives_at (behind_separators w.input))
did_gives facts w who ticks (End how) answer refill well may = may.1.1
