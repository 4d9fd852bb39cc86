-- Who may come to occupy a region, and that an occupant stays until the region is freed.
use Rattle.std.proofs.Common.{◌≡◌, ◌⊎◌, ◌==◌, ℕ, zero, suc, Bool, true, false, List, [], ◌∷◌, ◌++◌, ℤ, refl, sym, ap, ◌∙◌, ◌+◌, subst, inl, inr, Option, Some, None, slice_get}
use Rattle.std.specs.Prelude.{if◌then◌else◌, option_map}
use Rattle.std.proofs.lemmas.Bool.{cases_eq, cases_Bool}
use Rattle.std.proofs.lemmas.Option.{slice_get-map}
use Rattle.kernel_base.specs.declared.facts.Facts.{Facts}
use Rattle.kernel_base.specs.declared.request.Request.{Request}
use Rattle.kernel_base.specs.declared.request.Request.TheVariants.{Read, Write, Enter, Leave, Delay, Continue, SendBuffer, ReceiveBuffer, SendSignal, ReceiveSignal, Start, Put, Get, End}
use Rattle.kernel_base.specs.declared.answer.Answer.{Answer}
use Rattle.kernel_base.specs.declared.answer.Answer.TheVariants.{Woken, Got, Instance, Chose, Handed}
use Rattle.kernel_base.specs.declared.event.Event.{Event}
use Rattle.kernel_base.specs.declared.event.Event.TheVariants.{Did, Waits, Goes, Runs}
use Rattle.world_model.specs.declared.world.World.{World}
use Rattle.world_model.specs.Lists.{last_of}
use Rattle.world_model.specs.declared.waiting.Waiter.{Waiter}
use Rattle.world_model.specs.declared.waiting.Offer.{Offer}
use Rattle.world_model.specs.Waiting.{phase_of, sleeper, buffer_receiver, signal_receiver, offer}
use Rattle.world_model.specs.World.{occupant, held_by, locked, freed, entered, left, locked_back, freed_last, other_occupant, chosen, with_next_send, refilled, refilled_by, refilled_buffer, buffer_length, after_continue, after_send_buffer, after_receive_buffer, after_send_signal, after_receive_signal, after_start, after_request, drawn, with_drawn, after_waits, back_in, after, after_all, opening}
use Rattle.world_model.specs.Allowed.{IsFree, Occupies, IsPossible, MayLockBack}
use Rattle.world_model.specs.Laws.{OneOccupantLaw, SomeFrees}
use Rattle.world_model.proofs.RunParts.{rest_runs}
use Rattle.world_model.proofs.ChangedLists.{written_or_old, read_is}

-- a request that leaves all as it is of who holds and occupies which region
abbrev pub IsQuiet : Request → Type 0
IsQuiet (Enter region) = ⊥
IsQuiet (Leave region) = ⊥
IsQuiet (Start process scalars) = ⊥
IsQuiet (End how) = ⊥
IsQuiet request = Unit {0}

-- who holds and occupies which region is as before
abbrev pub KeepsHolding : World → World → Type 0
KeepsHolding old new = (new.occupants ≡ old.occupants) × (new.held ≡ old.held)

pub chosen_keeps : (w : World) (p : ℕ) (waiter : Option Waiter) (answer : ℕ → Answer) → KeepsHolding w (chosen w p waiter answer)
chosen_keeps w p None answer = (refl, refl)
chosen_keeps w p (Some waiter) answer = (refl, refl)

refilled_buffer_keeps : (w : World) (length : Option ℕ) (o : Offer) → KeepsHolding w (refilled_buffer w length o)
refilled_buffer_keeps w None o = (refl, refl)
refilled_buffer_keeps w (Some zero) o = (refl, refl)
refilled_buffer_keeps w (Some (suc n)) o = (refl, refl)

refilled_by_keeps : (facts : Facts) (w : World) (sender : ℕ) (o : Option Offer) → KeepsHolding w (refilled_by facts w sender o)
refilled_by_keeps facts w sender None = (refl, refl)
refilled_by_keeps facts w sender (Some o) = refilled_buffer_keeps w (buffer_length facts o.buffer) o

refilled_keeps : (facts : Facts) (w : World) (refill : Option ℕ) → KeepsHolding w (refilled facts w refill)
refilled_keeps facts w None = (refl, refl)
refilled_keeps facts w (Some sender) = refilled_by_keeps facts w sender (offer w sender)

continue_keeps : (w : World) (who event : ℕ) (answer : Answer) → KeepsHolding w (after_continue w who event answer)
continue_keeps w who event (Chose (Some p)) = chosen_keeps w p (sleeper w event p) (λ alternative. Woken alternative who)
continue_keeps w who event answer = (refl, refl)

send_keeps : (w : World) (who buffer : ℕ) (scalars : List ℤ) (priority : ℕ) (answer : Answer) → KeepsHolding w (after_send_buffer w who buffer scalars priority answer)
send_keeps w who buffer scalars priority (Handed p) = chosen_keeps (with_next_send w) p (buffer_receiver w buffer p) (λ alternative. Got alternative (w.sends + 1) scalars who)
send_keeps w who buffer scalars priority answer = (refl, refl)

receive_keeps : (facts : Facts) (w : World) (answer : Answer) (refill : Option ℕ) → KeepsHolding w (after_receive_buffer facts w answer refill)
receive_keeps facts w (Got alternative send scalars by) refill = refilled_keeps facts _ refill
receive_keeps facts w answer refill = (refl, refl)

signal_keeps : (facts : Facts) (w : World) (who signal : ℕ) (scalars : List ℤ) (to : Option ℕ) (priority : ℕ) (answer : Answer) → KeepsHolding w (after_send_signal facts w who signal scalars to priority answer)
signal_keeps facts w who signal scalars to priority (Handed p) = chosen_keeps (with_next_send w) p (signal_receiver facts w signal to p) (λ alternative. Got alternative (w.sends + 1) scalars who)
signal_keeps facts w who signal scalars to priority answer = (refl, refl)

hear_keeps : (w : World) (answer : Answer) → KeepsHolding w (after_receive_signal w answer)
hear_keeps w (Got alternative send scalars by) = (refl, refl)
hear_keeps w answer = (refl, refl)

start_occupants : (w : World) (process : ℕ) (scalars : List ℤ) (answer : Answer) → (after_start w process scalars answer).occupants ≡ w.occupants
start_occupants w process scalars (Instance i) = refl
start_occupants w process scalars answer = refl

pub quiet_keeps : (facts : Facts) (w : World) (who : ℕ) (request : Request) (answer : Answer) (refill : Option ℕ) → IsQuiet request → KeepsHolding w (after_request facts w who request answer refill)
quiet_keeps facts w who (Read place) answer refill quiet = (refl, refl)
quiet_keeps facts w who (Write place scalars) answer refill quiet = (refl, refl)
quiet_keeps facts w who (Enter region) answer refill quiet = absurd quiet
quiet_keeps facts w who (Leave region) answer refill quiet = absurd quiet
quiet_keeps facts w who (Delay events priority) answer refill quiet = (refl, refl)
quiet_keeps facts w who (Continue event) answer refill quiet = continue_keeps w who event answer
quiet_keeps facts w who (SendBuffer buffer scalars priority) answer refill quiet = send_keeps w who buffer scalars priority answer
quiet_keeps facts w who (ReceiveBuffer buffers otherwise) answer refill quiet = receive_keeps facts w answer refill
quiet_keeps facts w who (SendSignal signal scalars to priority) answer refill quiet = signal_keeps facts w who signal scalars to priority answer
quiet_keeps facts w who (ReceiveSignal signals otherwise) answer refill quiet = hear_keeps w answer
quiet_keeps facts w who (Start process scalars) answer refill quiet = absurd quiet
quiet_keeps facts w who (Put bytes) answer refill quiet = (refl, refl)
quiet_keeps facts w who Get answer refill quiet = (refl, refl)
quiet_keeps facts w who (End how) answer refill quiet = absurd quiet

-- one who occupies a region behind a step occupied it before, or it was free
abbrev OldOrFree : World → ℕ → ℕ → Type 0
OldOrFree w q region = Occupies w q region ⊎ IsFree w region

locked_old : (w : World) (who at q r : ℕ) → IsFree w at → Occupies (locked w who at) q r → OldOrFree w q r
locked_old w who at q r free occupies = elim (written_or_old w.occupants at r (Some who) (Some q) occupies) [
  | inl here ↦ inr (ap (slice_get w.occupants) here.0 ∙ free)
  | inr old ↦ inl old
]

freed_old : (w : World) (who at q r : ℕ) → Occupies (freed w who at) q r → Occupies w q r
freed_old w who at q r occupies = elim (written_or_old w.occupants at r None (Some q) occupies) [
  | inl here ↦ absurd (let e : Some q ≡ None = here.1 in let f : ⊥ = cc in f)
  | inr old ↦ old
]

enter_old : (w : World) (who at q r : ℕ) (o : Option ℕ) → occupant w at ≡ o → (IsFree w at ⊎ Occupies w who at) → Occupies (entered w who at o) q r → OldOrFree w q r
enter_old w who at q r None is may occupies = elim may [
  | inl free ↦ locked_old w who at q r free occupies
  | inr mine ↦ absurd (let e : occupant w at ≡ Some who = read_is w.occupants at None (Some who) mine in let f : ⊥ = cc in f)
]
enter_old w who at q r (Some other) is may occupies = inl occupies

left_if_old : (w : World) (who at q r : ℕ) (mine : Bool) → Occupies (if mine then freed w who at else w) q r → Occupies w q r
left_if_old w who at q r true occupies = freed_old w who at q r occupies
left_if_old w who at q r false occupies = occupies

left_old : (w : World) (who at q r : ℕ) (o : Option ℕ) → Occupies (left w who at o) q r → Occupies w q r
left_old w who at q r None occupies = occupies
left_old w who at q r (Some other) occupies = left_if_old w who at q r (other == who) occupies

other_is : (who q : ℕ) (o : Option ℕ) → other_occupant who o ≡ Some q → o ≡ Some q
other_is who q None is = is
other_is who q (Some other) is = elim (cases_Bool (other == who)) [
  | inl same ↦ absurd (let e : other_occupant who (Some other) ≡ None = rw same refl in let f : ⊥ = cc in f)
  | inr apart ↦ (let e : other_occupant who (Some other) ≡ Some other = rw apart refl in sym e ∙ is)
]

mapped_other : (who q : ℕ) (o : Option (Option ℕ)) → option_map (other_occupant who) o ≡ Some (Some q) → o ≡ Some (Some q)
mapped_other who q None is = absurd (let f : ⊥ = cc in f)
mapped_other who q (Some o) is = ap Some (other_is who q o (let e : other_occupant who o ≡ Some q = cc in e))

back_old : (w : World) (who q r : ℕ) (back : Option ℕ) → MayLockBack w back → Occupies (locked_back w who back) q r → OldOrFree w q r
back_old w who q r None may occupies = inl occupies
back_old w who q r (Some at) may occupies = locked_old w who at q r may occupies

freed_last_old : (w : World) (who q r : ℕ) (back : Option ℕ) → Occupies (freed_last w who back) q r → Occupies w q r
freed_last_old w who q r None occupies = occupies
freed_last_old w who q r (Some at) occupies = freed_old w who at q r occupies

drawn_old : (w : World) (q r : ℕ) (draws : Option ℕ) → Occupies (with_drawn w draws) q r → Occupies w q r
drawn_old w q r None occupies = occupies
drawn_old w q r (Some send) occupies = occupies

waits_old : (w : World) (who : ℕ) (request : Request) (q r : ℕ) → Occupies (after_waits w who request) q r → Occupies w q r
waits_old w who (Enter region) q r occupies = occupies
waits_old w who request q r occupies = drawn_old w q r (drawn w request) (freed_last_old (with_drawn w (drawn w request)) who q r (last_of (held_by w who)) occupies)

quiet_old : (facts : Facts) (w : World) (who : ℕ) (request : Request) (answer : Answer) (refill : Option ℕ) (q r : ℕ) → IsQuiet request → Occupies (after_request facts w who request answer refill) q r → Occupies w q r
quiet_old facts w who request answer refill q r quiet occupies = ap (λ (os : List (Option ℕ)). slice_get os r) (sym (quiet_keeps facts w who request answer refill quiet).0) ∙ occupies

did_old : (facts : Facts) (w : World) (who ticks : ℕ) (request : Request) (answer : Answer) (refill : Option ℕ) (q r : ℕ) → IsPossible facts w (Did who ticks request answer refill) → Occupies (after_request facts w who request answer refill) q r → OldOrFree w q r
did_old facts w who ticks (Enter region) answer refill q r may occupies = enter_old w who region q r (occupant w region) refl may.1.1.1 occupies
did_old facts w who ticks (Leave region) answer refill q r may occupies = inl (left_old w who region q r (occupant w region) occupies)
did_old facts w who ticks (End how) answer refill q r may occupies = inl (mapped_other who q (slice_get w.occupants r) (sym (slice_get-map (other_occupant who) w.occupants r) ∙ occupies))
did_old facts w who ticks (Start process scalars) answer refill q r may occupies = inl (ap (λ (os : List (Option ℕ)). slice_get os r) (sym (start_occupants w process scalars answer)) ∙ occupies)
did_old facts w who ticks request answer refill q r may occupies = inl (quiet_old facts w who request answer refill q r tt occupies)

-- Who occupies a region behind an event occupied it before, or it was free before.
pub step_old : (facts : Facts) (w : World) (event : Event) (q r : ℕ) → IsPossible facts w event → Occupies (after facts w event) q r → OldOrFree w q r
step_old facts w (Did who ticks request answer refill) q r may occupies = did_old facts w who ticks request answer refill q r may occupies
step_old facts w (Waits who ticks request) q r may occupies = inl (waits_old w who request q r occupies)
step_old facts w (Goes who answer) q r may occupies =
    let back : back_in (phase_of w who) ≡ may.back = ap back_in may.chosen in
    let free : MayLockBack w (back_in (phase_of w who)) = subst (λ (o : Option ℕ). MayLockBack w o) (sym back) may.free in
    back_old w who q r (back_in (phase_of w who)) free occupies
step_old facts w (Runs who ticks) q r may occupies = inl occupies

one_is : (who : ℕ) (o : Option (Option ℕ)) → (o ≡ Some (Some who)) ⊎ (o ≡ Some (Some who) → ⊥)
one_is who None = inr (λ is. let f : ⊥ = cc in f)
one_is who (Some None) = inr (λ is. let f : ⊥ = cc in f)
one_is who (Some (Some p)) = elim (cases_eq p who) [
  | inl same ↦ inl (ap (λ (n : ℕ). Some (Some n)) same)
  | inr apart ↦ inr (λ is. apart (let e : p ≡ who = cc in e))
]

-- where `who` occupies a region in a world and not behind these events, one of them frees it
some_frees : (facts : Facts) (w : World) (events : List Event) (who region : ℕ) → Occupies w who region → (Occupies (after_all facts w events) who region → ⊥) → SomeFrees facts w events who region
some_frees facts w [] who region holds lost = absurd (lost holds)
some_frees facts w (event ∷ events) who region holds lost = elim (one_is who (slice_get (after facts w event).occupants region)) [
  | inl stays ↦ (let later = some_frees facts (after facts w event) events who region stays lost in
      record { front = event ∷ later.front; event = later.event; rest = later.rest; parts = ap (λ (es : List Event). event ∷ es) later.parts; frees = later.frees })
  | inr leaves ↦ record { front = []; event = event; rest = events; parts = refl; frees = record { before = holds; not_behind = leaves } }
]

pub one_occupant_law : OneOccupantLaw
one_occupant_law facts before first between second who other region run locks again apart =
    let w = after facts (after_all facts (opening facts) before) first in
    let here : World = after_all facts w between in
    let run_behind = rest_runs facts (opening facts) before (first ∷ (between ++ second ∷ [])) run in
    let last = (rest_runs facts w between (second ∷ []) run_behind.1).0 in
    let free : IsFree here region = elim (step_old facts here second other region last.possible again.behind) [ inl occupied ↦ absurd (again.not_before occupied) | inr free ↦ free ] in
    some_frees facts w between who region locks.behind (λ holds. let f : ⊥ = cc in f)
