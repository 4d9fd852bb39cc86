-- Which regions an instance holds in the world of a journal: those that its requests tell, but for one to lock again.
use Rattle.std.proofs.Common.{◌≡◌, ◌≢◌, ◌⊎◌, ◌<◌, ◌≤◌, ◌+◌, ℕ, zero, suc, Bool, true, false, List, [], ◌∷◌, ◌++◌, ℤ, length, length-append, refl, sym, ap, ◌∙◌, subst, inl, inr, arith, Option, Some, None, slice_get, slice_set, eq-eqb, replicate}
use Rattle.std.specs.Prelude.{if◌then◌else◌, slice_index_or, ◌==◌}
use Rattle.std.proofs.lemmas.Bool.{cases_eq, cases_Bool, eqb-true}
use Rattle.kernel_base.specs.declared.facts.Facts.{Facts}
use Rattle.kernel_base.specs.declared.ends.How.{How}
use Rattle.kernel_base.specs.declared.ends.How.TheVariants.{Normal}
use Rattle.kernel_base.specs.declared.request.Request.{Request}
use Rattle.kernel_base.specs.declared.request.Request.TheVariants.{Enter, Leave, Delay, SendBuffer, ReceiveBuffer, ReceiveSignal, Start, End}
use Rattle.kernel_base.specs.declared.answer.Answer.{Answer}
use Rattle.kernel_base.specs.declared.answer.Answer.TheVariants.{Done, Instance}
use Rattle.kernel_base.specs.declared.event.Event.{Event}
use Rattle.kernel_base.specs.declared.event.Event.TheVariants.{Did, Waits, Goes, Runs}
use Rattle.world_model.specs.declared.world.Phase.{Phase}
use Rattle.world_model.specs.declared.world.Phase.TheVariants.{Active, Waiting, Chosen, Ended}
use Rattle.world_model.specs.declared.world.World.{World}
use Rattle.world_model.specs.Lists.{last_of, without}
use Rattle.world_model.specs.Waiting.{phase_of, IsActive}
use Rattle.world_model.specs.World.{occupant, held_by, with_phase, freed, entered, left, locked_back, freed_last, after_start, after_request, drawn, with_drawn, after_waits, back_in, after, after_all, opening}
use Rattle.world_model.specs.Allowed.{IsFree, Occupies, IsTaken, IsPossible, IsRunFrom, IsRun}
use Rattle.world_model.specs.Journal.{requests_by, requests_of, answers_by, answers_of}
use Rattle.world_model.proofs.Locking.{quiet_keeps}
use Rattle.world_model.proofs.ChangedLists.{written_here, written_elsewhere, read_is, read_elsewhere, read_pushed}
use Rattle.world_model.proofs.Freeing.{freeing_kept, back_kept}
use Rattle.world_model.proofs.HeldIsOccupied.{HoldsOccupied, StandsIn, step_holds}
use Rattle.world_model.proofs.PhaseMoves.{Moves, Stays, IsChosenNow, Begins, did_moves}
use Rattle.run_laws.proofs.Regions.{has, stands_at, asked, asked_apart, with_region, regions_on, regions_on-append, AreApart, without_none, no_last, last_again}
use Rattle.run_laws.proofs.Occupied.{OccupiesHeld, read_written, actor, step_has, HasLists, step_lists, actor_made}

-- Who holds a region occupies it, and the other way round; and there is no instance 0.
pub record HoldsWell (w : World) : Type 0 where
  pub nobody : phase_of w 0 ≡ Some (Ended Normal)
  pub lists : HasLists w
  pub occupied : HoldsOccupied w
  pub held : OccupiesHeld w

some_one : (w : World) (who : ℕ) (phase : Phase) → HoldsWell w → phase_of w who ≡ Some phase → (phase ≡ Ended Normal → ⊥) → 1 ≤ who
some_one w zero phase well at other = absurd (other (let both : Some phase ≡ Some (Ended Normal) = sym at ∙ well.nobody in cc))
some_one w (suc who) phase well at other = omega arith

-- who makes an event that may come is no instance 0
pub actor_some : (facts : Facts) (w : World) (event : Event) → HoldsWell w → IsPossible facts w event → 1 ≤ actor event
actor_some facts w (Did who ticks request answer refill) well may = some_one w who Active well may.0.active (λ e. let f : ⊥ = cc in f)
actor_some facts w (Waits who ticks request) well may = some_one w who Active well may.0.active (λ e. let f : ⊥ = cc in f)
actor_some facts w (Goes who answer) well may = some_one w who (Chosen answer may.back) well may.chosen (λ e. let f : ⊥ = cc in f)
actor_some facts w (Runs who ticks) well may = some_one w who Active well may.0 (λ e. let f : ⊥ = cc in f)

-- how the phase of another moves
did_others : (facts : Facts) (w : World) (who : ℕ) (request : Request) (answer : Answer) (refill : Option ℕ) (i : ℕ) → 1 ≤ who → i ≢ who → Moves (phase_of w i) (phase_of (after_request facts w who request answer refill) i)
did_others facts w who (End how) answer refill i some apart = Stays (written_elsewhere w.phases who i (Ended how) apart)
did_others facts w who request answer refill i some apart = did_moves facts w who request answer refill i some (λ e. e)

set_elsewhere : (old phases : List Phase) (who i : ℕ) (new : Phase) → phases ≡ old → i ≢ who → slice_get (slice_set phases who new) i ≡ slice_get old i
set_elsewhere old phases who i new same apart = ap (λ (ps : List Phase). slice_get (slice_set ps who new) i) same ∙ written_elsewhere old who i new apart

waits_others : (w : World) (who : ℕ) (request : Request) (i : ℕ) → i ≢ who → phase_of (after_waits w who request) i ≡ phase_of w i
waits_others w who (Enter region) i apart = written_elsewhere w.phases who i (Chosen Done (Some region)) apart
waits_others w who request i apart = set_elsewhere w.phases _ who i (Waiting request (drawn w request) (last_of (held_by w who))) (freeing_kept w who (drawn w request) (last_of (held_by w who))) apart

pub others_move : (facts : Facts) (w : World) (event : Event) (i : ℕ) → 1 ≤ actor event → i ≢ actor event → Moves (phase_of w i) (phase_of (after facts w event) i)
others_move facts w (Did who ticks request answer refill) i some apart = did_others facts w who request answer refill i some apart
others_move facts w (Waits who ticks request) i some apart = Stays (waits_others w who request i apart)
others_move facts w (Goes who answer) i some apart = Stays (set_elsewhere w.phases _ who i Active (back_kept w who (back_in (phase_of w who))) apart)
others_move facts w (Runs who ticks) i some apart = Stays refl

pub ended_stays : (old new : Option Phase) (how : How) → old ≡ Some (Ended how) → Moves old new → new ≡ Some (Ended how)
ended_stays old new how is (Stays same) = same ∙ is
ended_stays old new how is (IsChosenNow chosen) = absurd (let e = chosen.waited in let f : ⊥ = cc in f)
ended_stays old new how is (Begins none begins) = absurd (let f : ⊥ = cc in f)

active_stays : (old new : Option Phase) → old ≡ Some Active → Moves old new → new ≡ Some Active
active_stays old new is (Stays same) = same ∙ is
active_stays old new is (IsChosenNow chosen) = absurd (let e = chosen.waited in let f : ⊥ = cc in f)
active_stays old new is (Begins none begins) = absurd (let f : ⊥ = cc in f)

pub step_well : (facts : Facts) (w : World) (event : Event) → IsPossible facts w event → HoldsWell w → HoldsWell (after facts w event)
step_well facts w event may well =
    let some = actor_some facts w event well may in
    record {
      nobody = ended_stays (phase_of w 0) (phase_of (after facts w event) 0) Normal well.nobody (others_move facts w event 0 some (λ e. let f : ⊥ = omega (arith, e, some) in f));
      lists = step_lists facts w event well.lists;
      occupied = step_holds facts w event may well.occupied;
      held = step_has facts w event (actor_made facts w event well.lists may) well.held;
    }

pub opening_well : (facts : Facts) → HoldsWell (opening facts)
opening_well facts = record {
  nobody = refl;
  lists = refl;
  occupied = record { occupied = λ p region stands. absurd (nothing p region stands) };
  held = record { holds = λ p region occupies. absurd (free facts.regions region p occupies) };
}
  where
    none_held : (p : ℕ) → held_by (opening facts) p ≡ []
    none_held zero = refl
    none_held (suc zero) = refl
    none_held (suc (suc p)) = refl

    nothing : (p region : ℕ) → StandsIn (held_by (opening facts) p) region → ⊥
    nothing p region stands = let at : slice_get [] stands.0 ≡ Some region = ap (λ (l : List ℕ). slice_get l stands.0) (sym (none_held p)) ∙ stands.1 in let f : ⊥ = cc in f

    free : (count region p : ℕ) → slice_get (replicate count None) region ≡ Some (Some p) → ⊥
    free zero region p at = let f : ⊥ = cc in f
    free (suc count) zero p at = let f : ⊥ = cc in f
    free (suc count) (suc region) p at = free count region p at

-- the lists of others stay

entered_elsewhere : (w : World) (who at i : ℕ) (o : Option ℕ) → i ≢ who → held_by (entered w who at o) i ≡ held_by w i
entered_elsewhere w who at i None apart = read_elsewhere w.held who i (held_by w who ++ at ∷ []) [] apart
entered_elsewhere w who at i (Some other) apart = refl

left_if_elsewhere : (w : World) (who at i : ℕ) (mine : Bool) → i ≢ who → held_by (if mine then freed w who at else w) i ≡ held_by w i
left_if_elsewhere w who at i true apart = read_elsewhere w.held who i (without at (held_by w who)) [] apart
left_if_elsewhere w who at i false apart = refl

left_elsewhere : (w : World) (who at i : ℕ) (o : Option ℕ) → i ≢ who → held_by (left w who at o) i ≡ held_by w i
left_elsewhere w who at i None apart = refl
left_elsewhere w who at i (Some other) apart = left_if_elsewhere w who at i (other == who) apart

start_same : (w : World) (process : ℕ) (scalars : List ℤ) (answer : Answer) (i : ℕ) → held_by (after_start w process scalars answer) i ≡ held_by w i
start_same w process scalars (Instance j) i = read_pushed w.held i []
start_same w process scalars answer i = refl

did_elsewhere : (facts : Facts) (w : World) (who : ℕ) (request : Request) (answer : Answer) (refill : Option ℕ) (i : ℕ) → i ≢ who → held_by (after_request facts w who request answer refill) i ≡ held_by w i
did_elsewhere facts w who (Enter region) answer refill i apart = entered_elsewhere w who region i (occupant w region) apart
did_elsewhere facts w who (Leave region) answer refill i apart = left_elsewhere w who region i (occupant w region) apart
did_elsewhere facts w who (Start process scalars) answer refill i apart = start_same w process scalars answer i
did_elsewhere facts w who (End how) answer refill i apart = read_elsewhere w.held who i [] [] apart
did_elsewhere facts w who request answer refill i apart = ap (λ (hs : List (List ℕ)). slice_index_or hs i []) (quiet_keeps facts w who request answer refill tt).1

back_elsewhere : (w : World) (who i : ℕ) (back : Option ℕ) → i ≢ who → held_by (locked_back w who back) i ≡ held_by w i
back_elsewhere w who i None apart = refl
back_elsewhere w who i (Some at) apart = read_elsewhere w.held who i (held_by w who ++ at ∷ []) [] apart

freeing_elsewhere : (w : World) (who i : ℕ) (draws back : Option ℕ) → i ≢ who → held_by (freed_last (with_drawn w draws) who back) i ≡ held_by w i
freeing_elsewhere w who i None None apart = refl
freeing_elsewhere w who i None (Some at) apart = read_elsewhere w.held who i (without at (held_by w who)) [] apart
freeing_elsewhere w who i (Some send) None apart = refl
freeing_elsewhere w who i (Some send) (Some at) apart = read_elsewhere w.held who i (without at (held_by w who)) [] apart

waits_elsewhere : (w : World) (who : ℕ) (request : Request) (i : ℕ) → i ≢ who → held_by (after_waits w who request) i ≡ held_by w i
waits_elsewhere w who (Enter region) i apart = refl
waits_elsewhere w who request i apart = freeing_elsewhere w who i (drawn w request) (last_of (held_by w who)) apart

others_hold : (facts : Facts) (w : World) (event : Event) (i : ℕ) → i ≢ actor event → held_by (after facts w event) i ≡ held_by w i
others_hold facts w (Did who ticks request answer refill) i apart = did_elsewhere facts w who request answer refill i apart
others_hold facts w (Waits who ticks request) i apart = waits_elsewhere w who request i apart
others_hold facts w (Goes who answer) i apart = back_elsewhere w who i (back_in (phase_of w who)) apart
others_hold facts w (Runs who ticks) i apart = refl

-- the list of who makes the event

missing : (w : World) (who at : ℕ) → HoldsWell w → (Occupies w who at → ⊥) → has at (held_by w who) ≡ false
missing w who at well other = elim (cases_Bool (has at (held_by w who))) [
  | inl is ↦ absurd (other (well.occupied.occupied who at (stands_at (held_by w who) at is)))
  | inr none ↦ none
]

with_none : (regions : List ℕ) (region : ℕ) → has region regions ≡ false → with_region regions region ≡ regions ++ region ∷ []
with_none regions region none = rw none refl

with_same : (regions : List ℕ) (region : ℕ) → has region regions ≡ true → with_region regions region ≡ regions
with_same regions region is = rw is refl

own_enter : (w : World) (who at : ℕ) (o : Option ℕ) → HoldsWell w → who < length w.held → occupant w at ≡ o → (IsFree w at ⊎ Occupies w who at) → held_by (entered w who at o) who ≡ with_region (held_by w who) at
own_enter w who at None well low is may = elim may [
  | inl free ↦ read_written w.held who (held_by w who ++ at ∷ []) [] low
      ∙ sym (with_none (held_by w who) at (missing w who at well (λ mine. let both : Some None ≡ Some (Some who) = sym free ∙ mine in let f : ⊥ = cc in f)))
  | inr mine ↦ absurd (let e : occupant w at ≡ Some who = read_is w.occupants at None (Some who) mine in let f : ⊥ = cc in f)
]
own_enter w who at (Some other) well low is may = elim may [
  | inl free ↦ absurd (let e : occupant w at ≡ None = read_is w.occupants at None None free in let f : ⊥ = cc in f)
  | inr mine ↦ sym (with_same (held_by w who) at (well.held.holds who at mine))
]

own_left_if : (w : World) (who at : ℕ) (mine : Bool) → HoldsWell w → who < length w.held → (mine ≡ false → Occupies w who at → ⊥) → held_by (if mine then freed w who at else w) who ≡ without at (held_by w who)
own_left_if w who at true well low other = read_written w.held who (without at (held_by w who)) [] low
own_left_if w who at false well low other = sym (without_none at (held_by w who) (missing w who at well (other refl)))

own_left : (w : World) (who at : ℕ) (o : Option ℕ) → HoldsWell w → who < length w.held → occupant w at ≡ o → held_by (left w who at o) who ≡ without at (held_by w who)
own_left w who at None well low is = sym (without_none at (held_by w who) (missing w who at well (λ mine. let e : occupant w at ≡ Some who = read_is w.occupants at None (Some who) mine in let f : ⊥ = cc in f)))
own_left w who at (Some other) well low is = own_left_if w who at (other == who) well low (λ apart mine.
    let e : occupant w at ≡ Some who = read_is w.occupants at None (Some who) mine in
    let same : other ≡ who = let both : Some other ≡ Some who = sym is ∙ e in cc in
    let test : (other == who) ≡ true = eq-eqb other who same in
    let f : ⊥ = cc in f)

own_did : (facts : Facts) (w : World) (who ticks : ℕ) (request : Request) (answer : Answer) (refill : Option ℕ) → HoldsWell w → who < length w.held → IsPossible facts w (Did who ticks request answer refill)
    → held_by (after_request facts w who request answer refill) who ≡ asked (held_by w who) request
own_did facts w who ticks (Enter region) answer refill well low may = own_enter w who region (occupant w region) well low refl may.1.1.1
own_did facts w who ticks (Leave region) answer refill well low may = own_left w who region (occupant w region) well low refl
own_did facts w who ticks (Start process scalars) answer refill well low may = start_same w process scalars answer who
own_did facts w who ticks (End how) answer refill well low may = read_written w.held who [] [] low
own_did facts w who ticks request answer refill well low may = ap (λ (hs : List (List ℕ)). slice_index_or hs who []) (quiet_keeps facts w who request answer refill tt).1

-- the list of one that has a region to lock again, or none
abbrev pub WithBack : List ℕ → Option ℕ → List ℕ → Type 0
WithBack held None regions = (held ≡ []) × (regions ≡ [])
WithBack held (Some region) regions = held ++ region ∷ [] ≡ regions

-- the list of an instance, where these are the regions that it holds once it goes on
abbrev pub HeldFor : List ℕ → Option Phase → List ℕ → Type 0
HeldFor held (Some (Waiting request send back)) regions = WithBack held back regions
HeldFor held (Some (Chosen answer back)) regions = WithBack held back regions
HeldFor held phase regions = held ≡ regions

-- how many requests have no answer yet
abbrev pub open_in : Option Phase → ℕ
open_in (Some (Waiting request send back)) = 1
open_in (Some (Chosen answer back)) = 1
open_in phase = 0

-- An instance stands in a world after so many requests, which tell these regions, and so many answers.
pub record Stands (w : World) (i : ℕ) (regions : List ℕ) (asks answers : ℕ) : Type 0 where
  pub held : HeldFor (held_by w i) (phase_of w i) regions
  pub apart : AreApart regions
  pub count : asks ≡ answers + open_in (phase_of w i)

moves_held : (held : List ℕ) (old new : Option Phase) (regions : List ℕ) → Moves old new → HeldFor held old regions → HeldFor held new regions
moves_held held old new regions (Stays same) is = subst (λ (o : Option Phase). HeldFor held o regions) (sym same) is
moves_held held old new regions (IsChosenNow chosen) is =
    let before : WithBack held chosen.back regions = subst (λ (o : Option Phase). HeldFor held o regions) chosen.waited is in
    subst (λ (o : Option Phase). HeldFor held o regions) (sym chosen.has_answer) before
moves_held held old new regions (Begins none begins) is =
    let before : held ≡ regions = subst (λ (o : Option Phase). HeldFor held o regions) none is in
    subst (λ (o : Option Phase). HeldFor held o regions) (sym begins) before

moves_open : (old new : Option Phase) → Moves old new → open_in new ≡ open_in old
moves_open old new (Stays same) = ap open_in same
moves_open old new (IsChosenNow chosen) = ap open_in chosen.has_answer ∙ sym (ap open_in chosen.waited)
moves_open old new (Begins none begins) = ap open_in begins ∙ sym (ap open_in none)

-- what another does changes nothing
others_stand : (facts : Facts) (w : World) (event : Event) (i : ℕ) (regions : List ℕ) (asks answers : ℕ) → 1 ≤ actor event → i ≢ actor event → Stands w i regions asks answers → Stands (after facts w event) i regions asks answers
others_stand facts w event i regions asks answers some apart stands =
    let moves = others_move facts w event i some apart in
    record {
      held = subst (λ (l : List ℕ). HeldFor l (phase_of (after facts w event) i) regions) (sym (others_hold facts w event i apart)) (moves_held (held_by w i) (phase_of w i) (phase_of (after facts w event) i) regions moves stands.held);
      apart = stands.apart;
      count = let e = moves_open (phase_of w i) (phase_of (after facts w event) i) moves in let c = stands.count in omega (arith, e, c);
    }

pub active_held : (w : World) (i : ℕ) (regions : List ℕ) (asks answers : ℕ) → IsActive w i → Stands w i regions asks answers → (held_by w i ≡ regions) × (asks ≡ answers)
active_held w i regions asks answers active stands =
    let e : open_in (phase_of w i) ≡ 0 = ap open_in active in
    let c = stands.count in
    (subst (λ (o : Option Phase). HeldFor (held_by w i) o regions) active stands.held, omega (arith, e, c))

-- a phase in which nothing is open
plain_stands : (w : World) (i : ℕ) (phase : Phase) (regions : List ℕ) (asks answers : ℕ) → phase_of w i ≡ Some phase → open_in (Some phase) ≡ 0 → HeldFor (held_by w i) (Some phase) regions → AreApart regions → asks ≡ answers → Stands w i regions asks answers
plain_stands w i phase regions asks answers at none held apart count = record {
  held = subst (λ (o : Option Phase). HeldFor (held_by w i) o regions) (sym at) held;
  apart = apart;
  count = let e : open_in (phase_of w i) ≡ 0 = ap open_in at ∙ none in omega (arith, e, count);
}

did_phase : (facts : Facts) (w : World) (who : ℕ) (request : Request) (answer : Answer) (refill : Option ℕ) → 1 ≤ who → IsActive w who
    → (phase_of (after_request facts w who request answer refill) who ≡ Some Active) ⊎ ((how : How) × (phase_of (after_request facts w who request answer refill) who ≡ Some (Ended how)))
did_phase facts w who (End how) answer refill some active = inr (how, written_here w.phases who (Ended how) Active active)
did_phase facts w who request answer refill some active = inl (active_stays (phase_of w who) _ active (did_moves facts w who request answer refill who some (λ e. e)))

did_stands : (facts : Facts) (w : World) (who ticks : ℕ) (request : Request) (answer : Answer) (refill : Option ℕ) (regions : List ℕ) (asks answers : ℕ) → HoldsWell w → IsPossible facts w (Did who ticks request answer refill)
    → Stands w who regions asks answers
    → Stands (after_request facts w who request answer refill) who (asked regions request) (asks + 1) (answers + 1)
did_stands facts w who ticks request answer refill regions asks answers well may stands =
    let before = active_held w who regions asks answers may.0.active stands in
    let counts = before.1 in
    let some = actor_some facts w (Did who ticks request answer refill) well may in
    let low = actor_made facts w (Did who ticks request answer refill) well.lists may in
    let new : World = after_request facts w who request answer refill in
    let held : held_by new who ≡ asked regions request = own_did facts w who ticks request answer refill well low may ∙ ap (λ (l : List ℕ). asked l request) before.0 in
    let apart = asked_apart regions request stands.apart in
    let count : asks + 1 ≡ answers + 1 = omega (arith, counts) in
    elim (did_phase facts w who request answer refill some may.0.active) [
      | inl active ↦ plain_stands new who Active (asked regions request) (asks + 1) (answers + 1) active refl held apart count
      | inr over ↦ plain_stands new who (Ended over.0) (asked regions request) (asks + 1) (answers + 1) over.1 refl held apart count
    ]

-- a request that comes to wait, and no Enter
abbrev MayWait : Request → Type 0
MayWait (Delay events priority) = Unit {0}
MayWait (SendBuffer buffer scalars priority) = Unit {0}
MayWait (ReceiveBuffer buffers otherwise) = Unit {0}
MayWait (ReceiveSignal signals otherwise) = Unit {0}
MayWait request = ⊥

asked_same : (regions : List ℕ) (request : Request) → MayWait request → asked regions request ≡ regions
asked_same regions (Delay events priority) may = refl
asked_same regions (SendBuffer buffer scalars priority) may = refl
asked_same regions (ReceiveBuffer buffers otherwise) may = refl
asked_same regions (ReceiveSignal signals otherwise) may = refl
asked_same regions (Enter region) may = absurd may
asked_same regions (Leave region) may = absurd may
asked_same regions (End how) may = absurd may
asked_same regions request may = absurd may

drawn_held : (w : World) (draws : Option ℕ) (who : ℕ) → held_by (with_drawn w draws) who ≡ held_by w who
drawn_held w None who = refl
drawn_held w (Some send) who = refl

drawn_lists : (w : World) (draws : Option ℕ) → (with_drawn w draws).held ≡ w.held
drawn_lists w None = refl
drawn_lists w (Some send) = refl

freed_back : (w : World) (who : ℕ) (draws back : Option ℕ) (regions : List ℕ) → who < length w.held → AreApart (held_by w who) → last_of (held_by w who) ≡ back → held_by w who ≡ regions → WithBack (held_by (freed_last (with_drawn w draws) who back) who) back regions
freed_back w who draws None regions low apart last held = (drawn_held w draws who ∙ no_last (held_by w who) last, sym held ∙ no_last (held_by w who) last)
freed_back w who draws (Some at) regions low apart last held =
    let here : held_by (freed (with_drawn w draws) who at) who ≡ without at (held_by (with_drawn w draws) who) = read_written (with_drawn w draws).held who (without at (held_by (with_drawn w draws) who)) [] (let e = ap length (drawn_lists w draws) in omega (arith, e, low)) in
    ap (λ (l : List ℕ). l ++ at ∷ []) (here ∙ ap (without at) (drawn_held w draws who)) ∙ (last_again (held_by w who) at apart last ∙ held)

-- one that comes to wait
open_stands : (w : World) (i : ℕ) (phase : Phase) (regions : List ℕ) (asks answers : ℕ) → phase_of w i ≡ Some phase → open_in (Some phase) ≡ 1 → HeldFor (held_by w i) (Some phase) regions → AreApart regions → asks ≡ answers → Stands w i regions (asks + 1) (answers + 0)
open_stands w i phase regions asks answers at one held apart count = record {
  held = subst (λ (o : Option Phase). HeldFor (held_by w i) o regions) (sym at) held;
  apart = apart;
  count = let e : open_in (phase_of w i) ≡ 1 = ap open_in at ∙ one in omega (arith, e, count);
}

enter_stands : (w : World) (who region : ℕ) (regions : List ℕ) (asks answers : ℕ) → HoldsWell w → IsActive w who → IsTaken w who region → Stands w who regions asks answers → Stands (after_waits w who (Enter region)) who (asked regions (Enter region)) (asks + 1) (answers + 0)
enter_stands w who region regions asks answers well active taken stands =
    let before = active_held w who regions asks answers active stands in
    let none : has region (held_by w who) ≡ false = missing w who region well (λ mine. taken.2 (let both : Some (Some taken.0) ≡ Some (Some who) = sym taken.1 ∙ mine in let e : taken.0 ≡ who = cc in e)) in
    let held : held_by w who ++ region ∷ [] ≡ asked regions (Enter region) = sym (with_none (held_by w who) region none) ∙ ap (λ (l : List ℕ). with_region l region) before.0 in
    open_stands (after_waits w who (Enter region)) who (Chosen Done (Some region)) (asked regions (Enter region)) asks answers (written_here w.phases who (Chosen Done (Some region)) Active active) refl held (asked_apart regions (Enter region) stands.apart) before.1

waiting_stands : (w : World) (who : ℕ) (request : Request) (regions : List ℕ) (asks answers : ℕ) → HoldsWell w → who < length w.held → IsActive w who → MayWait request
    → Stands w who regions asks answers
    → Stands (with_phase (freed_last (with_drawn w (drawn w request)) who (last_of (held_by w who))) who (Waiting request (drawn w request) (last_of (held_by w who)))) who (asked regions request) (asks + 1) (answers + 0)
waiting_stands w who request regions asks answers well low active may stands =
    let before = active_held w who regions asks answers active stands in
    let back : Option ℕ = last_of (held_by w who) in
    let freed' : World = freed_last (with_drawn w (drawn w request)) who back in
    let phase : Phase = Waiting request (drawn w request) back in
    let at : slice_get (slice_set freed'.phases who phase) who ≡ Some phase = ap (λ (ps : List Phase). slice_get (slice_set ps who phase) who) (freeing_kept w who (drawn w request) back) ∙ written_here w.phases who phase Active active in
    let held = freed_back w who (drawn w request) back (asked regions request) low (subst AreApart (sym before.0) stands.apart) refl (before.0 ∙ sym (asked_same regions request may)) in
    open_stands (with_phase freed' who phase) who phase (asked regions request) asks answers at refl held (asked_apart regions request stands.apart) before.1

waits_stands : (facts : Facts) (w : World) (who ticks : ℕ) (request : Request) (regions : List ℕ) (asks answers : ℕ) → HoldsWell w → IsPossible facts w (Waits who ticks request)
    → Stands w who regions asks answers
    → Stands (after_waits w who request) who (asked regions request) (asks + 1) (answers + 0)
waits_stands facts w who ticks (Enter region) regions asks answers well may stands = enter_stands w who region regions asks answers well may.0.active may.1 stands
waits_stands facts w who ticks (Delay events priority) regions asks answers well may stands = waiting_stands w who (Delay events priority) regions asks answers well (actor_made facts w (Waits who ticks (Delay events priority)) well.lists may) may.0.active tt stands
waits_stands facts w who ticks (SendBuffer buffer scalars priority) regions asks answers well may stands = waiting_stands w who (SendBuffer buffer scalars priority) regions asks answers well (actor_made facts w (Waits who ticks (SendBuffer buffer scalars priority)) well.lists may) may.0.active tt stands
waits_stands facts w who ticks (ReceiveBuffer buffers otherwise) regions asks answers well may stands = waiting_stands w who (ReceiveBuffer buffers otherwise) regions asks answers well (actor_made facts w (Waits who ticks (ReceiveBuffer buffers otherwise)) well.lists may) may.0.active tt stands
waits_stands facts w who ticks (ReceiveSignal signals otherwise) regions asks answers well may stands = waiting_stands w who (ReceiveSignal signals otherwise) regions asks answers well (actor_made facts w (Waits who ticks (ReceiveSignal signals otherwise)) well.lists may) may.0.active tt stands
waits_stands facts w who ticks request regions asks answers well may stands = absurd may.1

locked_back_held : (w : World) (who : ℕ) (back : Option ℕ) (regions : List ℕ) → who < length w.held → WithBack (held_by w who) back regions → held_by (locked_back w who back) who ≡ regions
locked_back_held w who None regions low is = is.0 ∙ sym is.1
locked_back_held w who (Some at) regions low is = read_written w.held who (held_by w who ++ at ∷ []) [] low ∙ is

goes_stands : (facts : Facts) (w : World) (who : ℕ) (answer : Answer) (regions : List ℕ) (asks answers : ℕ) → HoldsWell w → IsPossible facts w (Goes who answer)
    → Stands w who regions asks answers
    → Stands (after facts w (Goes who answer)) who regions (asks + 0) (answers + 1)
goes_stands facts w who answer regions asks answers well may stands =
    let back : Option ℕ = back_in (phase_of w who) in
    let is_back : back ≡ may.back = ap back_in may.chosen in
    let low = actor_made facts w (Goes who answer) well.lists may in
    let before : WithBack (held_by w who) may.back regions = subst (λ (o : Option Phase). HeldFor (held_by w who) o regions) may.chosen stands.held in
    let held = locked_back_held w who back regions low (subst (λ (o : Option ℕ). WithBack (held_by w who) o regions) (sym is_back) before) in
    let at : slice_get (slice_set (locked_back w who back).phases who Active) who ≡ Some Active = ap (λ (ps : List Phase). slice_get (slice_set ps who Active) who) (back_kept w who back) ∙ written_here w.phases who Active (Chosen answer may.back) may.chosen in
    let one : open_in (phase_of w who) ≡ 1 = ap open_in may.chosen in
    let c = stands.count in
    plain_stands (after facts w (Goes who answer)) who Active regions (asks + 0) (answers + 1) at refl held stands.apart (omega (arith, one, c))

-- what an event tells of the one that makes it, and of others
abbrev pub StandsAfter : Facts → World → Event → ℕ → List ℕ → ℕ → ℕ → Type 0
StandsAfter facts w event i regions asks answers = Stands (after facts w event) i (regions_on (requests_by i event) regions) (asks + length (requests_by i event)) (answers + length (answers_by i event))

same_stands : (w : World) (i : ℕ) (regions : List ℕ) (asks answers : ℕ) (requests others : List Request) (given more : List Answer) → requests ≡ others → given ≡ more → Stands w i (regions_on others regions) (asks + length others) (answers + length more) → Stands w i (regions_on requests regions) (asks + length requests) (answers + length given)
same_stands w i regions asks answers requests others given more rs as' stands =
    subst (λ (x : List Answer). Stands w i (regions_on requests regions) (asks + length requests) (answers + length x)) (sym as')
    (subst (λ (x : List Request). Stands w i (regions_on x regions) (asks + length x) (answers + length more)) (sym rs) stands)

chosen_if : {X : Type 0} (b : Bool) (xs ys : List X) → b ≡ true → (if b then xs else ys) ≡ xs
chosen_if b xs ys is = rw is refl

dropped_if : {X : Type 0} (b : Bool) (xs ys : List X) → b ≡ false → (if b then xs else ys) ≡ ys
dropped_if b xs ys is = rw is refl

differs : (who i : ℕ) → (i ≡ who → ⊥) → (who == i) ≡ false
differs who i apart = elim (cases_Bool (who == i)) [
  | inl same ↦ absurd (apart (sym (eqb-true who i same)))
  | inr fails ↦ fails
]

pub none_asked : (i : ℕ) (event : Event) → i ≢ actor event → requests_by i event ≡ []
none_asked i (Did who ticks request answer refill) apart = dropped_if (who == i) (request ∷ []) [] (differs who i apart)
none_asked i (Waits who ticks request) apart = dropped_if (who == i) (request ∷ []) [] (differs who i apart)
none_asked i (Goes who answer) apart = refl
none_asked i (Runs who ticks) apart = refl

none_given : (i : ℕ) (event : Event) → i ≢ actor event → answers_by i event ≡ []
none_given i (Did who ticks request answer refill) apart = dropped_if (who == i) (answer ∷ []) [] (differs who i apart)
none_given i (Waits who ticks request) apart = refl
none_given i (Goes who answer) apart = dropped_if (who == i) (answer ∷ []) [] (differs who i apart)
none_given i (Runs who ticks) apart = refl

plus_none : (w : World) (i : ℕ) (regions : List ℕ) (asks answers : ℕ) → Stands w i regions asks answers → Stands w i regions (asks + 0) (answers + 0)
plus_none w i regions asks answers stands = record { held = stands.held; apart = stands.apart; count = let c = stands.count in omega (arith, c) }

own_stands : (facts : Facts) (w : World) (event : Event) (regions : List ℕ) (asks answers : ℕ) → HoldsWell w → IsPossible facts w event → Stands w (actor event) regions asks answers → StandsAfter facts w event (actor event) regions asks answers
own_stands facts w (Did who ticks request answer refill) regions asks answers well may stands =
    let here : (who == who) ≡ true = eq-eqb who who refl in
    same_stands _ who regions asks answers _ (request ∷ []) _ (answer ∷ []) (chosen_if (who == who) (request ∷ []) [] here) (chosen_if (who == who) (answer ∷ []) [] here)
    (did_stands facts w who ticks request answer refill regions asks answers well may stands)
own_stands facts w (Waits who ticks request) regions asks answers well may stands =
    let here : (who == who) ≡ true = eq-eqb who who refl in
    same_stands _ who regions asks answers _ (request ∷ []) _ [] (chosen_if (who == who) (request ∷ []) [] here) refl
    (waits_stands facts w who ticks request regions asks answers well may stands)
own_stands facts w (Goes who answer) regions asks answers well may stands =
    let here : (who == who) ≡ true = eq-eqb who who refl in
    same_stands _ who regions asks answers _ [] _ (answer ∷ []) refl (chosen_if (who == who) (answer ∷ []) [] here)
    (goes_stands facts w who answer regions asks answers well may stands)
own_stands facts w (Runs who ticks) regions asks answers well may stands = plus_none w who regions asks answers stands

pub step_stands : (facts : Facts) (w : World) (event : Event) (i : ℕ) (regions : List ℕ) (asks answers : ℕ) → HoldsWell w → IsPossible facts w event → Stands w i regions asks answers → StandsAfter facts w event i regions asks answers
step_stands facts w event i regions asks answers well may stands = elim (cases_eq i (actor event)) [
  | inr apart ↦ same_stands (after facts w event) i regions asks answers (requests_by i event) [] (answers_by i event) [] (none_asked i event apart) (none_given i event apart)
      (plus_none (after facts w event) i regions asks answers (others_stand facts w event i regions asks answers (actor_some facts w event well may) apart stands))
  | inl same ↦ subst (λ (n : ℕ). StandsAfter facts w event n regions asks answers) (sym same)
      (own_stands facts w event regions asks answers well may (subst (λ (n : ℕ). Stands w n regions asks answers) same stands))
]

counted : (w : World) (i : ℕ) (regions regions' : List ℕ) (asks asks' answers answers' : ℕ) → regions ≡ regions' → asks ≡ asks' → answers ≡ answers' → Stands w i regions asks answers → Stands w i regions' asks' answers'
counted w i regions regions' asks asks' answers answers' rs as' gs stands = record {
  held = subst (λ (l : List ℕ). HeldFor (held_by w i) (phase_of w i) l) rs stands.held;
  apart = subst AreApart rs stands.apart;
  count = let c = stands.count in omega (arith, c, as', gs);
}

pub run_stands : (facts : Facts) (w : World) (events : List Event) (i : ℕ) (regions : List ℕ) (asks answers : ℕ) → HoldsWell w → IsRunFrom facts w events → Stands w i regions asks answers
    → Stands (after_all facts w events) i (regions_on (requests_of i events) regions) (asks + length (requests_of i events)) (answers + length (answers_of i events))
run_stands facts w [] i regions asks answers well run stands = plus_none w i regions asks answers stands
run_stands facts w (event ∷ events) i regions asks answers well run stands =
    let a = length-append (requests_by i event) (requests_of i events) in
    let b = length-append (answers_by i event) (answers_of i events) in
    counted (after_all facts (after facts w event) events) i _ (regions_on (requests_of i (event ∷ events)) regions) _ (asks + length (requests_of i (event ∷ events))) _ (answers + length (answers_of i (event ∷ events)))
    (sym (regions_on-append (requests_by i event) (requests_of i events) regions)) (omega (arith, a)) (omega (arith, b))
    (run_stands facts (after facts w event) events i (regions_on (requests_by i event) regions) (asks + length (requests_by i event)) (answers + length (answers_by i event))
    (step_well facts w event run.0.possible well) run.1 (step_stands facts w event i regions asks answers well run.0.possible stands))

opening_stands : (facts : Facts) (i : ℕ) → Stands (opening facts) i [] 0 0
opening_stands facts zero = record { held = refl; apart = tt; count = refl }
opening_stands facts (suc zero) = record { held = refl; apart = tt; count = refl }
opening_stands facts (suc (suc i)) = record { held = refl; apart = tt; count = refl }

-- in the world that a journal leaves
pub journal_stands : (facts : Facts) (events : List Event) (i : ℕ) → IsRun facts events → Stands (after_all facts (opening facts) events) i (regions_on (requests_of i events) []) (length (requests_of i events)) (length (answers_of i events))
journal_stands facts events i run =
    let all = run_stands facts (opening facts) events i [] 0 0 (opening_well facts) run (opening_stands facts i) in
    counted (after_all facts (opening facts) events) i _ _ _ (length (requests_of i events)) _ (length (answers_of i events)) refl (omega arith) (omega arith) all
