-- Whoever holds a region occupies it.
use Rattle.std.proofs.Common.{◌≡◌, ◌≢◌, ◌⊎◌, ◌==◌, ℕ, zero, suc, Bool, true, false, List, [], ◌∷◌, ◌++◌, ℤ, refl, sym, ap, ◌∙◌, subst, inl, inr, Option, Some, None, slice_get, map}
use Rattle.std.specs.Prelude.{if◌then◌else◌, option_map, slice_index_or}
use Rattle.std.proofs.lemmas.Bool.{cases_eq, cases_Bool, eqb-true}
use Rattle.std.proofs.lemmas.Option.{slice_get-map}
use Rattle.kernel_base.specs.declared.facts.Facts.{Facts}
use Rattle.kernel_base.specs.declared.ends.How.{How}
use Rattle.kernel_base.specs.declared.request.Request.{Request}
use Rattle.kernel_base.specs.declared.request.Request.TheVariants.{Enter, Leave, Start, End}
use Rattle.kernel_base.specs.declared.answer.Answer.{Answer}
use Rattle.kernel_base.specs.declared.answer.Answer.TheVariants.{Done, Instance}
use Rattle.kernel_base.specs.declared.event.Event.{Event}
use Rattle.kernel_base.specs.declared.event.Event.TheVariants.{Did, Waits, Goes, Runs}
use Rattle.world_model.specs.declared.world.Phase.{Phase}
use Rattle.world_model.specs.declared.world.Phase.TheVariants.{Active, Waiting, Chosen}
use Rattle.world_model.specs.declared.world.World.{World}
use Rattle.world_model.specs.Lists.{last_of, without}
use Rattle.world_model.specs.Waiting.{phase_of}
use Rattle.world_model.specs.World.{occupant, held_by, with_phase, locked, freed, entered, left, locked_back, freed_last, other_occupant, ended, after_start, after_request, drawn, with_drawn, after_waits, back_in, after, after_all, opening}
use Rattle.world_model.specs.Allowed.{IsFree, Occupies, IsPossible, MayLockBack, IsRunFrom, IsRun}
use Rattle.world_model.proofs.Locking.{KeepsHolding, quiet_keeps}
use Rattle.world_model.proofs.ChangedLists.{written_here, written_elsewhere, read_is, stands_there, read_elsewhere, read_here, read_pushed, in_without, last_is_in, pushed_or_old}

-- the region stands in this list
abbrev pub StandsIn : List ℕ → ℕ → Type 0
StandsIn regions region = (k : ℕ) × (slice_get regions k ≡ Some region)

-- whoever holds a region occupies it
pub record HoldsOccupied (w : World) : Type 0 where
  pub occupied : (p region : ℕ) → StandsIn (held_by w p) region → Occupies w p region

nothing_in : (region : ℕ) (regions : List ℕ) → regions ≡ [] → StandsIn regions region → ⊥
nothing_in region regions none stands = let at : slice_get [] stands.0 ≡ Some region = ap (λ (l : List ℕ). slice_get l stands.0) (sym none) ∙ stands.1 in let f : ⊥ = cc in f

in_other : (a b : List ℕ) (region : ℕ) → a ≡ b → StandsIn a region → StandsIn b region
in_other a b region same stands = (stands.0, ap (λ (l : List ℕ). slice_get l stands.0) (sym same) ∙ stands.1)

keeps_holds : (old new : World) → KeepsHolding old new → HoldsOccupied old → HoldsOccupied new
keeps_holds old new same holds = record {
  occupied = λ p region stands.
      let before = holds.occupied p region (in_other (held_by new p) (held_by old p) region (ap (λ (hs : List (List ℕ)). slice_index_or hs p []) same.1) stands) in
      ap (λ (os : List (Option ℕ)). slice_get os region) same.0 ∙ before;
}

-- the same of `who`, whose list has the region at its end
own_holds : (w : World) (who at region : ℕ) → ((p r : ℕ) → Occupies w p r → Occupies (locked w who at) p r) → Occupies (locked w who at) who at → HoldsOccupied w → StandsIn (held_by (locked w who at) who) region → Occupies (locked w who at) who region
own_holds w who at region kept here holds stands = elim (read_here w.held who (held_by w who ++ at ∷ []) []) [
  | inr none ↦ absurd (nothing_in region _ none stands)
  | inl is ↦ (let inside = in_other _ (held_by w who ++ at ∷ []) region is stands in
      elim (pushed_or_old (held_by w who) inside.0 at region inside.1) [
        | inl last ↦ subst (λ (n : ℕ). Occupies (locked w who at) who n) (sym last.1) here
        | inr old ↦ kept who region (holds.occupied who region (inside.0, old))
      ])
]

locked_holds : (w : World) (who at : ℕ) → IsFree w at → HoldsOccupied w → HoldsOccupied (locked w who at)
locked_holds w who at free holds =
    let kept : (p region : ℕ) → Occupies w p region → Occupies (locked w who at) p region = λ p region occupies.
    written_elsewhere w.occupants at region (Some who) (λ same. let e : slice_get w.occupants at ≡ Some (Some p) = ap (slice_get w.occupants) (sym same) ∙ occupies in let f : ⊥ = cc in f) ∙ occupies in
    let here : Occupies (locked w who at) who at = written_here w.occupants at (Some who) None free in
    record {
      occupied = λ p region stands. elim (cases_eq p who) [
        | inr apart ↦ kept p region (holds.occupied p region (in_other _ (held_by w p) region (read_elsewhere w.held who p (held_by w who ++ at ∷ []) [] apart) stands))
        | inl same ↦ subst (λ (n : ℕ). Occupies (locked w who at) n region) (sym same)
            (own_holds w who at region kept here holds (in_other _ (held_by (locked w who at) who) region (ap (held_by (locked w who at)) same) stands))
      ];
    }

-- the same of `who` where it frees a region
own_freed : (w : World) (who at region : ℕ) → HoldsOccupied w → StandsIn (held_by (freed w who at) who) region → Occupies (freed w who at) who region
own_freed w who at region holds stands = elim (read_here w.held who (without at (held_by w who)) []) [
  | inr none ↦ absurd (nothing_in region _ none stands)
  | inl is ↦ (let inside = in_other _ (without at (held_by w who)) region is stands in
      let stood = in_without at (held_by w who) inside.0 region inside.1 in
      written_elsewhere w.occupants at region None stood.0 ∙ holds.occupied who region stood.1)
]

-- of the others where `who` frees a region that it occupies
others_freed : (w : World) (who at p region : ℕ) → p ≢ who → Occupies w who at → Occupies w p region → Occupies (freed w who at) p region
others_freed w who at p region apart mine occupies =
    written_elsewhere w.occupants at region None (λ same. apart (let e : slice_get w.occupants at ≡ Some (Some p) = ap (slice_get w.occupants) (sym same) ∙ occupies in let f : p ≡ who = cc in f)) ∙ occupies

pub freed_holds : (w : World) (who at : ℕ) → Occupies w who at → HoldsOccupied w → HoldsOccupied (freed w who at)
freed_holds w who at mine holds = record {
  occupied = λ p region stands. elim (cases_eq p who) [
    | inr apart ↦ others_freed w who at p region apart mine (holds.occupied p region (in_other _ (held_by w p) region (read_elsewhere w.held who p (without at (held_by w who)) [] apart) stands))
    | inl same ↦ subst (λ (n : ℕ). Occupies (freed w who at) n region) (sym same)
        (own_freed w who at region holds (in_other _ (held_by (freed w who at) who) region (ap (held_by (freed w who at)) same) stands))
  ];
}

still_other : (who p : ℕ) → p ≢ who → other_occupant who (Some p) ≡ Some p
still_other who p apart = elim (cases_Bool (p == who)) [
  | inl same ↦ absurd (apart (eqb-true p who same))
  | inr differ ↦ rw differ refl
]

others_stay : (w : World) (who p region : ℕ) → p ≢ who → Occupies w p region → slice_get (map (other_occupant who) w.occupants) region ≡ Some (Some p)
others_stay w who p region apart occupies =
    slice_get-map (other_occupant who) w.occupants region
    ∙ ap (option_map (other_occupant who)) occupies
    ∙ ap Some (still_other who p apart)

ended_holds : (w : World) (who : ℕ) (how : How) → HoldsOccupied w → HoldsOccupied (ended w who how)
ended_holds w who how holds = record {
  occupied = λ p region stands. elim (cases_eq p who) [
    | inr apart ↦ others_stay w who p region apart (holds.occupied p region (in_other _ (held_by w p) region (read_elsewhere w.held who p [] [] apart) stands))
    | inl same ↦ absurd (let none : held_by (ended w who how) p ≡ [] = ap (held_by (ended w who how)) same ∙ elim (read_here w.held who [] []) [ inl is ↦ is | inr is ↦ is ] in nothing_in region _ none stands)
  ];
}

enter_holds : (w : World) (who at : ℕ) (o : Option ℕ) → occupant w at ≡ o → (IsFree w at ⊎ Occupies w who at) → HoldsOccupied w → HoldsOccupied (entered w who at o)
enter_holds w who at None is may holds = elim may [
  | inl free ↦ locked_holds w who at free holds
  | inr mine ↦ absurd (let e : occupant w at ≡ Some who = read_is w.occupants at None (Some who) mine in let f : ⊥ = cc in f)
]
enter_holds w who at (Some other) is may holds = holds

left_if_holds : (w : World) (who at : ℕ) (mine : Bool) → (mine ≡ true → Occupies w who at) → HoldsOccupied w → HoldsOccupied (if mine then freed w who at else w)
left_if_holds w who at true is holds = freed_holds w who at (is refl) holds
left_if_holds w who at false is holds = holds

left_holds : (w : World) (who at : ℕ) (o : Option ℕ) → occupant w at ≡ o → HoldsOccupied w → HoldsOccupied (left w who at o)
left_holds w who at None is holds = holds
left_holds w who at (Some other) is holds =
    left_if_holds w who at (other == who)
    (λ mine. stands_there w.occupants at None (Some who) (is ∙ ap Some (eqb-true other who mine)) (λ none. let f : ⊥ = cc in f)) holds

start_holds : (w : World) (process : ℕ) (scalars : List ℤ) (answer : Answer) → HoldsOccupied w → HoldsOccupied (after_start w process scalars answer)
start_holds w process scalars (Instance i) holds = record { occupied = λ p region stands. holds.occupied p region (in_other _ (held_by w p) region (read_pushed w.held p []) stands) }
start_holds w process scalars answer holds = holds

back_holds : (w : World) (who : ℕ) (back : Option ℕ) → MayLockBack w back → HoldsOccupied w → HoldsOccupied (locked_back w who back)
back_holds w who None may holds = holds
back_holds w who (Some at) may holds = locked_holds w who at may holds

freed_last_holds : (w : World) (who : ℕ) (back : Option ℕ) → last_of (held_by w who) ≡ back → HoldsOccupied w → HoldsOccupied (freed_last w who back)
freed_last_holds w who None is holds = holds
freed_last_holds w who (Some at) is holds = freed_holds w who at (holds.occupied who at (last_is_in (held_by w who) at is)) holds

drawn_holds : (w : World) (draws : Option ℕ) → HoldsOccupied w → HoldsOccupied (with_drawn w draws)
drawn_holds w None holds = holds
drawn_holds w (Some send) holds = record { occupied = holds.occupied }

drawn_held : (w : World) (draws : Option ℕ) (who : ℕ) → held_by (with_drawn w draws) who ≡ held_by w who
drawn_held w None who = refl
drawn_held w (Some send) who = refl

with_phase_holds : (w : World) (who : ℕ) (phase : Phase) → HoldsOccupied w → HoldsOccupied (with_phase w who phase)
with_phase_holds w who phase holds = record { occupied = holds.occupied }

freeing_holds : (w : World) (who : ℕ) (draws : Option ℕ) → HoldsOccupied w → HoldsOccupied (freed_last (with_drawn w draws) who (last_of (held_by w who)))
freeing_holds w who draws holds = freed_last_holds (with_drawn w draws) who (last_of (held_by w who)) (ap last_of (drawn_held w draws who)) (drawn_holds w draws holds)

waits_holds : (w : World) (who : ℕ) (request : Request) → HoldsOccupied w → HoldsOccupied (after_waits w who request)
waits_holds w who (Enter region) holds = with_phase_holds w who (Chosen Done (Some region)) holds
waits_holds w who request holds =
    let back : Option ℕ = last_of (held_by w who) in
    with_phase_holds (freed_last (with_drawn w (drawn w request)) who back) who (Waiting request (drawn w request) back) (freeing_holds w who (drawn w request) holds)

did_holds : (facts : Facts) (w : World) (who ticks : ℕ) (request : Request) (answer : Answer) (refill : Option ℕ) → IsPossible facts w (Did who ticks request answer refill) → HoldsOccupied w → HoldsOccupied (after_request facts w who request answer refill)
did_holds facts w who ticks (Enter region) answer refill may holds = enter_holds w who region (occupant w region) refl may.1.1.1 holds
did_holds facts w who ticks (Leave region) answer refill may holds = left_holds w who region (occupant w region) refl holds
did_holds facts w who ticks (Start process scalars) answer refill may holds = start_holds w process scalars answer holds
did_holds facts w who ticks (End how) answer refill may holds = ended_holds w who how holds
did_holds facts w who ticks request answer refill may holds = keeps_holds w (after_request facts w who request answer refill) (quiet_keeps facts w who request answer refill tt) holds

pub step_holds : (facts : Facts) (w : World) (event : Event) → IsPossible facts w event → HoldsOccupied w → HoldsOccupied (after facts w event)
step_holds facts w (Did who ticks request answer refill) may holds = did_holds facts w who ticks request answer refill may holds
step_holds facts w (Waits who ticks request) may holds = waits_holds w who request holds
step_holds facts w (Goes who answer) may holds =
    let free : MayLockBack w (back_in (phase_of w who)) = subst (λ (o : Option ℕ). MayLockBack w o) (sym (ap back_in may.chosen)) may.free in
    with_phase_holds (locked_back w who (back_in (phase_of w who))) who Active (back_holds w who (back_in (phase_of w who)) free holds)
step_holds facts w (Runs who ticks) may holds = holds

none : (facts : Facts) (p : ℕ) → held_by (opening facts) p ≡ []
none facts zero = refl
none facts (suc zero) = refl
none facts (suc (suc p)) = refl

opening_holds : (facts : Facts) → HoldsOccupied (opening facts)
opening_holds facts = record { occupied = λ p region stands. absurd (nothing_in region _ (none facts p) stands) }

pub run_holds : (facts : Facts) (w : World) (events : List Event) → IsRunFrom facts w events → HoldsOccupied w → HoldsOccupied (after_all facts w events)
run_holds facts w [] run holds = holds
run_holds facts w (event ∷ events) run holds = run_holds facts (after facts w event) events run.1 (step_holds facts w event run.0.possible holds)

-- in the world that a journal leaves whoever holds a region occupies it
pub journal_holds : (facts : Facts) (events : List Event) → IsRun facts events → HoldsOccupied (after_all facts (opening facts) events)
journal_holds facts events run = run_holds facts (opening facts) events run (opening_holds facts)
