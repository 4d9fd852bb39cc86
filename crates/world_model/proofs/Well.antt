-- What holds in every world that a journal leaves.
use Rattle.std.proofs.Common.{◌≡◌, ◌⊎◌, ◌≤◌, ◌<◌, ◌+◌, ℕ, zero, suc, List, [], ◌∷◌, ◌++◌, ℤ, length, map, take, drop, refl, sym, ap, ◌∙◌, subst, inl, inr, arith, Option, Some, None, slice_get, slice_set, replicate, length-append, length-take, length-drop}
use Rattle.std.specs.Prelude.{slice_index_or, IsSomeAnd}
use Rattle.std.specs.Option.{option_and_then}
use Rattle.std.proofs.lemmas.Bool.{cases_eq}
use Rattle.std.proofs.lemmas.Option.{slice_get_within}
use Rattle.kernel_base.specs.declared.facts.Facts.{Facts}
use Rattle.chill_base.specs.declared.layout.Bits.{Bits}
use Rattle.kernel_base.specs.declared.value.Value.{Value}
use Rattle.kernel_base.specs.declared.ends.How.TheVariants.{Normal}
use Rattle.kernel_base.specs.declared.request.Place.{Place}
use Rattle.kernel_base.specs.declared.request.Request.{Request}
use Rattle.kernel_base.specs.declared.request.Request.TheVariants.{Write, Enter, SendBuffer, End}
use Rattle.kernel_base.specs.declared.answer.Answer.{Answer}
use Rattle.kernel_base.specs.declared.answer.Answer.TheVariants.{Done}
use Rattle.kernel_base.specs.declared.event.Event.{Event}
use Rattle.kernel_base.specs.declared.event.Event.TheVariants.{Did, Waits, Goes, Runs}
use Rattle.kernel_base.specs.Value.{scalars_of}
use Rattle.kernel_base.specs.Facts.{FitsWrite, IsSound, FitsRequest}
use Rattle.world_model.specs.declared.world.Phase.{Phase}
use Rattle.world_model.specs.declared.world.Phase.TheVariants.{Active, Waiting, Chosen, Ended}
use Rattle.world_model.specs.declared.world.StoredValue.{StoredValue}
use Rattle.world_model.specs.declared.world.World.{World}
use Rattle.world_model.specs.Lists.{last_of, with_scalars}
use Rattle.world_model.specs.Waiting.{phase_of, offer_in, offer}
use Rattle.world_model.specs.World.{opening, held_by, freed_last, locked_back, back_in, drawn, with_drawn, after_waits, after_request, after, after_all, written}
use Rattle.world_model.specs.Allowed.{IsPossible, IsRunFrom}
use Rattle.world_model.proofs.ChangedLists.{written_elsewhere, written_here, written_or_old, read_elsewhere}
use Rattle.world_model.proofs.Freeing.{freeing_kept, back_kept}
use Rattle.world_model.proofs.PhaseMoves.{Moves, Stays, IsChosenNow, Begins, did_moves}
use Rattle.world_model.proofs.Stores.{AreSent, OfferSent, KeepsStores, did_sent, did_store}

-- Instance 0 is none, instance 1 was made, and who waits to send has drawn a number from 1 on.
pub record PhasesWell (phases : List Phase) : Type 0 where
  pub nobody : slice_get phases 0 ≡ Some (Ended Normal)
  pub first : Phase
  pub made : slice_get phases 1 ≡ Some first
  pub numbered : (p : ℕ) (request : Request) (n : ℕ) (back : Option ℕ) → slice_get phases p ≡ Some (Waiting request (Some n) back) → 1 ≤ n

-- each shared location has as many scalars as its layout
abbrev pub StoreFits : Facts → World → Type 0
StoreFits facts w = (location : ℕ) (layout : List Bits) → slice_get facts.layouts location ≡ Some layout → length (slice_index_or w.store location []) ≡ length layout

pub record IsWell (facts : Facts) (w : World) : Type 0 where
  pub phases : PhasesWell w.phases
  pub sent : AreSent w
  pub store : StoreFits facts w

some_who : (phases : List Phase) (who : ℕ) (phase : Phase) → PhasesWell phases → slice_get phases who ≡ Some phase → (phase ≡ Ended Normal → ⊥) → 1 ≤ who
some_who phases zero phase well at other = absurd (other (let both : Some phase ≡ Some (Ended Normal) = sym at ∙ well.nobody in cc))
some_who phases (suc who) phase well at other = omega arith

pub some_active : (phases : List Phase) (who : ℕ) → PhasesWell phases → slice_get phases who ≡ Some Active → 1 ≤ who
some_active phases who well active = some_who phases who Active well active (λ same. let f : ⊥ = cc in f)

-- how phases move keeps this
nobody_moves : (old new : Option Phase) → Moves old new → old ≡ Some (Ended Normal) → new ≡ Some (Ended Normal)
nobody_moves old new (Stays same) is = same ∙ is
nobody_moves old new (IsChosenNow chosen) is = absurd (let e : Some (Waiting chosen.request chosen.send chosen.back) ≡ Some (Ended Normal) = sym chosen.waited ∙ is in let f : ⊥ = cc in f)
nobody_moves old new (Begins none begins) is = absurd (let e : None ≡ Some (Ended Normal) = sym none ∙ is in let f : ⊥ = cc in f)

made_moves : (old new : Option Phase) (phase : Phase) → Moves old new → old ≡ Some phase → (other : Phase) × (new ≡ Some other)
made_moves old new phase (Stays same) is = (phase, same ∙ is)
made_moves old new phase (IsChosenNow chosen) is = (Chosen chosen.answer chosen.back, chosen.has_answer)
made_moves old new phase (Begins none begins) is = absurd (let e : None ≡ Some phase = sym none ∙ is in let f : ⊥ = cc in f)

waits_moves : (old new : Option Phase) (request : Request) (send back : Option ℕ) → Moves old new → new ≡ Some (Waiting request send back) → old ≡ Some (Waiting request send back)
waits_moves old new request send back (Stays same) is = sym same ∙ is
waits_moves old new request send back (IsChosenNow chosen) is = absurd (let e : Some (Chosen chosen.answer chosen.back) ≡ Some (Waiting request send back) = sym chosen.has_answer ∙ is in let f : ⊥ = cc in f)
waits_moves old new request send back (Begins none begins) is = absurd (let e : Some Active ≡ Some (Waiting request send back) = sym begins ∙ is in let f : ⊥ = cc in f)

moves_well : (old new : List Phase) → ((i : ℕ) → Moves (slice_get old i) (slice_get new i)) → PhasesWell old → PhasesWell new
moves_well old new moves well =
    let made = made_moves (slice_get old 1) (slice_get new 1) well.first (moves 1) well.made in
    record {
      nobody = nobody_moves (slice_get old 0) (slice_get new 0) (moves 0) well.nobody;
      first = made.0;
      made = made.1;
      numbered = λ p request n back at. well.numbered p request n back (waits_moves (slice_get old p) (slice_get new p) request (Some n) back (moves p) at);
    }

-- a phase that is set keeps this
set_made : (phases : List Phase) (who : ℕ) (new : Phase) → PhasesWell phases → (other : Phase) × (slice_get (slice_set phases who new) 1 ≡ Some other)
set_made phases who new well = elim (cases_eq 1 who) [
  | inl same ↦ (new, subst (λ (n : ℕ). slice_get (slice_set phases n new) 1 ≡ Some new) same (written_here phases 1 new well.first well.made))
  | inr apart ↦ (well.first, written_elsewhere phases who 1 new apart ∙ well.made)
]

set_well : (phases : List Phase) (who : ℕ) (new : Phase) → 1 ≤ who → ((request : Request) (n : ℕ) (back : Option ℕ) → new ≡ Waiting request (Some n) back → 1 ≤ n) → PhasesWell phases → PhasesWell (slice_set phases who new)
set_well phases who new some numbered well =
    let made = set_made phases who new well in
    record {
      nobody = written_elsewhere phases who 0 new (λ same. let f : ⊥ = omega arith in f) ∙ well.nobody;
      first = made.0;
      made = made.1;
      numbered = λ p request n back at. elim (written_or_old phases who p new (Waiting request (Some n) back) at) [
        | inl here ↦ numbered request n back (sym here.1)
        | inr old ↦ well.numbered p request n back old
      ];
    }

did_phases : (facts : Facts) (w : World) (who : ℕ) (request : Request) (answer : Answer) (refill : Option ℕ) → 1 ≤ who → PhasesWell w.phases → PhasesWell (after_request facts w who request answer refill).phases
did_phases facts w who (End how) answer refill some well = set_well w.phases who (Ended how) some (λ request n back is. absurd (let f : ⊥ = cc in f)) well
did_phases facts w who request answer refill some well = moves_well w.phases _ (λ i. did_moves facts w who request answer refill i some (λ is. is)) well

drawn_some : (w : World) (request : Request) (n : ℕ) → drawn w request ≡ Some n → 1 ≤ n
drawn_some w (SendBuffer buffer scalars priority) n is = let e : w.sends + 1 ≡ n = cc in omega arith
drawn_some w request n is = absurd (let f : ⊥ = cc in f)

waiting_well : (w : World) (who : ℕ) (request : Request) (back : Option ℕ) (phases : List Phase) → phases ≡ w.phases → 1 ≤ who → PhasesWell w.phases → PhasesWell (slice_set phases who (Waiting request (drawn w request) back))
waiting_well w who request back phases same some well =
    subst (λ (ps : List Phase). PhasesWell (slice_set ps who (Waiting request (drawn w request) back))) (sym same)
    (set_well w.phases who (Waiting request (drawn w request) back) some (λ r n b is. drawn_some w request n (let e : drawn w request ≡ Some n = cc in e)) well)

waits_phases : (w : World) (who : ℕ) (request : Request) → 1 ≤ who → PhasesWell w.phases → PhasesWell (after_waits w who request).phases
waits_phases w who (Enter region) some well = set_well w.phases who (Chosen Done (Some region)) some (λ request n back is. absurd (let f : ⊥ = cc in f)) well
waits_phases w who request some well = waiting_well w who request (last_of (held_by w who)) _ (freeing_kept w who (drawn w request) (last_of (held_by w who))) some well

goes_phases : (w : World) (who : ℕ) (back : Option ℕ) → 1 ≤ who → PhasesWell w.phases → PhasesWell (slice_set (locked_back w who back).phases who Active)
goes_phases w who back some well =
    subst (λ (ps : List Phase). PhasesWell (slice_set ps who Active)) (sym (back_kept w who back))
    (set_well w.phases who Active some (λ request n b is. absurd (let f : ⊥ = cc in f)) well)

pub freeing_stores : (w : World) (who : ℕ) (draws back : Option ℕ) → KeepsStores w (freed_last (with_drawn w draws) who back)
freeing_stores w who None None = (refl, refl, refl)
freeing_stores w who None (Some at) = (refl, refl, refl)
freeing_stores w who (Some n) None = (refl, refl, refl)
freeing_stores w who (Some n) (Some at) = (refl, refl, refl)

waits_stores : (w : World) (who : ℕ) (request : Request) → KeepsStores w (after_waits w who request)
waits_stores w who (Enter region) = (refl, refl, refl)
waits_stores w who request = freeing_stores w who (drawn w request) (last_of (held_by w who))

pub back_stores : (w : World) (who : ℕ) (back : Option ℕ) → KeepsStores w (locked_back w who back)
back_stores w who None = (refl, refl, refl)
back_stores w who (Some at) = (refl, refl, refl)

stores_sent : (old new : World) → KeepsStores old new → AreSent old → AreSent new
stores_sent old new kept sent = record {
  values = λ buffer k value at. sent.values buffer k value (ap (λ ss. slice_get (slice_index_or ss buffer []) k) (sym kept.1) ∙ at);
  signals = λ k signal at. sent.signals k signal (ap (λ ps. slice_get ps k) (sym kept.2) ∙ at);
}

same_store : (facts : Facts) (old new : World) → new.store ≡ old.store → StoreFits facts old → StoreFits facts new
same_store facts old new same fits location layout at = ap (λ (ss : List (List ℤ)). length (slice_index_or ss location [])) same ∙ fits location layout at

offer_sent : (w : World) (p : ℕ) (old : Option Phase) → PhasesWell w.phases → phase_of w p ≡ old → OfferSent (option_and_then (offer_in p) old)
offer_sent w p None well at = tt
offer_sent w p (Some (Waiting (SendBuffer buffer scalars priority) (Some send) back)) well at = record {
  send = well.numbered p (SendBuffer buffer scalars priority) send back at;
  sender = some_who w.phases p (Waiting (SendBuffer buffer scalars priority) (Some send) back) well at (λ same. let f : ⊥ = cc in f);
}
offer_sent w p (Some phase) well at = tt

pub offers_sent : (w : World) → PhasesWell w.phases → (p : ℕ) → OfferSent (offer w p)
offers_sent w well p = offer_sent w p (phase_of w p) well refl

-- a write keeps the number of scalars
length-with_scalars : (scalars : List ℤ) (first : ℕ) (new : List ℤ) → first + length new ≤ length scalars → length (with_scalars scalars first new) ≡ length scalars
length-with_scalars scalars first new fits =
    omega (arith, length-append (take first scalars ++ new) (drop (first + length new) scalars), length-append (take first scalars) new, length-take first scalars, length-drop (first + length new) scalars)

read_set : (xs : List (List ℤ)) (i : ℕ) (new : List ℤ) → (slice_index_or (slice_set xs i new) i [] ≡ new) ⊎ (slice_index_or (slice_set xs i new) i [] ≡ slice_index_or xs i [])
read_set [] i new = inr refl
read_set (x ∷ xs) zero new = inl refl
read_set (x ∷ xs) (suc i) new = read_set xs i new

within_layout : (layouts : Option (List Bits)) (place : Place) (layout : List Bits) → IsSomeAnd layouts (λ (l : List Bits). place.first + place.count ≤ length l) → layouts ≡ Some layout → place.first + place.count ≤ length layout
within_layout None place layout fits is = absurd (let f : ⊥ = cc in f)
within_layout (Some l) place layout fits is = let e : l ≡ layout = cc in subst (λ (x : List Bits). place.first + place.count ≤ length x) e fits

written_fits : (facts : Facts) (w : World) (place : Place) (scalars : List ℤ) → FitsWrite facts place scalars → StoreFits facts w → StoreFits facts (written w place scalars)
written_fits facts w place scalars write fits location layout at =
    let old : List ℤ = slice_index_or w.store place.location [] in
    let new : List ℤ = with_scalars old place.first scalars in
    elim (cases_eq location place.location) [
      | inr apart ↦ ap length (read_elsewhere w.store place.location location new [] apart) ∙ fits location layout at
      | inl same ↦ (let here : slice_get facts.layouts place.location ≡ Some layout = ap (slice_get facts.layouts) (sym same) ∙ at in
          let long : length old ≡ length layout = fits place.location layout here in
          let room : place.first + place.count ≤ length layout = within_layout (slice_get facts.layouts place.location) place layout write.lies.scalars here in
          let count : length scalars ≡ place.count = write.count in
          let kept : length new ≡ length old = length-with_scalars old place.first scalars (omega arith) in
          ap (λ (n : ℕ). length (slice_index_or (slice_set w.store place.location new) n [])) same
          ∙ elim (read_set w.store place.location new) [
            | inl written ↦ ap length written ∙ kept ∙ long
            | inr stays ↦ ap length stays ∙ long
          ])
    ]

did_fits : (facts : Facts) (w : World) (who : ℕ) (request : Request) (answer : Answer) (refill : Option ℕ) → FitsRequest facts request → StoreFits facts w → StoreFits facts (after_request facts w who request answer refill)
did_fits facts w who (Write place scalars) answer refill may fits = written_fits facts w place scalars may fits
did_fits facts w who request answer refill may fits = same_store facts w (after_request facts w who request answer refill) (did_store facts w who request answer refill (λ is. is)) fits

pub step_well : (facts : Facts) (w : World) (event : Event) → IsPossible facts w event → IsWell facts w → IsWell facts (after facts w event)
step_well facts w (Did who ticks request answer refill) may well =
    let some = some_active w.phases who well.phases may.0.active in
    record {
      phases = did_phases facts w who request answer refill some well.phases;
      sent = did_sent facts w who request answer refill some (offers_sent w well.phases) well.sent;
      store = did_fits facts w who request answer refill may.0.fits well.store;
    }
step_well facts w (Waits who ticks request) may well =
    let some = some_active w.phases who well.phases may.0.active in
    record {
      phases = waits_phases w who request some well.phases;
      sent = stores_sent w (after_waits w who request) (waits_stores w who request) well.sent;
      store = same_store facts w (after_waits w who request) (waits_stores w who request).0 well.store;
    }
step_well facts w (Goes who answer) may well =
    let some = some_who w.phases who (Chosen answer may.back) well.phases may.chosen (λ same. let f : ⊥ = cc in f) in
    let back : Option ℕ = back_in (phase_of w who) in
    record {
      phases = goes_phases w who back some well.phases;
      sent = stores_sent w (after facts w (Goes who answer)) (back_stores w who back) well.sent;
      store = same_store facts w (after facts w (Goes who answer)) (back_stores w who back).0 well.store;
    }
step_well facts w (Runs who ticks) may well = well

-- the opening
there_is : {X : Type 0} (xs : List X) (i : ℕ) → i < length xs → (x : X) × (slice_get xs i ≡ Some x)
there_is [] i low = absurd (let f : ⊥ = omega arith in f)
there_is (x ∷ xs) zero low = (x, refl)
there_is (x ∷ xs) (suc i) low = there_is xs i (omega arith)

mapped_there : (values : List Value) (i : ℕ) (value : Value) → slice_get values i ≡ Some value → slice_index_or (map scalars_of values) i [] ≡ scalars_of value
mapped_there [] i value at = absurd (let f : ⊥ = cc in f)
mapped_there (v ∷ values) zero value at = let e : v ≡ value = cc in ap scalars_of e
mapped_there (v ∷ values) (suc i) value at = mapped_there values i value at

opening_fits : (facts : Facts) → IsSound facts → StoreFits facts (opening facts)
opening_fits facts sound location layout at =
    let low : location < length facts.layouts = slice_get_within facts.layouts location layout at in
    let there = there_is facts.store location (let same : length facts.layouts ≡ length facts.store = sound.locations in omega arith) in
    ap length (mapped_there facts.store location there.0 there.1) ∙ (sound.laid_out location there.0 layout there.1 at).count

nobody_waits : (p : ℕ) (request : Request) (n : ℕ) (back : Option ℕ) → slice_get (Ended Normal ∷ Active ∷ []) p ≡ Some (Waiting request (Some n) back) → 1 ≤ n
nobody_waits zero request n back at = absurd (let f : ⊥ = cc in f)
nobody_waits (suc zero) request n back at = absurd (let f : ⊥ = cc in f)
nobody_waits (suc (suc p)) request n back at = absurd (let f : ⊥ = cc in f)

opening_phases : PhasesWell (Ended Normal ∷ Active ∷ [])
opening_phases = record {
  nobody = refl;
  first = Active;
  made = refl;
  numbered = nobody_waits;
}

nothing_stored : (count buffer : ℕ) → slice_index_or (replicate count (let none : List StoredValue = [] in none)) buffer [] ≡ []
nothing_stored zero buffer = refl
nothing_stored (suc count) zero = refl
nothing_stored (suc count) (suc buffer) = nothing_stored count buffer

pub opening_well : (facts : Facts) → IsSound facts → IsWell facts (opening facts)
opening_well facts sound = record {
  phases = opening_phases;
  sent = record {
    values = λ buffer k value at. absurd (let e : slice_get (let none : List StoredValue = [] in none) k ≡ Some value = ap (λ (vs : List StoredValue). slice_get vs k) (sym (nothing_stored (length facts.buffers) buffer)) ∙ at in let f : ⊥ = cc in f);
    signals = λ k signal at. absurd (let f : ⊥ = cc in f);
  };
  store = opening_fits facts sound;
}

pub run_well : (facts : Facts) (w : World) (events : List Event) → IsRunFrom facts w events → IsWell facts w → IsWell facts (after_all facts w events)
run_well facts w [] run well = well
run_well facts w (event ∷ events) run well = run_well facts (after facts w event) events run.1 (step_well facts w event run.0.possible well)
