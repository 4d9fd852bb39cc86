-- Whoever occupies a region holds it, and the lists of a world are as long as each other.
use Rattle.std.proofs.Common.{◌≡◌, ◌≢◌, ◌⊎◌, ◌<◌, ◌+◌, ℕ, zero, suc, Bool, true, false, List, [], ◌∷◌, ◌++◌, ℤ, length, length-set, refl, sym, ap, ◌∙◌, subst, inl, inr, arith, Option, Some, None, slice_get, slice_set, eq-eqb}
use Rattle.std.specs.Prelude.{if◌then◌else◌, option_map, slice_index_or, ◌==◌}
use Rattle.std.proofs.lemmas.Bool.{cases_eq, cases_Bool, eqb-true}
use Rattle.std.proofs.lemmas.List.{length_push}
use Rattle.std.proofs.lemmas.Option.{slice_get-map, slice_get_within}
use Rattle.kernel_base.specs.declared.facts.Facts.{Facts}
use Rattle.kernel_base.specs.declared.ends.How.{How}
use Rattle.kernel_base.specs.declared.request.Request.{Request}
use Rattle.kernel_base.specs.declared.request.Request.TheVariants.{Enter, Leave, Continue, SendBuffer, ReceiveBuffer, SendSignal, ReceiveSignal, Start, End}
use Rattle.kernel_base.specs.declared.answer.Answer.{Answer}
use Rattle.kernel_base.specs.declared.answer.Answer.TheVariants.{Done, Instance}
use Rattle.kernel_base.specs.declared.event.Event.{Event}
use Rattle.kernel_base.specs.declared.event.Event.TheVariants.{Did, Waits, Goes, Runs}
use Rattle.world_model.specs.declared.world.Phase.{Phase}
use Rattle.world_model.specs.declared.world.Phase.TheVariants.{Active, Chosen, Ended}
use Rattle.world_model.specs.declared.world.World.{World}
use Rattle.world_model.specs.Lists.{last_of, without}
use Rattle.world_model.specs.Waiting.{phase_of}
use Rattle.world_model.specs.World.{occupant, held_by, with_phase, locked, freed, entered, left, locked_back, freed_last, other_occupant, ended, after_start, after_request, drawn, with_drawn, after_waits, back_in, after}
use Rattle.world_model.specs.Allowed.{Occupies, IsPossible}
use Rattle.world_model.proofs.Locking.{quiet_keeps}
use Rattle.world_model.proofs.ChangedLists.{written_here, written_or_old, read_elsewhere, read_pushed}
use Rattle.run_laws.proofs.Births.{Keeps, continue_keeps, send_keeps, receive_keeps, signal_keeps, hear_keeps}
use Rattle.run_laws.proofs.Regions.{has, has_last, has_more, has_kept}

-- whoever occupies a region holds it
pub record OccupiesHeld (w : World) : Type 0 where
  pub holds : (p region : ℕ) → Occupies w p region → has region (held_by w p) ≡ true

-- what was written is read, within the list
pub read_written : {X : Type 0} (xs : List X) (i : ℕ) (new d : X) → i < length xs → slice_index_or (slice_set xs i new) i d ≡ new
read_written [] i new d low = absurd (let f : ⊥ = omega arith in f)
read_written (x ∷ xs) zero new d low = refl
read_written (x ∷ xs) (suc i) new d low = read_written xs i new d (omega arith)

locked_has : (w : World) (who at : ℕ) → who < length w.held → OccupiesHeld w → OccupiesHeld (locked w who at)
locked_has w who at low has_it = record {
  holds = λ p region occupies. elim (cases_eq p who) [
    | inr apart ↦ others p region apart (written_or_old w.occupants at region (Some who) (Some p) occupies)
    | inl same ↦ subst (λ (n : ℕ). has region (held_by (locked w who at) n) ≡ true) (sym same)
        (own region (written_or_old w.occupants at region (Some who) (Some who) (subst (λ (n : ℕ). Occupies (locked w who at) n region) same occupies)))
  ];
}
  where
    others : (p region : ℕ) → p ≢ who → ((region ≡ at) × (Some p ≡ Some who)) ⊎ Occupies w p region → has region (held_by (locked w who at) p) ≡ true
    others p region apart (inl new) = absurd (apart (let e : Some p ≡ Some who = new.1 in let f : p ≡ who = cc in f))
    others p region apart (inr old) = ap (has region) (read_elsewhere w.held who p (held_by w who ++ at ∷ []) [] apart) ∙ has_it.holds p region old

    own : (region : ℕ) → ((region ≡ at) × (Some who ≡ Some who)) ⊎ Occupies w who region → has region (held_by (locked w who at) who) ≡ true
    own region (inl new) = ap (has region) (read_written w.held who (held_by w who ++ at ∷ []) [] low) ∙ (ap (λ (n : ℕ). has n (held_by w who ++ at ∷ [])) new.0 ∙ has_last (held_by w who) at)
    own region (inr old) = ap (has region) (read_written w.held who (held_by w who ++ at ∷ []) [] low) ∙ has_more (held_by w who) at region (has_it.holds who region old)

freed_has : (w : World) (who at : ℕ) → who < length w.held → OccupiesHeld w → OccupiesHeld (freed w who at)
freed_has w who at low has_it = record {
  holds = λ p region occupies. elim (cases_eq p who) [
    | inr apart ↦ ap (has region) (read_elsewhere w.held who p (without at (held_by w who)) [] apart) ∙ has_it.holds p region (was p region occupies)
    | inl same ↦ subst (λ (n : ℕ). has region (held_by (freed w who at) n) ≡ true) (sym same)
        (let mine = subst (λ (n : ℕ). Occupies (freed w who at) n region) same occupies in
        ap (has region) (read_written w.held who (without at (held_by w who)) [] low)
        ∙ has_kept (held_by w who) at region (differs who region mine) (has_it.holds who region (was who region mine)))
  ];
}
  where
    was : (p region : ℕ) → Occupies (freed w who at) p region → Occupies w p region
    was p region occupies = elim (written_or_old w.occupants at region None (Some p) occupies) [
      | inl new ↦ absurd (let e : Some p ≡ None = new.1 in let f : ⊥ = cc in f)
      | inr old ↦ old
    ]

    differs : (p region : ℕ) → Occupies (freed w who at) p region → (at == region) ≡ false
    differs p region occupies = elim (cases_Bool (at == region)) [
      | inr apart ↦ apart
      | inl same ↦ absurd (
          let is : at ≡ region = eqb-true at region same in
          let before : slice_get w.occupants at ≡ Some (Some p) = ap (slice_get w.occupants) is ∙ was p region occupies in
          let none : slice_get (freed w who at).occupants at ≡ Some None = written_here w.occupants at None (Some p) before in
          let some : slice_get (freed w who at).occupants at ≡ Some (Some p) = ap (slice_get (freed w who at).occupants) is ∙ occupies in
          let f : ⊥ = cc in f)
    ]

ended_was : (who p : ℕ) (o : Option (Option ℕ)) → option_map (other_occupant who) o ≡ Some (Some p) → (o ≡ Some (Some p)) × (p ≢ who)
ended_was who p None is = absurd (let f : ⊥ = cc in f)
ended_was who p (Some None) is = absurd (let f : ⊥ = cc in f)
ended_was who p (Some (Some q)) is = elim (cases_Bool (q == who)) [
  | inl same ↦ absurd (let e : other_occupant who (Some q) ≡ None = rw same refl in let f : ⊥ = cc in f)
  | inr apart ↦ (
      let e : other_occupant who (Some q) ≡ Some q = rw apart refl in
      let is_p : q ≡ p = cc in
      (ap (λ (n : ℕ). Some (Some n)) is_p, λ same. let f : (q == who) ≡ true = eq-eqb q who (is_p ∙ same) in let g : ⊥ = cc in g))
]

ended_has : (w : World) (who : ℕ) (how : How) → OccupiesHeld w → OccupiesHeld (ended w who how)
ended_has w who how has_it = record {
  holds = λ p region occupies.
      let before = ended_was who p (slice_get w.occupants region) (sym (slice_get-map (other_occupant who) w.occupants region) ∙ occupies) in
      ap (has region) (read_elsewhere w.held who p [] [] before.1) ∙ has_it.holds p region before.0;
}

enter_has : (w : World) (who at : ℕ) (o : Option ℕ) → who < length w.held → OccupiesHeld w → OccupiesHeld (entered w who at o)
enter_has w who at None low has_it = locked_has w who at low has_it
enter_has w who at (Some other) low has_it = has_it

left_if_has : (w : World) (who at : ℕ) (mine : Bool) → who < length w.held → OccupiesHeld w → OccupiesHeld (if mine then freed w who at else w)
left_if_has w who at true low has_it = freed_has w who at low has_it
left_if_has w who at false low has_it = has_it

left_has : (w : World) (who at : ℕ) (o : Option ℕ) → who < length w.held → OccupiesHeld w → OccupiesHeld (left w who at o)
left_has w who at None low has_it = has_it
left_has w who at (Some other) low has_it = left_if_has w who at (other == who) low has_it

start_has : (w : World) (process : ℕ) (scalars : List ℤ) (answer : Answer) → OccupiesHeld w → OccupiesHeld (after_start w process scalars answer)
start_has w process scalars (Instance i) has_it = record { holds = λ p region occupies. ap (has region) (read_pushed w.held p []) ∙ has_it.holds p region occupies }
start_has w process scalars answer has_it = has_it

-- the same lists of who holds and occupies which region
same_has : (old new : World) → new.occupants ≡ old.occupants → new.held ≡ old.held → OccupiesHeld old → OccupiesHeld new
same_has old new occupants held has_it = record {
  holds = λ p region occupies.
      ap (λ (hs : List (List ℕ)). has region (slice_index_or hs p [])) held
      ∙ has_it.holds p region (ap (λ (os : List (Option ℕ)). slice_get os region) (sym occupants) ∙ occupies);
}

back_has : (w : World) (who : ℕ) (back : Option ℕ) → who < length w.held → OccupiesHeld w → OccupiesHeld (locked_back w who back)
back_has w who None low has_it = has_it
back_has w who (Some at) low has_it = locked_has w who at low has_it

drawn_has : (w : World) (who : ℕ) (draws back : Option ℕ) → who < length w.held → OccupiesHeld w → OccupiesHeld (freed_last (with_drawn w draws) who back)
drawn_has w who None None low has_it = has_it
drawn_has w who None (Some at) low has_it = freed_has w who at low has_it
drawn_has w who (Some send) None low has_it = same_has w (with_drawn w (Some send)) refl refl has_it
drawn_has w who (Some send) (Some at) low has_it = freed_has (with_drawn w (Some send)) who at low (same_has w (with_drawn w (Some send)) refl refl has_it)

waits_has : (w : World) (who : ℕ) (request : Request) → who < length w.held → OccupiesHeld w → OccupiesHeld (after_waits w who request)
waits_has w who (Enter region) low has_it = same_has w (after_waits w who (Enter region)) refl refl has_it
waits_has w who request low has_it = same_has (freed_last (with_drawn w (drawn w request)) who (last_of (held_by w who))) _ refl refl (drawn_has w who (drawn w request) (last_of (held_by w who)) low has_it)

did_has : (facts : Facts) (w : World) (who : ℕ) (request : Request) (answer : Answer) (refill : Option ℕ) → who < length w.held → OccupiesHeld w → OccupiesHeld (after_request facts w who request answer refill)
did_has facts w who (Enter region) answer refill low has_it = enter_has w who region (occupant w region) low has_it
did_has facts w who (Leave region) answer refill low has_it = left_has w who region (occupant w region) low has_it
did_has facts w who (Start process scalars) answer refill low has_it = start_has w process scalars answer has_it
did_has facts w who (End how) answer refill low has_it = ended_has w who how has_it
did_has facts w who request answer refill low has_it = let same = quiet_keeps facts w who request answer refill tt in same_has w (after_request facts w who request answer refill) same.0 same.1 has_it

-- who made an event
abbrev pub actor : Event → ℕ
actor (Did who ticks request answer refill) = who
actor (Waits who ticks request) = who
actor (Goes who answer) = who
actor (Runs who ticks) = who

pub step_has : (facts : Facts) (w : World) (event : Event) → actor event < length w.held → OccupiesHeld w → OccupiesHeld (after facts w event)
step_has facts w (Did who ticks request answer refill) low has_it = did_has facts w who request answer refill low has_it
step_has facts w (Waits who ticks request) low has_it = waits_has w who request low has_it
step_has facts w (Goes who answer) low has_it = same_has (locked_back w who (back_in (phase_of w who))) _ refl refl (back_has w who (back_in (phase_of w who)) low has_it)
step_has facts w (Runs who ticks) low has_it = has_it

-- a list of regions for each phase
abbrev pub HasLists : World → Type 0
HasLists w = length w.held ≡ length w.phases

entered_lists : (w : World) (who at : ℕ) (o : Option ℕ) → HasLists w → HasLists (entered w who at o)
entered_lists w who at None is = length-set w.held who _ ∙ is
entered_lists w who at (Some other) is = is

left_if_lists : (w : World) (who at : ℕ) (mine : Bool) → HasLists w → HasLists (if mine then freed w who at else w)
left_if_lists w who at true is = length-set w.held who _ ∙ is
left_if_lists w who at false is = is

left_lists : (w : World) (who at : ℕ) (o : Option ℕ) → HasLists w → HasLists (left w who at o)
left_lists w who at None is = is
left_lists w who at (Some other) is = left_if_lists w who at (other == who) is

start_lists : (w : World) (process : ℕ) (scalars : List ℤ) (answer : Answer) → HasLists w → HasLists (after_start w process scalars answer)
start_lists w process scalars (Instance i) is = length_push w.held [] ∙ (ap (λ (n : ℕ). n + 1) is ∙ sym (length_push w.phases Active))
start_lists w process scalars answer is = is

-- where no instance is made and who holds what stays
quiet_lists : (old new : World) → Keeps old new → new.held ≡ old.held → HasLists old → HasLists new
quiet_lists old new keeps held is = ap length held ∙ (is ∙ sym keeps.phases)

did_lists : (facts : Facts) (w : World) (who : ℕ) (request : Request) (answer : Answer) (refill : Option ℕ) → HasLists w → HasLists (after_request facts w who request answer refill)
did_lists facts w who (Enter region) answer refill is = entered_lists w who region (occupant w region) is
did_lists facts w who (Leave region) answer refill is = left_lists w who region (occupant w region) is
did_lists facts w who (Start process scalars) answer refill is = start_lists w process scalars answer is
did_lists facts w who (End how) answer refill is = length-set w.held who [] ∙ (is ∙ sym (length-set w.phases who (Ended how)))
did_lists facts w who (Continue event) answer refill is = quiet_lists w _ (continue_keeps w who event answer) (quiet_keeps facts w who (Continue event) answer refill tt).1 is
did_lists facts w who (SendBuffer buffer scalars priority) answer refill is = quiet_lists w _ (send_keeps w who buffer scalars priority answer) (quiet_keeps facts w who (SendBuffer buffer scalars priority) answer refill tt).1 is
did_lists facts w who (ReceiveBuffer buffers otherwise) answer refill is = quiet_lists w _ (receive_keeps facts w answer refill) (quiet_keeps facts w who (ReceiveBuffer buffers otherwise) answer refill tt).1 is
did_lists facts w who (SendSignal signal scalars to priority) answer refill is = quiet_lists w _ (signal_keeps facts w who signal scalars to priority answer) (quiet_keeps facts w who (SendSignal signal scalars to priority) answer refill tt).1 is
did_lists facts w who (ReceiveSignal signals otherwise) answer refill is = quiet_lists w _ (hear_keeps w answer) (quiet_keeps facts w who (ReceiveSignal signals otherwise) answer refill tt).1 is
did_lists facts w who request answer refill is = is

back_lists : (w : World) (who : ℕ) (back : Option ℕ) → HasLists w → HasLists (with_phase (locked_back w who back) who Active)
back_lists w who None is = is ∙ sym (length-set w.phases who Active)
back_lists w who (Some at) is = length-set w.held who _ ∙ (is ∙ sym (length-set w.phases who Active))

freeing_lists : (w : World) (who : ℕ) (draws back : Option ℕ) (phase : Phase) → HasLists w → HasLists (with_phase (freed_last (with_drawn w draws) who back) who phase)
freeing_lists w who None None phase is = is ∙ sym (length-set w.phases who phase)
freeing_lists w who None (Some at) phase is = length-set w.held who _ ∙ (is ∙ sym (length-set w.phases who phase))
freeing_lists w who (Some send) None phase is = is ∙ sym (length-set w.phases who phase)
freeing_lists w who (Some send) (Some at) phase is = length-set w.held who _ ∙ (is ∙ sym (length-set w.phases who phase))

waits_lists : (w : World) (who : ℕ) (request : Request) → HasLists w → HasLists (after_waits w who request)
waits_lists w who (Enter region) is = is ∙ sym (length-set w.phases who (Chosen Done (Some region)))
waits_lists w who request is = freeing_lists w who (drawn w request) (last_of (held_by w who)) _ is

pub step_lists : (facts : Facts) (w : World) (event : Event) → HasLists w → HasLists (after facts w event)
step_lists facts w (Did who ticks request answer refill) is = did_lists facts w who request answer refill is
step_lists facts w (Waits who ticks request) is = waits_lists w who request is
step_lists facts w (Goes who answer) is = back_lists w who (back_in (phase_of w who)) is
step_lists facts w (Runs who ticks) is = is

-- who makes an event that may come was made
pub actor_made : (facts : Facts) (w : World) (event : Event) → HasLists w → IsPossible facts w event → actor event < length w.held
actor_made facts w (Did who ticks request answer refill) is may = let low = slice_get_within w.phases who Active may.0.active in omega (arith, low, is)
actor_made facts w (Waits who ticks request) is may = let low = slice_get_within w.phases who Active may.0.active in omega (arith, low, is)
actor_made facts w (Goes who answer) is may = let low = slice_get_within w.phases who _ may.chosen in omega (arith, low, is)
actor_made facts w (Runs who ticks) is may = let low = slice_get_within w.phases who Active may.0 in omega (arith, low, is)
