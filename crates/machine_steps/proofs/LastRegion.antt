-- The region that was entered last.
use Rattle.std.proofs.Common.{◌≡◌, ℕ, suc, ◌+◌, ◌-◌, ◌≤◌, ◌==◌, ◌&&◌, List, [], ◌∷◌, ◌++◌, length, map, get_or, Option, Some, None, refl, ap, sym, ◌∙◌, arith, eq-eqb, ne_eqb}
use Rattle.std.specs.Prelude.{MatchOption, option_to_list}
use Rattle.std.proofs.lemmas.List.{map-append}
use Rattle.code_types.specs.Actions.{is_last_of}
use Rattle.code_types.specs.Answers.{without_last}
use Rattle.code_types.specs.State.{OpenRegion}
use Rattle.machine_steps.specs.declared.process.RegionEntry.{RegionEntry}
use Rattle.machine_steps.specs.Views.{region_of}

without_last_push : (rs : List OpenRegion) (r : OpenRegion) → without_last (rs ++ r ∷ []) ≡ rs
without_last_push [] r = refl
without_last_push (q ∷ []) r = refl
without_last_push (q ∷ p ∷ rs) r = ap (λ (ps : List OpenRegion). q ∷ ps) (without_last_push (p ∷ rs) r)

no_regions : (new old : List RegionEntry) → old ≡ new ++ [] → length new ≡ 0 → map region_of new ≡ without_last (map region_of old)
no_regions [] old e none = rw e refl
no_regions (x ∷ xs) old e none = absurd (omega arith)

-- the regions without the last one
pub popped : (o : Option RegionEntry) (new old : List RegionEntry) (after before : ℕ)
    → after ≡ length new
    → old ≡ new ++ option_to_list o
    → MatchOption o ((before ≡ 0) × (after ≡ 0)) (λ x. after + 1 ≡ before)
    → map region_of new ≡ without_last (map region_of old)
popped None new old after before count e h = no_regions new old e (sym count ∙ h.1)
popped (Some x) new old after before count e h = sym (ap (λ (rs : List RegionEntry). without_last (map region_of rs)) e ∙ ap without_last (map-append region_of new (x ∷ [])) ∙ without_last_push (map region_of new) (region_of x))

-- the last region is what is looked at
pub last_is : (regions : List RegionEntry) (region frame : ℕ) (d : RegionEntry)
    → 1 ≤ length regions
    → is_last_of region frame (map region_of regions) ≡ ((get_or regions (length regions - 1) d).region == region && (get_or regions (length regions - 1) d).frame == frame)
last_is [] region frame d h = absurd (omega arith)
last_is (r ∷ []) region frame d h = refl
last_is (r ∷ q ∷ rs) region frame d h =
    let e : length (r ∷ q ∷ rs) - 1 ≡ suc (length (q ∷ rs) - 1) = omega arith in
    rw e (last_is (q ∷ rs) region frame d (omega arith))

-- whether it is another region
pub last_is_another : (regions : List RegionEntry) (region frame : ℕ) (d : RegionEntry)
    → 1 ≤ length regions
    → ((get_or regions (length regions - 1) d).region ≡ region → ⊥)
    → ((get_or regions (length regions - 1) d).region == region) ≡ is_last_of region frame (map region_of regions)
last_is_another regions region frame d h other =
    let no = ne_eqb (get_or regions (length regions - 1) d).region region other in
    no ∙ sym (last_is regions region frame d h ∙ rw no refl)

-- whether this frame entered it
pub last_is_of : (regions : List RegionEntry) (region frame : ℕ) (d : RegionEntry)
    → 1 ≤ length regions
    → (get_or regions (length regions - 1) d).region ≡ region
    → ((get_or regions (length regions - 1) d).frame == frame) ≡ is_last_of region frame (map region_of regions)
last_is_of regions region frame d h same =
    let yes = eq-eqb (get_or regions (length regions - 1) d).region region same in
    sym (last_is regions region frame d h ∙ rw yes refl)
