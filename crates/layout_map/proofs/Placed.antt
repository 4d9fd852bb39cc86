-- Fields with places lie apart where no two share a bit.
use Rattle.std.proofs.Common.{◌≡◌, ℕ, zero, suc, ◌+◌, ◌*◌, ◌/◌, ◌<◌, ◌≤◌, inl, inr, min, max, Bool, true, false, not, ◌||◌, List, [], ◌∷◌, length, Option, Some, None, Ok, Err, refl, subst, arith}
use Rattle.std.specs.Prelude.{if◌then◌else◌}
use Rattle.std.specs.declared.result.Result.{Result}
use Rattle.std.proofs.lemmas.Bool.{cases_lt}
use Rattle.std.proofs.lemmas.Bool.Decides.{nat_tests}
use Rattle.modes.specs.ModeTree.{PlaceTree, FieldNodes, no_fields, more_fields}
use Rattle.layout_map.specs.declared.overlap.Shared.{Shared}
use Rattle.layout_map.specs.Scalar.{scalar_of, is_signed}
use Rattle.layout_map.specs.Place.{is_possible, shares}
use Rattle.layout_map.specs.Numbered.{next_number, and_then, first_impossible, fields_impossible}
use Rattle.layout_map.specs.Overlap.{share, ats_of, at_number, sharing_from, found, second_from, placed_overlap}
use Rattle.layout_map.specs.Apart.{ShareNoBit}
use Rattle.layout_map.specs.Spots.{spot_at, placed_spots, placed_end}
use Rattle.layout_map.proofs.SpotLemmas.{placed_grows}
use Rattle.layout_map.proofs.Runs.{Within, NoneWith, Apart, IsRun, within-wider}
use Rattle.layout_map.proofs.Steps.{IsPlace, place-from}

pub then-ok : {E : Type 0} (r : Result ℕ E) (f : ℕ → Result ℕ E) (k : ℕ) → and_then r f ≡ Ok k → (j : ℕ) × (r ≡ Ok j) × (f j ≡ Ok k)
then-ok (Ok j) f k e = (j, refl, e)
then-ok (Err x) f k e = absurd (cc)

pub unless-ok : {E : Type 0} (t : Bool) (x : E) (r : Result ℕ E) (j : ℕ) → (if t then Err x else r) ≡ Ok j → (t ≡ false) × (r ≡ Ok j)
unless-ok true x r j e = absurd (cc)
unless-ok false x r j e = (refl, e)

possible-from : (mixed q : Bool) → (mixed || not q) ≡ false → q ≡ true
possible-from true q e = cc
possible-from false true e = refl
possible-from false false e = cc

-- the places of fields are places
abbrev pub FieldsPlaced : FieldNodes → Type 0
FieldsPlaced no_fields = Unit {0}
FieldsPlaced (more_fields name m None fs) = FieldsPlaced fs
FieldsPlaced (more_fields name m (Some p) fs) = IsPlace p × FieldsPlaced fs

pub fields-placed : (fs : FieldNodes) (mixed : Bool) (n k : ℕ) → fields_impossible fs mixed n ≡ Ok k → FieldsPlaced fs
fields-placed no_fields mixed n k e = tt
fields-placed (more_fields name m None fs) mixed n k e =
    let s = then-ok (first_impossible m (next_number n)) (fields_impossible fs mixed) k e in fields-placed fs mixed s.0 k s.2
fields-placed (more_fields name m (Some p) fs) mixed n k e =
    let s = then-ok (if mixed || not (is_possible m p) then Err n else first_impossible m (next_number n)) (fields_impossible fs mixed) k e in
    let t = unless-ok (mixed || not (is_possible m p)) n (first_impossible m (next_number n)) s.0 s.1 in
    (place-from m p (possible-from mixed (is_possible m p) t.0), fields-placed fs mixed s.0 k s.2)

-- ---- no two share a bit

none-if : (t : Bool) (i : ℕ) (r : Option ℕ) → (if t then Some i else r) ≡ None → (t ≡ false) × (r ≡ None)
none-if true i r e = absurd (cc)
none-if false i r e = (refl, e)

sharing-none : (n i i' : ℕ) (at : Option PlaceTree) (ats : List (Option PlaceTree)) → sharing_from n i at ats ≡ None → i ≤ i' → i' < i + n → share (at_number ats i') at ≡ false
sharing-none zero i i' at ats e p q = absurd (omega arith)
sharing-none (suc n) i i' at ats e p q =
    let s = none-if (share (at_number ats i) at) i (sharing_from n (suc i) at ats) e in
    elim (cases_lt i i') [
      | inl r ↦ sharing-none n (suc i) i' at ats s.1 (omega arith) (omega arith)
      | inr r ↦ (let same : i ≡ i' = omega arith in let P : ℕ → Type 0 = λ x. share (at_number ats x) at ≡ false in subst P same s.0)
    ]

found-ok : (number j k : ℕ) (s : Option ℕ) (rest : Result ℕ Shared) → found number j s rest ≡ Ok k → (s ≡ None) × (rest ≡ Ok k)
found-ok number j k None rest e = (refl, e)
found-ok number j k (Some i) rest e = absurd (cc)

second-ok : (n j j' number k : ℕ) (ats : List (Option PlaceTree)) → second_from n j number ats ≡ Ok k → j ≤ j' → j' < j + n → sharing_from j' 0 (at_number ats j') ats ≡ None
second-ok zero j j' number k ats e p q = absurd (omega arith)
second-ok (suc n) j j' number k ats e p q =
    let s = found-ok number j k (sharing_from j 0 (at_number ats j) ats) (second_from n (suc j) number ats) e in
    elim (cases_lt j j') [
      | inl r ↦ second-ok n (suc j) j' number k ats s.1 (omega arith) (omega arith)
      | inr r ↦ (let same : j ≡ j' = omega arith in let P : ℕ → Type 0 = λ x. sharing_from x 0 (at_number ats x) ats ≡ None in subst P same s.0)
    ]

abbrev NoShare : Option PlaceTree → List (Option PlaceTree) → Type 0
NoShare a [] = Unit {0}
NoShare a (b ∷ bs) = (share a b ≡ false) × NoShare a bs

abbrev pub NoShares : List (Option PlaceTree) → Type 0
NoShares [] = Unit {0}
NoShares (a ∷ ats) = NoShare a ats × NoShares ats

no-share : (a : Option PlaceTree) (ats : List (Option PlaceTree)) → ((k : ℕ) → k < length ats → share a (at_number ats k) ≡ false) → NoShare a ats
no-share a [] h = tt
no-share a (b ∷ ats) h = (h zero (omega arith), no-share a ats (λ k p. h (suc k) (omega arith)))

no-shares : (ats : List (Option PlaceTree)) → ((i j : ℕ) → i < j → j < length ats → share (at_number ats i) (at_number ats j) ≡ false) → NoShares ats
no-shares [] h = tt
no-shares (a ∷ ats) h = (no-share a ats (λ k p. h zero (suc k) (omega arith) (omega arith)), no-shares ats (λ i j p q. h (suc i) (suc j) (omega arith) (omega arith)))

pub overlap-none : (ats : List (Option PlaceTree)) (n k : ℕ) → placed_overlap ats n ≡ Ok k → NoShares ats
overlap-none ats n k e =
    no-shares ats (λ i j p q. sharing-none j 0 i (at_number ats j) ats (second-ok (length ats) 0 j n k ats e (omega arith) (omega arith)) (omega arith) (omega arith))

shares-true : (p q : PlaceTree) → p.word ≡ q.word → max p.start q.start ≤ min p.end q.end → shares p q ≡ true
shares-true p q e h = grind (arith, nat_tests)

shares-apart : (p q : PlaceTree) (s t : Bool) (c : ℕ) → IsPlace p → IsPlace q → c / 32 + 4095 ≤ 4294967295 → shares p q ≡ false → ShareNoBit (spot_at p s c) (spot_at q t c)
shares-apart p q s t c x y room none word bit a b =
    let pw : p.word ≤ 4095 = x.word in
    let qw : q.word ≤ 4095 = y.word in
    let u : word ≡ min (c / 32 + p.word) 4294967295 = a.in_word in
    let v : word ≡ min (c / 32 + q.word) 4294967295 = b.in_word in
    let al : p.start ≤ bit = a.low in
    let ah : bit ≤ p.end = a.high in
    let bl : q.start ≤ bit = b.low in
    let bh : bit ≤ q.end = b.high in
    let yes : shares p q ≡ true = shares-true p q (omega arith) (omega arith) in cc

none-placed : (p : PlaceTree) (s : Bool) (fs : FieldNodes) (c : ℕ) → IsPlace p → FieldsPlaced fs → c / 32 + 4095 ≤ 4294967295 → NoShare (Some p) (ats_of fs) → NoneWith (spot_at p s c) (placed_spots fs c)
none-placed p s no_fields c x f room n = tt
none-placed p s (more_fields name m None fs) c x f room n = none-placed p s fs c x f room n.1
none-placed p s (more_fields name m (Some q) fs) c x f room n =
    (shares-apart p q s (is_signed (scalar_of m)) c x f.0 room n.0, none-placed p s fs c x f.1 room n.1)

placed-apart : (fs : FieldNodes) (c : ℕ) → FieldsPlaced fs → c / 32 + 4095 ≤ 4294967295 → NoShares (ats_of fs) → Apart (placed_spots fs c)
placed-apart no_fields c f room n = tt
placed-apart (more_fields name m None fs) c f room n = placed-apart fs c f room n.1
placed-apart (more_fields name m (Some p) fs) c f room n =
    (none-placed p (is_signed (scalar_of m)) fs c f.0 f.1 room n.0, placed-apart fs c f.1 room n.1)

placed-bounded : (fs : FieldNodes) (k : ℕ) → FieldsPlaced fs → placed_end fs (32 * k) ≤ 32 * k + 131072
placed-bounded no_fields k f = omega arith
placed-bounded (more_fields name m None fs) k f = let r : placed_end fs (32 * k) ≤ 32 * k + 131072 = placed-bounded fs k f in omega (arith, r)
placed-bounded (more_fields name m (Some p) fs) k f =
    let r : placed_end fs (32 * k) ≤ 32 * k + 131072 = placed-bounded fs k f.1 in let w : p.word ≤ 4095 = f.0.word in omega (arith, r, w)

placed-within : (fs : FieldNodes) (k : ℕ) → FieldsPlaced fs → 32 * k + 1000000 ≤ 137438953440 → Within (32 * k) (placed_end fs (32 * k)) (placed_spots fs (32 * k))
placed-within no_fields k f room = tt
placed-within (more_fields name m None fs) k f room =
    within-wider (32 * k) (placed_end fs (32 * k)) (32 * k) _ (placed_spots fs (32 * k)) (omega arith) (omega arith) (placed-within fs k f room)
placed-within (more_fields name m (Some p) fs) k f room =
    let w : p.word ≤ 4095 = f.0.word in
    let o : p.start ≤ p.end = f.0.ordered in
    let i : p.end ≤ 31 = f.0.within in
    let e : min (32 * k / 32 + p.word) 4294967295 ≡ k + p.word = omega arith in (
      record { word = record { ordered = o; within = i }; low = omega (arith, e); high = omega (arith, e) },
      within-wider (32 * k) (placed_end fs (32 * k)) (32 * k) _ (placed_spots fs (32 * k)) (omega arith) (omega arith) (placed-within fs k f.1 room),
    )

-- fields with places, from the first bit of a word on
pub run-placed : (fs : FieldNodes) (k : ℕ) → FieldsPlaced fs → NoShares (ats_of fs) → 32 * k + 1000000 ≤ 137438953440 → IsRun (32 * k) 1 (placed_spots fs (32 * k), placed_end fs (32 * k))
run-placed fs k f n room =
    let b : placed_end fs (32 * k) ≤ 32 * k + 131072 = placed-bounded fs k f in
    record {
      grows = placed_grows fs (32 * k);
      bounded = omega (arith, b);
      within = placed-within fs k f room;
      apart = placed-apart fs (32 * k) f (omega arith) n;
    }
