-- The powerset that the parts of a tuple hold.
use Rattle.std.proofs.Common.{◌≡◌, ℕ, suc, ◌≤◌, Bool, List, [], ◌∷◌, ◌++◌, Option, Some, None, ℤ, refl, ap, sym, subst, ◌∙◌, append_assoc}
use Rattle.std.specs.Prelude.{option_map}
use Rattle.std.proofs.lemmas.List.{append-nil}
use Rattle.chill_tree.specs.ExprTree.{ExprTree, RangeTree, RangeNodes, alone, between, no_ranges, more_ranges}
use Rattle.modes.specs.declared.mode.Bounds.{Bounds}
use Rattle.modes.specs.ModeTree.{ModeTree}
use Rattle.modes.specs.Form.{FormTree}
use Rattle.modes.specs.Bounds.{bounds_of, count_between}
use Rattle.checks_model.specs.ValueTrees.{ValueTree, number, scalars_in}
use Rattle.checks_model.specs.Ground.{Ground}
use Rattle.checks_model.specs.Classes.{mode_of_part}
use Rattle.checks_model.specs.Constants.{constant_as, both_ends, behind, value_of_range, values_of_ranges}
use Rattle.member_laws.specs.Bits.{UnionLaw}
use Rattle.constant_rules.specs.declared.parts.Part.{Part}
use Rattle.constant_rules.specs.declared.parts.Span.{Span}
use Rattle.constant_rules.specs.Parts.{first_number, widened, last_or, span_widened, all_widened}
use Rattle.constant_rules.specs.Tuples.{IsLast, IsSpan, AreSpans, IsWithin}
use Rattle.constant_rules.proofs.MemberSpans.{flat_of, bounded_more}
use Rattle.constant_rules.proofs.PartValues.{member_within}

-- a part has its value, which is one of its mode
pub record IsHeld (g : Ground) (m : Option ModeTree) (x : ExprTree) (part : Part) : Type 0 where
  pub value : part.known.value ≡ option_map scalars_in (constant_as g m x)
  pub within : IsWithin m (constant_as g m x)

abbrev Ranges : Type 0
Ranges = List (ValueTree × ValueTree)

abbrev flat_in : Bounds → Ranges → List ℤ
flat_in b rs = flat_of rs (count_between b.low b.high) b.low

-- ---- one range

one_number : (w : ValueTree) (n : ℤ) → w ≡ number n → first_number (Some (scalars_in w)) ≡ Some n
one_number w n e = ap (λ (w : ValueTree). first_number (Some (scalars_in w))) e

no_end : (b : Bounds) (n : Option ℤ) (flat : List ℤ) → widened (Some b) n None (Some flat) ≡ None
no_end b None flat = refl
no_end b (Some n) flat = refl

span_values : (law : UnionLaw) (m : ModeTree) (b : Bounds) → bounds_of m ≡ Some b → count_between b.low b.high ≤ 4294967296 → (rs : Ranges) (l h : Option ValueTree) → IsWithin (Some m) l → IsWithin (Some m) h
    → widened (Some b) (first_number (option_map scalars_in l)) (first_number (option_map scalars_in h)) (Some (flat_in b rs)) ≡ option_map (λ r. flat_in b (rs ++ r ∷ [])) (both_ends l h)
span_values law m b e few rs None h one other = refl
span_values law m b e few rs (Some v) None one other = no_end b (first_number (Some (scalars_in v))) (flat_in b rs)
span_values law m b e few rs (Some v) (Some w) one other =
    let first = member_within m v b e one in
    let last = member_within m w b e other in
    (λ i. widened (Some b) (one_number v first.one.n first.one.is i) (one_number w last.one.n last.one.is i) (Some (flat_in b rs)))
    ∙ ap Some (bounded_more law rs first.one.n last.one.n b first.within last.within few)
    ∙ (λ i. Some (flat_in b (rs ++ (sym first.one.is i, sym last.one.is i) ∷ [])))

within_so : (m : ModeTree) (o : Option ModeTree) (v : Option ValueTree) → o ≡ Some m → IsWithin o v → IsWithin (Some m) v
within_so m o v e h = subst (λ (o : Option ModeTree). IsWithin o v) e h

last_values : (law : UnionLaw) (g : Ground) (m : ModeTree) (o : Option ModeTree) (b : Bounds) → o ≡ Some m → bounds_of m ≡ Some b → count_between b.low b.high ≤ 4294967296 → (rs : Ranges) (l h : ExprTree) (first : Part) (last : Option Part)
    → IsHeld g o l first → IsLast (IsHeld g) o h last
    → widened (Some b) (first_number first.known.value) (first_number (last_or first last).known.value) (Some (flat_in b rs)) ≡ option_map (λ r. flat_in b (rs ++ r ∷ [])) (both_ends (constant_as g o l) (constant_as g o h))
last_values law g m o b e bounds few rs l h first None one other = absurd other
last_values law g m o b e bounds few rs l h first (Some part) one other =
    (λ i. widened (Some b) (first_number (one.value i)) (first_number (other.value i)) (Some (flat_in b rs)))
    ∙ span_values law m b bounds few rs (constant_as g o l) (constant_as g o h) (within_so m o (constant_as g o l) e one.within) (within_so m o (constant_as g o h) e other.within)

range_values : (law : UnionLaw) (g : Ground) (m : ModeTree) (o : Option ModeTree) (b : Bounds) → o ≡ Some m → bounds_of m ≡ Some b → count_between b.low b.high ≤ 4294967296 → (rs : Ranges) (r : RangeTree) (s : Span) → IsSpan (IsHeld g) o r s
    → span_widened (Some b) s (Some (flat_in b rs)) ≡ option_map (λ r. flat_in b (rs ++ r ∷ [])) (value_of_range g o r)
range_values law g m o b e bounds few rs (alone x) s h =
    ap (λ (last : Option Part). widened (Some b) (first_number s.first.known.value) (first_number (last_or s.first last).known.value) (Some (flat_in b rs))) h.1
    ∙ (λ i. widened (Some b) (first_number (h.0.value i)) (first_number (h.0.value i)) (Some (flat_in b rs)))
    ∙ span_values law m b bounds few rs (constant_as g o x) (constant_as g o x) (within_so m o (constant_as g o x) e h.0.within) (within_so m o (constant_as g o x) e h.0.within)
range_values law g m o b e bounds few rs (between l u) s h = last_values law g m o b e bounds few rs l u s.first s.last h.0 h.1

-- ---- all ranges

pub no_flat : (b : Option Bounds) (ss : List Span) → all_widened b ss None ≡ None
no_flat b [] = refl
no_flat b (s ∷ ss) = ap (all_widened b ss) (none_widened b (first_number s.first.known.value) (first_number (last_or s.first s.last).known.value)) ∙ no_flat b ss
  where
    none_widened : (b : Option Bounds) (l h : Option ℤ) → widened b l h None ≡ None
    none_widened None l h = refl
    none_widened (Some b) None h = refl
    none_widened (Some b) (Some l) None = refl
    none_widened (Some b) (Some l) (Some h) = refl

-- of the ranges behind one, which has a value or none
rest_values : (b : Bounds) (ss : List Span) (rs : Ranges) (o : Option (ValueTree × ValueTree)) (more : Option Ranges) → ((r : ValueTree × ValueTree) → all_widened (Some b) ss (Some (flat_in b (rs ++ r ∷ []))) ≡ option_map (λ vs. flat_in b ((rs ++ r ∷ []) ++ vs)) more)
    → all_widened (Some b) ss (option_map (λ r. flat_in b (rs ++ r ∷ [])) o) ≡ option_map (λ vs. flat_in b (rs ++ vs)) (behind o more)
rest_values b ss rs None more h = no_flat (Some b) ss
rest_values b ss rs (Some r) None h = h r
rest_values b ss rs (Some r) (Some vs) h = h r ∙ ap (λ (all : Ranges). Some (flat_in b all)) (append_assoc rs (r ∷ []) vs)

pub all_values : (law : UnionLaw) (g : Ground) (fits : FormTree → Bool) (n m : ModeTree) (b : Bounds) → ((k : ℕ) → mode_of_part fits k (Some n) ≡ Some m) → bounds_of m ≡ Some b → count_between b.low b.high ≤ 4294967296
    → (k : ℕ) (rs : RangeNodes) (ss : List Span) (before : Ranges) → AreSpans (IsHeld g) fits k (Some n) rs ss
    → all_widened (Some b) ss (Some (flat_in b before)) ≡ option_map (λ vs. flat_in b (before ++ vs)) (values_of_ranges g fits k (Some n) rs)
all_values law g fits n m b modes bounds few k no_ranges [] before h = ap (λ (all : Ranges). Some (flat_in b all)) (sym (append-nil before))
all_values law g fits n m b modes bounds few k no_ranges (s ∷ ss) before h = absurd h
all_values law g fits n m b modes bounds few k (more_ranges r rs) [] before h = absurd h
all_values law g fits n m b modes bounds few k (more_ranges r rs) (s ∷ ss) before h =
    ap (all_widened (Some b) ss) (range_values law g m (mode_of_part fits k (Some n)) b (modes k) bounds few before r s h.0)
    ∙ rest_values b ss before (value_of_range g (mode_of_part fits k (Some n)) r) (values_of_ranges g fits (suc k) (Some n) rs) (λ x. all_values law g fits n m b modes bounds few (suc k) rs ss (before ++ x ∷ []) h.1)
