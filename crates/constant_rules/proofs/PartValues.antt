-- Values of parts that go to modes, and of tuples of such parts.
use Rattle.std.proofs.Common.{◌≡◌, ℕ, suc, ◌≤ℤ◌, Bool, true, false, List, [], ◌∷◌, map, Option, Some, None, ℤ, int_le, refl, ap, sym, subst, ◌∙◌, arith}
use Rattle.std.specs.Prelude.{◌&&◌, ◌==◌, not, IsTrue, is_some, option_map}
use Rattle.std.proofs.lemmas.Bool.Decides.{nat_tests}
use Rattle.std.proofs.lemmas.Int.{ints}
use Rattle.chill_tree.specs.ExprTree.{ExprTree, RangeTree, RangeNodes, alone, between, no_ranges, more_ranges}
use Rattle.modes.specs.declared.mode.Bounds.{Bounds}
use Rattle.modes.specs.ModeTree.{ModeTree, ClassTree, value}
use Rattle.modes.specs.Form.{FormTree}
use Rattle.modes.specs.Bounds.{bounds_of}
use Rattle.modes.specs.Similar.{shape_of}
use Rattle.modes.proofs.SimilarLemmas.{both}
use Rattle.checks_model.specs.TestLaws.{GoesWithTestLaw}
use Rattle.checks_model.specs.Alike.{goes_with}
use Rattle.checks_model.specs.ValueTrees.{ValueTree, ValueNodes, members, parts, value_nodes, scalars_in, scalars_in_each}
use Rattle.checks_model.specs.Told.{holds_of, holds_of_both}
use Rattle.checks_model.specs.Ground.{Ground}
use Rattle.checks_model.specs.Classes.{mode_of_part, are_alone, count_ranges}
use Rattle.checks_model.specs.Constants.{constant_as, both_ends, behind, values_of_ranges}
use Rattle.checks_model.specs.ConstantRules.{is_outside}
use Rattle.constant_values.specs.Fits.{count_values, part_of_mode, fits, fit_each, fit_together}
use Rattle.constant_values.proofs.ShapeValues.{goes_shape, class_fits_shape}
use Rattle.constant_values.proofs.OperandValues.{fits_as, discrete_shape, IsOneNumber, number_of}
use Rattle.constant_rules.specs.declared.parts.Span.{Span}
use Rattle.constant_rules.specs.Parts.{joined, firsts, class_goes_not, value_lies_outside}
use Rattle.constant_rules.specs.Tuples.{OfPart, AreSpans, IsWithin}
use Rattle.constant_rules.proofs.MemberSpans.{IsBetween}

-- ---- one part

pub goes_told : (c : Option ClassTree) (m : ModeTree) → holds_of (λ c. not (goes_with c m)) c ≡ class_goes_not c (Some m)
goes_told None m = refl
goes_told (Some x) m = refl

not_false : (b : Bool) → not b ≡ false → b ≡ true
not_false true e = refl
not_false false e = cc

pub outside_told : (c : Option ClassTree) (v : Option ValueTree) (m : ModeTree) → IsTrue (fit_together c v) → class_goes_not c (Some m) ≡ false → holds_of (is_outside (bounds_of m)) v ≡ value_lies_outside c v (Some m)
outside_told None None m fit goes = refl
outside_told None (Some w) m fit goes = absurd (cc)
outside_told (Some x) None m fit goes = (let own = not_false (goes_with x m) goes in ap (λ (b : Bool). b && false) (sym own))
outside_told (Some x) (Some w) m fit goes = (let own = not_false (goes_with x m) goes in ap (λ (b : Bool). b && is_outside (bounds_of m) w) (sym own))

pub not_outside : (c : Option ClassTree) (v : Option ValueTree) (m : ModeTree) → class_goes_not c (Some m) ≡ true → value_lies_outside c v (Some m) ≡ false
not_outside None v m goes = absurd (cc)
not_outside (Some x) v m goes = (let own : goes_with x m ≡ false = twice (goes_with x m) goes in ap (λ (b : Bool). b && holds_of_both (λ v m. is_outside (bounds_of m) v) v (Some m)) own)
  where
    twice : (b : Bool) → not b ≡ true → b ≡ false
    twice true e = cc
    twice false e = refl

pub received_within : (law : GoesWithTestLaw) (c : Option ClassTree) (v : Option ValueTree) (m : ModeTree) → IsTrue (fit_together c v) → class_goes_not c (Some m) ≡ false → value_lies_outside c v (Some m) ≡ false → IsWithin (Some m) v
received_within law c None m fit goes lies = record { fits = refl; inside = refl }
received_within law None (Some w) m fit goes lies = absurd (cc)
received_within law (Some x) (Some w) m fit goes lies =
    let own = not_false (goes_with x m) goes in
    record {
      fits = class_fits_shape (value m) w ∙ fits_as x (Some (shape_of m)) w (goes_shape x m ((law x m).0 own)) fit;
      inside = ap (λ (b : Bool). b && is_outside (bounds_of m) w) (sym own) ∙ lies;
    }

-- ---- the parts of arrays and structures

-- the scalars of a part are those of its value
abbrev pub IsValued : Ground → OfPart
IsValued g m x part = part.known.value ≡ option_map scalars_in (constant_as g m x)

abbrev flat_parts : List (ValueTree × ValueTree) → List ℤ
flat_parts rs = scalars_in_each (value_nodes (map (λ r. r.0) rs))

join_parts : (v : Option ValueTree) (vs : Option (List (ValueTree × ValueTree))) → joined (option_map scalars_in v) (option_map flat_parts vs) ≡ option_map flat_parts (behind (both_ends v v) vs)
join_parts None vs = refl
join_parts (Some v) None = refl
join_parts (Some v) (Some vs) = refl

pub firsts_told : (g : Ground) (fits : FormTree → Bool) (k : ℕ) (m : Option ModeTree) (rs : RangeNodes) (ss : List Span) → are_alone rs ≡ true → AreSpans (IsValued g) fits k m rs ss
    → firsts ss ≡ option_map (λ rs. scalars_in_each (value_nodes (map (λ r. r.0) rs))) (values_of_ranges g fits k m rs)
firsts_told g fits k m no_ranges [] only h = refl
firsts_told g fits k m no_ranges (s ∷ ss) only h = absurd h
firsts_told g fits k m (more_ranges r rs) [] only h = absurd h
firsts_told g fits k m (more_ranges (alone e) rs) (s ∷ ss) only h =
    (λ i. joined (h.0.0 i) (firsts_told g fits (suc k) m rs ss only h.1 i)) ∙ join_parts (constant_as g (mode_of_part fits k m) e) (values_of_ranges g fits (suc k) m rs)
firsts_told g fits k m (more_ranges (between l u) rs) (s ∷ ss) only h = absurd (cc)

-- ---- numbers between bounds

both_le : (low n high : ℤ) → not (int_le low n && int_le n high) ≡ false → (low ≤ℤ n) × (n ≤ℤ high)
both_le low n high e = let t = both (int_le low n) (int_le n high) (not_false (int_le low n && int_le n high) e) in (grind (arith, ints, t), grind (arith, ints, t))

number_between : (b : Bounds) (w : ValueTree) (one : IsOneNumber w) → is_outside (Some b) w ≡ false → IsBetween b one.n
number_between b w one e = let t = both_le b.low one.n b.high (ap (is_outside (Some b)) (sym one.is) ∙ e) in record { low = t.0; high = t.1 }

pub record IsMember (b : Bounds) (w : ValueTree) : Type 0 where
  pub one : IsOneNumber w
  pub within : IsBetween b one.n

-- a value in a discrete mode is a number between its bounds
pub member_within : (m : ModeTree) (w : ValueTree) (b : Bounds) → bounds_of m ≡ Some b → IsWithin (Some m) (Some w) → IsMember b w
member_within m w b e h =
    let one = number_of (shape_of m) w (discrete_shape m (ap is_some e)) (sym (class_fits_shape (value m) w) ∙ h.fits) in
    record { one = one; within = number_between b w one (ap (λ (o : Option Bounds). is_outside o w) (sym e) ∙ h.inside) }

-- ---- values of tuples fit their modes

pub same_count : (a b : ℕ) → IsTrue (a == b) → a ≡ b
same_count a b h = grind (arith, nat_tests)

pub counts_as : (a b : ℕ) → a ≡ b → IsTrue (a == b)
counts_as a b e = grind (arith, nat_tests)

pub both_hold : (a b : Bool) → IsTrue a → IsTrue b → IsTrue (a && b)
both_hold a b p q = ap (λ (x : Bool). x && b) p ∙ q

pub outside_members : (o : Option Bounds) (bs : List Bool) → is_outside o (members bs) ≡ false
outside_members None bs = refl
outside_members (Some b) bs = refl

pub outside_parts : (o : Option Bounds) (vs : ValueNodes) → is_outside o (parts vs) ≡ false
outside_parts None vs = refl
outside_parts (Some b) vs = refl

-- all values of parts are values of the parts' modes
abbrev pub OfWithin : Ground → Option ModeTree → ExprTree → Type 0
OfWithin g m x = IsWithin m (constant_as g m x)

abbrev pub RangeWithin : Ground → Option ModeTree → RangeTree → Type 0
RangeWithin g m (alone e) = OfWithin g m e
RangeWithin g m (between l h) = OfWithin g m l × OfWithin g m h

abbrev pub AreWithin : Ground → (FormTree → Bool) → ℕ → Option ModeTree → RangeNodes → Type 0
AreWithin g fits k m no_ranges = Unit {0}
AreWithin g fits k m (more_ranges r rs) = RangeWithin g (mode_of_part fits k m) r × AreWithin g fits (suc k) m rs

there : (o : Option ValueTree) (more : Option (List (ValueTree × ValueTree))) (all : List (ValueTree × ValueTree)) → behind (both_ends o o) more ≡ Some all
    → (v : ValueTree) × ((vs : List (ValueTree × ValueTree)) × ((o ≡ Some v) × (more ≡ Some vs) × (all ≡ (v, v) ∷ vs)))
there None more all e = absurd (cc)
there (Some v) None all e = absurd (cc)
there (Some v) (Some vs) all e = (v, (vs, (refl, refl, cc)))

pub parts_fit : (g : Ground) (fits' : FormTree → Bool) (m : ModeTree) (k : ℕ) (rs : RangeNodes) (all : List (ValueTree × ValueTree)) → ((j : ℕ) → part_of_mode j (Some m) ≡ mode_of_part fits' j (Some m)) → are_alone rs ≡ true
    → AreWithin g fits' k (Some m) rs → values_of_ranges g fits' k (Some m) rs ≡ Some all
    → (count_values (value_nodes (map (λ r. r.0) all)) ≡ count_ranges rs) × IsTrue (fit_each (Some m) k (value_nodes (map (λ r. r.0) all)))
parts_fit g fits' m k no_ranges [] same only h e = (refl, refl)
parts_fit g fits' m k no_ranges (x ∷ all) same only h e = absurd (cc)
parts_fit g fits' m k (more_ranges (between l u) rs) all same only h e = absurd (cc)
parts_fit g fits' m k (more_ranges (alone x) rs) all same only h e =
    let t = there (constant_as g (mode_of_part fits' k (Some m)) x) (values_of_ranges g fits' (suc k) (Some m) rs) all e in
    let v = t.0 in
    let vs = t.1.0 in
    let more = parts_fit g fits' m (suc k) rs vs same only h.1 t.1.1.1 in
    let own : IsTrue (fit_together (option_map value (mode_of_part fits' k (Some m))) (Some v)) = ap (λ (o : Option ValueTree). fit_together (option_map value (mode_of_part fits' k (Some m))) o) (sym t.1.1.0) ∙ h.0.fits in
    let here : IsTrue (fits (part_of_mode k (Some m)) v) = ap (λ (o : Option ModeTree). fits o v) (same k) ∙ of_mode (mode_of_part fits' k (Some m)) v own in
    subst (λ (all : List (ValueTree × ValueTree)). (count_values (value_nodes (map (λ r. r.0) all)) ≡ suc (count_ranges rs)) × IsTrue (fit_each (Some m) k (value_nodes (map (λ r. r.0) all))))
    (sym t.1.1.2) (ap suc more.0, both_hold (fits (part_of_mode k (Some m)) v) (fit_each (Some m) (suc k) (value_nodes (map (λ r. r.0) vs))) here more.1)
  where
    of_mode : (o : Option ModeTree) (v : ValueTree) → IsTrue (fit_together (option_map value o) (Some v)) → IsTrue (fits o v)
    of_mode None v h = absurd (cc)
    of_mode (Some m) v h = h
