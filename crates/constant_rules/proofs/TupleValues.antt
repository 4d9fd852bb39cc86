-- The scalars of a tuple that fits its mode are those of its value, which is one of the mode.
use Rattle.std.proofs.Common.{◌≡◌, ℕ, zero, suc, ◌≤◌, Bool, true, List, [], ◌∷◌, ◌++◌, map, replicate, length, Option, Some, None, ℤ, refl, ap, sym, subst, ◌∙◌, arith}
use Rattle.std.specs.Prelude.{◌==◌, nat_le, IsTrue, option_map, if◌then◌else◌}
use Rattle.std.proofs.lemmas.Bool.{false≢true}
use Rattle.std.proofs.lemmas.Bool.Decides.{nat_tests}
use Rattle.chill_tree.specs.ExprTree.{ExprTree, RangeTree, RangeNodes, alone, between, no_ranges, more_ranges}
use Rattle.modes.specs.declared.mode.Bounds.{Bounds}
use Rattle.modes.specs.ModeTree.{ModeTree}
use Rattle.modes.specs.Form.{FormTree, form_of, of_int, of_boolean, of_char, of_instance, of_set, of_powerset, of_chars, of_array, of_structure, of_meeting}
use Rattle.modes.specs.Bounds.{bounds_of, count_between, count_within, values_of}
use Rattle.modes.proofs.SimilarLemmas.{both}
use Rattle.checks_model.specs.ValueTrees.{ValueTree, parts, value_nodes, scalars_in, scalars_in_each}
use Rattle.checks_model.specs.Ground.{Ground}
use Rattle.checks_model.specs.Classes.{mode_of_part, are_alone, count_ranges, count_fields, has_parts, shape_fits, part_mode}
use Rattle.checks_model.specs.Constants.{constant_as, members_from, set_of_ranges, value_of_parts, tuple_value, uniform_of, uniform_value, values_of_ranges}
use Rattle.member_laws.specs.Bits.{UnionLaw}
use Rattle.constant_values.specs.Fits.{count_values, few_members, takes_members, takes_parts, part_of_form, part_of_mode, fits, fit_each}
use Rattle.constant_rules.specs.declared.parts.Part.{Part}
use Rattle.constant_rules.specs.declared.parts.Span.{Span}
use Rattle.constant_rules.specs.Parts.{times, none_of, firsts, all_widened, flat_of_spans, few_in}
use Rattle.constant_rules.specs.Tuples.{IsLast, IsSpan, AreSpans, IsWithin}
use Rattle.constant_rules.proofs.MemberSpans.{flat_of, flat_none, count_members}
use Rattle.constant_rules.proofs.PartValues.{IsValued, firsts_told, outside_members, outside_parts, same_count, counts_as, both_hold, RangeWithin, AreWithin, parts_fit}
use Rattle.constant_rules.proofs.Members.{IsHeld, no_flat, all_values}

abbrev Ranges : Type 0
Ranges = List (ValueTree × ValueTree)

-- ---- what is said of parts, less of it

held_last : (g : Ground) (m : Option ModeTree) (x : ExprTree) (o : Option Part) → IsLast (IsHeld g) m x o → IsLast (IsValued g) m x o
held_last g m x None h = absurd h
held_last g m x (Some part) h = h.value

held_span : (g : Ground) (m : Option ModeTree) (r : RangeTree) (s : Span) → IsSpan (IsHeld g) m r s → IsSpan (IsValued g) m r s
held_span g m (alone e) s h = (h.0.value, h.1)
held_span g m (between l u) s h = (h.0.value, held_last g m u s.last h.1)

held_valued : (g : Ground) (fits : FormTree → Bool) (k : ℕ) (m : Option ModeTree) (rs : RangeNodes) (ss : List Span) → AreSpans (IsHeld g) fits k m rs ss → AreSpans (IsValued g) fits k m rs ss
held_valued g fits k m no_ranges [] h = tt
held_valued g fits k m no_ranges (s ∷ ss) h = absurd h
held_valued g fits k m (more_ranges r rs) [] h = absurd h
held_valued g fits k m (more_ranges r rs) (s ∷ ss) h = (held_span g (mode_of_part fits k m) r s h.0, held_valued g fits (suc k) m rs ss h.1)

within_last : (g : Ground) (m : Option ModeTree) (x : ExprTree) (o : Option Part) → IsLast (IsHeld g) m x o → IsWithin m (constant_as g m x)
within_last g m x None h = absurd h
within_last g m x (Some part) h = h.within

within_span : (g : Ground) (m : Option ModeTree) (r : RangeTree) (s : Span) → IsSpan (IsHeld g) m r s → RangeWithin g m r
within_span g m (alone e) s h = h.0.within
within_span g m (between l u) s h = (h.0.within, within_last g m u s.last h.1)

held_within : (g : Ground) (fits : FormTree → Bool) (k : ℕ) (m : Option ModeTree) (rs : RangeNodes) (ss : List Span) → AreSpans (IsHeld g) fits k m rs ss → AreWithin g fits k m rs
held_within g fits k m no_ranges [] h = tt
held_within g fits k m no_ranges (s ∷ ss) h = absurd h
held_within g fits k m (more_ranges r rs) [] h = absurd h
held_within g fits k m (more_ranges r rs) (s ∷ ss) h = (within_span g (mode_of_part fits k m) r s h.0, held_within g fits (suc k) m rs ss h.1)

-- ---- by the form of the mode

-- the value of a tuple of a form
abbrev made : RangeNodes → FormTree → Option Ranges → Option ValueTree
made rs f None = None
made rs f (Some ranges) = if shape_fits rs f then value_of_parts f ranges else None

tuple_made : (rs : RangeNodes) (m : ModeTree) (vs : Option Ranges) → tuple_value (shape_fits rs) (Some m) vs ≡ made rs (form_of m) vs
tuple_made rs m None = refl
tuple_made rs m (Some vs) = refl

pub if_true : {A : Type 0} (b : Bool) (x y : A) → b ≡ true → (if b then x else y) ≡ x
if_true b x y e = ap (λ (b : Bool). if b then x else y) e

-- the mode of a part, where the tuple has the form of its mode
pub mode_here : (rs : RangeNodes) (m : ModeTree) (f : FormTree) → form_of m ≡ f → shape_fits rs f ≡ true → (k : ℕ) → mode_of_part (shape_fits rs) k (Some m) ≡ part_mode k f
mode_here rs m f e fit k = ap (λ (f : FormTree). if shape_fits rs f then part_mode k f else None) e ∙ if_true (shape_fits rs f) (part_mode k f) None fit

le_of : (a b : ℕ) → nat_le a b ≡ true → a ≤ b
le_of a b h = grind (arith, nat_tests)

-- ---- powersets

set_flat : (law : UnionLaw) (g : Ground) (m p : ModeTree) (rs : RangeNodes) (ss : List Span) (o : Option Bounds) → form_of m ≡ of_powerset p → bounds_of p ≡ o → few_members (count_within o) ≡ true → AreSpans (IsHeld g) (shape_fits rs) 0 (Some m) rs ss
    → all_widened o ss (none_of o) ≡ option_map scalars_in (made rs (of_powerset p) (values_of_ranges g (shape_fits rs) 0 (Some m) rs))
set_flat law g m p rs ss None e bounds few h = no_flat None ss ∙ none_made (values_of_ranges g (shape_fits rs) 0 (Some m) rs)
  where
    none_made : (vs : Option Ranges) → None ≡ option_map scalars_in (made rs (of_powerset p) vs)
    none_made None = refl
    none_made (Some vs) = ap (λ (b : Option Bounds). option_map scalars_in (set_of_ranges vs (values_of p) b)) (sym bounds)
set_flat law g m p rs ss (Some b) e bounds few h =
    ap (λ (flat : List ℤ). all_widened (Some b) ss (Some flat)) (flat_none (count_between b.low b.high) b.low)
    ∙ all_values law g (shape_fits rs) m p b (mode_here rs m (of_powerset p) e refl) bounds (le_of (count_between b.low b.high) 4294967296 few) 0 rs ss [] h
    ∙ some_made (values_of_ranges g (shape_fits rs) 0 (Some m) rs)
  where
    some_made : (vs : Option Ranges) → option_map (λ vs. flat_of ([] ++ vs) (count_between b.low b.high) b.low) vs ≡ option_map scalars_in (made rs (of_powerset p) vs)
    some_made None = refl
    some_made (Some vs) = (λ i. option_map scalars_in (set_of_ranges vs (count_within (sym bounds i)) (sym bounds i)))

set_fits : (m p : ModeTree) (rs : RangeNodes) (vs : Option Ranges) → form_of m ≡ of_powerset p → few_members (values_of p) ≡ true → IsWithin (Some m) (made rs (of_powerset p) vs)
set_fits m p rs None e few = record { fits = refl; inside = refl }
set_fits m p rs (Some vs) e few = by_bounds (bounds_of p) refl
  where
    of_count : (n c : ℕ) → n ≡ c → c ≡ values_of p → IsTrue (takes_members n (form_of m))
    of_count n c long same = ap (takes_members n) e ∙ both_hold (n == values_of p) (few_members n) (counts_as n (values_of p) (long ∙ same)) (ap few_members (long ∙ same) ∙ few)

    by_bounds : (o : Option Bounds) → bounds_of p ≡ o → IsWithin (Some m) (set_of_ranges vs (values_of p) (bounds_of p))
    by_bounds None bounds = subst (λ (o : Option Bounds). IsWithin (Some m) (set_of_ranges vs (values_of p) o)) (sym bounds) (record { fits = refl; inside = refl })
    by_bounds (Some b) bounds = subst (λ (o : Option Bounds). IsWithin (Some m) (set_of_ranges vs (values_of p) o)) (sym bounds) (record {
      fits = of_count (length (members_from vs (values_of p) b.low)) (values_of p) (count_members vs (values_of p) b.low) refl;
      inside = outside_members (bounds_of m) (members_from vs (values_of p) b.low);
    })

-- ---- arrays and structures

-- the value of a tuple of parts
abbrev in_order : Option Ranges → Option ValueTree
in_order vs = option_map (λ vs. parts (value_nodes (map (λ r. r.0) vs))) vs

order_flat : (vs : Option Ranges) → option_map (λ rs. scalars_in_each (value_nodes (map (λ r. r.0) rs))) vs ≡ option_map scalars_in (in_order vs)
order_flat None = refl
order_flat (Some vs) = refl

order_made : (rs : RangeNodes) (f : FormTree) (vs : Option Ranges) → shape_fits rs f ≡ true → ((vs : Ranges) → value_of_parts f vs ≡ Some (parts (value_nodes (map (λ r. r.0) vs)))) → in_order vs ≡ made rs f vs
order_made rs f None fit same = refl
order_made rs f (Some vs) fit same = sym (same vs) ∙ sym (if_true (shape_fits rs f) (value_of_parts f vs) None fit)

order_fits : (g : Ground) (m : ModeTree) (rs : RangeNodes) (count : ℕ) → ((n : ℕ) → n ≡ count → IsTrue (takes_parts n (form_of m))) → ((j : ℕ) → part_of_mode j (Some m) ≡ mode_of_part (shape_fits rs) j (Some m)) → has_parts count rs ≡ true
    → AreWithin g (shape_fits rs) 0 (Some m) rs → (vs : Option Ranges) → values_of_ranges g (shape_fits rs) 0 (Some m) rs ≡ vs → IsWithin (Some m) (in_order vs)
order_fits g m rs count takes same has h None e = record { fits = refl; inside = refl }
order_fits g m rs count takes same has h (Some vs) e =
    let own = both (are_alone rs) (count_ranges rs == count) has in
    let t = parts_fit g (shape_fits rs) m 0 rs vs same own.0 h e in
    let nodes = value_nodes (map (λ r. r.0) vs) in
    record {
      fits = both_hold (takes_parts (count_values nodes) (form_of m)) (fit_each (Some m) 0 nodes) (takes (count_values nodes) (t.0 ∙ same_count (count_ranges rs) count own.1)) t.1;
      inside = outside_parts (bounds_of m) nodes;
    }

-- ---- tuples

record IsMade (g : Ground) (m : ModeTree) (rs : RangeNodes) (ss : List Span) (f : FormTree) : Type 0 where
  flat : flat_of_spans f ss ≡ option_map scalars_in (made rs f (values_of_ranges g (shape_fits rs) 0 (Some m) rs))
  within : IsWithin (Some m) (made rs f (values_of_ranges g (shape_fits rs) 0 (Some m) rs))

parts_made : (g : Ground) (m : ModeTree) (rs : RangeNodes) (ss : List Span) (f : FormTree) (count : ℕ) → form_of m ≡ f → shape_fits rs f ≡ true → has_parts count rs ≡ true → AreSpans (IsHeld g) (shape_fits rs) 0 (Some m) rs ss
    → firsts ss ≡ flat_of_spans f ss → ((vs : Ranges) → value_of_parts f vs ≡ Some (parts (value_nodes (map (λ r. r.0) vs)))) → ((n : ℕ) → n ≡ count → IsTrue (takes_parts n f)) → ((j : ℕ) → part_of_form j f ≡ part_mode j f)
    → IsMade g m rs ss f
parts_made g m rs ss f count e fit has h flat same takes own_parts =
    let vs = values_of_ranges g (shape_fits rs) 0 (Some m) rs in
    let own = both (are_alone rs) (count_ranges rs == count) has in
    let modes : (j : ℕ) → part_of_mode j (Some m) ≡ mode_of_part (shape_fits rs) j (Some m) = λ j. ap (part_of_form j) e ∙ own_parts j ∙ sym (mode_here rs m f e fit j) in
    let made_so = order_made rs f vs fit same in
    record {
      flat = sym flat ∙ firsts_told g (shape_fits rs) 0 (Some m) rs ss own.0 (held_valued g (shape_fits rs) 0 (Some m) rs ss h) ∙ order_flat vs ∙ ap (λ (v : Option ValueTree). option_map scalars_in v) made_so;
      within = subst (λ (v : Option ValueTree). IsWithin (Some m) v) made_so (order_fits g m rs count (λ n is. ap (takes_parts n) e ∙ takes n is) modes has (held_within g (shape_fits rs) 0 (Some m) rs ss h) vs refl);
    }

by_form : (law : UnionLaw) (g : Ground) (m : ModeTree) (rs : RangeNodes) (ss : List Span) (f : FormTree) → form_of m ≡ f → shape_fits rs f ≡ true → few_in f ≡ true → AreSpans (IsHeld g) (shape_fits rs) 0 (Some m) rs ss → IsMade g m rs ss f
by_form law g m rs ss (of_powerset p) e fit few h = record {
  flat = set_flat law g m p rs ss (bounds_of p) e refl few h;
  within = set_fits m p rs (values_of_ranges g (shape_fits rs) 0 (Some m) rs) e few;
}
by_form law g m rs ss (of_array i x how) e fit few h = parts_made g m rs ss (of_array i x how) (values_of i) e fit fit h refl (λ vs. refl) (λ n is. counts_as n (values_of i) is) (λ j. refl)
by_form law g m rs ss (of_structure fs p) e fit few h = parts_made g m rs ss (of_structure fs p) (count_fields fs) e fit fit h refl (λ vs. refl) (λ n is. counts_as n (count_fields fs) is) (λ j. refl)
by_form law g m rs ss of_int e fit few h = absurd (false≢true fit)
by_form law g m rs ss of_boolean e fit few h = absurd (false≢true fit)
by_form law g m rs ss of_char e fit few h = absurd (false≢true fit)
by_form law g m rs ss of_instance e fit few h = absurd (false≢true fit)
by_form law g m rs ss (of_set d n) e fit few h = absurd (false≢true fit)
by_form law g m rs ss (of_chars n) e fit few h = absurd (false≢true fit)
by_form law g m rs ss of_meeting e fit few h = absurd (false≢true fit)

-- the scalars of a tuple that has the form of its mode, and whose parts all fit
pub record IsTupleValue (m : ModeTree) (flat : Option (List ℤ)) (v : Option ValueTree) : Type 0 where
  pub scalars : flat ≡ option_map scalars_in v
  pub within : IsWithin (Some m) v

pub spans_made : (law : UnionLaw) (g : Ground) (m : ModeTree) (rs : RangeNodes) (ss : List Span) → shape_fits rs (form_of m) ≡ true → few_in (form_of m) ≡ true → AreSpans (IsHeld g) (shape_fits rs) 0 (Some m) rs ss
    → IsTupleValue m (flat_of_spans (form_of m) ss) (tuple_value (shape_fits rs) (Some m) (values_of_ranges g (shape_fits rs) 0 (Some m) rs))
spans_made law g m rs ss fit few h =
    let own = by_form law g m rs ss (form_of m) refl fit few h in
    let same = sym (tuple_made rs m (values_of_ranges g (shape_fits rs) 0 (Some m) rs)) in
    record { scalars = own.flat ∙ ap (λ (v : Option ValueTree). option_map scalars_in v) same; within = subst (λ (v : Option ValueTree). IsWithin (Some m) v) same own.within }

-- ---- one value for each index

replicated_flat : (n : ℕ) (v : ValueTree) → times n (scalars_in v) ≡ scalars_in_each (value_nodes (replicate n v))
replicated_flat zero v = refl
replicated_flat (suc n) v = ap (λ (flat : List ℤ). scalars_in v ++ flat) (replicated_flat n v)

replicated_count : (n : ℕ) (v : ValueTree) → count_values (value_nodes (replicate n v)) ≡ n
replicated_count zero v = refl
replicated_count (suc n) v = ap suc (replicated_count n v)

replicated_fit : (m : Option ModeTree) (x : ModeTree) (n k : ℕ) (v : ValueTree) → ((j : ℕ) → part_of_mode j m ≡ Some x) → IsTrue (fits (Some x) v) → IsTrue (fit_each m k (value_nodes (replicate n v)))
replicated_fit m x zero k v same h = refl
replicated_fit m x (suc n) k v same h = both_hold (fits (part_of_mode k m) v) (fit_each m (suc k) (value_nodes (replicate n v))) (ap (λ (o : Option ModeTree). fits o v) (same k) ∙ h) (replicated_fit m x n (suc k) v same h)

pub uniform_made : (m i x : ModeTree) (f : FormTree) → form_of m ≡ f → (parts_of : (j : ℕ) → part_of_form j f ≡ Some x) → ((n : ℕ) → takes_parts n f ≡ (n == values_of i)) → ((v : ValueTree) → uniform_of f v ≡ Some (parts (value_nodes (replicate (values_of i) v))))
    → (o : Option ValueTree) → IsWithin (Some x) o → IsTupleValue m (option_map (times (values_of i)) (option_map scalars_in o)) (uniform_value (Some m) o)
uniform_made m i x f e parts_of takes same None h = record { scalars = refl; within = record { fits = refl; inside = refl } }
uniform_made m i x f e parts_of takes same (Some v) h =
    let made_so = ap (λ (f : FormTree). uniform_of f v) e ∙ same v in
    let nodes = value_nodes (replicate (values_of i) v) in
    record {
      scalars = ap Some (replicated_flat (values_of i) v) ∙ ap (λ (w : Option ValueTree). option_map scalars_in w) (sym made_so);
      within = subst (λ (w : Option ValueTree). IsWithin (Some m) w) (sym made_so) (record {
        fits = both_hold (takes_parts (count_values nodes) (form_of m)) (fit_each (Some m) 0 nodes)
            (ap (takes_parts (count_values nodes)) e ∙ takes (count_values nodes) ∙ counts_as (count_values nodes) (values_of i) (replicated_count (values_of i) v))
            (replicated_fit (Some m) x (values_of i) 0 v (λ j. ap (part_of_form j) e ∙ parts_of j) h.fits);
        inside = outside_parts (bounds_of m) nodes;
      });
    }
