-- Shapes and bounds of modes and classes, by their forms.
use Rattle.std.proofs.Common.{◌≡◌, ℕ, ◌&&◌, ◌||◌, Bool, true, false, List, Option, Some, None, ℤ, pos, ◌⊎◌, inl, inr, refl, sym, ap, ◌∙◌, subst, true≢false}
use Rattle.std.specs.Prelude.{IsSome, is_some, not, option_and_then, int_le}
use Rattle.modes.specs.declared.mode.Bounds.{Bounds}
use Rattle.modes.specs.ModeTree.{ModeTree, ClassTree, value, derived, null, nothing, int, boolean, char, instance, set_of, range, powerset, chars, array, structure, event, buffer, read, named}
use Rattle.modes.specs.Form.{FormTree, form_of, of_int, of_boolean, of_char, of_instance, of_set, of_powerset, of_chars, of_array, of_structure, of_meeting}
use Rattle.modes.specs.Bounds.{bounds_of, bounds_in}
use Rattle.modes.specs.Roots.{root_of, novelty_of, read_is}
use Rattle.modes.specs.Similar.{Shape, shape_of, shape_of_fields, has_values, like_int, like_boolean, like_char, like_instance, like_set, like_powerset, like_chars, like_array, like_structure, like_none, part, no_more, next_field}
use Rattle.checks_model.specs.Alike.{same_shape, same_number, are_similar, are_v_equivalent, goes_with, are_compatible, is_int, is_boolean, is_instance, is_powerset, is_discrete, class_is, mode_in}
use Rattle.checks_model.specs.ValueTrees.{ValueTree, number, members, parts}
use Rattle.checks_model.specs.Operations.{their_class, form_in}
use Rattle.checks_model.specs.OperatorValues.{class_bounds}
use Rattle.checks_model.specs.ConstantRules.{is_outside}
use Rattle.elaborated_laws.proofs.Told.{no_some, same_some, both_left, both_right, not_true}
use Rattle.elaborated_laws.proofs.Classes.{inner_bounds}
use Rattle.there_laws.specs.Shapes.{is_number}
use Rattle.constant_laws.specs.Values.{IsBetween, part_bounds, part_shape, IsOfShape, IsOfMode, shape_in, FitsClass}
use Rattle.constant_laws.proofs.Numbers.{int_bounds, between}
use Rattle.constant_laws.proofs.Same.{same_shapes}

-- ---- shapes by forms

-- a member mode as a part of its powerset
abbrev pub member_part : ModeTree → Shape
member_part m = part (novelty_of m) (read_is m) (bounds_of m) (shape_of m)

abbrev pub form_shape : FormTree → Shape
form_shape of_int = like_int
form_shape of_boolean = like_boolean
form_shape of_char = like_char
form_shape of_instance = like_instance
form_shape (of_set d n) = like_set d n
form_shape (of_powerset m) = like_powerset (member_part m)
form_shape (of_chars n) = like_chars n
form_shape (of_array i e how) = like_array (shape_of i) (bounds_of i) (part (novelty_of e) (read_is e) (bounds_of e) (shape_of e)) how
form_shape (of_structure fs p) = like_structure (shape_of_fields fs) p
form_shape of_meeting = like_none

pub shape_is : (m : ModeTree) → shape_of m ≡ form_shape (form_of m)
shape_is int = refl
shape_is boolean = refl
shape_is char = refl
shape_is instance = refl
shape_is (set_of d n) = refl
shape_is (range p l h) = shape_is p
shape_is (powerset m) = refl
shape_is (chars n) = refl
shape_is (array i e how) = refl
shape_is (structure fs p) = refl
shape_is (event l) = refl
shape_is (buffer l e) = refl
shape_is (read m) = shape_is m
shape_is (named d n m) = shape_is m

-- a class with a form has its shape
pub class_shape : (c : ClassTree) (f : FormTree) → form_in c ≡ Some f → shape_in c ≡ form_shape f
class_shape (value m) f is = shape_is m ∙ ap form_shape (same_some (form_of m) f is)
class_shape (derived m) f is = shape_is m ∙ ap form_shape (same_some (form_of m) f is)
class_shape null f is = no_some f is
class_shape nothing f is = no_some f is

pub mode_shape : (c : ClassTree) (m : ModeTree) → mode_in c ≡ Some m → shape_in c ≡ shape_of m
mode_shape (value k) m is = ap shape_of (same_some k m is)
mode_shape (derived k) m is = ap shape_of (same_some k m is)
mode_shape null m is = no_some m is
mode_shape nothing m is = no_some m is

pub mode_bounds : (c : ClassTree) (m : ModeTree) → mode_in c ≡ Some m → class_bounds c ≡ bounds_of m
mode_bounds c m is = ap (option_and_then bounds_of) is

-- a test of forms that only forms of one shape pass
pub tested_shape : (test : FormTree → Bool) (s : Shape) (c : ClassTree) → ((f : FormTree) → test f ≡ true → form_shape f ≡ s) → class_is test c ≡ true → shape_in c ≡ s
tested_shape test s (value m) each is = shape_is m ∙ each (form_of m) is
tested_shape test s (derived m) each is = shape_is m ∙ each (form_of m) is
tested_shape test s null each is = absurd (true≢false (sym is))
tested_shape test s nothing each is = absurd (true≢false (sym is))

pub int_shape : (f : FormTree) → is_int f ≡ true → form_shape f ≡ like_int
int_shape of_int is = refl
int_shape f is = absurd (true≢false (sym is))

pub boolean_shape : (f : FormTree) → is_boolean f ≡ true → form_shape f ≡ like_boolean
boolean_shape of_boolean is = refl
boolean_shape f is = absurd (true≢false (sym is))

instance_shape : (f : FormTree) → is_instance f ≡ true → form_shape f ≡ like_instance
instance_shape of_instance is = refl
instance_shape f is = absurd (true≢false (sym is))

-- the shape of a powerset
pub record PowersetIn (c : ClassTree) : Type 0 where
  pub mode : ModeTree
  pub form : form_in c ≡ Some (of_powerset mode)

powerset_by : (f : FormTree) → is_powerset f ≡ true → (m : ModeTree) × (f ≡ of_powerset m)
powerset_by (of_powerset m) is = (m, refl)
powerset_by f is = absurd (true≢false (sym is))

pub powerset_in : (c : ClassTree) → class_is is_powerset c ≡ true → PowersetIn c
powerset_in (value m) is = let p = powerset_by (form_of m) is in record { mode = p.0; form = ap Some p.1 }
powerset_in (derived m) is = let p = powerset_by (form_of m) is in record { mode = p.0; form = ap Some p.1 }
powerset_in null is = absurd (true≢false (sym is))
powerset_in nothing is = absurd (true≢false (sym is))

-- ---- shapes of numbers

abbrev pub is_single : Shape → Bool
is_single like_int = true
is_single like_boolean = true
is_single like_char = true
is_single like_instance = true
is_single (like_set d n) = true
is_single s = false

pub discrete_single : (f : FormTree) → is_discrete f ≡ true → is_single (form_shape f) ≡ true
discrete_single of_int is = refl
discrete_single of_boolean is = refl
discrete_single of_char is = refl
discrete_single (of_set d n) is = refl
discrete_single f is = absurd (true≢false (sym is))

-- a value of such a shape is a number
pub record NumberIn (b : Option Bounds) (v : ValueTree) : Type 0 where
  pub own : ℤ
  pub is : v ≡ number own
  pub between : IsBetween b own

some_number : (b : Option Bounds) (z : ℤ) → IsBetween b z → NumberIn b (number z)
some_number b z is = record { own = z; is = refl; between = is }

pub a_number : (b : Option Bounds) (s : Shape) (v : ValueTree) → is_single s ≡ true → IsOfShape b s v → NumberIn b v
a_number b like_int (number z) single of = some_number b z of
a_number b like_boolean (number z) single of = some_number b z of
a_number b like_char (number z) single of = some_number b z of
a_number b like_instance (number z) single of = some_number b z of
a_number b (like_set d n) (number z) single of = some_number b z of
a_number b like_int (members bs) single of = absurd of
a_number b like_boolean (members bs) single of = absurd of
a_number b like_char (members bs) single of = absurd of
a_number b like_instance (members bs) single of = absurd of
a_number b (like_set d n) (members bs) single of = absurd of
a_number b like_int (parts vs) single of = absurd of
a_number b like_boolean (parts vs) single of = absurd of
a_number b like_char (parts vs) single of = absurd of
a_number b like_instance (parts vs) single of = absurd of
a_number b (like_set d n) (parts vs) single of = absurd of
a_number b s v single of = absurd (true≢false (sym single))

pub of_number : (b : Option Bounds) (s : Shape) (z : ℤ) → is_single s ≡ true → IsBetween b z → IsOfShape b s (number z)
of_number b like_int z single is = is
of_number b like_boolean z single is = is
of_number b like_char z single is = is
of_number b like_instance z single is = is
of_number b (like_set d n) z single is = is
of_number b s z single is = absurd (true≢false (sym single))

pub number_single : (b : Option Bounds) (s : Shape) (z : ℤ) → IsOfShape b s (number z) → is_single s ≡ true
number_single b like_int z of = refl
number_single b like_boolean z of = refl
number_single b like_char z of = refl
number_single b like_instance z of = refl
number_single b (like_set d n) z of = refl
number_single b (like_powerset m) z of = absurd of
number_single b (like_chars n) z of = absurd of
number_single b (like_array i c e how) z of = absurd of
number_single b (like_structure fs p) z of = absurd of
number_single b like_none z of = absurd of
number_single b (part n r c s) z of = absurd of
number_single b no_more z of = absurd of
number_single b (next_field n at m fs) z of = absurd of

-- members of a powerset
pub record MembersIn (m : Shape) (v : ValueTree) : Type 0 where
  pub own : List Bool
  pub is : v ≡ members own
  pub of : IsOfShape None (like_powerset m) (members own)

pub the_members : (b : Option Bounds) (m : Shape) (v : ValueTree) → IsOfShape b (like_powerset m) v → MembersIn m v
the_members b m (members bs) of = record { own = bs; is = refl; of = of }
the_members b m (number z) of = absurd of
the_members b m (parts vs) of = absurd of

-- what isn't a number has no bounds
pub unbounded : (b c : Option Bounds) (s : Shape) (v : ValueTree) → is_number v ≡ false → IsOfShape b s v → IsOfShape c s v
unbounded b c (like_powerset m) (members bs) apart of = of
unbounded b c (like_chars n) (parts vs) apart of = of
unbounded b c (like_array i d e how) (parts vs) apart of = of
unbounded b c (like_structure fs p) (parts vs) apart of = of
unbounded b c s (number z) apart of = absurd (true≢false apart)
unbounded b c s v apart of = absurd of

-- ---- bounds by forms

pub no_bounds : (m : ModeTree) → is_instance (form_of m) ≡ true → bounds_of m ≡ None
no_bounds instance is = refl
no_bounds (range p l h) is = ap (λ k. bounds_in k l h) (no_bounds p is)
no_bounds (read m) is = no_bounds m is
no_bounds (named d n m) is = no_bounds m is
no_bounds m is = absurd (true≢false (sym is))

kept_bounds : (k : Option Bounds) (l h : ℤ) → IsSome k → IsSome (bounds_in k l h)
kept_bounds (Some b) l h there = refl
kept_bounds None l h there = absurd (true≢false (sym there))

pub single_bounds : (m : ModeTree) → is_single (shape_of m) ≡ true → (is_instance (form_of m) ≡ true) ⊎ IsSome (bounds_of m)
single_bounds int is = inr refl
single_bounds boolean is = inr refl
single_bounds char is = inr refl
single_bounds instance is = inl refl
single_bounds (set_of d n) is = inr refl
single_bounds (range p l h) is = elim (single_bounds p is) [
  | inl own ↦ inl own
  | inr there ↦ inr (kept_bounds (bounds_of p) l h there)
]
single_bounds (read m) is = single_bounds m is
single_bounds (named d n m) is = single_bounds m is
single_bounds m is = absurd (true≢false (sym is))

pub bounded_single : (m : ModeTree) (b : Bounds) → bounds_of m ≡ Some b → is_single (shape_of m) ≡ true
bounded_single int b is = refl
bounded_single boolean b is = refl
bounded_single char b is = refl
bounded_single instance b is = no_some b is
bounded_single (set_of d k) b is = refl
bounded_single (range p l h) b is = let there = inner_bounds (bounds_of p) l h b is in bounded_single p there.0 there.1
bounded_single (powerset m) b is = no_some b is
bounded_single (chars k) b is = no_some b is
bounded_single (array i e how) b is = no_some b is
bounded_single (structure fs p) b is = no_some b is
bounded_single (event l) b is = no_some b is
bounded_single (buffer l e) b is = no_some b is
bounded_single (read m) b is = bounded_single m b is
bounded_single (named d k m) b is = bounded_single m b is

-- ---- roots

pub root_shape : (m : ModeTree) → shape_of (root_of m) ≡ shape_of m
root_shape int = refl
root_shape boolean = refl
root_shape char = refl
root_shape instance = refl
root_shape (set_of d n) = refl
root_shape (range p l h) = root_shape p
root_shape (powerset m) = refl
root_shape (chars n) = refl
root_shape (array i e how) = refl
root_shape (structure fs p) = refl
root_shape (event l) = refl
root_shape (buffer l e) = refl
root_shape (read m) = root_shape m
root_shape (named d true m) = root_shape m
root_shape (named d false m) = root_shape m

abbrev is_like_int : Shape → Bool
is_like_int like_int = true
is_like_int s = false

abbrev is_like_boolean : Shape → Bool
is_like_boolean like_boolean = true
is_like_boolean s = false

root_int : (m : ModeTree) → is_like_int (shape_of m) ≡ true → bounds_of (root_of m) ≡ Some int_bounds
root_int int is = refl
root_int (range p l h) is = root_int p is
root_int (read m) is = root_int m is
root_int (named d true m) is = root_int m is
root_int (named d false m) is = root_int m is
root_int m is = absurd (true≢false (sym is))

root_boolean : (m : ModeTree) → is_like_boolean (shape_of m) ≡ true → bounds_of (root_of m) ≡ bounds_of boolean
root_boolean boolean is = refl
root_boolean (range p l h) is = root_boolean p is
root_boolean (read m) is = root_boolean m is
root_boolean (named d true m) is = root_boolean m is
root_boolean (named d false m) is = root_boolean m is
root_boolean m is = absurd (true≢false (sym is))

-- the class of a result has the root of an operand's mode
pub record IsRooted (k c : ClassTree) : Type 0 where
  pub mode : ModeTree
  pub of : mode_in k ≡ Some mode
  pub is : mode_in c ≡ Some (root_of mode)

rooted_by : (k c d : ClassTree) (m : ModeTree) → mode_in k ≡ Some m → mode_in d ≡ Some (root_of m) → Some d ≡ Some c → IsRooted k c
rooted_by k c d m of root is = record { mode = m; of = of; is = ap mode_in (sym (same_some d c is)) ∙ root }

pub their_root : (l r c : ClassTree) → their_class l r ≡ Some c → IsRooted l c ⊎ IsRooted r c
their_root (value a) (value b) c is = inl (rooted_by (value a) c (value (root_of a)) a refl refl is)
their_root (value a) (derived b) c is = inl (rooted_by (value a) c (value (root_of a)) a refl refl is)
their_root (value a) null c is = inl (rooted_by (value a) c (value (root_of a)) a refl refl is)
their_root (value a) nothing c is = inl (rooted_by (value a) c (value (root_of a)) a refl refl is)
their_root (derived a) (value b) c is = inr (rooted_by (value b) c (value (root_of b)) b refl refl is)
their_root (derived a) (derived b) c is = inl (rooted_by (derived a) c (derived (root_of a)) a refl refl is)
their_root (derived a) null c is = inl (rooted_by (derived a) c (derived (root_of a)) a refl refl is)
their_root (derived a) nothing c is = inl (rooted_by (derived a) c (derived (root_of a)) a refl refl is)
their_root null (value b) c is = inr (rooted_by (value b) c (value (root_of b)) b refl refl is)
their_root null (derived b) c is = no_some c is
their_root null null c is = no_some c is
their_root null nothing c is = no_some c is
their_root nothing (value b) c is = inr (rooted_by (value b) c (value (root_of b)) b refl refl is)
their_root nothing (derived b) c is = no_some c is
their_root nothing null c is = no_some c is
their_root nothing nothing c is = no_some c is

pub own_root : (k c : ClassTree) → their_class k k ≡ Some c → IsRooted k c
own_root k c is = elim (their_root k k c is) [
  | inl r ↦ r
  | inr r ↦ r
]

pub rooted_shape : (k c : ClassTree) → IsRooted k c → shape_in c ≡ shape_in k
rooted_shape k c r = mode_shape c (root_of r.mode) r.is ∙ root_shape r.mode ∙ sym (mode_shape k r.mode r.of)

pub rooted_int : (k c : ClassTree) → IsRooted k c → shape_in k ≡ like_int → class_bounds c ≡ Some int_bounds
rooted_int k c r is = mode_bounds c (root_of r.mode) r.is ∙ root_int r.mode (ap is_like_int (sym (mode_shape k r.mode r.of) ∙ is))

pub rooted_boolean : (k c : ClassTree) → IsRooted k c → shape_in k ≡ like_boolean → class_bounds c ≡ bounds_of boolean
rooted_boolean k c r is = mode_bounds c (root_of r.mode) r.is ∙ root_boolean r.mode (ap is_like_boolean (sym (mode_shape k r.mode r.of) ∙ is))

-- ---- classes that go together

pub similar_shapes : (a b : ModeTree) → are_similar a b ≡ true → shape_of a ≡ shape_of b
similar_shapes a b same = same_shapes (shape_of a) (shape_of b) (both_left (same_shape (shape_of a) (shape_of b)) (has_values (shape_of a)) same)

equivalent_shapes : (a b : ModeTree) → are_v_equivalent a b ≡ true → shape_of a ≡ shape_of b
equivalent_shapes a b same = similar_shapes a b (both_left (are_similar a b) (same_number (novelty_of a) (novelty_of b)) same)

instance_of : (a : ModeTree) → is_instance (form_of a) ≡ true → shape_of a ≡ like_instance
instance_of a is = shape_is a ∙ instance_shape (form_of a) is

pub compatible_shapes : (l r : ClassTree) → are_compatible l r ≡ true → shape_in l ≡ shape_in r
compatible_shapes (value a) (value b) same = equivalent_shapes a b same
compatible_shapes (value a) (derived b) same = similar_shapes a b same
compatible_shapes (derived a) (value b) same = similar_shapes a b same
compatible_shapes (derived a) (derived b) same = similar_shapes a b same
compatible_shapes (value a) null same = instance_of a same
compatible_shapes (derived a) null same = instance_of a same
compatible_shapes null (value b) same = sym (instance_of b same)
compatible_shapes null (derived b) same = sym (instance_of b same)
compatible_shapes null null same = refl
compatible_shapes (value a) nothing same = absurd (true≢false (sym same))
compatible_shapes (derived a) nothing same = absurd (true≢false (sym same))
compatible_shapes null nothing same = absurd (true≢false (sym same))
compatible_shapes nothing r same = absurd (true≢false (sym same))

pub goes_shape : (c : ClassTree) (m : ModeTree) → goes_with c m ≡ true → shape_in c ≡ shape_of m
goes_shape (value n) m goes = equivalent_shapes n m goes
goes_shape (derived n) m goes = similar_shapes n m goes
goes_shape null m goes = sym (instance_of m goes)
goes_shape nothing m goes = absurd (true≢false (sym goes))

-- ---- a value that goes to a mode

abbrev is_like_instance : Shape → Bool
is_like_instance like_instance = true
is_like_instance s = false

shape_unbounded : (m : ModeTree) → is_like_instance (shape_of m) ≡ true → bounds_of m ≡ None
shape_unbounded instance is = refl
shape_unbounded (range p l h) is = ap (λ k. bounds_in k l h) (shape_unbounded p is)
shape_unbounded (read m) is = shape_unbounded m is
shape_unbounded (named d n m) is = shape_unbounded m is
shape_unbounded m is = absurd (true≢false (sym is))

-- an instance has no bounds
instance_bounds : (c : ClassTree) → shape_in c ≡ like_instance → class_bounds c ≡ None
instance_bounds (value m) is = shape_unbounded m (ap is_like_instance is)
instance_bounds (derived m) is = shape_unbounded m (ap is_like_instance is)
instance_bounds null is = refl
instance_bounds nothing is = refl

within_some : (k : Option Bounds) (z : ℤ) → IsSome k → is_outside k (number z) ≡ false → IsBetween k z
within_some (Some b) z there inside = between b z (not_true (int_le b.low z && int_le z b.high) inside)
within_some None z there inside = absurd (true≢false (sym there))

number_goes : (c : ClassTree) (m : ModeTree) (z : ℤ) → shape_in c ≡ shape_of m → is_outside (bounds_of m) (number z) ≡ false → FitsClass c (number z) → IsOfMode m (number z)
number_goes c m z same inside fits =
    let single : is_single (shape_of m) ≡ true = ap is_single (sym same) ∙ number_single (class_bounds c) (shape_in c) z fits in
    elim (single_bounds m single) [
      | inl own ↦ subst (λ k. IsOfShape k (shape_of m) (number z)) (instance_bounds c (same ∙ instance_of m own) ∙ sym (no_bounds m own)) (subst (λ s. IsOfShape (class_bounds c) s (number z)) same fits)
      | inr there ↦ of_number (bounds_of m) (shape_of m) z single (within_some (bounds_of m) z there inside)
    ]

others : (c : ClassTree) (m : ModeTree) (v : ValueTree) → shape_in c ≡ shape_of m → is_number v ≡ false → FitsClass c v → IsOfMode m v
others c m v same apart fits = subst (λ s. IsOfShape (bounds_of m) s v) same (unbounded (class_bounds c) (bounds_of m) (shape_in c) v apart fits)

-- a value of a class that goes with a mode, and doesn't lie outside it, is one of the mode
pub value_goes : (c : ClassTree) (m : ModeTree) (v : ValueTree) → goes_with c m ≡ true → is_outside (bounds_of m) v ≡ false → FitsClass c v → IsOfMode m v
value_goes c m (number z) goes inside fits = number_goes c m z (goes_shape c m goes) inside fits
value_goes c m (members bs) goes inside fits = others c m (members bs) (goes_shape c m goes) refl fits
value_goes c m (parts vs) goes inside fits = others c m (parts vs) (goes_shape c m goes) refl fits
