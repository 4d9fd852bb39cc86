-- What operators give on operands that they take, by the form of the right one.
use Rattle.std.proofs.Common.{◌≡◌, ℕ, true, false, Bool, List, [], ◌∷◌, length, Option, Some, None, ℤ, refl, ap, sym, ◌∙◌}
use Rattle.std.specs.Prelude.{◌==◌, ◌&&◌, ◌||◌, not, IsTrue, is_some, if◌then◌else◌}
use Rattle.chill_tree.specs.declared.tree.expr.Operator.{Operator}
use Rattle.chill_tree.specs.declared.tree.expr.Operator.TheVariants as ops
use Rattle.modes.specs.ModeTree.{ModeTree, ClassTree, value, derived, null, nothing, int, boolean, char, instance, set_of, range, powerset, chars, array, structure, event, buffer, read, named}
use Rattle.modes.specs.Form.{FormTree, form_of, of_int, of_boolean, of_char, of_instance, of_set, of_powerset, of_chars, of_array, of_structure, of_meeting}
use Rattle.modes.specs.Bounds.{bounds_of, bounds_in, values_of}
use Rattle.modes.specs.declared.mode.Bounds.{Bounds}
use Rattle.modes.specs.Similar.{Shape, shape_of, like_int, like_boolean, like_char, like_instance, like_set, like_powerset, like_chars, like_array, like_structure}
use Rattle.modes.proofs.SimilarLemmas.{shape_in, shape-form, both}
use Rattle.scalar_operators.specs.Numbers.{comes_before, same_numbers}
use Rattle.checks_model.specs.Alike.{are_compatible, goes_with, is_meeting, class_is}
use Rattle.checks_model.specs.TestLaws.{CompatibleTestLaw, GoesWithTestLaw}
use Rattle.checks_model.specs.Operations.{when, takes, their_class, class_of_binary, is_order, has_order, form_in, can_be_member, goes_with_member}
use Rattle.checks_model.specs.ValueTrees.{ValueTree, ValueNodes, number, members, parts, scalars_in, is_less, same_value}
use Rattle.checks_model.specs.OperatorValues.{value_of_binary, truth_value, is_in, member_bounds}
use Rattle.constant_values.specs.Fits.{fits_class, is_number, count_values, few_members}
use Rattle.constant_values.specs.Comparisons.{compared, compared_values, value_on_numbers, value_on_sets}
use Rattle.constant_values.specs.Operands.{AreOperands, IsSet, member_mode, have_parts, is_in_operator}
use Rattle.constant_values.proofs.ShapeValues.{takes_number_in, takes_members_in, takes_parts_in, of_shape, fits_in, shape_of_class, class_fits_shape, compatible_shape, goes_shape}
use Rattle.constant_values.proofs.AlikeValues.{alike, same_count, texts_less}

-- ---- what an operator takes

when_holds : (b : Bool) (x : ClassTree) → IsTrue (is_some (when b x)) → IsTrue b
when_holds true x h = refl
when_holds false x h = cc

if_holds : (b : Bool) (x : Option ClassTree) → IsTrue (is_some (if b then x else None)) → IsTrue b
if_holds true x h = refl
if_holds false x h = cc

pub taken_in : (c d : ClassTree) → IsTrue (is_some (class_of_binary ops.In c d)) → IsTrue (can_be_member c d)
taken_in c d h = when_holds (can_be_member c d) (derived boolean) h

abbrev can_equal : ClassTree → ClassTree → Bool
can_equal c d = not (class_is is_meeting c || class_is is_meeting d)

equal_taken : (c d : ClassTree) → IsTrue (is_some (when (are_compatible c d && can_equal c d) (derived boolean))) → IsTrue (are_compatible c d)
equal_taken c d h = (both (are_compatible c d) (can_equal c d) (when_holds (are_compatible c d && can_equal c d) (derived boolean) h)).0

order_taken : (c d : ClassTree) → IsTrue (is_some (when (are_compatible c d && class_is has_order c) (derived boolean))) → IsTrue (are_compatible c d) × IsTrue (class_is has_order c)
order_taken c d h = both (are_compatible c d) (class_is has_order c) (when_holds (are_compatible c d && class_is has_order c) (derived boolean) h)

other_taken : (o : Operator) (c d : ClassTree) → IsTrue (is_some (if takes o c && are_compatible c d then their_class c d else None)) → IsTrue (are_compatible c d)
other_taken o c d h = (both (takes o c) (are_compatible c d) (if_holds (takes o c && are_compatible c d) (their_class c d) h)).1

pub taken_else : (o : Operator) (c d : ClassTree) → (o ≡ ops.In → ⊥) → IsTrue (is_some (class_of_binary o c d)) → IsTrue (are_compatible c d)
taken_else ops.In c d n h = absurd (n refl)
taken_else ops.Equal c d n h = equal_taken c d h
taken_else ops.NotEqual c d n h = equal_taken c d h
taken_else ops.Less c d n h = (order_taken c d h).0
taken_else ops.LessOrEqual c d n h = (order_taken c d h).0
taken_else ops.Greater c d n h = (order_taken c d h).0
taken_else ops.GreaterOrEqual c d n h = (order_taken c d h).0
taken_else ops.Plus c d n h = other_taken ops.Plus c d h
taken_else ops.Minus c d n h = other_taken ops.Minus c d h
taken_else ops.Times c d n h = other_taken ops.Times c d h
taken_else ops.Divide c d n h = other_taken ops.Divide c d h
taken_else ops.Mod c d n h = other_taken ops.Mod c d h
taken_else ops.Rem c d n h = other_taken ops.Rem c d h
taken_else ops.Or c d n h = other_taken ops.Or c d h
taken_else ops.And c d n h = other_taken ops.And c d h
taken_else ops.Xor c d n h = other_taken ops.Xor c d h
taken_else ops.OrIf c d n h = other_taken ops.OrIf c d h
taken_else ops.AndIf c d n h = other_taken ops.AndIf c d h

pub order_has : (o : Operator) (c d : ClassTree) → is_order o ≡ true → IsTrue (is_some (class_of_binary o c d)) → IsTrue (class_is has_order c)
order_has ops.Less c d e h = (order_taken c d h).1
order_has ops.LessOrEqual c d e h = (order_taken c d h).1
order_has ops.Greater c d e h = (order_taken c d h).1
order_has ops.GreaterOrEqual c d e h = (order_taken c d h).1
order_has _ c d e h = absurd (cc)

-- IN has a powerset on its right
pub no_member : (o : Operator) (c d : ClassTree) (f : Option FormTree) → form_in d ≡ f → IsTrue (is_some (class_of_binary o c d)) → ((x : ClassTree) → goes_with_member x f ≡ false) → o ≡ ops.In → ⊥
no_member o c d f e h none in' =
    let taken : IsTrue (is_some (class_of_binary ops.In c d)) = rw in' at h in
    let goes : IsTrue (goes_with_member c f) = sym (ap (goes_with_member c) e) ∙ taken_in c d taken in
    let not' = none c in cc

-- ---- shapes of classes

pub class_shape : (d : ClassTree) (f : FormTree) → form_in d ≡ Some f → shape_of_class d ≡ Some (shape_in f)
class_shape (value x) f e = let same : form_of x ≡ f = cc in ap Some (shape-form x ∙ ap shape_in same)
class_shape (derived x) f e = let same : form_of x ≡ f = cc in ap Some (shape-form x ∙ ap shape_in same)
class_shape null f e = absurd (cc)
class_shape nothing f e = absurd (cc)

-- a value of a class of a shape
pub fits_as : (c : ClassTree) (s : Option Shape) (v : ValueTree) → shape_of_class c ≡ s → IsTrue (fits_class c v) → IsTrue (fits_in s v)
fits_as c s v e h = sym (ap (λ (x : Option Shape). fits_in x v) e) ∙ sym (class_fits_shape c v) ∙ h

-- the operands of an operator are of one shape
pub record AreOfShape (s : Option Shape) (v w : ValueTree) : Type 0 where
  pub one : IsTrue (fits_in s v)
  pub other : IsTrue (fits_in s w)

pub of_one_shape : (law : CompatibleTestLaw) (o : Operator) (c d : ClassTree) (s : Option Shape) (v w : ValueTree) (left right : List ℤ) → AreOperands o c d v w left right
    → (o ≡ ops.In → ⊥) → shape_of_class d ≡ s → AreOfShape s v w
of_one_shape law o c d s v w left right a n e =
    let same : shape_of_class c ≡ shape_of_class d = compatible_shape c d ((law c d).0 (taken_else o c d n a.taken)) in
    record { one = fits_as c s v (same ∙ e) a.one.fits; other = fits_as d s w e a.other.fits }

-- ---- powersets

pub record IsMembers (count : ℕ) (v : ValueTree) : Type 0 where
  pub bs : List Bool
  pub is : v ≡ members bs
  pub size : length bs ≡ count
  pub few : IsTrue (few_members (length bs))

pub members_of : (m : ModeTree) (v : ValueTree) → IsTrue (fits_in (Some (shape_in (of_powerset m))) v) → IsMembers (values_of m) v
members_of m (number n) h = absurd (cc)
members_of m (members bs) h =
    let own = both (length bs == values_of m) (few_members (length bs)) h in
    record { bs = bs; is = refl; size = same_count (length bs) (values_of m) own.0; few = own.1 }
members_of m (parts vs) h = absurd (cc)

sets_value : (o : Operator) (d : ClassTree) (as' bs : List Bool) → (o ≡ ops.In → ⊥) → value_on_sets o as' bs ≡ value_of_binary o d (members as') (members bs)
sets_value ops.In d as' bs n = absurd (n refl)
sets_value ops.Equal d as' bs n = refl
sets_value ops.NotEqual d as' bs n = refl
sets_value ops.Less d as' bs n = refl
sets_value ops.LessOrEqual d as' bs n = refl
sets_value ops.Greater d as' bs n = refl
sets_value ops.GreaterOrEqual d as' bs n = refl
sets_value ops.Plus d as' bs n = refl
sets_value ops.Minus d as' bs n = refl
sets_value ops.Times d as' bs n = refl
sets_value ops.Divide d as' bs n = refl
sets_value ops.Mod d as' bs n = refl
sets_value ops.Rem d as' bs n = refl
sets_value ops.Or d as' bs n = refl
sets_value ops.And d as' bs n = refl
sets_value ops.Xor d as' bs n = refl
sets_value ops.OrIf d as' bs n = refl
sets_value ops.AndIf d as' bs n = refl

-- two powersets, and what an operator gives on them
pub record AreSets (o : Operator) (d : ClassTree) (v w : ValueTree) (size : ℕ) (left right : List ℤ) : Type 0 where
  pub as' : List Bool
  pub bs : List Bool
  pub one : IsSet as' size left
  pub other : IsSet bs size right
  pub value : value_on_sets o as' bs ≡ value_of_binary o d v w

pub sets_taken : (law : CompatibleTestLaw) (o : Operator) (c d : ClassTree) (m : ModeTree) (v w : ValueTree) (left right : List ℤ) → AreOperands o c d v w left right
    → (o ≡ ops.In → ⊥) → form_in d ≡ Some (of_powerset m) → AreSets o d v w (values_of m) left right
sets_taken law o c d m v w left right a n e =
    let own = of_one_shape law o c d (Some (shape_in (of_powerset m))) v w left right a n (class_shape d (of_powerset m) e) in
    let one = members_of m v own.one in
    let other = members_of m w own.other in
    record {
      as' = one.bs;
      bs = other.bs;
      one = record { count = one.size; scalars = sym (ap scalars_in one.is) ∙ a.one.scalars };
      other = record { count = other.size; scalars = sym (ap scalars_in other.is) ∙ a.other.scalars };
      value = sets_value o d one.bs other.bs n ∙ sym (ap (λ (x : ValueTree). value_of_binary o d x (members other.bs)) one.is) ∙ sym (ap (λ (x : ValueTree). value_of_binary o d v x) other.is);
    }

-- ---- IN

bounded : (o : Option Bounds) (l h : ℤ) → IsTrue (is_some (bounds_in o l h)) → IsTrue (is_some o)
bounded None l h k = k
bounded (Some b) l h k = refl

pub discrete_shape : (m : ModeTree) → IsTrue (is_some (bounds_of m)) → IsTrue (takes_number_in (shape_of m))
discrete_shape int h = refl
discrete_shape boolean h = refl
discrete_shape char h = refl
discrete_shape (set_of d n) h = refl
discrete_shape (range p l k) h = discrete_shape p (bounded (bounds_of p) l k h)
discrete_shape (read m) h = discrete_shape m h
discrete_shape (named d n m) h = discrete_shape m h
discrete_shape instance h = absurd (cc)
discrete_shape (powerset m) h = absurd (cc)
discrete_shape (chars n) h = absurd (cc)
discrete_shape (array i e how) h = absurd (cc)
discrete_shape (structure fs p) h = absurd (cc)
discrete_shape (event l) h = absurd (cc)
discrete_shape (buffer l e) h = absurd (cc)

no_members_taken : (s : Shape) (n : ℕ) → IsTrue (takes_number_in s) → IsTrue (takes_members_in n s) → ⊥
no_members_taken (like_powerset m) n p q = cc
no_members_taken _ n p q = cc

no_parts_taken : (s : Shape) (n : ℕ) → IsTrue (takes_number_in s) → IsTrue (takes_parts_in n s) → ⊥
no_parts_taken (like_chars m) n p q = cc
no_parts_taken (like_array i b e how) n p q = cc
no_parts_taken (like_structure fs k) n p q = cc
no_parts_taken _ n p q = cc

pub record IsOneNumber (v : ValueTree) : Type 0 where
  pub n : ℤ
  pub is : v ≡ number n

pub number_of : (s : Shape) (v : ValueTree) → IsTrue (takes_number_in s) → IsTrue (fits_in (Some s) v) → IsOneNumber v
number_of s (number n) t h = record { n = n; is = refl }
number_of s (members bs) t h = absurd (no_members_taken s (length bs) t h)
number_of s (parts vs) t h = absurd (no_parts_taken s (count_values vs) t (both _ _ h).0)

pub record IsMember (c d : ClassTree) (m : ModeTree) (v w : ValueTree) (right : List ℤ) : Type 0 where
  pub bs : List Bool
  pub scalars : scalars_in (members bs) ≡ right
  pub is_one : IsTrue (is_some (bounds_of m)) → IsTrue (is_number v)
  pub value : Some (truth_value (is_in v (bounds_of m) (members bs))) ≡ value_of_binary ops.In d v w

pub member_taken : (law : GoesWithTestLaw) (c d : ClassTree) (m : ModeTree) (v w : ValueTree) (left right : List ℤ) → AreOperands ops.In c d v w left right
    → form_in d ≡ Some (of_powerset m) → IsMember c d m v w right
member_taken law c d m v w left right a e =
    let other = members_of m w (fits_as d (Some (shape_in (of_powerset m))) w (class_shape d (of_powerset m) e) a.other.fits) in
    let goes : IsTrue (goes_with c m) = sym (ap (goes_with_member c) e) ∙ taken_in c d a.taken in
    let own = fits_as c (Some (shape_of m)) v (goes_shape c m ((law c m).0 goes)) a.one.fits in
    record {
      bs = other.bs;
      scalars = sym (ap scalars_in other.is) ∙ a.other.scalars;
      is_one = λ some. ap is_number (number_of (shape_of m) v (discrete_shape m some) own).is;
      value = value_in v w d m other.bs e other.is;
    }
  where
    value_in : (v w : ValueTree) (d : ClassTree) (m : ModeTree) (bs : List Bool) → form_in d ≡ Some (of_powerset m) → w ≡ members bs
        → Some (truth_value (is_in v (bounds_of m) (members bs))) ≡ value_of_binary ops.In d v w
    value_in v w d m bs e is =
        ap (λ (x : Option FormTree). Some (truth_value (is_in v (member_bounds x) (members bs)))) (sym e)
        ∙ ap (λ (x : ValueTree). Some (truth_value (is_in v (member_bounds (form_in d)) x))) (sym is)

-- ---- numbers

numbers_value : (o : Operator) (d : ClassTree) (a b : ℤ) → (o ≡ ops.In → ⊥) → value_on_numbers o a b ≡ value_of_binary o d (number a) (number b)
numbers_value ops.In d a b n = absurd (n refl)
numbers_value ops.Equal d a b n = refl
numbers_value ops.NotEqual d a b n = refl
numbers_value ops.Less d a b n = refl
numbers_value ops.LessOrEqual d a b n = refl
numbers_value ops.Greater d a b n = refl
numbers_value ops.GreaterOrEqual d a b n = refl
numbers_value ops.Plus d a b n = refl
numbers_value ops.Minus d a b n = refl
numbers_value ops.Times d a b n = refl
numbers_value ops.Divide d a b n = refl
numbers_value ops.Mod d a b n = refl
numbers_value ops.Rem d a b n = refl
numbers_value ops.Or d a b n = refl
numbers_value ops.And d a b n = refl
numbers_value ops.Xor d a b n = refl
numbers_value ops.OrIf d a b n = refl
numbers_value ops.AndIf d a b n = refl

-- two numbers, and what an operator gives on them
pub record AreNumbers (o : Operator) (d : ClassTree) (v w : ValueTree) (left right : List ℤ) : Type 0 where
  pub a : ℤ
  pub b : ℤ
  pub one : left ≡ a ∷ []
  pub other : right ≡ b ∷ []
  pub value : value_on_numbers o a b ≡ value_of_binary o d v w

abbrev is_single : Option FormTree → Bool
is_single None = true
is_single (Some of_int) = true
is_single (Some of_boolean) = true
is_single (Some of_char) = true
is_single (Some of_instance) = true
is_single (Some (of_set d n)) = true
is_single (Some _) = false

single_shape : (f : FormTree) → IsTrue (is_single (Some f)) → IsTrue (takes_number_in (shape_in f))
single_shape of_int h = refl
single_shape of_boolean h = refl
single_shape of_char h = refl
single_shape of_instance h = refl
single_shape (of_set d n) h = refl
single_shape (of_powerset m) h = absurd (cc)
single_shape (of_chars n) h = absurd (cc)
single_shape (of_array i e how) h = absurd (cc)
single_shape (of_structure fs p) h = absurd (cc)
single_shape of_meeting h = absurd (cc)

-- a class of no mode whose values are numbers
class_single : (d : ClassTree) (f : Option FormTree) (w : ValueTree) → form_in d ≡ f → IsTrue (is_single f) → IsTrue (fits_class d w) → (s : Shape) × (shape_of_class d ≡ Some s) × IsTrue (takes_number_in s)
class_single d (Some f) w e i h = (shape_in f, class_shape d f e, single_shape f i)
class_single (value x) None w e i h = absurd (cc)
class_single (derived x) None w e i h = absurd (cc)
class_single null None w e i h = (like_instance, refl, refl)
class_single nothing None w e i h = absurd (cc)

no_member_single : (f : Option FormTree) (x : ClassTree) → IsTrue (is_single f) → goes_with_member x f ≡ false
no_member_single None x h = refl
no_member_single (Some of_int) x h = refl
no_member_single (Some of_boolean) x h = refl
no_member_single (Some of_char) x h = refl
no_member_single (Some of_instance) x h = refl
no_member_single (Some (of_set d n)) x h = refl
no_member_single (Some (of_powerset m)) x h = absurd (cc)
no_member_single (Some (of_chars n)) x h = refl
no_member_single (Some (of_array i e how)) x h = refl
no_member_single (Some (of_structure fs p)) x h = refl
no_member_single (Some of_meeting) x h = refl

pub numbers_taken : (law : CompatibleTestLaw) (o : Operator) (c d : ClassTree) (f : Option FormTree) (v w : ValueTree) (left right : List ℤ) → AreOperands o c d v w left right
    → form_in d ≡ f → IsTrue (is_single f) → AreNumbers o d v w left right
numbers_taken law o c d f v w left right a e i =
    let n : o ≡ ops.In → ⊥ = no_member o c d f e a.taken (λ x. no_member_single f x i) in
    let single = class_single d f w e i a.other.fits in
    let own = of_one_shape law o c d (Some single.0) v w left right a n single.1 in
    let one = number_of single.0 v single.2 own.one in
    let other = number_of single.0 w single.2 own.other in
    record {
      a = one.n;
      b = other.n;
      one = sym a.one.scalars ∙ ap scalars_in one.is;
      other = sym a.other.scalars ∙ ap scalars_in other.is;
      value = numbers_value o d one.n other.n n ∙ sym (ap (λ (x : ValueTree). value_of_binary o d x (number other.n)) one.is) ∙ sym (ap (λ (x : ValueTree). value_of_binary o d v x) other.is);
    }

-- ---- texts, arrays and structures

abbrev pub is_built : FormTree → Bool
is_built (of_chars n) = true
is_built (of_array i e how) = true
is_built (of_structure fs p) = true
is_built of_meeting = true
is_built _ = false

record IsBuilt (v : ValueTree) : Type 0 where
  pub vs : ValueNodes
  pub is : v ≡ parts vs

built_of : (f : FormTree) (v : ValueTree) → IsTrue (is_built f) → IsTrue (fits_in (Some (shape_in f)) v) → IsBuilt v
built_of f (parts vs) i h = record { vs = vs; is = refl }
built_of (of_chars n) (number a) i h = absurd (cc)
built_of (of_array x e how) (number a) i h = absurd (cc)
built_of (of_structure fs p) (number a) i h = absurd (cc)
built_of of_meeting (number a) i h = absurd (cc)
built_of (of_chars n) (members bs) i h = absurd (cc)
built_of (of_array x e how) (members bs) i h = absurd (cc)
built_of (of_structure fs p) (members bs) i h = absurd (cc)
built_of of_meeting (members bs) i h = absurd (cc)
built_of _ v i h = absurd (cc)

no_member_built : (f : FormTree) (x : ClassTree) → IsTrue (is_built f) → goes_with_member x (Some f) ≡ false
no_member_built (of_powerset m) x h = absurd (cc)
no_member_built of_int x h = refl
no_member_built of_boolean x h = refl
no_member_built of_char x h = refl
no_member_built of_instance x h = refl
no_member_built (of_set d n) x h = refl
no_member_built (of_chars n) x h = refl
no_member_built (of_array i e how) x h = refl
no_member_built (of_structure fs p) x h = refl
no_member_built of_meeting x h = refl

abbrev has_order_in : Shape → Bool
has_order_in like_int = true
has_order_in like_boolean = true
has_order_in like_char = true
has_order_in (like_set d n) = true
has_order_in (like_powerset m) = true
has_order_in (like_chars n) = true
has_order_in _ = false

order_by_form : (f : FormTree) → has_order f ≡ has_order_in (shape_in f)
order_by_form of_int = refl
order_by_form of_boolean = refl
order_by_form of_char = refl
order_by_form of_instance = refl
order_by_form (of_set d n) = refl
order_by_form (of_powerset m) = refl
order_by_form (of_chars n) = refl
order_by_form (of_array i e how) = refl
order_by_form (of_structure fs p) = refl
order_by_form of_meeting = refl

class_order : (c : ClassTree) → class_is has_order c ≡ of_shape has_order_in (shape_of_class c)
class_order (value x) = order_by_form (form_of x) ∙ ap has_order_in (sym (shape-form x))
class_order (derived x) = order_by_form (form_of x) ∙ ap has_order_in (sym (shape-form x))
class_order null = refl
class_order nothing = refl

-- which of the two is less, where the operator asks for that
record AreOrdered (left right : List ℤ) (v w : ValueTree) : Type 0 where
  pub less : comes_before left right ≡ is_less v w
  pub greater : comes_before right left ≡ is_less w v

ordered : (f : FormTree) (vs ws : ValueNodes) → IsTrue (is_built f) → IsTrue (has_order_in (shape_in f)) → IsTrue (fits_in (Some (shape_in f)) (parts vs)) → IsTrue (fits_in (Some (shape_in f)) (parts ws))
    → AreOrdered (scalars_in (parts vs)) (scalars_in (parts ws)) (parts vs) (parts ws)
ordered (of_chars n) vs ws i h p q = record { less = texts_less n 0 0 vs ws (both _ _ p).1 (both _ _ q).1; greater = texts_less n 0 0 ws vs (both _ _ q).1 (both _ _ p).1 }
ordered (of_array x e how) vs ws i h p q = absurd (cc)
ordered (of_structure fs k) vs ws i h p q = absurd (cc)
ordered of_meeting vs ws i h p q = absurd (cc)
ordered _ vs ws i h p q = absurd (cc)

compared_same : (o : Operator) (l s g : Bool) (v w : ValueTree) → s ≡ same_value v w → (is_order o ≡ true → (l ≡ is_less v w) × (g ≡ is_less w v)) → compared o l s g ≡ compared_values o v w
compared_same ops.Equal l s g v w e h = e
compared_same ops.NotEqual l s g v w e h = ap not e
compared_same ops.Less l s g v w e h = (h refl).0
compared_same ops.LessOrEqual l s g v w e h = ap (λ (x : Bool). x || s) (h refl).0 ∙ ap (λ (x : Bool). is_less v w || x) e
compared_same ops.Greater l s g v w e h = (h refl).1
compared_same ops.GreaterOrEqual l s g v w e h = ap (λ (x : Bool). x || s) (h refl).1 ∙ ap (λ (x : Bool). is_less w v || x) e
compared_same _ l s g v w e h = refl

parts_value : (o : Operator) (d : ClassTree) (vs ws : ValueNodes) → (o ≡ ops.In → ⊥) → Some (truth_value (compared_values o (parts vs) (parts ws))) ≡ value_of_binary o d (parts vs) (parts ws)
parts_value ops.In d vs ws n = absurd (n refl)
parts_value ops.Equal d vs ws n = refl
parts_value ops.NotEqual d vs ws n = refl
parts_value ops.Less d vs ws n = refl
parts_value ops.LessOrEqual d vs ws n = refl
parts_value ops.Greater d vs ws n = refl
parts_value ops.GreaterOrEqual d vs ws n = refl
parts_value _ d vs ws n = refl

-- two values with parts, and what an operator gives on them
pub record AreBuilt (o : Operator) (d : ClassTree) (v w : ValueTree) (left right : List ℤ) : Type 0 where
  pub long : length left ≡ length right
  pub value : Some (truth_value (compared o (comes_before left right) (same_numbers left right) (comes_before right left))) ≡ value_of_binary o d v w

built_by : (o : Operator) (c d : ClassTree) (f : FormTree) (vs ws : ValueNodes) → (o ≡ ops.In → ⊥) → IsTrue (is_some (class_of_binary o c d)) → shape_of_class c ≡ Some (shape_in f) → IsTrue (is_built f)
    → AreOfShape (Some (shape_in f)) (parts vs) (parts ws) → AreBuilt o d (parts vs) (parts ws) (scalars_in (parts vs)) (scalars_in (parts ws))
built_by o c d f vs ws n taken shape i own =
    let same = alike (Some (shape_in f)) (parts vs) (parts ws) own.one own.other in
    let order : is_order o ≡ true → AreOrdered (scalars_in (parts vs)) (scalars_in (parts ws)) (parts vs) (parts ws) =
    λ e. ordered f vs ws i (sym (class_order c ∙ ap (of_shape has_order_in) shape) ∙ order_has o c d e taken) own.one own.other in
    record {
      long = same.long;
      value = ap (λ (b : Bool). Some (truth_value b)) (compared_same o (comes_before (scalars_in (parts vs)) (scalars_in (parts ws))) (same_numbers (scalars_in (parts vs)) (scalars_in (parts ws)))
          (comes_before (scalars_in (parts ws)) (scalars_in (parts vs))) (parts vs) (parts ws) same.same (λ e. ((order e).less, (order e).greater))) ∙ parts_value o d vs ws n;
    }

pub built_taken : (law : CompatibleTestLaw) (o : Operator) (c d : ClassTree) (f : FormTree) (v w : ValueTree) (left right : List ℤ) → AreOperands o c d v w left right
    → form_in d ≡ Some f → IsTrue (is_built f) → AreBuilt o d v w left right
built_taken law o c d f v w left right a e i =
    let n : o ≡ ops.In → ⊥ = no_member o c d (Some f) e a.taken (λ x. no_member_built f x i) in
    let shape = class_shape d f e in
    let same : shape_of_class c ≡ shape_of_class d = compatible_shape c d ((law c d).0 (taken_else o c d n a.taken)) in
    let own = of_one_shape law o c d (Some (shape_in f)) v w left right a n shape in
    let one = built_of f v i own.one in
    let other = built_of f w i own.other in
    moved v w (parts one.vs) (parts other.vs) one.is other.is left right a.one.scalars a.other.scalars
    (built_by o c d f one.vs other.vs n a.taken (same ∙ shape) i (record { one = moved_fits v (parts one.vs) one.is own.one; other = moved_fits w (parts other.vs) other.is own.other }))
  where
    moved_fits : (v x : ValueTree) → v ≡ x → IsTrue (fits_in (Some (shape_in f)) v) → IsTrue (fits_in (Some (shape_in f)) x)
    moved_fits v x e h = sym (ap (λ (y : ValueTree). fits_in (Some (shape_in f)) y) e) ∙ h

    moved : (v w x y : ValueTree) → v ≡ x → w ≡ y → (left right : List ℤ) → scalars_in v ≡ left → scalars_in w ≡ right → AreBuilt o d x y (scalars_in x) (scalars_in y) → AreBuilt o d v w left right
    moved v w x y e g left right l r b = rw (← l, ← r, e, g) b

-- ---- by the tests of the code

pub set_form : (f : Option FormTree) (m : ModeTree) → member_mode f ≡ Some m → f ≡ Some (of_powerset m)
set_form (Some (of_powerset x)) m e = let same : x ≡ m = cc in ap (λ (y : ModeTree). Some (of_powerset y)) same
set_form _ m e = absurd (cc)

pub is_in_yes : (o : Operator) → is_in_operator o ≡ true → o ≡ ops.In
is_in_yes ops.In e = refl
is_in_yes _ e = absurd (cc)

pub is_in_no : (o : Operator) → is_in_operator o ≡ false → o ≡ ops.In → ⊥
is_in_no o e i = let yes : is_in_operator o ≡ true = ap is_in_operator i in cc

parts_form : (d : ClassTree) (f : Option FormTree) → have_parts f ≡ true → (g : FormTree) × (f ≡ Some g) × IsTrue (is_built g)
parts_form d (Some (of_chars n)) h = (of_chars n, refl, refl)
parts_form d (Some (of_array i e how)) h = (of_array i e how, refl, refl)
parts_form d (Some (of_structure fs p)) h = (of_structure fs p, refl, refl)
parts_form d (Some of_meeting) h = (of_meeting, refl, refl)
parts_form d _ h = absurd (cc)

single_form : (f : Option FormTree) → member_mode f ≡ None → have_parts f ≡ false → IsTrue (is_single f)
single_form None m h = refl
single_form (Some of_int) m h = refl
single_form (Some of_boolean) m h = refl
single_form (Some of_char) m h = refl
single_form (Some of_instance) m h = refl
single_form (Some (of_set d n)) m h = refl
single_form (Some (of_powerset x)) m h = absurd (cc)
single_form (Some (of_chars n)) m h = absurd (cc)
single_form (Some (of_array i e how)) m h = absurd (cc)
single_form (Some (of_structure fs p)) m h = absurd (cc)
single_form (Some of_meeting) m h = absurd (cc)

pub parts_operands : (law : CompatibleTestLaw) (o : Operator) (c d : ClassTree) (v w : ValueTree) (left right : List ℤ) → AreOperands o c d v w left right → have_parts (form_in d) ≡ true → AreBuilt o d v w left right
parts_operands law o c d v w left right a h = let own = parts_form d (form_in d) h in built_taken law o c d own.0 v w left right a own.1 own.2

pub number_operands : (law : CompatibleTestLaw) (o : Operator) (c d : ClassTree) (v w : ValueTree) (left right : List ℤ) → AreOperands o c d v w left right → member_mode (form_in d) ≡ None → have_parts (form_in d) ≡ false
    → AreNumbers o d v w left right
number_operands law o c d v w left right a m h = numbers_taken law o c d (form_in d) v w left right a refl (single_form (form_in d) m h)
