-- What an operator or a routine gives is a value of the class that it has.
use Rattle.std.proofs.Common.{◌≡◌, ℕ, suc, true, false, Bool, List, [], ◌∷◌, length, Option, Some, None, ℤ, pos, refl, ap, sym, ◌∙◌, arith}
use Rattle.std.specs.Prelude.{◌==◌, ◌&&◌, ◌||◌, not, IsTrue, is_some, option_map, if◌then◌else◌, map, int_le, ◌+ℤ◌, ◌-ℤ◌}
use Rattle.std.proofs.lemmas.Bool.Decides.{nat_tests}
use Rattle.chill_tree.specs.declared.tree.expr.Operator.{Operator}
use Rattle.chill_tree.specs.declared.tree.expr.Operator.TheVariants as ops
use Rattle.chill_tree.specs.declared.tree.expr.Prefix.{Prefix}
use Rattle.chill_tree.specs.declared.tree.expr.Prefix.TheVariants as prefixes
use Rattle.modes.specs.ModeTree.{ModeTree, ClassTree, value, derived, null, nothing, int, boolean, char, instance, set_of, range, powerset, chars, array, structure, event, buffer, read, named}
use Rattle.modes.specs.Form.{FormTree, form_of, of_int, of_boolean, of_char, of_instance, of_set, of_powerset, of_chars, of_array, of_structure, of_meeting}
use Rattle.modes.specs.Bounds.{bounds_of, values_of}
use Rattle.modes.specs.declared.mode.Bounds.{Bounds}
use Rattle.modes.specs.Roots.{root_of}
use Rattle.modes.specs.Similar.{Shape, shape_of, like_int, like_boolean, like_powerset}
use Rattle.modes.proofs.SimilarLemmas.{shape_in, shape-form, of_both}
use Rattle.checks_model.specs.Alike.{are_compatible, is_int, is_boolean, is_powerset, is_meeting, class_is, is_discrete}
use Rattle.checks_model.specs.TestLaws.{CompatibleTestLaw}
use Rattle.checks_model.specs.Operations.{when, takes, their_class, class_of_binary, class_of_unary, class_of_routine, is_arithmetic, is_on_sets, is_logic, has_order, form_in, can_be_member, member_class}
use Rattle.checks_model.specs.Ground.{Predefined, num, succ, pred, abs, card, min, max}
use Rattle.checks_model.specs.ValueTrees.{ValueTree, number, members, parts}
use Rattle.checks_model.specs.OperatorValues.{arithmetic, logic, zipped, value_of_binary, value_of_unary, value_of_routine, truth_value, at_offset, up_to, down_to, member_bounds, least_of, greatest_of}
use Rattle.constant_values.specs.Fits.{fits_class, is_number, few_members}
use Rattle.constant_values.specs.Comparisons.{compared_values, value_on_sets}
use Rattle.constant_values.specs.Operands.{AreOperands, IsTaken, IsArgument, member_mode, have_parts, is_in_operator}
use Rattle.constant_values.proofs.ShapeValues.{takes_number_in, takes_members_in, of_shape, fits_in, shape_of_class, class_fits_shape, compatible_shape}
use Rattle.constant_values.proofs.OperandValues.{taken_else, set_form, parts_operands, number_operands, sets_taken, discrete_shape, class_shape, is_in_yes, is_in_no}
use Rattle.constant_values.proofs.RoutineValues.{set_of_class}

-- ---- the class of a result

root_shape : (m : ModeTree) → shape_of (root_of m) ≡ shape_of m
root_shape int = refl
root_shape boolean = refl
root_shape char = refl
root_shape instance = refl
root_shape (set_of d n) = refl
root_shape (range p l h) = root_shape p
root_shape (powerset m) = refl
root_shape (chars n) = refl
root_shape (array i e how) = refl
root_shape (structure fs p) = refl
root_shape (event l) = refl
root_shape (buffer l e) = refl
root_shape (read m) = root_shape m
root_shape (named d true m) = root_shape m
root_shape (named d false m) = root_shape m

their_shape : (c d k : ClassTree) → shape_of_class c ≡ shape_of_class d → their_class c d ≡ Some k → shape_of_class k ≡ shape_of_class c
their_shape (value a) d k same e = let own : value (root_of a) ≡ k = cc in ap shape_of_class (sym own) ∙ ap (λ (s : Shape). Some s) (root_shape a)
their_shape (derived a) (value b) k same e = let own : value (root_of b) ≡ k = cc in ap shape_of_class (sym own) ∙ ap (λ (s : Shape). Some s) (root_shape b) ∙ sym same
their_shape null (value b) k same e = let own : value (root_of b) ≡ k = cc in ap shape_of_class (sym own) ∙ ap (λ (s : Shape). Some s) (root_shape b) ∙ sym same
their_shape nothing (value b) k same e = let own : value (root_of b) ≡ k = cc in ap shape_of_class (sym own) ∙ ap (λ (s : Shape). Some s) (root_shape b) ∙ sym same
their_shape (derived a) (derived b) k same e = let own : derived (root_of a) ≡ k = cc in ap shape_of_class (sym own) ∙ ap (λ (s : Shape). Some s) (root_shape a)
their_shape (derived a) null k same e = let own : derived (root_of a) ≡ k = cc in ap shape_of_class (sym own) ∙ ap (λ (s : Shape). Some s) (root_shape a)
their_shape (derived a) nothing k same e = let own : derived (root_of a) ≡ k = cc in ap shape_of_class (sym own) ∙ ap (λ (s : Shape). Some s) (root_shape a)
their_shape null (derived b) k same e = absurd (cc)
their_shape null null k same e = absurd (cc)
their_shape null nothing k same e = absurd (cc)
their_shape nothing (derived b) k same e = absurd (cc)
their_shape nothing null k same e = absurd (cc)
their_shape nothing nothing k same e = absurd (cc)

-- the class of a result is BOOL, or that of the operands, which the operator takes
data HasClass (o : Operator) (c d k : ClassTree) : Type 0 where
  truth : is_on_sets o ≡ false → k ≡ derived boolean → HasClass o c d k
  theirs : takes o c ≡ true → their_class c d ≡ Some k → HasClass o c d k

when_is : (b : Bool) (x k : ClassTree) → when b x ≡ Some k → k ≡ x
when_is true x k e = cc
when_is false x k e = absurd (cc)

theirs_of : (o : Operator) (c d k : ClassTree) (t b : Bool) → takes o c ≡ t → (if t && b then their_class c d else None) ≡ Some k → HasClass o c d k
theirs_of o c d k true true t e = theirs t e
theirs_of o c d k true false t e = absurd (cc)
theirs_of o c d k false b t e = absurd (cc)

has_class : (o : Operator) (c d k : ClassTree) → class_of_binary o c d ≡ Some k → HasClass o c d k
has_class ops.In c d k e = truth refl (when_is (can_be_member c d) (derived boolean) k e)
has_class ops.Equal c d k e = truth refl (when_is (are_compatible c d && not (class_is is_meeting c || class_is is_meeting d)) (derived boolean) k e)
has_class ops.NotEqual c d k e = truth refl (when_is (are_compatible c d && not (class_is is_meeting c || class_is is_meeting d)) (derived boolean) k e)
has_class ops.Less c d k e = truth refl (when_is (are_compatible c d && class_is has_order c) (derived boolean) k e)
has_class ops.LessOrEqual c d k e = truth refl (when_is (are_compatible c d && class_is has_order c) (derived boolean) k e)
has_class ops.Greater c d k e = truth refl (when_is (are_compatible c d && class_is has_order c) (derived boolean) k e)
has_class ops.GreaterOrEqual c d k e = truth refl (when_is (are_compatible c d && class_is has_order c) (derived boolean) k e)
has_class ops.Plus c d k e = theirs_of ops.Plus c d k (takes ops.Plus c) (are_compatible c d) refl e
has_class ops.Minus c d k e = theirs_of ops.Minus c d k (takes ops.Minus c) (are_compatible c d) refl e
has_class ops.Times c d k e = theirs_of ops.Times c d k (takes ops.Times c) (are_compatible c d) refl e
has_class ops.Divide c d k e = theirs_of ops.Divide c d k (takes ops.Divide c) (are_compatible c d) refl e
has_class ops.Mod c d k e = theirs_of ops.Mod c d k (takes ops.Mod c) (are_compatible c d) refl e
has_class ops.Rem c d k e = theirs_of ops.Rem c d k (takes ops.Rem c) (are_compatible c d) refl e
has_class ops.Or c d k e = theirs_of ops.Or c d k (takes ops.Or c) (are_compatible c d) refl e
has_class ops.And c d k e = theirs_of ops.And c d k (takes ops.And c) (are_compatible c d) refl e
has_class ops.Xor c d k e = theirs_of ops.Xor c d k (takes ops.Xor c) (are_compatible c d) refl e
has_class ops.OrIf c d k e = theirs_of ops.OrIf c d k (takes ops.OrIf c) (are_compatible c d) refl e
has_class ops.AndIf c d k e = theirs_of ops.AndIf c d k (takes ops.AndIf c) (are_compatible c d) refl e

-- ---- values of a class

-- a number is a value of a class whose values are numbers
number_fits : (k : ClassTree) (s : Option Shape) (x : ValueTree) → shape_of_class k ≡ s → IsTrue (of_shape takes_number_in s) → IsTrue (is_number x) → IsTrue (fits_class k x)
number_fits k s (number n) e t h = class_fits_shape k (number n) ∙ ap (λ (y : Option Shape). fits_in y (number n)) e ∙ t
number_fits k s (members bs) e t h = absurd (cc)
number_fits k s (parts vs) e t h = absurd (cc)

truth_fits : (k : ClassTree) (x : ValueTree) → k ≡ derived boolean → IsTrue (is_number x) → IsTrue (fits_class k x)
truth_fits k x e h = number_fits k (Some like_boolean) x (ap shape_of_class e) refl h

-- a class of numbers
int_shape : (f : FormTree) → IsTrue (is_int f) → IsTrue (takes_number_in (shape_in f))
int_shape of_int h = refl
int_shape _ h = absurd (cc)

boolean_shape : (f : FormTree) → IsTrue (is_boolean f) → IsTrue (takes_number_in (shape_in f))
boolean_shape of_boolean h = refl
boolean_shape _ h = absurd (cc)

discrete_form : (f : FormTree) → IsTrue (is_discrete f) → IsTrue (takes_number_in (shape_in f))
discrete_form of_int h = refl
discrete_form of_boolean h = refl
discrete_form of_char h = refl
discrete_form (of_set d n) h = refl
discrete_form _ h = absurd (cc)

class_numbers : (test : FormTree → Bool) (c : ClassTree) → ((f : FormTree) → IsTrue (test f) → IsTrue (takes_number_in (shape_in f))) → IsTrue (class_is test c) → IsTrue (of_shape takes_number_in (shape_of_class c))
class_numbers test (value m) own h = ap takes_number_in (shape-form m) ∙ own (form_of m) h
class_numbers test (derived m) own h = ap takes_number_in (shape-form m) ∙ own (form_of m) h
class_numbers test null own h = absurd (cc)
class_numbers test nothing own h = absurd (cc)

-- ---- operators

one_of : (a b c : Bool) → (a || (b || c)) ≡ true → (b ≡ true → ⊥) → (a ≡ true → ⊥) → c ≡ true
one_of true b c h n m = absurd (m refl)
one_of false true c h n m = absurd (n refl)
one_of false false c h n m = h

-- what takes no powerset takes numbers
takes_numbers : (o : Operator) (c : ClassTree) → takes o c ≡ true → (class_is is_powerset c ≡ true → ⊥) → IsTrue (of_shape takes_number_in (shape_of_class c))
takes_numbers o c t n = split (is_arithmetic o) (is_on_sets o) (is_logic o) (class_is is_int c) (class_is is_powerset c) (class_is is_boolean c) refl refl refl t
  where
    split : (a s l i p b : Bool) → class_is is_int c ≡ i → class_is is_powerset c ≡ p → class_is is_boolean c ≡ b → ((a && i) || ((s && p) || (l && b))) ≡ true → IsTrue (of_shape takes_number_in (shape_of_class c))
    split a s l true p b e f g t = class_numbers is_int c int_shape e
    split a s l false true b e f g t = absurd (n f)
    split a s l false false true e f g t = class_numbers is_boolean c boolean_shape g
    split true true l false false false e f g t = absurd (none l t)
      where
        none : (l : Bool) → (l && false) ≡ true → ⊥
        none true h = cc
        none false h = cc
    split true false l false false false e f g t = absurd (none l t)
      where
        none : (l : Bool) → (l && false) ≡ true → ⊥
        none true h = cc
        none false h = cc
    split false true l false false false e f g t = absurd (none l t)
      where
        none : (l : Bool) → (l && false) ≡ true → ⊥
        none true h = cc
        none false h = cc
    split false false l false false false e f g t = absurd (none l t)
      where
        none : (l : Bool) → (l && false) ≡ true → ⊥
        none true h = cc
        none false h = cc

abbrev is_set_shape : Shape → Bool
is_set_shape (like_powerset m) = true
is_set_shape _ = false

set_by_form : (f : FormTree) → is_powerset f ≡ is_set_shape (shape_in f)
set_by_form of_int = refl
set_by_form of_boolean = refl
set_by_form of_char = refl
set_by_form of_instance = refl
set_by_form (of_set d n) = refl
set_by_form (of_powerset m) = refl
set_by_form (of_chars n) = refl
set_by_form (of_array i e how) = refl
set_by_form (of_structure fs p) = refl
set_by_form of_meeting = refl

class_set : (c : ClassTree) → class_is is_powerset c ≡ of_shape is_set_shape (shape_of_class c)
class_set (value m) = set_by_form (form_of m) ∙ ap is_set_shape (sym (shape-form m))
class_set (derived m) = set_by_form (form_of m) ∙ ap is_set_shape (sym (shape-form m))
class_set null = refl
class_set nothing = refl

form_no_set : (f : FormTree) → member_mode (Some f) ≡ None → is_powerset f ≡ true → ⊥
form_no_set (of_powerset m) n h = cc
form_no_set _ n h = cc

class_no_set : (d : ClassTree) → member_mode (form_in d) ≡ None → class_is is_powerset d ≡ true → ⊥
class_no_set (value m) n h = form_no_set (form_of m) n h
class_no_set (derived m) n h = form_no_set (form_of m) n h
class_no_set null n h = cc
class_no_set nothing n h = cc

no_set_either : (c d : ClassTree) → shape_of_class c ≡ shape_of_class d → member_mode (form_in d) ≡ None → class_is is_powerset c ≡ true → ⊥
no_set_either c d same n h = class_no_set d n (class_set d ∙ ap (of_shape is_set_shape) (sym same) ∙ sym (class_set c) ∙ h)

-- a number that comes of operands of one shape
number_result : (o : Operator) (c d k : ClassTree) (x : ValueTree) → HasClass o c d k → shape_of_class c ≡ shape_of_class d → IsTrue (is_number x) → (takes o c ≡ true → IsTrue (of_shape takes_number_in (shape_of_class c))) → IsTrue (fits_class k x)
number_result o c d k x (truth n e) same h own = truth_fits k x e h
number_result o c d k x (theirs t e) same h own = number_fits k (shape_of_class c) x (their_shape c d k same e) (own t) h

zipped_long : (f : Bool → Bool → Bool) (as' bs : List Bool) → length as' ≡ length bs → length (zipped f as' bs) ≡ length as'
zipped_long f [] bs long = refl
zipped_long f (a ∷ as') [] long = absurd (omega (arith, long))
zipped_long f (a ∷ as') (b ∷ bs) long = ap suc (zipped_long f as' bs (omega (arith, long)))

-- ---- what an operator gives

sets_form : (o : Operator) (as' bs : List Bool) → (if is_on_sets o then Some (members (zipped (logic o) as' bs)) else Some (truth_value (compared_values o (members as') (members bs)))) ≡ value_on_sets o as' bs
sets_form o as' bs = refl

mapped_number : (r : Option ℤ) (x : ValueTree) → option_map number r ≡ Some x → IsTrue (is_number x)
mapped_number None x e = absurd (cc)
mapped_number (Some n) x e = let own : number n ≡ x = cc in ap is_number (sym own)

some_number : (n : ℤ) (x : ValueTree) → Some (number n) ≡ Some x → IsTrue (is_number x)
some_number n x e = let own : number n ≡ x = cc in ap is_number (sym own)

arithmetic_number : (o : Operator) (a b : ℤ) (x : ValueTree) → arithmetic o a b ≡ Some x → IsTrue (is_number x)
arithmetic_number ops.Plus a b x e = mapped_number _ x e
arithmetic_number ops.Minus a b x e = mapped_number _ x e
arithmetic_number ops.Times a b x e = mapped_number _ x e
arithmetic_number ops.Divide a b x e = mapped_number _ x e
arithmetic_number ops.Rem a b x e = mapped_number _ x e
arithmetic_number ops.Mod a b x e = mapped_number _ x e
arithmetic_number _ a b x e = absurd (cc)

numbers_number : (o : Operator) (a b : ℤ) (x : ValueTree) (t u : Bool) (p q : ℤ) → (if t then arithmetic o a b else (if u then Some (number p) else Some (number q))) ≡ Some x → IsTrue (is_number x)
numbers_number o a b x true u p q e = arithmetic_number o a b x e
numbers_number o a b x false true p q e = some_number p x e
numbers_number o a b x false false p q e = some_number q x e

equal_count : (a b : ℕ) → a ≡ b → IsTrue (a == b)
equal_count a b e = grind (arith, nat_tests)

members_fit : (k : ClassTree) (m : ModeTree) (zs : List Bool) → shape_of_class k ≡ Some (shape_in (of_powerset m)) → length zs ≡ values_of m → IsTrue (few_members (values_of m)) → IsTrue (fits_class k (members zs))
members_fit k m zs e long few =
    class_fits_shape k (members zs) ∙ ap (λ (y : Option Shape). fits_in y (members zs)) e
    ∙ of_both (length zs == values_of m) (few_members (length zs)) (equal_count (length zs) (values_of m) long) (ap few_members long ∙ few)

sets_result : (o : Operator) (c d k : ClassTree) (m : ModeTree) (as' bs : List Bool) (x : ValueTree) (t : Bool) (n : ℤ) → is_on_sets o ≡ t → HasClass o c d k → shape_of_class c ≡ shape_of_class d → shape_of_class d ≡ Some (shape_in (of_powerset m))
    → length as' ≡ values_of m → length bs ≡ values_of m → IsTrue (few_members (values_of m)) → (if t then Some (members (zipped (logic o) as' bs)) else Some (number n)) ≡ Some x → IsTrue (fits_class k x)
sets_result o c d k m as' bs x true n s (truth u e) same shape l r few h = absurd (cc)
sets_result o c d k m as' bs x true n s (theirs t e) same shape l r few h =
    let own : members (zipped (logic o) as' bs) ≡ x = cc in
    sym (ap (fits_class k) own) ∙ members_fit k m (zipped (logic o) as' bs) (their_shape c d k same e ∙ same ∙ shape) (zipped_long (logic o) as' bs (l ∙ sym r) ∙ l) few
sets_result o c d k m as' bs x false n s has same shape l r few h = number_result o c d k x has same (some_number n x h) (λ t. takes_else o c t s)
  where
    takes_else : (o : Operator) (c : ClassTree) → takes o c ≡ true → is_on_sets o ≡ false → IsTrue (of_shape takes_number_in (shape_of_class c))
    takes_else o c t s = split (is_arithmetic o) (is_logic o) (class_is is_int c) (class_is is_boolean c) refl refl (sym (ap (λ (y : Bool). (is_arithmetic o && class_is is_int c) || ((y && class_is is_powerset c) || (is_logic o && class_is is_boolean c))) s) ∙ t)
      where
        split : (a l i b : Bool) → class_is is_int c ≡ i → class_is is_boolean c ≡ b → ((a && i) || (l && b)) ≡ true → IsTrue (of_shape takes_number_in (shape_of_class c))
        split a l true b e g t = class_numbers is_int c int_shape e
        split a l false true e g t = class_numbers is_boolean c boolean_shape g
        split true true false false e g t = absurd (cc)
        split true false false false e g t = absurd (cc)
        split false true false false e g t = absurd (cc)
        split false false false false e g t = absurd (cc)

other_result : (law : CompatibleTestLaw) (o : Operator) (c d k : ClassTree) (v w x : ValueTree) (left right : List ℤ) (f : Option ModeTree) (p : Bool) → AreOperands o c d v w left right → (o ≡ ops.In → ⊥) → class_of_binary o c d ≡ Some k
    → value_of_binary o d v w ≡ Some x → member_mode (form_in d) ≡ f → have_parts (form_in d) ≡ p → IsTrue (fits_class k x)
other_result law o c d k v w x left right (Some m) p a n e h f g =
    let same = compatible_shape c d ((law c d).0 (taken_else o c d n a.taken)) in
    let form = set_form (form_in d) m f in
    let own = sets_taken law o c d m v w left right a n form in
    let set = set_of_class d m w form a.other.fits in
    sets_result o c d k m own.as' own.bs x (is_on_sets o) _ refl (has_class o c d k e) same (class_shape d (of_powerset m) form) own.one.count own.other.count (sym (ap few_members set.size) ∙ set.few)
    (sets_form o own.as' own.bs ∙ own.value ∙ h)
other_result law o c d k v w x left right None true a n e h f g =
    let same = compatible_shape c d ((law c d).0 (taken_else o c d n a.taken)) in
    let own = parts_operands law o c d v w left right a g in
    number_result o c d k x (has_class o c d k e) same (some_number _ x (own.value ∙ h)) (λ t. takes_numbers o c t (no_set_either c d same f))
other_result law o c d k v w x left right None false a n e h f g =
    let same = compatible_shape c d ((law c d).0 (taken_else o c d n a.taken)) in
    let own = number_operands law o c d v w left right a f g in
    number_result o c d k x (has_class o c d k e) same (numbers_number o own.a own.b x (is_arithmetic o) (is_logic o) _ _ (own.value ∙ h)) (λ t. takes_numbers o c t (no_set_either c d same f))

-- the value of an operator is one of its class
pub binary_fits : (law : CompatibleTestLaw) (o : Operator) (c d k : ClassTree) (v w x : ValueTree) (left right : List ℤ) → AreOperands o c d v w left right → class_of_binary o c d ≡ Some k → value_of_binary o d v w ≡ Some x
    → IsTrue (fits_class k x)
binary_fits law o c d k v w x left right a e h = by_operator (is_in_operator o) refl
  where
    by_operator : (b : Bool) → is_in_operator o ≡ b → IsTrue (fits_class k x)
    by_operator true i =
        let own = is_in_yes o i in
        let class : class_of_binary ops.In c d ≡ Some k = ap (λ (y : Operator). class_of_binary y c d) (sym own) ∙ e in
        let given : value_of_binary ops.In d v w ≡ Some x = ap (λ (y : Operator). value_of_binary y d v w) (sym own) ∙ h in
        truth_fits k x (when_is (can_be_member c d) (derived boolean) k class) (some_number _ x given)
    by_operator false i = other_result law o c d k v w x left right (member_mode (form_in d)) (have_parts (form_in d)) a (is_in_no o i) e h refl refl

-- ---- signs, NOT and routines

unary_shape : (c k : ClassTree) (b : Bool) → (if b then their_class c c else None) ≡ Some k → shape_of_class k ≡ shape_of_class c
unary_shape c k true e = their_shape c c k refl e
unary_shape c k false e = absurd (cc)

if_taken : (b : Bool) (t : Option ClassTree) → IsTrue (is_some (if b then t else None)) → IsTrue b
if_taken true t h = refl
if_taken false t h = cc

minus_number : (v x : ValueTree) → value_of_unary prefixes.Minus v ≡ Some x → IsTrue (is_number x)
minus_number (number n) x h = mapped_number _ x h
minus_number (members bs) x h = absurd (cc)
minus_number (parts vs) x h = absurd (cc)

some_is : (x y : ValueTree) → Some x ≡ Some y → x ≡ y
some_is x y e = cc

not_long : (bs : List Bool) → length (map not bs) ≡ length bs
not_long [] = refl
not_long (b ∷ bs) = ap suc (not_long bs)

-- what NOT gives has the shape of what it takes
not_fits : (s : Option Shape) (v x : ValueTree) → IsTrue (fits_in s v) → value_of_unary prefixes.Not v ≡ Some x → IsTrue (fits_in s x)
not_fits s (number n) x f h = sym (ap (λ (y : ValueTree). fits_in s y) (some_is _ x h)) ∙ f
not_fits s (members bs) x f h =
    let own : members (map not bs) ≡ x = cc in
    sym (ap (λ (y : ValueTree). fits_in s y) own) ∙ ap (λ (n : ℕ). of_shape (takes_members_in n) s) (not_long bs) ∙ f
not_fits s (parts vs) x f h = absurd (cc)

pub unary_fits : (o : Prefix) (c k : ClassTree) (v x : ValueTree) (flat : List ℤ) → IsTaken o c v flat → class_of_unary o c ≡ Some k → value_of_unary o v ≡ Some x → IsTrue (fits_class k x)
unary_fits prefixes.Minus c k v x flat t e h =
    number_fits k (shape_of_class c) x (unary_shape c k (class_is is_int c) e) (class_numbers is_int c int_shape (if_taken (class_is is_int c) (their_class c c) t.taken)) (minus_number v x h)
unary_fits prefixes.Not c k v x flat t e h =
    class_fits_shape k x ∙ ap (λ (s : Option Shape). fits_in s x) (unary_shape c k (class_is is_boolean c || class_is is_powerset c) e)
    ∙ not_fits (shape_of_class c) v x (sym (class_fits_shape c v) ∙ t.operand.fits) h

bounded_number : (o : Option Bounds) (n : ℤ) (x : ValueTree) → up_to o n ≡ Some x → IsTrue (is_number x)
bounded_number None n x h = absurd (cc)
bounded_number (Some b) n x h = below (int_le b.high n) h
  where
    below : (t : Bool) → (if t then None else Some (number (n +ℤ pos 1))) ≡ Some x → IsTrue (is_number x)
    below true h = absurd (cc)
    below false h = some_number (n +ℤ pos 1) x h

lower_number : (o : Option Bounds) (n : ℤ) (x : ValueTree) → down_to o n ≡ Some x → IsTrue (is_number x)
lower_number None n x h = absurd (cc)
lower_number (Some b) n x h = above (int_le n b.low) h
  where
    above : (t : Bool) → (if t then None else Some (number (n -ℤ pos 1))) ≡ Some x → IsTrue (is_number x)
    above true h = absurd (cc)
    above false h = some_number (n -ℤ pos 1) x h

-- the number at an offset is one of a mode that has bounds
offset_fits : (f : Option FormTree) (k : ClassTree) (o : Option ℕ) (x : ValueTree) → member_class f ≡ Some k → at_offset (member_bounds f) o ≡ Some x → IsTrue (fits_class k x)
offset_fits (Some (of_powerset m)) k o x e h =
    let own : value m ≡ k = cc in
    let number' = at_number (bounds_of m) o x h in
    sym (ap (λ (y : ClassTree). fits_class y x) own) ∙ number_fits (value m) (Some (shape_of m)) x refl (discrete_shape m number'.0) number'.1
  where
    at_number : (b : Option Bounds) (o : Option ℕ) (x : ValueTree) → at_offset b o ≡ Some x → IsTrue (is_some b) × IsTrue (is_number x)
    at_number (Some b) (Some n) x h = (refl, some_number (b.low +ℤ pos n) x h)
    at_number (Some b) None x h = absurd (cc)
    at_number None o x h = absurd (cc)
offset_fits _ k o x e h = absurd (cc)

when_taken : (b : Bool) (x : ClassTree) → IsTrue (is_some (when b x)) → IsTrue b
when_taken true x h = refl
when_taken false x h = cc

pub routine_fits : (p : Predefined) (c k : ClassTree) (v x : ValueTree) (flat : List ℤ) → IsArgument p c v flat → class_of_routine p c ≡ Some k → value_of_routine p c v ≡ Some x → IsTrue (fits_class k x)
routine_fits num c k (number n) x flat a e h = number_fits k (Some like_int) x (ap shape_of_class (when_is (class_is is_discrete c) (derived int) k e)) refl (some_number n x h)
routine_fits succ c k (number n) x flat a e h =
    number_fits k (shape_of_class c) x (ap shape_of_class (when_is (class_is is_discrete c) c k e)) (class_numbers is_discrete c discrete_form (when_taken (class_is is_discrete c) c a.taken)) (bounded_number _ n x h)
routine_fits pred c k (number n) x flat a e h =
    number_fits k (shape_of_class c) x (ap shape_of_class (when_is (class_is is_discrete c) c k e)) (class_numbers is_discrete c discrete_form (when_taken (class_is is_discrete c) c a.taken)) (lower_number _ n x h)
routine_fits abs c k (number n) x flat a e h =
    number_fits k (shape_of_class c) x (unary_shape c k (class_is is_int c) e) (class_numbers is_int c int_shape (if_taken (class_is is_int c) (their_class c c) a.taken)) (mapped_number _ x h)
routine_fits card c k (members bs) x flat a e h = number_fits k (Some like_int) x (ap shape_of_class (when_is (class_is is_powerset c) (derived int) k e)) refl (some_number _ x h)
routine_fits min c k (members bs) x flat a e h = offset_fits (form_in c) k (least_of bs) x e h
routine_fits max c k (members bs) x flat a e h = offset_fits (form_in c) k (greatest_of bs) x e h
routine_fits _ c k v x flat a e h = absurd (cc)
