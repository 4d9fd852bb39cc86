-- What NOT and the routines give on values that they take.
use Rattle.std.proofs.Common.{◌≡◌, ℕ, suc, ◌+◌, ◌<◌, ◌≤◌, true, false, Bool, List, [], ◌∷◌, length, Option, Some, None, ℤ, pos, refl, ap, sym, ◌∙◌, arith}
use Rattle.std.specs.Prelude.{◌||◌, not, IsTrue, is_some, option_map, if◌then◌else◌, slice_get, nat_le}
use Rattle.chill_tree.specs.declared.tree.expr.Prefix.TheVariants as prefixes
use Rattle.std.proofs.lemmas.Bool.Decides.{nat_tests}
use Rattle.modes.specs.ModeTree.{ModeTree, ClassTree, value, derived, null, nothing}
use Rattle.modes.specs.Form.{FormTree, form_of, of_int, of_boolean, of_char, of_instance, of_set, of_powerset, of_chars, of_array, of_structure, of_meeting}
use Rattle.modes.specs.Bounds.{bounds_of, values_of}
use Rattle.modes.specs.Similar.{Shape}
use Rattle.modes.proofs.SimilarLemmas.{shape_in, shape-form}
use Rattle.scalar_operators.specs.Numbers.{truth_of}
use Rattle.scalar_operators.specs.Members.{has_member_at, complement_of}
use Rattle.checks_model.specs.Alike.{is_int, is_boolean, is_discrete, is_powerset, class_is}
use Rattle.checks_model.specs.Operations.{when, their_class, member_class, class_of_routine, form_in}
use Rattle.checks_model.specs.Ground.{Predefined, num, succ, pred, abs, card, min, max}
use Rattle.checks_model.specs.ValueTrees.{ValueTree, number, members, scalars_in}
use Rattle.checks_model.specs.OperatorValues.{value_of_unary, value_of_routine, truth_value, count_true, least_of, greatest_of, member_bounds, at_offset}
use Rattle.constant_values.specs.Fits.{fits_class, few_members}
use Rattle.constant_values.specs.Sets.{count_below, least_below, greatest_below}
use Rattle.constant_values.specs.Operands.{IsTaken, IsArgument, IsSet, member_mode}
use Rattle.constant_values.proofs.MemberSets.{count_members, least_members, greatest_members}
use Rattle.constant_values.proofs.SetOperators.{told_by, complement_told}
use Rattle.constant_values.proofs.Offsets.{least_less, greatest_less}
use Rattle.constant_values.proofs.ShapeValues.{takes_number_in, fits_in}
use Rattle.constant_values.proofs.OperandValues.{class_shape, fits_as, IsMembers, members_of, IsOneNumber, number_of}

-- a value of a class of powersets
pub set_of_class : (c : ClassTree) (m : ModeTree) (v : ValueTree) → form_in c ≡ Some (of_powerset m) → IsTrue (fits_class c v) → IsMembers (values_of m) v
set_of_class c m v e h = members_of m v (fits_as c (Some (shape_in (of_powerset m))) v (class_shape c (of_powerset m) e) h)

pub complement_value : (c : ClassTree) (m : ModeTree) (v : ValueTree) (size : ℕ) (flat new : List ℤ) → form_in c ≡ Some (of_powerset m) → IsTaken prefixes.Not c v flat → size ≡ values_of m → new ≡ complement_of size flat
    → Some new ≡ option_map scalars_in (value_of_unary prefixes.Not v)
complement_value c m v size flat new e t s n =
    let own = set_of_class c m v e t.operand.fits in
    let set : IsSet own.bs size flat = record { count = own.size ∙ sym s; scalars = sym (ap scalars_in own.is) ∙ t.operand.scalars } in
    ap (λ (l : List ℤ). Some l) (n ∙ complement_told own.bs size flat set) ∙ sym (ap (λ (x : ValueTree). option_map scalars_in (value_of_unary prefixes.Not x)) own.is)

-- ---- routines

pub card_members : (bs : List Bool) (m : ModeTree) (size count : ℕ) (flat : List ℤ) → IsSet bs (values_of m) flat → size ≡ values_of m → count ≡ count_below (λ k. has_member_at k flat) size → count ≡ count_true bs
card_members bs m size count flat s e c = c ∙ ap (count_below (λ k. has_member_at k flat)) (e ∙ sym s.count) ∙ count_members (λ k. has_member_at k flat) bs (told_by bs (values_of m) flat s)

count_step : (b : Bool) (m n : ℕ) → m ≤ n → (if b then 1 else 0) + m ≤ suc n
count_step true m n few = omega (arith, few)
count_step false m n few = omega (arith, few)

pub count_least : (bs : List Bool) → count_true bs ≤ length bs
count_least [] = omega arith
count_least (b ∷ bs) = count_step b (count_true bs) (length bs) (count_least bs)

pub least_told : (bs : List Bool) (m : ModeTree) (size : ℕ) (o : Option ℕ) (flat : List ℤ) → IsSet bs (values_of m) flat → size ≡ values_of m → o ≡ least_below (λ k. has_member_at k flat) size → o ≡ least_of bs
least_told bs m size o flat s e c = c ∙ ap (least_below (λ k. has_member_at k flat)) (e ∙ sym s.count) ∙ least_members (λ k. has_member_at k flat) bs (told_by bs (values_of m) flat s)

pub greatest_told : (bs : List Bool) (m : ModeTree) (size : ℕ) (o : Option ℕ) (flat : List ℤ) → IsSet bs (values_of m) flat → size ≡ values_of m → o ≡ greatest_below (λ k. has_member_at k flat) size → o ≡ greatest_of bs
greatest_told bs m size o flat s e c = c ∙ ap (greatest_below (λ k. has_member_at k flat)) (e ∙ sym s.count) ∙ greatest_members (λ k. has_member_at k flat) bs (told_by bs (values_of m) flat s)

pub least_within : (m : ModeTree) (size : ℕ) (o : Option ℕ) (flat : List ℤ) → size ≡ values_of m → o ≡ least_below (λ k. has_member_at k flat) size → (k : ℕ) → o ≡ Some k → k < values_of m
least_within m size o flat e c k f = let less = least_less (λ k. has_member_at k flat) size k (sym c ∙ f) in omega (arith, less, e)

pub greatest_within : (m : ModeTree) (size : ℕ) (o : Option ℕ) (flat : List ℤ) → size ≡ values_of m → o ≡ greatest_below (λ k. has_member_at k flat) size → (k : ℕ) → o ≡ Some k → k < values_of m
greatest_within m size o flat e c k f = let less = greatest_less (λ k. has_member_at k flat) size k (sym c ∙ f) in omega (arith, less, e)

le_of : (a b : ℕ) → IsTrue (nat_le a b) → a ≤ b
le_of a b h = grind (arith, nat_tests)

pub card_value : (p : Predefined) (c : ClassTree) (bs : List Bool) (m : ModeTree) (size count : ℕ) (flat : List ℤ) (o : Option ℤ) → p ≡ card → IsSet bs (values_of m) flat → size ≡ values_of m
    → count ≡ count_below (λ k. has_member_at k flat) size → IsTrue (few_members (length bs)) → (count ≤ 4294967296 → o ≡ Some (pos count)) → option_map number o ≡ value_of_routine p c (members bs)
card_value p c bs m size count flat o is s e n few told =
    let same = card_members bs m size count flat s e n in
    let most = count_least bs in
    let within = le_of (length bs) 4294967296 few in
    ap (λ (x : Option ℤ). option_map number x) (told (omega (arith, same, most, within))) ∙ ap (λ (x : ℕ). Some (number (pos x))) same ∙ sym (ap (λ (x : Predefined). value_of_routine x c (members bs)) is)

pub least_value : (p : Predefined) (c : ClassTree) (bs : List Bool) (m : ModeTree) (size : ℕ) (k : Option ℕ) (flat : List ℤ) (o : Option ℤ) → p ≡ min → form_in c ≡ Some (of_powerset m) → IsSet bs (values_of m) flat → size ≡ values_of m
    → k ≡ least_below (λ k. has_member_at k flat) size → (((j : ℕ) → k ≡ Some j → j < values_of m) → option_map number o ≡ at_offset (bounds_of m) k) → option_map number o ≡ value_of_routine p c (members bs)
least_value p c bs m size k flat o is f s e n told =
    told (least_within m size k flat e n) ∙ ap (at_offset (bounds_of m)) (least_told bs m size k flat s e n)
    ∙ sym (ap (λ (x : Option FormTree). at_offset (member_bounds x) (least_of bs)) f) ∙ sym (ap (λ (x : Predefined). value_of_routine x c (members bs)) is)

pub greatest_value : (p : Predefined) (c : ClassTree) (bs : List Bool) (m : ModeTree) (size : ℕ) (k : Option ℕ) (flat : List ℤ) (o : Option ℤ) → p ≡ max → form_in c ≡ Some (of_powerset m) → IsSet bs (values_of m) flat → size ≡ values_of m
    → k ≡ greatest_below (λ k. has_member_at k flat) size → (((j : ℕ) → k ≡ Some j → j < values_of m) → option_map number o ≡ at_offset (bounds_of m) k) → option_map number o ≡ value_of_routine p c (members bs)
greatest_value p c bs m size k flat o is f s e n told =
    told (greatest_within m size k flat e n) ∙ ap (at_offset (bounds_of m)) (greatest_told bs m size k flat s e n)
    ∙ sym (ap (λ (x : Option FormTree). at_offset (member_bounds x) (greatest_of bs)) f) ∙ sym (ap (λ (x : Predefined). value_of_routine x c (members bs)) is)

pub set_value : (p : Predefined) (c : ClassTree) (m : ModeTree) (v : ValueTree) (flat : List ℤ) (o : Option ℤ) → form_in c ≡ Some (of_powerset m) → IsArgument p c v flat
    → ((d : ClassTree) (bs : List Bool) → form_in d ≡ Some (of_powerset m) → IsSet bs (values_of m) flat → IsTrue (few_members (length bs)) → option_map number o ≡ value_of_routine p d (members bs))
    → option_map number o ≡ value_of_routine p c v
set_value p c m v flat o e a told =
    let own = set_of_class c m v e a.operand.fits in
    told c own.bs e (record { count = own.size; scalars = sym (ap scalars_in own.is) ∙ a.operand.scalars }) own.few ∙ sym (ap (λ (x : ValueTree). value_of_routine p c x) own.is)

-- ---- a number that a routine takes

when_holds : (b : Bool) (x : ClassTree) → IsTrue (is_some (when b x)) → IsTrue b
when_holds true x h = refl
when_holds false x h = cc

if_holds : (b : Bool) (x : Option ClassTree) → IsTrue (is_some (if b then x else None)) → IsTrue b
if_holds true x h = refl
if_holds false x h = cc

discrete_number : (f : FormTree) → IsTrue (is_discrete f) → IsTrue (takes_number_in (shape_in f))
discrete_number of_int h = refl
discrete_number of_boolean h = refl
discrete_number of_char h = refl
discrete_number (of_set d n) h = refl
discrete_number of_instance h = absurd (cc)
discrete_number (of_powerset m) h = absurd (cc)
discrete_number (of_chars n) h = absurd (cc)
discrete_number (of_array i e how) h = absurd (cc)
discrete_number (of_structure fs p) h = absurd (cc)
discrete_number of_meeting h = absurd (cc)

int_discrete : (f : FormTree) → IsTrue (is_int f) → IsTrue (is_discrete f)
int_discrete of_int h = refl
int_discrete _ h = absurd (cc)

number_of_form : (x : ModeTree) (v : ValueTree) → IsTrue (is_discrete (form_of x)) → IsTrue (fits_in (Some (shape_in (form_of x))) v) → IsOneNumber v
number_of_form x v t h = number_of (shape_in (form_of x)) v (discrete_number (form_of x) t) h

class_number : (c : ClassTree) (v : ValueTree) → IsTrue (class_is is_discrete c) → IsTrue (fits_class c v) → IsOneNumber v
class_number (value x) v t h = number_of_form x v t (fits_as (value x) (Some (shape_in (form_of x))) v (ap (λ (s : Shape). Some s) (shape-form x)) h)
class_number (derived x) v t h = number_of_form x v t (fits_as (derived x) (Some (shape_in (form_of x))) v (ap (λ (s : Shape). Some s) (shape-form x)) h)
class_number null v t h = absurd (cc)
class_number nothing v t h = absurd (cc)

int_of_class : (c : ClassTree) → IsTrue (class_is is_int c) → IsTrue (class_is is_discrete c)
int_of_class (value x) h = int_discrete (form_of x) h
int_of_class (derived x) h = int_discrete (form_of x) h
int_of_class null h = absurd (cc)
int_of_class nothing h = absurd (cc)

set_form : (f : FormTree) → IsTrue (is_powerset f) → member_mode (Some f) ≡ None → ⊥
set_form (of_powerset m) h n = cc
set_form _ h n = cc

set_of_form : (c : ClassTree) → IsTrue (class_is is_powerset c) → member_mode (form_in c) ≡ None → ⊥
set_of_form (value x) h n = set_form (form_of x) h n
set_of_form (derived x) h n = set_form (form_of x) h n
set_of_form null h n = cc
set_of_form nothing h n = cc

no_member_class : (f : Option FormTree) → member_mode f ≡ None → IsTrue (is_some (member_class f)) → ⊥
no_member_class (Some (of_powerset m)) n h = cc
no_member_class _ n h = cc

routine_discrete : (p : Predefined) (c : ClassTree) → member_mode (form_in c) ≡ None → IsTrue (is_some (class_of_routine p c)) → IsTrue (class_is is_discrete c)
routine_discrete num c n h = when_holds (class_is is_discrete c) _ h
routine_discrete succ c n h = when_holds (class_is is_discrete c) c h
routine_discrete pred c n h = when_holds (class_is is_discrete c) c h
routine_discrete abs c n h = int_of_class c (if_holds (class_is is_int c) (their_class c c) h)
routine_discrete card c n h = absurd (set_of_form c (when_holds (class_is is_powerset c) _ h) n)
routine_discrete min c n h = absurd (no_member_class (form_in c) n h)
routine_discrete max c n h = absurd (no_member_class (form_in c) n h)
routine_discrete _ c n h = absurd (cc)

first_number : (v : ValueTree) (flat : List ℤ) (n : ℤ) → IsOneNumber v → scalars_in v ≡ flat → slice_get flat 0 ≡ Some n → v ≡ number n
first_number v flat n one s f =
    let here : slice_get (one.n ∷ []) 0 ≡ Some n = ap (λ (x : ValueTree). slice_get (scalars_in x) 0) (sym one.is) ∙ ap (λ (x : List ℤ). slice_get x 0) s ∙ f in
    let same : one.n ≡ n = cc in one.is ∙ ap number same

pub number_taken : (p : Predefined) (c : ClassTree) (v : ValueTree) (flat : List ℤ) (n : ℤ) → IsArgument p c v flat → member_mode (form_in c) ≡ None → slice_get flat 0 ≡ Some n → v ≡ number n
number_taken p c v flat n a none f = first_number v flat n (class_number c v (routine_discrete p c none a.taken) a.operand.fits) a.operand.scalars f

pub number_missing : (p : Predefined) (c : ClassTree) (v : ValueTree) (flat : List ℤ) → IsArgument p c v flat → member_mode (form_in c) ≡ None → slice_get flat 0 ≡ None → ⊥
number_missing p c v flat a none f =
    let one = class_number c v (routine_discrete p c none a.taken) a.operand.fits in
    let here : Some one.n ≡ None = ap (λ (x : ValueTree). slice_get (scalars_in x) 0) (sym one.is) ∙ ap (λ (x : List ℤ). slice_get x 0) a.operand.scalars ∙ f in cc

-- ---- NOT of a truth value

either : (a b : Bool) (t : Option ClassTree) → IsTrue (is_some (if a || b then t else None)) → (b ≡ true → ⊥) → IsTrue a
either true b t h n = refl
either false true t h n = absurd (n refl)
either false false t h n = cc

boolean_discrete : (f : FormTree) → IsTrue (is_boolean f) → IsTrue (is_discrete f)
boolean_discrete of_boolean h = refl
boolean_discrete _ h = absurd (cc)

boolean_of_class : (c : ClassTree) → IsTrue (class_is is_boolean c) → IsTrue (class_is is_discrete c)
boolean_of_class (value x) h = boolean_discrete (form_of x) h
boolean_of_class (derived x) h = boolean_discrete (form_of x) h
boolean_of_class null h = absurd (cc)
boolean_of_class nothing h = absurd (cc)

-- a truth value before which NOT stands
pub record IsNegated (v : ValueTree) (flat : List ℤ) : Type 0 where
  pub n : ℤ
  pub first : slice_get flat 0 ≡ Some n
  pub value : value_of_unary prefixes.Not v ≡ Some (truth_value (not (truth_of n)))

pub negated_number : (c : ClassTree) (v : ValueTree) (flat : List ℤ) → IsTaken prefixes.Not c v flat → member_mode (form_in c) ≡ None → IsNegated v flat
negated_number c v flat t none =
    let truth : IsTrue (class_is is_boolean c) = either (class_is is_boolean c) (class_is is_powerset c) (their_class c c) t.taken (λ h. set_of_form c h none) in
    let one = class_number c v (boolean_of_class c truth) t.operand.fits in
    record {
      n = one.n;
      first = ap (λ (x : List ℤ). slice_get x 0) (sym t.operand.scalars) ∙ ap (λ (x : ValueTree). slice_get (scalars_in x) 0) one.is;
      value = ap (λ (x : ValueTree). value_of_unary prefixes.Not x) one.is;
    }

-- the scalars of a number that may be there
pub single_scalars : (o : Option ℤ) (w : Option ValueTree) → option_map number o ≡ w → option_map (λ (n : ℤ). n ∷ []) o ≡ option_map scalars_in w
single_scalars None w e = ap (option_map scalars_in) e
single_scalars (Some n) w e = ap (option_map scalars_in) e
