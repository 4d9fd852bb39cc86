-- Operators and routines are there where their operands fit, and their operands are values.
use Rattle.std.proofs.Common.{◌≡◌, Bool, true, false, ◌&&◌, ◌||◌, Option, Some, None, ◌⊎◌, inl, inr, refl, sym, ap, ◌∙◌, subst, true≢false}
use Rattle.std.specs.Prelude.{IsSome, not, if◌then◌else◌, option_map, option_and_then}
use Rattle.chill_tree.specs.declared.tree.expr.Operator.{Operator}
use Rattle.chill_tree.specs.declared.tree.expr.Operator.TheVariants as ops
use Rattle.chill_tree.specs.declared.tree.expr.Prefix.{Prefix}
use Rattle.chill_tree.specs.declared.tree.expr.Prefix.TheVariants as prefixes
use Rattle.modes.specs.ModeTree.{ModeTree, ClassTree, value, derived, null, nothing, int, boolean}
use Rattle.modes.specs.Form.{FormTree, form_of, of_int, of_boolean, of_char, of_instance, of_set, of_powerset, of_chars, of_array, of_structure, of_meeting}
use Rattle.modes.specs.Bounds.{bounds_of}
use Rattle.checked_program.specs.declared.expr.Binary.TheVariants as binaries
use Rattle.checked_program.specs.declared.expr.Routine.TheVariants as routines
use Rattle.checks_model.specs.Alike.{is_int, is_boolean, is_powerset, is_discrete, is_meeting, class_is, goes_with, are_compatible, mode_in}
use Rattle.checks_model.specs.Ground.{Predefined, of_mode, truth, no_instance, num, succ, pred, abs, card, min, max, upper, lower, size, put_int, put_text, put_nl, get_int}
use Rattle.checks_model.specs.Operations.{class_of_binary, class_of_unary, class_of_routine, class_of_in, can_be_member, goes_with_member, their_class, takes, has_order, is_arithmetic, is_on_sets, is_logic, is_equality, is_order, form_in, member_class, when}
use Rattle.elaborated_laws.specs.Known.{IsDeclarable}
use Rattle.elaborated_laws.specs.Classes.{HasDeclarable}
use Rattle.elaborated_laws.proofs.Told.{both_left, both_right, no_some, same_some}
use Rattle.there_laws.proofs.Forms.{HasBounds, has_bounds}
use Rattle.elaboration_model.specs.Expressions.{between_sets, between_numbers, member_bounds, by_form, operator_between, class_bounds, routine_on}
use Rattle.expression_laws.specs.Names.{is_of_values}
use Rattle.expression_laws.proofs.Values.{goes_valued, compatible_first, compatible_second, class_valued, declarable_in, discrete_there}

-- ---- tests that hold

pub when_there : {A : Type 0} (b : Bool) (x y : A) → when b x ≡ Some y → b ≡ true
when_there true x y is = refl
when_there false x y is = no_some y is

pub if_there : {A : Type 0} (b : Bool) (x : Option A) (y : A) → (if b then x else None) ≡ Some y → b ≡ true
if_there true x y is = refl
if_there false x y is = no_some y is

pub map_there : {A B : Type 0} (f : A → B) (x : Option A) → IsSome x → IsSome (option_map f x)
map_there f (Some x) there = refl
map_there f None there = absurd (true≢false (sym there))

-- ---- operands of an operator

in_there : (o : Operator) (l r c : ClassTree) → class_of_in o l r ≡ Some c → can_be_member l r ≡ true
in_there ops.In l r c is = when_there (can_be_member l r) (derived boolean) c is
in_there o l r c is = no_some c is

by_tests : (equal ordered fits alike apart has : Bool) (b own c : ClassTree) (theirs member : Option ClassTree)
    → (if equal then when (alike && apart) b else (if ordered then when (alike && has) b else (if fits && alike then theirs else member))) ≡ Some c → (alike ≡ true) ⊎ (member ≡ Some c)
by_tests true ordered fits alike apart has b own c theirs member is = inl (both_left alike apart (when_there (alike && apart) b c is))
by_tests false true fits alike apart has b own c theirs member is = inl (both_left alike has (when_there (alike && has) b c is))
by_tests false false true true apart has b own c theirs member is = inl refl
by_tests false false true false apart has b own c theirs member is = inr is
by_tests false false false alike apart has b own c theirs member is = inr is

-- a class with a form that passes a test
of_its_form : (test : FormTree → Bool) (c : ClassTree) (f : FormTree) → form_in c ≡ Some f → test f ≡ true → class_is test c ≡ true
of_its_form test (value m) f is holds = subst (λ x. test x ≡ true) (sym (same_some (form_of m) f is)) holds
of_its_form test (derived m) f is holds = subst (λ x. test x ≡ true) (sym (same_some (form_of m) f is)) holds
of_its_form test null f is holds = no_some f is
of_its_form test nothing f is holds = no_some f is

-- a class that goes with the members of a powerset
record IsMemberOf (l : ClassTree) (f : Option FormTree) : Type 0 where
  mode : ModeTree
  form : f ≡ Some (of_powerset mode)
  goes : goes_with l mode ≡ true

member_of : (l : ClassTree) (f : Option FormTree) → goes_with_member l f ≡ true → IsMemberOf l f
member_of l (Some (of_powerset m)) goes = record { mode = m; form = refl; goes = goes }
member_of l f goes = absurd (true≢false (sym goes))

member_valued : (l r : ClassTree) → can_be_member l r ≡ true → (is_of_values l ≡ true) × (is_of_values r ≡ true)
member_valued l r fit =
    let is = member_of l (form_in r) fit in
    (goes_valued l is.mode is.goes, class_valued is_powerset r refl (of_its_form is_powerset r (of_powerset is.mode) is.form refl))

pub operands_valued : (o : Operator) (l r c : ClassTree) → class_of_binary o l r ≡ Some c → (is_of_values l ≡ true) × (is_of_values r ≡ true)
operands_valued o l r c is =
    elim (by_tests (is_equality o) (is_order o) (takes o l) (are_compatible l r) (not (class_is is_meeting l || class_is is_meeting r)) (class_is has_order l) (derived boolean) c c (their_class l r) (class_of_in o l r) is) [
      | inl fit ↦ (compatible_first l r fit, compatible_second l r fit)
      | inr member ↦ member_valued l r (in_there o l r c member)
    ]

pub operand_valued : (o : Prefix) (c k : ClassTree) → class_of_unary o c ≡ Some k → is_of_values c ≡ true
operand_valued prefixes.Minus c k is = class_valued is_int c refl (if_there (class_is is_int c) (their_class c c) k is)
operand_valued prefixes.Not c k is = by (class_is is_boolean c) (class_is is_powerset c) refl refl (if_there (class_is is_boolean c || class_is is_powerset c) (their_class c c) k is)
  where
    by : (a b : Bool) → class_is is_boolean c ≡ a → class_is is_powerset c ≡ b → (a || b) ≡ true → is_of_values c ≡ true
    by true b first second either = class_valued is_boolean c refl first
    by false true first second either = class_valued is_powerset c refl second
    by false false first second either = absurd (true≢false (sym either))

-- ---- operators by the forms of their operands

by_both : (o : Operator) (f : Option FormTree) → IsSome (between_sets o) → IsSome (between_numbers o) → IsSome (by_form o f)
by_both o (Some (of_powerset m)) sets numbers = sets
by_both o f sets numbers = numbers

abbrev is_some_powerset : Option FormTree → Bool
is_some_powerset (Some (of_powerset m)) = true
is_some_powerset _ = false

by_numbers : (o : Operator) (f : Option FormTree) → IsSome (between_numbers o) → is_some_powerset f ≡ false → IsSome (by_form o f)
by_numbers o (Some (of_powerset m)) numbers apart = absurd (true≢false apart)
by_numbers o f numbers apart = numbers

int_apart : (f : FormTree) → is_int f ≡ true → is_some_powerset (Some f) ≡ false
int_apart (of_powerset m) is = sym is
int_apart f is = refl

boolean_apart : (f : FormTree) → is_boolean f ≡ true → is_some_powerset (Some f) ≡ false
boolean_apart (of_powerset m) is = sym is
boolean_apart f is = refl

apart_by : (test : FormTree → Bool) → ((f : FormTree) → test f ≡ true → is_some_powerset (Some f) ≡ false) → (c : ClassTree) → class_is test c ≡ true → is_some_powerset (form_in c) ≡ false
apart_by test each (value m) is = each (form_of m) is
apart_by test each (derived m) is = each (form_of m) is
apart_by test each null is = refl
apart_by test each nothing is = refl

taken : (fits alike : Bool) (theirs member : Option ClassTree) (c : ClassTree) → (if fits && alike then theirs else member) ≡ Some c → member ≡ None → fits ≡ true
taken true alike theirs member c is none = refl
taken false alike theirs member c is none = no_some c (sym none ∙ is)

-- what takes root INT alone, and what takes root BOOL alone
int_taken : (a b c : Bool) → ((true && a) || ((false && b) || (false && c))) ≡ true → a ≡ true
int_taken true b c is = refl
int_taken false b c is = is

boolean_taken : (a b c : Bool) → ((false && a) || ((false && b) || (true && c))) ≡ true → c ≡ true
boolean_taken a b c is = is

arithmetic_there : (o : Operator) (l : ClassTree) → IsSome (between_numbers o) → class_is is_int l ≡ true → IsSome (by_form o (form_in l))
arithmetic_there o l numbers is = by_numbers o (form_in l) numbers (apart_by is_int int_apart l is)

logic_there : (o : Operator) (l : ClassTree) → IsSome (between_numbers o) → class_is is_boolean l ≡ true → IsSome (by_form o (form_in l))
logic_there o l numbers is = by_numbers o (form_in l) numbers (apart_by is_boolean boolean_apart l is)

pub bounds_there : (c : ClassTree) (f : FormTree) → HasDeclarable c → form_in c ≡ Some f → HasBounds f
bounds_there (value m) f fits is = subst HasBounds (same_some (form_of m) f is) (has_bounds m fits)
bounds_there (derived m) f fits is = subst HasBounds (same_some (form_of m) f is) (has_bounds m fits)
bounds_there null f fits is = no_some f is
bounds_there nothing f fits is = no_some f is

members_there : (c : ClassTree) (m : ModeTree) → HasDeclarable c → form_in c ≡ Some (of_powerset m) → IsSome (member_bounds (form_in c))
members_there c m fits is = subst (λ f. IsSome (member_bounds f)) (sym is) (bounds_there c (of_powerset m) fits is)

pub operator_there : (o : Operator) (l r c : ClassTree) → HasDeclarable r → class_of_binary o l r ≡ Some c → IsSome (operator_between o l r)
operator_there ops.Equal l r c fits is = refl
operator_there ops.NotEqual l r c fits is = refl
operator_there ops.In l r c fits is = let member = member_of l (form_in r) (in_there ops.In l r c is) in map_there binaries.Member (member_bounds (form_in r)) (members_there r member.mode fits member.form)
operator_there ops.Or l r c fits is = by_both ops.Or (form_in l) refl refl
operator_there ops.Xor l r c fits is = by_both ops.Xor (form_in l) refl refl
operator_there ops.And l r c fits is = by_both ops.And (form_in l) refl refl
operator_there ops.Less l r c fits is = by_both ops.Less (form_in l) refl refl
operator_there ops.LessOrEqual l r c fits is = by_both ops.LessOrEqual (form_in l) refl refl
operator_there ops.Greater l r c fits is = by_both ops.Greater (form_in l) refl refl
operator_there ops.GreaterOrEqual l r c fits is = by_both ops.GreaterOrEqual (form_in l) refl refl
operator_there ops.Minus l r c fits is = by_both ops.Minus (form_in l) refl refl
operator_there ops.OrIf l r c fits is = logic_there ops.OrIf l refl (boolean_taken (class_is is_int l) (class_is is_powerset l) (class_is is_boolean l) (taken (takes ops.OrIf l) (are_compatible l r) (their_class l r) None c is refl))
operator_there ops.AndIf l r c fits is = logic_there ops.AndIf l refl (boolean_taken (class_is is_int l) (class_is is_powerset l) (class_is is_boolean l) (taken (takes ops.AndIf l) (are_compatible l r) (their_class l r) None c is refl))
operator_there ops.Plus l r c fits is = arithmetic_there ops.Plus l refl (int_taken (class_is is_int l) (class_is is_powerset l) (class_is is_boolean l) (taken (takes ops.Plus l) (are_compatible l r) (their_class l r) None c is refl))
operator_there ops.Times l r c fits is = arithmetic_there ops.Times l refl (int_taken (class_is is_int l) (class_is is_powerset l) (class_is is_boolean l) (taken (takes ops.Times l) (are_compatible l r) (their_class l r) None c is refl))
operator_there ops.Divide l r c fits is = arithmetic_there ops.Divide l refl (int_taken (class_is is_int l) (class_is is_powerset l) (class_is is_boolean l) (taken (takes ops.Divide l) (are_compatible l r) (their_class l r) None c is refl))
operator_there ops.Mod l r c fits is = arithmetic_there ops.Mod l refl (int_taken (class_is is_int l) (class_is is_powerset l) (class_is is_boolean l) (taken (takes ops.Mod l) (are_compatible l r) (their_class l r) None c is refl))
operator_there ops.Rem l r c fits is = arithmetic_there ops.Rem l refl (int_taken (class_is is_int l) (class_is is_powerset l) (class_is is_boolean l) (taken (takes ops.Rem l) (are_compatible l r) (their_class l r) None c is refl))

-- ---- routines

member_form : (f : Option FormTree) (c : ClassTree) → member_class f ≡ Some c → (m : ModeTree) × (f ≡ Some (of_powerset m))
member_form (Some (of_powerset m)) c is = (m, refl)
member_form f c is = no_some c is

bounded : (c : ClassTree) → HasDeclarable c → class_is is_discrete c ≡ true → IsSome (class_bounds c)
bounded (value m) fits is = discrete_there m fits is
bounded (derived m) fits is = discrete_there m fits is
bounded null fits is = absurd (true≢false (sym is))
bounded nothing fits is = absurd (true≢false (sym is))

-- a routine of one value whose argument fits
pub record RoutineThere (p : Predefined) (d : ClassTree) : Type 0 where
  pub made : IsSome (routine_on p d)
  pub valued : is_of_values d ≡ true

pub routine_there : (p : Predefined) (d c : ClassTree) → HasDeclarable d → class_of_routine p d ≡ Some c → RoutineThere p d
routine_there num d c fits is = record { made = refl; valued = class_valued is_discrete d refl (when_there (class_is is_discrete d) (derived int) c is) }
routine_there succ d c fits is = let discrete = when_there (class_is is_discrete d) d c is in record { made = map_there (λ b. routines.Successor b.high) (class_bounds d) (bounded d fits discrete); valued = class_valued is_discrete d refl discrete }
routine_there pred d c fits is = let discrete = when_there (class_is is_discrete d) d c is in record { made = map_there (λ b. routines.Predecessor b.low) (class_bounds d) (bounded d fits discrete); valued = class_valued is_discrete d refl discrete }
routine_there abs d c fits is = record { made = refl; valued = class_valued is_int d refl (if_there (class_is is_int d) (their_class d d) c is) }
routine_there card d c fits is = record { made = refl; valued = class_valued is_powerset d refl (when_there (class_is is_powerset d) (derived int) c is) }
routine_there min d c fits is = let m = member_form (form_in d) c is in record { made = map_there (λ b. routines.Least b.low) (member_bounds (form_in d)) (members_there d m.0 fits m.1); valued = class_valued is_powerset d refl (of_its_form is_powerset d (of_powerset m.0) m.1 refl) }
routine_there max d c fits is = let m = member_form (form_in d) c is in record { made = map_there (λ b. routines.Greatest b.low) (member_bounds (form_in d)) (members_there d m.0 fits m.1); valued = class_valued is_powerset d refl (of_its_form is_powerset d (of_powerset m.0) m.1 refl) }
routine_there p d c fits is = no_some c is
