-- An expression of constant form in which nothing is told has a value.
use Rattle.std.proofs.Common.{◌≡◌, ℕ, suc, ◌==◌, ◌&&◌, ◌||◌, Bool, true, false, List, [], ◌∷◌, ◌++◌, Option, Some, None, ℤ, pos, refl, sym, ap, ◌∙◌, subst, arith, true≢false}
use Rattle.std.proofs.lemmas.Int.{ints}
use Rattle.std.specs.Prelude.{IsSome, is_some, option_map, option_and_then, not, nat_lt, neg_ℤ, int_le, if◌then◌else◌}
use Rattle.chill_base.specs.declared.pos.Pos.{Pos}
use Rattle.chill_tree.specs.declared.tree.name.Name.{Name}
use Rattle.chill_tree.specs.declared.tree.expr.Operator.{Operator}
use Rattle.chill_tree.specs.declared.tree.expr.Prefix.{Prefix}
use Rattle.chill_tree.specs.declared.tree.expr.Prefix.TheVariants as prefixes
use Rattle.chill_tree.specs.ExprTree.{ExprTree, ExprNodes, RangeTree, RangeNodes, whole, character, text, this_instance, paren, receive, start, tuple, uniform, name, apply, field, prefixed, binary, no_exprs, more_exprs, alone, between, no_ranges, more_ranges, place_of}
use Rattle.diagnostics.specs.declared.diagnostic.Diagnostic.{Diagnostic}
use Rattle.diagnostics.specs.declared.rule.Rule.TheVariants as rules
use Rattle.scalar_operators.specs.Numbers.{is_int, least_int, greatest_int, where_true}
use Rattle.modes.specs.declared.mode.Bounds.{Bounds}
use Rattle.modes.specs.ModeTree.{ModeTree, ClassTree, derived}
use Rattle.modes.specs.Form.{FormTree, form_of, of_int, of_boolean, of_char, of_instance, of_set, of_powerset, of_chars, of_array, of_structure, of_meeting}
use Rattle.modes.specs.Bounds.{bounds_of, values_of}
use Rattle.checks_model.specs.Told.{tell_at, told_if, then_told, holds_of, holds_of_both}
use Rattle.checks_model.specs.ValueTrees.{ValueTree, number}
use Rattle.checks_model.specs.Ground.{Ground, Predefined, of_mode, truth, no_instance, num, succ, pred, abs, card, min, max, upper, lower, size, put_int, put_text, put_nl, get_int}
use Rattle.checks_model.specs.Operations.{class_of_measure, is_measuring, argument_misfits, operands_misfit, operand_misfits, measured_mode, when}
use Rattle.checks_model.specs.Classes.{class_of, class_of_first, Callee, calls, routine, no_callee, callee_of, Measured, a_mode_of, misfit, other, measured, measured_first, measured_misfits, tuple_mode, shape_fits, uniform_fits, part_mode, mode_of_part, count_exprs}
use Rattle.checks_model.specs.OperatorValues.{in_int, value_of_binary, value_of_unary, value_of_routine, value_of_measure}
use Rattle.checks_model.specs.Constants.{has_form, have_form, range_has_form, are_arguments, is_measured, value_routine, constant_as, constant_of, value_of_first, values_of_ranges, value_of_range, both_ends, behind, applied, literal_in, negated, value_before, value_of_call, value_of_measured, tuple_value, value_of_parts, set_of_ranges, uniform_value, uniform_of}
use Rattle.checks_model.specs.ConstantRules.{Standing, by_itself, in_a_tuple, in_a_synonym, is_by_itself, is_in_synonym, raises, told_as, told_in_each, told_in_ranges, told_in_range, told_before, told_unary, told_binary, told_call, told_literal, told_tuple, told_uniform, told_misfit, told_parts, told_part, ranges_misfit, class_misfits, is_judged, standing_of_parts, told_if_constant, when_routine, misfits_as, some_misfits, one_misfits}
use Rattle.table_laws.specs.Names.{names_in}
use Rattle.class_laws.specs.Known.{HasMode}
use Rattle.elaborated_laws.specs.Known.{IsDeclarable, IsKnownName, AreKnown}
use Rattle.elaborated_laws.proofs.Told.{none_first, none_later, none_inside, none_then, not_broken, not_misfit, not_misfit_rest, not_true, both_left, both_right, neither_left, neither_right, not_above, no_some}
use Rattle.elaborated_laws.proofs.Constants.{class_there, minus_told, constant_told, told_sign, at_call}
use Rattle.elaborated_laws.proofs.Classes.{form_is}
use Rattle.there_laws.specs.Constants.{IsMeasurable, HasConstants, HaveConstants, RangeHasConstants, RangesHaveConstants, IsReceived, FitsSynonym, ConstantThereLaw}
use Rattle.there_laws.proofs.Forms.{HasBounds, has_bounds, part_fits, PartsThere, shape_there}

abbrev pub AllKnown : Ground → Type 0
AllKnown g = (n : Name) → IsKnownName g n

pub each_known : (g : Ground) (ns : List Name) → AllKnown g → AreKnown g ns
each_known g [] known = tt
each_known g (n ∷ ns) known = (known n, each_known g ns known)

-- ---- literals

number_there : (z : ℤ) → is_int z ≡ true → IsSome (in_int z)
number_there z fits = ap (λ b. is_some (option_map number (where_true b z))) fits

literal_there : (at : Pos) (n : ℕ) → told_literal at 2147483647 n ≡ [] → IsSome (in_int (pos n))
literal_there at n none =
    let small = not_above 2147483647 n (not_broken (nat_lt 2147483647 n) (tell_at rules.M11 at) none) in
    let low : int_le least_int (pos n) ≡ true = grind (arith, ints) in
    let high : int_le (pos n) greatest_int ≡ true = grind (arith, ints, small) in
    number_there (pos n) (ap (λ (t : Bool). t && int_le (pos n) greatest_int) low ∙ high)

negative_there : (at : Pos) (n : ℕ) → told_literal at 2147483648 n ≡ [] → IsSome (in_int (neg_ℤ (pos n)))
negative_there at n none =
    let small = not_above 2147483648 n (not_broken (nat_lt 2147483648 n) (tell_at rules.M11 at) none) in
    let low : int_le least_int (neg_ℤ (pos n)) ≡ true = grind (arith, ints, small) in
    let high : int_le (neg_ℤ (pos n)) greatest_int ≡ true = grind (arith, ints) in
    number_there (neg_ℤ (pos n)) (ap (λ (t : Bool). t && int_le (neg_ℤ (pos n)) greatest_int) low ∙ high)

-- ---- what is there of parts that are

applied_there : {A B C : Type 0} (f : A → B → Option C) (a : Option A) (b : Option B) → IsSome a → IsSome b → holds_of (λ x. holds_of (λ y. not (is_some (f x y))) b) a ≡ false → IsSome (applied f a b)
applied_there f (Some a) (Some b) first later fits = not_true (is_some (f a b)) fits
applied_there f None b first later fits = absurd (true≢false (sym first))
applied_there f (Some a) None first later fits = absurd (true≢false (sym later))

ends_there : {A : Type 0} (a b : Option A) → IsSome a → IsSome b → IsSome (both_ends a b)
ends_there (Some a) (Some b) first later = refl
ends_there None b first later = absurd (true≢false (sym first))
ends_there (Some a) None first later = absurd (true≢false (sym later))

behind_there : {A : Type 0} (a : Option A) (b : Option (List A)) → IsSome a → IsSome b → IsSome (behind a b)
behind_there (Some a) (Some b) first later = refl
behind_there None b first later = absurd (true≢false (sym first))
behind_there (Some a) None first later = absurd (true≢false (sym later))

-- ---- signs and operators

unary_there : (o : Prefix) (c : Option ClassTree) (v : Option ValueTree) → IsSome c → IsSome v → (is_some c && holds_of (raises (value_of_unary o)) v) ≡ false → IsSome (option_and_then (value_of_unary o) v)
unary_there o (Some c) (Some v) class there fits = not_true (is_some (value_of_unary o v)) fits
unary_there o None v class there fits = absurd (true≢false (sym class))
unary_there o (Some c) None class there fits = absurd (true≢false (sym there))

binary_there : (o : Operator) (c k : Option ClassTree) (v w : Option ValueTree) → IsSome c → IsSome k → IsSome v → IsSome w
    → (is_some c && holds_of (λ c. holds_of_both (λ v w. raises (value_of_binary o c v) w) v w) k) ≡ false → IsSome (applied (λ c w. option_and_then (λ v. value_of_binary o c v w) v) k w)
binary_there o (Some c) (Some k) (Some v) (Some w) left right first later fits = not_true (is_some (value_of_binary o k v w)) fits
binary_there o None k v w left right first later fits = absurd (true≢false (sym left))
binary_there o (Some c) None v w left right first later fits = absurd (true≢false (sym right))
binary_there o (Some c) (Some k) None w left right first later fits = absurd (true≢false (sym first))
binary_there o (Some c) (Some k) (Some v) None left right first later fits = absurd (true≢false (sym later))

-- an operand has a value and a class
pub record OperandThere (g : Ground) (e : ExprTree) : Type 0 where
  pub value : IsSome (constant_of g e)
  pub class : IsSome (class_of g e)

pub operand_there : (g : Ground) (e : ExprTree) → AllKnown g → told_as g by_itself None e ≡ [] → has_form g false e ≡ true → IsSome (constant_of g e) → OperandThere g e
operand_there g e known clean form value = record { value = value; class = class_there g by_itself false None e (each_known g (names_in e) known) clean form value }

signed_there : (g : Ground) (at : Pos) (o : Prefix) (e : ExprTree) → has_form g false e ≡ true → (told_as g by_itself None e ≡ [] → OperandThere g e) → told_sign g at o e (told_as g by_itself None e) ≡ [] → IsSome (option_and_then (value_of_unary o) (constant_of g e))
signed_there g at o e form operand none =
    let inside = told_as g by_itself None e in
    let at_it = told_if_constant (has_form g false e) (told_unary g at o e) in
    let unary = constant_told (has_form g false e) (told_unary g at o e) form (none_then inside at_it none) in
    let there = operand (none_inside inside at_it none) in
    let raising = is_some (class_of g e) && holds_of (raises (value_of_unary o)) (constant_of g e) in
    unary_there o (class_of g e) (constant_of g e) there.class there.value
    (not_broken raising (tell_at rules.M11 at) (not_misfit_rest (holds_of (operand_misfits o) (class_of g e)) (tell_at rules.M10 at) (told_if raising (tell_at rules.M11 at)) unary))

not_literal : (l : Option ℕ) (v : Option ValueTree) → l ≡ None → IsSome (option_and_then (value_of_unary prefixes.Minus) v) → IsSome (negated l v)
not_literal None v none there = there
not_literal (Some n) v none there = absurd (true≢false (ap is_some none))

-- a minus before what is no literal, and before a literal
minus_there : (g : Ground) (at : Pos) (e : ExprTree) → has_form g false e ≡ true → (told_as g by_itself None e ≡ [] → OperandThere g e) → told_before g at prefixes.Minus e (told_as g by_itself None e) ≡ [] → literal_in e ≡ None → IsSome (negated (literal_in e) (constant_of g e))
minus_there g at e form operand none no_literal = not_literal (literal_in e) (constant_of g e) no_literal (signed_there g at prefixes.Minus e form operand (sym (minus_told g at e (told_as g by_itself None e) no_literal) ∙ none))

sign_there : (g : Ground) (at : Pos) (o : Prefix) (e : ExprTree) → has_form g false e ≡ true → (told_as g by_itself None e ≡ [] → OperandThere g e) → told_before g at o e (told_as g by_itself None e) ≡ [] → IsSome (value_before o e (constant_of g e))
sign_there g at prefixes.Not e form operand none = signed_there g at prefixes.Not e form operand none
sign_there g at prefixes.Minus (whole p n) form operand none = negative_there p n none
sign_there g at prefixes.Minus (character p n) form operand none = minus_there g at (character p n) form operand none refl
sign_there g at prefixes.Minus (text p n) form operand none = minus_there g at (text p n) form operand none refl
sign_there g at prefixes.Minus (this_instance p) form operand none = minus_there g at (this_instance p) form operand none refl
sign_there g at prefixes.Minus (paren p e) form operand none = minus_there g at (paren p e) form operand none refl
sign_there g at prefixes.Minus (receive p n) form operand none = minus_there g at (receive p n) form operand none refl
sign_there g at prefixes.Minus (start p n es) form operand none = minus_there g at (start p n es) form operand none refl
sign_there g at prefixes.Minus (tuple p n b rs) form operand none = minus_there g at (tuple p n b rs) form operand none refl
sign_there g at prefixes.Minus (uniform p n b e) form operand none = minus_there g at (uniform p n b e) form operand none refl
sign_there g at prefixes.Minus (name n) form operand none = minus_there g at (name n) form operand none refl
sign_there g at prefixes.Minus (apply p e es) form operand none = minus_there g at (apply p e es) form operand none refl
sign_there g at prefixes.Minus (field p e n) form operand none = minus_there g at (field p e n) form operand none refl
sign_there g at prefixes.Minus (prefixed p o e) form operand none = minus_there g at (prefixed p o e) form operand none refl
sign_there g at prefixes.Minus (binary p l o q r) form operand none = minus_there g at (binary p l o q r) form operand none refl

-- ---- routines

-- the only argument has a value and a class, where it is one of constant form
record ArgumentThere (g : Ground) (es : ExprNodes) : Type 0 where
  value : IsSome (value_of_first g es)
  class : IsSome (class_of_first g es)

bounds_there : {A B : Type 0} (b : Option A) (f : A → B) (c : ClassTree) → is_some (when (is_some b) c) ≡ true → IsSome (option_map f b)
bounds_there (Some x) f c there = refl
bounds_there None f c there = absurd (true≢false (sym there))

measure_there : (p : Predefined) (m : ModeTree) → is_measuring p ≡ true → IsSome (class_of_measure p m) → IsSome (value_of_measure p m)
measure_there upper m is there = bounds_there (bounds_of (measured_mode m (form_of m))) (λ b. number b.high) (derived (measured_mode m (form_of m))) there
measure_there lower m is there = bounds_there (bounds_of (measured_mode m (form_of m))) (λ b. number b.low) (derived (measured_mode m (form_of m))) there
measure_there size m is there = refl
measure_there (of_mode n) m is there = absurd (true≢false (sym is))
measure_there (truth b) m is there = absurd (true≢false (sym is))
measure_there no_instance m is there = absurd (true≢false (sym is))
measure_there num m is there = absurd (true≢false (sym is))
measure_there succ m is there = absurd (true≢false (sym is))
measure_there pred m is there = absurd (true≢false (sym is))
measure_there abs m is there = absurd (true≢false (sym is))
measure_there card m is there = absurd (true≢false (sym is))
measure_there min m is there = absurd (true≢false (sym is))
measure_there max m is there = absurd (true≢false (sym is))
measure_there put_int m is there = absurd (true≢false (sym is))
measure_there put_text m is there = absurd (true≢false (sym is))
measure_there put_nl m is there = absurd (true≢false (sym is))
measure_there get_int m is there = absurd (true≢false (sym is))

measured_there : (p : Predefined) (m : Measured) (c : Option ClassTree) → is_measuring p ≡ true → IsMeasurable m → (is_measured m ≡ false → IsSome c) → measured_misfits p m c ≡ false → IsSome (value_of_measured p m)
measured_there p (a_mode_of (Some m)) c is known class fits = measure_there p m is (not_true (is_some (class_of_measure p m)) fits)
measured_there p (a_mode_of None) c is known class fits = absurd (true≢false (sym known))
measured_there p misfit c is known class fits = absurd (true≢false fits)
measured_there p other c is known class fits = absurd (true≢false (sym (class refl) ∙ fits))

-- what is asked of a call with its one argument
abbrev rest_of_call : Ground → Pos → Predefined → ExprNodes → Bool → List Diagnostic
rest_of_call g at p es measures =
    if measures then told_if (measured_misfits p (measured_first g es) (class_of_first g es)) (tell_at rules.M10 at)
    else (if holds_of (argument_misfits p) (class_of_first g es) then tell_at rules.M10 at ∷ []
    else told_if (holds_of (λ c. holds_of (raises (value_of_routine p c)) (value_of_first g es)) (class_of_first g es)) (tell_at rules.M11 at))

one_argument : (g : Ground) (at : Pos) (p : Predefined) (es : ExprNodes) → told_call g at p es ≡ [] → (count_exprs es == 1) ≡ true
one_argument g at p es none = not_true (count_exprs es == 1) (not_misfit (not (count_exprs es == 1)) (tell_at rules.M10 at) (rest_of_call g at p es (is_measuring p)) none)

rest_clean : (g : Ground) (at : Pos) (p : Predefined) (es : ExprNodes) → told_call g at p es ≡ [] → rest_of_call g at p es (is_measuring p) ≡ []
rest_clean g at p es none = not_misfit_rest (not (count_exprs es == 1)) (tell_at rules.M10 at) (rest_of_call g at p es (is_measuring p)) none

taking_there : (g : Ground) (at : Pos) (p : Predefined) (es : ExprNodes) → ArgumentThere g es → rest_of_call g at p es false ≡ [] → IsSome (applied (value_of_routine p) (class_of_first g es) (value_of_first g es))
taking_there g at p es argument none =
    let raising = holds_of (λ c. holds_of (raises (value_of_routine p c)) (value_of_first g es)) (class_of_first g es) in
    applied_there (value_of_routine p) (class_of_first g es) (value_of_first g es) argument.class argument.value
    (not_broken raising (tell_at rules.M11 at) (not_misfit_rest (holds_of (argument_misfits p) (class_of_first g es)) (tell_at rules.M10 at) (told_if raising (tell_at rules.M11 at)) none))

-- what is known of the arguments of a routine
record ArgumentsKnown (g : Ground) (es : ExprNodes) : Type 0 where
  measurable : IsMeasurable (measured_first g es)
  taken : (count_exprs es == 1) ≡ true → are_arguments g false es ≡ true → ArgumentThere g es
  measures : (count_exprs es == 1) ≡ true → are_arguments g true es ≡ true → is_measured (measured_first g es) ≡ false → IsSome (class_of_first g es)

taking : (g : Ground) (at : Pos) (p : Predefined) (es : ExprNodes) → ArgumentsKnown g es → is_measuring p ≡ false → are_arguments g false es ≡ true → told_call g at p es ≡ [] → IsSome (applied (value_of_routine p) (class_of_first g es) (value_of_first g es))
taking g at p es known is form none = taking_there g at p es (known.taken (one_argument g at p es none) form) (sym (ap (rest_of_call g at p es) is) ∙ rest_clean g at p es none)

measuring : (g : Ground) (at : Pos) (p : Predefined) (es : ExprNodes) → ArgumentsKnown g es → is_measuring p ≡ true → are_arguments g true es ≡ true → told_call g at p es ≡ [] → IsSome (value_of_measured p (measured_first g es))
measuring g at p es known is form none =
    let misfits = measured_misfits p (measured_first g es) (class_of_first g es) in
    measured_there p (measured_first g es) (class_of_first g es) is known.measurable (known.measures (one_argument g at p es none) form)
    (not_broken misfits (tell_at rules.M10 at) (sym (ap (rest_of_call g at p es) is) ∙ rest_clean g at p es none))

routine_there : (g : Ground) (at : Pos) (p : Predefined) (es : ExprNodes) → ArgumentsKnown g es → when_routine (value_routine (routine p)) (λ p. at_call g at p es) ≡ [] → holds_of (λ p. are_arguments g (is_measuring p) es) (value_routine (routine p)) ≡ true
    → IsSome (value_of_call (value_routine (routine p)) (measured_first g es) (class_of_first g es) (value_of_first g es))
routine_there g at num es known none form = taking g at num es known refl form (constant_told (are_arguments g false es) (told_call g at num es) form none)
routine_there g at succ es known none form = taking g at succ es known refl form (constant_told (are_arguments g false es) (told_call g at succ es) form none)
routine_there g at pred es known none form = taking g at pred es known refl form (constant_told (are_arguments g false es) (told_call g at pred es) form none)
routine_there g at abs es known none form = taking g at abs es known refl form (constant_told (are_arguments g false es) (told_call g at abs es) form none)
routine_there g at card es known none form = taking g at card es known refl form (constant_told (are_arguments g false es) (told_call g at card es) form none)
routine_there g at min es known none form = taking g at min es known refl form (constant_told (are_arguments g false es) (told_call g at min es) form none)
routine_there g at max es known none form = taking g at max es known refl form (constant_told (are_arguments g false es) (told_call g at max es) form none)
routine_there g at upper es known none form = measuring g at upper es known refl form (constant_told (are_arguments g true es) (told_call g at upper es) form none)
routine_there g at lower es known none form = measuring g at lower es known refl form (constant_told (are_arguments g true es) (told_call g at lower es) form none)
routine_there g at size es known none form = measuring g at size es known refl form (constant_told (are_arguments g true es) (told_call g at size es) form none)
routine_there g at (of_mode m) es known none form = absurd (true≢false (sym form))
routine_there g at (truth b) es known none form = absurd (true≢false (sym form))
routine_there g at no_instance es known none form = absurd (true≢false (sym form))
routine_there g at put_int es known none form = absurd (true≢false (sym form))
routine_there g at put_text es known none form = absurd (true≢false (sym form))
routine_there g at put_nl es known none form = absurd (true≢false (sym form))
routine_there g at get_int es known none form = absurd (true≢false (sym form))

called_there : (g : Ground) (at : Pos) (c : Callee) (es : ExprNodes) → ArgumentsKnown g es → when_routine (value_routine c) (λ p. at_call g at p es) ≡ [] → holds_of (λ p. are_arguments g (is_measuring p) es) (value_routine c) ≡ true
    → IsSome (value_of_call (value_routine c) (measured_first g es) (class_of_first g es) (value_of_first g es))
called_there g at (calls n) es known none form = absurd (true≢false (sym form))
called_there g at (routine p) es known none form = routine_there g at p es known none form
called_there g at no_callee es known none form = absurd (true≢false (sym form))

-- ---- tuples

-- a mode is there, and one that a location may have
record IsThere (k : Option ModeTree) : Type 0 where
  there : IsSome k
  fits : (m : ModeTree) → k ≡ Some m → IsDeclarable m

none_alone : (s : Standing) → (not (is_by_itself s) || false) ≡ true → is_by_itself s ≡ false
none_alone by_itself holds = absurd (true≢false (sym holds))
none_alone in_a_tuple holds = refl
none_alone in_a_synonym holds = refl

mode_there : (g : Ground) (s : Standing) (n : Option Name) (m : Option ModeTree) → AllKnown g → HasMode g n → IsReceived s m → (not (is_by_itself s) || is_some n) ≡ true → IsThere (tuple_mode g n m)
mode_there g s (Some n) m known has received head = record { there = has; fits = λ k is. (known n).mode k is }
mode_there g s None m known has received head = record { there = received.there (none_alone s head); fits = received.fits }

-- where the parts of a tuple stand, in which nothing is told
record Parts (told : Standing → List Diagnostic) (own : List Diagnostic) (s : Standing) (n : Option Name) : Type 0 where
  standing : Standing
  apart : is_by_itself standing ≡ false
  clean : told standing ≡ []
  judged : is_in_synonym standing ≡ false → own ≡ []
  unjudged : is_in_synonym standing ≡ true → (n ≡ None) × (is_in_synonym s ≡ true)

judged_parts : (told : Standing → List Diagnostic) (own : List Diagnostic) (s : Standing) (n : Option Name) → then_told (told in_a_tuple) own ≡ [] → Parts told own s n
judged_parts told own s n none = record {
  standing = in_a_tuple;
  apart = refl;
  clean = none_inside (told in_a_tuple) own none;
  judged = λ is. none_then (told in_a_tuple) own none;
  unjudged = λ is. absurd (true≢false (sym is));
}

parts_of : (told : Standing → List Diagnostic) (own : List Diagnostic) (s : Standing) (n : Option Name) (form : Bool) → form ≡ true → (not (is_by_itself s) || is_some n) ≡ true
    → then_told (told (standing_of_parts s n form)) (told_if_constant (is_judged s n form) own) ≡ [] → Parts told own s n
parts_of told own s n false is head none = absurd (true≢false (sym is))
parts_of told own by_itself (Some n) true is head none = judged_parts told own by_itself (Some n) none
parts_of told own by_itself None true is head none = absurd (true≢false (sym head))
parts_of told own in_a_tuple (Some n) true is head none = judged_parts told own in_a_tuple (Some n) none
parts_of told own in_a_tuple None true is head none = judged_parts told own in_a_tuple None none
parts_of told own in_a_synonym (Some n) true is head none = judged_parts told own in_a_synonym (Some n) none
parts_of told own in_a_synonym None true is head none = record {
  standing = in_a_synonym;
  apart = refl;
  clean = none_inside (told in_a_synonym) [] none;
  judged = λ is. absurd (true≢false is);
  unjudged = λ is. (refl, refl);
}

-- the form of its mode
abbrev FitsForm : (FormTree → Bool) → Option ModeTree → Type 0
FitsForm fits k = (m : ModeTree) → k ≡ Some m → fits (form_of m) ≡ true

told_fits : (fits : FormTree → Bool) (k : Option ModeTree) (part_misfits : Bool) (at : Pos) → told_misfit fits k part_misfits at ≡ [] → FitsForm fits k
told_fits fits k part_misfits at none m is =
    not_true (fits (form_of m)) (neither_left (not (fits (form_of m))) part_misfits (ap (holds_of (λ m. not (fits (form_of m)) || part_misfits)) (sym is) ∙ not_broken (holds_of (λ m. not (fits (form_of m)) || part_misfits) k) (tell_at rules.M10 at) none))

held_fits : (fits : FormTree → Bool) (k : Option ModeTree) → holds_of (λ m. not (fits (form_of m))) k ≡ false → FitsForm fits k
held_fits fits k none m is = not_true (fits (form_of m)) (ap (holds_of (λ m. not (fits (form_of m)))) (sym is) ∙ none)

-- each part of some is received
abbrev PartsReceived : Standing → (FormTree → Bool) → ℕ → Option ModeTree → RangeNodes → Type 0
PartsReceived s fits k m no_ranges = Unit {0}
PartsReceived s fits k m (more_ranges r rs) = IsReceived s (mode_of_part fits k m) × PartsReceived s fits (suc k) m rs

part_received : (s : Standing) (fits : FormTree → Bool) (k : ℕ) (m : ModeTree) → IsDeclarable m → fits (form_of m) ≡ true → IsSome (part_mode k (form_of m)) → IsReceived s (mode_of_part fits k (Some m))
part_received s fits k m own fit there =
    let same : mode_of_part fits k (Some m) ≡ part_mode k (form_of m) = ap (λ b. if b then part_mode k (form_of m) else None) fit in
    record { there = λ apart. subst IsSome (sym same) there; fits = λ p is. part_fits (form_of m) k p (form_is m own) (sym same ∙ is) }

parts_received : (s : Standing) (fits : FormTree → Bool) (k : ℕ) (m : ModeTree) (rs : RangeNodes) → IsDeclarable m → fits (form_of m) ≡ true → PartsThere (form_of m) k rs → PartsReceived s fits k (Some m) rs
parts_received s fits k m no_ranges own fit there = tt
parts_received s fits k m (more_ranges r rs) own fit there = (part_received s fits k m own fit there.0, parts_received s fits (suc k) m rs own fit there.1)

tuple_received : (s : Standing) (rs : RangeNodes) (k : Option ModeTree) → IsThere k → FitsForm (shape_fits rs) k → PartsReceived s (shape_fits rs) 0 k rs
tuple_received s rs (Some m) there fit = parts_received s (shape_fits rs) 0 m rs (there.fits m refl) (fit m refl) (shape_there (form_of m) rs (fit m refl))
tuple_received s rs None there fit = absurd (true≢false (sym there.there))

set_there : (ranges : List (ValueTree × ValueTree)) (count : ℕ) (b : Option Bounds) → IsSome b → IsSome (set_of_ranges ranges count b)
set_there ranges count (Some b) there = refl
set_there ranges count None there = absurd (true≢false (sym there))

parts_there : (f : FormTree) (ranges : List (ValueTree × ValueTree)) → HasBounds f → IsSome (value_of_parts f ranges)
parts_there (of_powerset m) ranges bounds = set_there ranges (values_of m) (bounds_of m) bounds
parts_there (of_array i e how) ranges bounds = refl
parts_there (of_structure fs p) ranges bounds = refl
parts_there of_int ranges bounds = refl
parts_there of_boolean ranges bounds = refl
parts_there of_char ranges bounds = refl
parts_there of_instance ranges bounds = refl
parts_there (of_set d n) ranges bounds = refl
parts_there (of_chars n) ranges bounds = refl
parts_there of_meeting ranges bounds = refl

tuple_there : (fits : FormTree → Bool) (k : Option ModeTree) (vs : Option (List (ValueTree × ValueTree))) → IsThere k → FitsForm fits k → IsSome vs → IsSome (tuple_value fits k vs)
tuple_there fits (Some m) (Some vs) there fit values = subst (λ b. IsSome (if b then value_of_parts (form_of m) vs else None)) (sym (fit m refl)) (parts_there (form_of m) vs (has_bounds m (there.fits m refl)))
tuple_there fits None vs there fit values = absurd (true≢false (sym there.there))
tuple_there fits (Some m) None there fit values = absurd (true≢false (sym values))

array_value : (f : FormTree) (v : ValueTree) → uniform_fits f ≡ true → IsSome (uniform_of f v)
array_value (of_array i e how) v fit = refl
array_value of_int v fit = absurd (true≢false (sym fit))
array_value of_boolean v fit = absurd (true≢false (sym fit))
array_value of_char v fit = absurd (true≢false (sym fit))
array_value of_instance v fit = absurd (true≢false (sym fit))
array_value (of_set d n) v fit = absurd (true≢false (sym fit))
array_value (of_powerset e) v fit = absurd (true≢false (sym fit))
array_value (of_chars n) v fit = absurd (true≢false (sym fit))
array_value (of_structure fs p) v fit = absurd (true≢false (sym fit))
array_value of_meeting v fit = absurd (true≢false (sym fit))

array_part : (f : FormTree) → uniform_fits f ≡ true → IsSome (part_mode 0 f)
array_part (of_array i e how) fit = refl
array_part of_int fit = absurd (true≢false (sym fit))
array_part of_boolean fit = absurd (true≢false (sym fit))
array_part of_char fit = absurd (true≢false (sym fit))
array_part of_instance fit = absurd (true≢false (sym fit))
array_part (of_set d n) fit = absurd (true≢false (sym fit))
array_part (of_powerset e) fit = absurd (true≢false (sym fit))
array_part (of_chars n) fit = absurd (true≢false (sym fit))
array_part (of_structure fs p) fit = absurd (true≢false (sym fit))
array_part of_meeting fit = absurd (true≢false (sym fit))

uniform_received : (s : Standing) (k : Option ModeTree) → IsThere k → FitsForm uniform_fits k → IsReceived s (mode_of_part uniform_fits 0 k)
uniform_received s (Some m) there fit = part_received s uniform_fits 0 m (there.fits m refl) (fit m refl) (array_part (form_of m) (fit m refl))
uniform_received s None there fit = absurd (true≢false (sym there.there))

uniform_there : (k : Option ModeTree) (v : Option ValueTree) → IsThere k → FitsForm uniform_fits k → IsSome v → IsSome (uniform_value k v)
uniform_there (Some m) (Some v) there fit value = array_value (form_of m) v (fit m refl)
uniform_there None v there fit value = absurd (true≢false (sym there.there))
uniform_there (Some m) None there fit value = absurd (true≢false (sym value))

-- M12 of an unnamed tuple: of its form and of its parts
tuple_judged : (g : Ground) (n : Option Name) (m : Option ModeTree) (at b : Pos) (rs : RangeNodes) → n ≡ None → misfits_as g m (tuple at n b rs) ≡ false
    → (holds_of (λ m. not (shape_fits rs (form_of m))) (tuple_mode g n m) || some_misfits g (shape_fits rs) 0 (tuple_mode g n m) rs) ≡ false
tuple_judged g None m at b rs is none = none
tuple_judged g (Some n) m at b rs is none = absurd (true≢false (ap is_some is))

uniform_judged : (g : Ground) (n : Option Name) (m : Option ModeTree) (at b : Pos) (e : ExprTree) → n ≡ None → misfits_as g m (uniform at n b e) ≡ false
    → (holds_of (λ m. not (uniform_fits (form_of m))) (tuple_mode g n m) || misfits_as g (mode_of_part uniform_fits 0 (tuple_mode g n m)) e) ≡ false
uniform_judged g None m at b e is none = none
uniform_judged g (Some n) m at b e is none = absurd (true≢false (ap is_some is))

-- the form, whether M10 or M12 tells of it
either_fits : (fits : FormTree → Bool) (k : Option ModeTree) (in_synonym : Bool) → (in_synonym ≡ false → FitsForm fits k) → (in_synonym ≡ true → FitsForm fits k) → FitsForm fits k
either_fits fits k false judged unjudged = judged refl
either_fits fits k true judged unjudged = unjudged refl

-- ---- the law

in_place : (g : Ground) (s : Standing) (e : ExprTree) → is_by_itself s ≡ false → has_form g true e ≡ true → has_form g (not (is_by_itself s)) e ≡ true
in_place g s e apart form = ap (λ b. has_form g (not b) e) apart ∙ form

itself : IsReceived by_itself None
itself = record { there = λ apart. absurd (true≢false apart); fits = λ k is. no_some k is }

never : (g : Ground) (e : ExprTree) → FitsSynonym g by_itself None e
never g e is = absurd (true≢false (sym is))

mutual
  pub constant_there : ConstantThereLaw
  constant_there g s m (whole at n) known has received judged none form = literal_there at n none
  constant_there g s m (character at n) known has received judged none form = refl
  constant_there g s m (text at n) known has received judged none form = refl
  constant_there g s m (this_instance at) known has received judged none form = absurd (true≢false (sym form))
  constant_there g s m (paren at e) known has received judged none form = constant_there g s m e known has received judged none form
  constant_there g s m (receive at n) known has received judged none form = absurd (true≢false (sym form))
  constant_there g s m (start at n es) known has received judged none form = absurd (true≢false (sym form))
  constant_there g s m (tuple at n b rs) known has received judged none form =
      let k = tuple_mode g n m in
      let head = both_left (not (is_by_itself s) || is_some n) (have_form g rs) form in
      let parts_form = both_right (not (is_by_itself s) || is_some n) (have_form g rs) form in
      let there = mode_there g s n m known has.0 received head in
      let parts = parts_of (λ t. told_in_ranges g t (shape_fits rs) 0 k rs) (told_tuple g k rs b) s n (have_form g rs) parts_form head none in
      let misfits = ranges_misfit g (shape_fits rs) 0 k rs in
      let synonym : is_in_synonym parts.standing ≡ true → (holds_of (λ m. not (shape_fits rs (form_of m))) k || some_misfits g (shape_fits rs) 0 k rs) ≡ false
      = λ is. tuple_judged g n m at b rs (parts.unjudged is).0 (judged (parts.unjudged is).1) in
      let fit = either_fits (shape_fits rs) k (is_in_synonym parts.standing) (λ is. told_fits (shape_fits rs) k misfits b (none_first (told_misfit (shape_fits rs) k misfits b) (told_parts g (shape_fits rs) 0 k rs) (parts.judged is)))
      (λ is. held_fits (shape_fits rs) k (neither_left (holds_of (λ m. not (shape_fits rs (form_of m))) k) (some_misfits g (shape_fits rs) 0 k rs) (synonym is))) in
      tuple_there (shape_fits rs) k (values_of_ranges g (shape_fits rs) 0 k rs) there fit
      (ranges_there g parts.standing (shape_fits rs) 0 k rs known has.1 (tuple_received parts.standing rs k there fit) parts.apart
      (λ is. neither_right (holds_of (λ m. not (shape_fits rs (form_of m))) k) (some_misfits g (shape_fits rs) 0 k rs) (synonym is)) parts.clean parts_form)
  constant_there g s m (uniform at n b e) known has received judged none form =
      let k = tuple_mode g n m in
      let part = mode_of_part uniform_fits 0 k in
      let head = both_left (not (is_by_itself s) || is_some n) (has_form g true e) form in
      let part_form = both_right (not (is_by_itself s) || is_some n) (has_form g true e) form in
      let there = mode_there g s n m known has.0 received head in
      let parts = parts_of (λ t. told_as g t part e) (told_uniform g k e b) s n (has_form g true e) part_form head none in
      let misfits = class_misfits g part e in
      let synonym : is_in_synonym parts.standing ≡ true → (holds_of (λ m. not (uniform_fits (form_of m))) k || misfits_as g part e) ≡ false
      = λ is. uniform_judged g n m at b e (parts.unjudged is).0 (judged (parts.unjudged is).1) in
      let fit = either_fits uniform_fits k (is_in_synonym parts.standing) (λ is. told_fits uniform_fits k misfits b (none_first (told_misfit uniform_fits k misfits b) (told_part g part e) (parts.judged is)))
      (λ is. held_fits uniform_fits k (neither_left (holds_of (λ m. not (uniform_fits (form_of m))) k) (misfits_as g part e) (synonym is))) in
      uniform_there k (constant_as g part e) there fit
      (constant_there g parts.standing part e known has.1 (uniform_received parts.standing k there fit) (λ is. neither_right (holds_of (λ m. not (uniform_fits (form_of m))) k) (misfits_as g part e) (synonym is)) parts.clean
      (in_place g parts.standing e parts.apart part_form))
  constant_there g s m (name n) known has received judged none form = has form
  constant_there g s m (apply at e es) known has received judged none form =
      let at_it = when_routine (value_routine (callee_of g e)) (λ p. at_call g (place_of e) p es) in
      let inside = none_later (told_as g by_itself None e) (then_told (told_in_each g es) at_it) none in
      let clean = none_inside (told_in_each g es) at_it inside in
      called_there g (place_of e) (callee_of g e) es (record {
        measurable = has.0;
        taken = λ one arguments. argument_there g es known has.1 clean one arguments;
        measures = λ one arguments is. measured_argument g es known has.1 clean one arguments is;
      })
      (none_then (told_in_each g es) at_it inside) form
  constant_there g s m (field at e n) known has received judged none form = absurd (true≢false (sym form))
  constant_there g s m (prefixed at o e) known has received judged none form = sign_there g at o e form (λ clean. operand_there g e known clean form (constant_there g by_itself None e known has itself (never g e) clean form)) none
  constant_there g s m (binary at l o p r) known has received judged none form =
      let inside = told_as g by_itself None l ++ told_as g by_itself None r in
      let at_it = told_if_constant (has_form g false l && has_form g false r) (told_binary g p o l r) in
      let clean = none_inside inside at_it none in
      let left_clean = none_first (told_as g by_itself None l) (told_as g by_itself None r) clean in
      let right_clean = none_later (told_as g by_itself None l) (told_as g by_itself None r) clean in
      let left_form = both_left (has_form g false l) (has_form g false r) form in
      let right_form = both_right (has_form g false l) (has_form g false r) form in
      let left = operand_there g l known left_clean left_form (constant_there g by_itself None l known has.0 itself (never g l) left_clean left_form) in
      let right = operand_there g r known right_clean right_form (constant_there g by_itself None r known has.1 itself (never g r) right_clean right_form) in
      let raising = is_some (class_of g l) && holds_of (λ c. holds_of_both (λ v w. raises (value_of_binary o c v) w) (constant_of g l) (constant_of g r)) (class_of g r) in
      binary_there o (class_of g l) (class_of g r) (constant_of g l) (constant_of g r) left.class right.class left.value right.value
      (not_broken raising (tell_at rules.M11 p)
      (not_misfit_rest (holds_of_both (operands_misfit o) (class_of g l) (class_of g r)) (tell_at rules.M10 p) (told_if raising (tell_at rules.M11 p)) (constant_told (has_form g false l && has_form g false r) (told_binary g p o l r) form (none_then inside at_it none))))

  argument_there : (g : Ground) (es : ExprNodes) → AllKnown g → HaveConstants g es → told_in_each g es ≡ [] → (count_exprs es == 1) ≡ true → are_arguments g false es ≡ true → ArgumentThere g es
  argument_there g no_exprs known has none one form = absurd (true≢false (sym one))
  argument_there g (more_exprs e es) known has none one form =
      let clean = none_first (told_as g by_itself None e) (told_in_each g es) none in
      let own = both_left (has_form g false e) (are_arguments g false es) form in
      let there = operand_there g e known clean own (constant_there g by_itself None e known has.0 itself (never g e) clean own) in
      record { value = there.value; class = there.class }

  measured_argument : (g : Ground) (es : ExprNodes) → AllKnown g → HaveConstants g es → told_in_each g es ≡ [] → (count_exprs es == 1) ≡ true → are_arguments g true es ≡ true → is_measured (measured_first g es) ≡ false → IsSome (class_of_first g es)
  measured_argument g no_exprs known has none one form is = absurd (true≢false (sym one))
  measured_argument g (more_exprs e es) known has none one form is =
      let clean = none_first (told_as g by_itself None e) (told_in_each g es) none in
      let own = sym (ap (λ b. b || has_form g false e) is) ∙ both_left (is_measured (measured g e) || has_form g false e) (are_arguments g true es) form in
      (operand_there g e known clean own (constant_there g by_itself None e known has.0 itself (never g e) clean own)).class

  ranges_there : (g : Ground) (s : Standing) (fits : FormTree → Bool) (k : ℕ) (m : Option ModeTree) (rs : RangeNodes) → AllKnown g → RangesHaveConstants g rs → PartsReceived s fits k m rs → is_by_itself s ≡ false
      → (is_in_synonym s ≡ true → some_misfits g fits k m rs ≡ false) → told_in_ranges g s fits k m rs ≡ [] → have_form g rs ≡ true → IsSome (values_of_ranges g fits k m rs)
  ranges_there g s fits k m no_ranges known has received apart judged none form = refl
  ranges_there g s fits k m (more_ranges r rs) known has received apart judged none form =
      let part = mode_of_part fits k m in
      behind_there (value_of_range g part r) (values_of_ranges g fits (suc k) m rs)
      (range_there g s part r known has.0 received.0 apart (λ is. neither_left (one_misfits g part r) (some_misfits g fits (suc k) m rs) (judged is)) (none_first (told_in_range g s part r) (told_in_ranges g s fits (suc k) m rs) none) (both_left (range_has_form g r) (have_form g rs) form))
      (ranges_there g s fits (suc k) m rs known has.1 received.1 apart (λ is. neither_right (one_misfits g part r) (some_misfits g fits (suc k) m rs) (judged is)) (none_later (told_in_range g s part r) (told_in_ranges g s fits (suc k) m rs) none) (both_right (range_has_form g r) (have_form g rs) form))

  range_there : (g : Ground) (s : Standing) (m : Option ModeTree) (r : RangeTree) → AllKnown g → RangeHasConstants g r → IsReceived s m → is_by_itself s ≡ false
      → (is_in_synonym s ≡ true → one_misfits g m r ≡ false) → told_in_range g s m r ≡ [] → range_has_form g r ≡ true → IsSome (value_of_range g m r)
  range_there g s m (alone e) known has received apart judged none form = let there = constant_there g s m e known has received judged none (in_place g s e apart form) in ends_there (constant_as g m e) (constant_as g m e) there there
  range_there g s m (between l h) known has received apart judged none form =
      ends_there (constant_as g m l) (constant_as g m h)
      (constant_there g s m l known has.0 received (λ is. neither_left (misfits_as g m l) (misfits_as g m h) (judged is)) (none_first (told_as g s m l) (told_as g s m h) none) (in_place g s l apart (both_left (has_form g true l) (has_form g true h) form)))
      (constant_there g s m h known has.1 received (λ is. neither_right (misfits_as g m l) (misfits_as g m h) (judged is)) (none_later (told_as g s m l) (told_as g s m h) none) (in_place g s h apart (both_right (has_form g true l) (has_form g true h) form)))

-- where it stands by itself
pub alone_there : (g : Ground) (e : ExprTree) → AllKnown g → HasConstants g e → told_as g by_itself None e ≡ [] → has_form g false e ≡ true → IsSome (constant_of g e)
alone_there g e known has none form = constant_there g by_itself None e known has itself (never g e) none form
