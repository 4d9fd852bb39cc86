-- A constant in which nothing is told, and which has a value, has a class.
use Rattle.std.proofs.Common.{◌≡◌, Bool, true, false, List, [], ◌∷◌, ◌++◌, Option, Some, None, true≢false, ◌⊎◌, inl, inr, refl, sym, ap, ◌∙◌, subst}
use Rattle.std.specs.Prelude.{ℕ, IsSome, is_some, option_map, option_and_then, not, ◌==◌, ◌&&◌, if◌then◌else◌}
use Rattle.chill_base.specs.declared.pos.Pos.{Pos}
use Rattle.chill_tree.specs.declared.tree.expr.Operator.{Operator}
use Rattle.chill_tree.specs.declared.tree.expr.Prefix.{Prefix}
use Rattle.chill_tree.specs.declared.tree.expr.Prefix.TheVariants as prefixes
use Rattle.chill_tree.specs.ExprTree.{ExprTree, ExprNodes, whole, character, text, this_instance, paren, receive, start, tuple, uniform, name, apply, field, prefixed, binary, no_exprs, more_exprs, place_of}
use Rattle.modes.specs.ModeTree.{ModeTree, ClassTree, value, derived, int}
use Rattle.modes.specs.Form.{FormTree, form_of, of_int, of_boolean, of_char, of_instance, of_set, of_powerset, of_chars, of_array, of_structure, of_meeting}
use Rattle.diagnostics.specs.declared.diagnostic.Diagnostic.{Diagnostic}
use Rattle.diagnostics.specs.declared.rule.Rule.TheVariants as rules
use Rattle.checks_model.specs.Told.{tell_at, told_if, then_told, holds_of, holds_of_both}
use Rattle.checks_model.specs.ValueTrees.{ValueTree}
use Rattle.checks_model.specs.Ground.{Ground, Predefined, of_mode, truth, no_instance, num, succ, pred, abs, card, min, max, upper, lower, size, put_int, put_text, put_nl, get_int}
use Rattle.checks_model.specs.Operations.{class_of_binary, class_of_unary, class_of_routine, class_of_measure, is_measuring, argument_misfits, operands_misfit, operand_misfits, when}
use Rattle.checks_model.specs.Classes.{class_as, class_of, class_of_first, class_behind, class_of_call, class_of_measured, both_classes, result_class, Callee, calls, routine, no_callee, callee_of, Measured, a_mode_of, misfit, other, measured_first, measured_misfits, tuple_mode, value_if, shape_fits, uniform_fits, mode_of_part, count_exprs}
use Rattle.checks_model.specs.OperatorValues.{value_of_binary, value_of_unary, value_of_routine}
use Rattle.checks_model.specs.Constants.{has_form, are_arguments, value_routine, constant_as, constant_of, value_of_first, values_of_ranges, applied, literal_in, negated, value_before, value_of_call, value_of_measured, tuple_value, value_of_parts, uniform_value, uniform_of}
use Rattle.checks_model.specs.ConstantRules.{Standing, by_itself, raises, told_as, told_in_each, told_before, told_unary, told_binary, told_call, told_if_constant, when_routine}
use Rattle.chill_tree.specs.declared.tree.name.Name.{Name}
use Rattle.table_laws.specs.Names.{names_in}
use Rattle.elaborated_laws.specs.Known.{AreKnown}
use Rattle.elaborated_laws.specs.Constants.{ConstantClassLaw}
use Rattle.elaborated_laws.proofs.Told.{none_first, none_later, none_inside, none_then, not_broken, not_misfit, not_misfit_rest, not_true, both_left, both_right}

-- ---- names

pub known_first : (g : Ground) (ns ks : List Name) → AreKnown g (ns ++ ks) → AreKnown g ns
known_first g [] ks known = tt
known_first g (n ∷ ns) ks known = (known.0, known_first g ns ks known.1)

pub known_later : (g : Ground) (ns ks : List Name) → AreKnown g (ns ++ ks) → AreKnown g ks
known_later g [] ks known = known
known_later g (n ∷ ns) ks known = known_later g ns ks known.1

-- ---- tuples

fit_some : {A : Type 0} (b : Bool) (m : ModeTree) (x : Option A) → IsSome (if b then x else None) → IsSome (when b (value m))
fit_some true m x there = refl
fit_some false m x there = absurd (true≢false (sym there))

tuple_there : (fits : FormTree → Bool) (m : Option ModeTree) (rs : Option (List (ValueTree × ValueTree))) → IsSome (tuple_value fits m rs) → IsSome (option_and_then (value_if fits) m)
tuple_there fits (Some m) (Some rs) there = fit_some (fits (form_of m)) m (value_of_parts (form_of m) rs) there
tuple_there fits (Some m) None there = absurd (true≢false (sym there))
tuple_there fits None (Some rs) there = absurd (true≢false (sym there))
tuple_there fits None None there = absurd (true≢false (sym there))

array_some : (m : ModeTree) (f : FormTree) (v : ValueTree) → IsSome (uniform_of f v) → IsSome (when (uniform_fits f) (value m))
array_some m (of_array i e how) v there = refl
array_some m of_int v there = absurd (true≢false (sym there))
array_some m of_boolean v there = absurd (true≢false (sym there))
array_some m of_char v there = absurd (true≢false (sym there))
array_some m of_instance v there = absurd (true≢false (sym there))
array_some m (of_set d n) v there = absurd (true≢false (sym there))
array_some m (of_powerset e) v there = absurd (true≢false (sym there))
array_some m (of_chars n) v there = absurd (true≢false (sym there))
array_some m (of_structure fs p) v there = absurd (true≢false (sym there))
array_some m of_meeting v there = absurd (true≢false (sym there))

uniform_there : (m : Option ModeTree) (v : Option ValueTree) → IsSome (uniform_value m v) → IsSome (option_and_then (value_if uniform_fits) m)
uniform_there (Some m) (Some v) there = array_some m (form_of m) v there
uniform_there (Some m) None there = absurd (true≢false (sym there))
uniform_there None (Some v) there = absurd (true≢false (sym there))
uniform_there None None there = absurd (true≢false (sym there))

-- ---- what operands have

first_there : {A B C : Type 0} (f : A → B → Option C) (a : Option A) (b : Option B) → IsSome (applied f a b) → IsSome a
first_there f (Some a) (Some b) there = refl
first_there f (Some a) None there = refl
first_there f None (Some b) there = absurd (true≢false (sym there))
first_there f None None there = absurd (true≢false (sym there))

chained_there : {A B : Type 0} (f : A → Option B) (x : Option A) → IsSome (option_and_then f x) → IsSome x
chained_there f (Some x) there = refl
chained_there f None there = absurd (true≢false (sym there))

left_there : {A B C D : Type 0} (f : A → C → B → Option D) (x : Option C) (a : Option A) (b : Option B) → IsSome (applied (λ a b. option_and_then (λ c. f a c b) x) a b) → IsSome x
left_there f x (Some a) (Some b) there = chained_there (λ c. f a c b) x there
left_there f x (Some a) None there = absurd (true≢false (sym there))
left_there f x None (Some b) there = absurd (true≢false (sym there))
left_there f x None None there = absurd (true≢false (sym there))

unary_there : (o : Prefix) (c : Option ClassTree) → IsSome c → holds_of (operand_misfits o) c ≡ false → IsSome (option_and_then (class_of_unary o) c)
unary_there o (Some c) there fits = not_true (is_some (class_of_unary o c)) fits
unary_there o None there fits = absurd (true≢false (sym there))

binary_there : (o : Operator) (c k : Option ClassTree) → IsSome c → IsSome k → holds_of_both (operands_misfit o) c k ≡ false → IsSome (both_classes (class_of_binary o) c k)
binary_there o (Some c) (Some k) left right fits = not_true (is_some (class_of_binary o c k)) fits
binary_there o None k left right fits = absurd (true≢false (sym left))
binary_there o (Some c) None left right fits = absurd (true≢false (sym right))

-- ---- routines

measure_there : (p : Predefined) (m : Measured) (c : Option ClassTree) → IsSome (value_of_measured p m) → measured_misfits p m c ≡ false → IsSome (class_of_measured p m)
measure_there p (a_mode_of (Some m)) c there fits = not_true (is_some (class_of_measure p m)) fits
measure_there p (a_mode_of None) c there fits = absurd (true≢false (sym there))
measure_there p misfit c there fits = absurd (true≢false (sym there))
measure_there p other c there fits = absurd (true≢false (sym there))

value_there : (p : Predefined) (c : Option ClassTree) → IsSome c → holds_of (λ c. not (is_some (class_of_routine p c))) c ≡ false → IsSome (option_and_then (class_of_routine p) c)
value_there p (Some c) there fits = not_true (is_some (class_of_routine p c)) fits
value_there p None there fits = absurd (true≢false (sym there))

pub constant_told : (b : Bool) (told : List Diagnostic) → b ≡ true → told_if_constant b told ≡ [] → told ≡ []
constant_told true told is none = none
constant_told false told is none = absurd (true≢false (sym is))

-- what is told at a call of a routine with its arguments
abbrev pub at_call : Ground → Pos → Predefined → ExprNodes → List Diagnostic
at_call g at p es = told_if_constant (are_arguments g (is_measuring p) es) (told_call g at p es)

-- that nothing is told of a routine's argument, where it is measured and where it is a value
measured_fits : (g : Ground) (at : Pos) (p : Predefined) (es : ExprNodes) → is_measuring p ≡ true → told_call g at p es ≡ [] → measured_misfits p (measured_first g es) (class_of_first g es) ≡ false
measured_fits g at p es measures none = by_case (is_measuring p) measures (not_misfit_rest (not (count_exprs es == 1)) (tell_at rules.M10 at) (rest (is_measuring p)) none)
  where
    rest : Bool → List Diagnostic
    rest b =
        if b then told_if (measured_misfits p (measured_first g es) (class_of_first g es)) (tell_at rules.M10 at)
        else (if holds_of (argument_misfits p) (class_of_first g es) then tell_at rules.M10 at ∷ []
        else told_if (holds_of (λ c. holds_of (raises (value_of_routine p c)) (value_of_first g es)) (class_of_first g es)) (tell_at rules.M11 at))

    by_case : (b : Bool) → b ≡ true → rest b ≡ [] → measured_misfits p (measured_first g es) (class_of_first g es) ≡ false
    by_case true is none = not_broken (measured_misfits p (measured_first g es) (class_of_first g es)) (tell_at rules.M10 at) none
    by_case false is none = absurd (true≢false (sym is))

value_fits : (wrong misfits : Bool) (d e : Diagnostic) (rest : List Diagnostic) → (if wrong then d ∷ [] else (if misfits then e ∷ [] else rest)) ≡ [] → misfits ≡ false
value_fits wrong misfits d e rest none = not_misfit misfits e rest (not_misfit_rest wrong d (if misfits then e ∷ [] else rest) none)

measuring_there : (g : Ground) (at : Pos) (p : Predefined) (es : ExprNodes) → is_measuring p ≡ true → told_call g at p es ≡ [] → IsSome (value_of_measured p (measured_first g es)) → IsSome (class_of_measured p (measured_first g es))
measuring_there g at p es measures none there = measure_there p (measured_first g es) (class_of_first g es) there (measured_fits g at p es measures none)

-- of a value routine, which takes a value
taken_there : (g : Ground) (at : Pos) (p : Predefined) (es : ExprNodes) (more : List Diagnostic)
    → (if not (count_exprs es == 1) then tell_at rules.M10 at ∷ [] else (if holds_of (λ c. not (is_some (class_of_routine p c))) (class_of_first g es) then tell_at rules.M10 at ∷ [] else more)) ≡ []
    → IsSome (applied (value_of_routine p) (class_of_first g es) (value_of_first g es)) → IsSome (option_and_then (class_of_routine p) (class_of_first g es))
taken_there g at p es more none there =
    value_there p (class_of_first g es) (first_there (value_of_routine p) (class_of_first g es) (value_of_first g es) there)
    (value_fits (not (count_exprs es == 1)) (holds_of (λ c. not (is_some (class_of_routine p c))) (class_of_first g es)) (tell_at rules.M10 at) (tell_at rules.M10 at) more none)

abbrev raised : Ground → Pos → Predefined → ExprNodes → List Diagnostic
raised g at p es = told_if (holds_of (λ c. holds_of (raises (value_of_routine p c)) (value_of_first g es)) (class_of_first g es)) (tell_at rules.M11 at)

routine_there : (g : Ground) (at : Pos) (p : Predefined) (es : ExprNodes) → when_routine (value_routine (routine p)) (λ p. at_call g at p es) ≡ [] → holds_of (λ p. are_arguments g (is_measuring p) es) (value_routine (routine p)) ≡ true
    → IsSome (value_of_call (value_routine (routine p)) (measured_first g es) (class_of_first g es) (value_of_first g es)) → IsSome (class_of_call p (measured_first g es) (class_of_first g es))
routine_there g at num es none form there = taken_there g at num es (raised g at num es) (constant_told (are_arguments g false es) (told_call g at num es) form none) there
routine_there g at succ es none form there = taken_there g at succ es (raised g at succ es) (constant_told (are_arguments g false es) (told_call g at succ es) form none) there
routine_there g at pred es none form there = taken_there g at pred es (raised g at pred es) (constant_told (are_arguments g false es) (told_call g at pred es) form none) there
routine_there g at abs es none form there = taken_there g at abs es (raised g at abs es) (constant_told (are_arguments g false es) (told_call g at abs es) form none) there
routine_there g at card es none form there = taken_there g at card es (raised g at card es) (constant_told (are_arguments g false es) (told_call g at card es) form none) there
routine_there g at min es none form there = taken_there g at min es (raised g at min es) (constant_told (are_arguments g false es) (told_call g at min es) form none) there
routine_there g at max es none form there = taken_there g at max es (raised g at max es) (constant_told (are_arguments g false es) (told_call g at max es) form none) there
routine_there g at upper es none form there = measuring_there g at upper es refl (constant_told (are_arguments g true es) (told_call g at upper es) form none) there
routine_there g at lower es none form there = measuring_there g at lower es refl (constant_told (are_arguments g true es) (told_call g at lower es) form none) there
routine_there g at size es none form there = measuring_there g at size es refl (constant_told (are_arguments g true es) (told_call g at size es) form none) there
routine_there g at (of_mode m) es none form there = absurd (true≢false (sym form))
routine_there g at (truth b) es none form there = absurd (true≢false (sym form))
routine_there g at no_instance es none form there = absurd (true≢false (sym form))
routine_there g at put_int es none form there = absurd (true≢false (sym form))
routine_there g at put_text es none form there = absurd (true≢false (sym form))
routine_there g at put_nl es none form there = absurd (true≢false (sym form))
routine_there g at get_int es none form there = absurd (true≢false (sym form))

called_there : (g : Ground) (at : Pos) (c : Callee) (result base : Option ClassTree) (es : ExprNodes) → when_routine (value_routine c) (λ p. at_call g at p es) ≡ [] → holds_of (λ p. are_arguments g (is_measuring p) es) (value_routine c) ≡ true
    → IsSome (value_of_call (value_routine c) (measured_first g es) (class_of_first g es) (value_of_first g es)) → IsSome (class_behind c result base (measured_first g es) (class_of_first g es))
called_there g at (calls n) result base es none form there = absurd (true≢false (sym form))
called_there g at (routine p) result base es none form there = routine_there g at p es none form there
called_there g at no_callee result base es none form there = absurd (true≢false (sym form))

-- ---- signs

-- a literal, which makes one number with a minus, or no literal
pub literal_or_not : (g : Ground) (e : ExprTree) → (literal_in e ≡ None) ⊎ (class_of g e ≡ Some (derived int))
literal_or_not g (whole at n) = inr refl
literal_or_not g (character at n) = inl refl
literal_or_not g (text at n) = inl refl
literal_or_not g (this_instance at) = inl refl
literal_or_not g (paren at e) = inl refl
literal_or_not g (receive at n) = inl refl
literal_or_not g (start at n es) = inl refl
literal_or_not g (tuple at n b rs) = inl refl
literal_or_not g (uniform at n b e) = inl refl
literal_or_not g (name n) = inl refl
literal_or_not g (apply at e es) = inl refl
literal_or_not g (field at e n) = inl refl
literal_or_not g (prefixed at o e) = inl refl
literal_or_not g (binary at l o p r) = inl refl

abbrev pub told_sign : Ground → Pos → Prefix → ExprTree → List Diagnostic → List Diagnostic
told_sign g at o e inside = then_told inside (told_if_constant (has_form g false e) (told_unary g at o e))

pub minus_told : (g : Ground) (at : Pos) (e : ExprTree) (inside : List Diagnostic) → literal_in e ≡ None → told_before g at prefixes.Minus e inside ≡ told_sign g at prefixes.Minus e inside
minus_told g at (whole p n) inside none = absurd (true≢false (ap is_some none))
minus_told g at (character p n) inside none = refl
minus_told g at (text p n) inside none = refl
minus_told g at (this_instance p) inside none = refl
minus_told g at (paren p e) inside none = refl
minus_told g at (receive p n) inside none = refl
minus_told g at (start p n es) inside none = refl
minus_told g at (tuple p n b rs) inside none = refl
minus_told g at (uniform p n b e) inside none = refl
minus_told g at (name n) inside none = refl
minus_told g at (apply p e es) inside none = refl
minus_told g at (field p e n) inside none = refl
minus_told g at (prefixed p o e) inside none = refl
minus_told g at (binary p l o q r) inside none = refl

negated_there : (l : Option ℕ) (v : Option ValueTree) → l ≡ None → IsSome (negated l v) → IsSome v
negated_there None v none there = chained_there (value_of_unary prefixes.Minus) v there
negated_there (Some n) v none there = absurd (true≢false (ap is_some none))

-- what is known of an operand: in it nothing is told, and where it has a value it has a class
record Operand (g : Ground) (e : ExprTree) : Type 0 where
  form : has_form g false e ≡ true
  class : told_as g by_itself None e ≡ [] → IsSome (constant_of g e) → IsSome (class_of g e)

signed_there : (g : Ground) (at : Pos) (o : Prefix) (e : ExprTree) → Operand g e → told_sign g at o e (told_as g by_itself None e) ≡ [] → IsSome (constant_of g e) → IsSome (option_and_then (class_of_unary o) (class_of g e))
signed_there g at o e operand none there =
    let inside = told_as g by_itself None e in
    let unary = constant_told (has_form g false e) (told_unary g at o e) operand.form (none_then inside (told_if_constant (has_form g false e) (told_unary g at o e)) none) in
    let raising = told_if (is_some (class_of g e) && holds_of (raises (value_of_unary o)) (constant_of g e)) (tell_at rules.M11 at) in
    unary_there o (class_of g e) (operand.class (none_inside inside (told_if_constant (has_form g false e) (told_unary g at o e)) none) there)
    (not_misfit (holds_of (operand_misfits o) (class_of g e)) (tell_at rules.M10 at) raising unary)

sign_there : (g : Ground) (at : Pos) (o : Prefix) (e : ExprTree) → Operand g e → told_before g at o e (told_as g by_itself None e) ≡ [] → IsSome (value_before o e (constant_of g e)) → IsSome (option_and_then (class_of_unary o) (class_of g e))
sign_there g at prefixes.Not e operand none there = signed_there g at prefixes.Not e operand none (chained_there (value_of_unary prefixes.Not) (constant_of g e) there)
sign_there g at prefixes.Minus e operand none there = elim (literal_or_not g e) [
  | inl no_literal ↦ signed_there g at prefixes.Minus e operand (sym (minus_told g at e (told_as g by_itself None e) no_literal) ∙ none) (negated_there (literal_in e) (constant_of g e) no_literal there)
  | inr literal ↦ subst (λ k. IsSome (option_and_then (class_of_unary prefixes.Minus) k)) (sym literal) refl
]

-- ---- the law

pub class_there : ConstantClassLaw
class_there g s receives m (whole at n) names none form there = refl
class_there g s receives m (character at n) names none form there = refl
class_there g s receives m (text at n) names none form there = refl
class_there g s receives m (this_instance at) names none form there = refl
class_there g s receives m (paren at e) names none form there = class_there g s receives m e names none form there
class_there g s receives m (receive at n) names none form there = absurd (true≢false (sym form))
class_there g s receives m (start at n es) names none form there = refl
class_there g s receives m (tuple at n b rs) names none form there = tuple_there (shape_fits rs) (tuple_mode g n m) (values_of_ranges g (shape_fits rs) 0 (tuple_mode g n m) rs) there
class_there g s receives m (uniform at n b e) names none form there = uniform_there (tuple_mode g n m) (constant_as g (mode_of_part uniform_fits 0 (tuple_mode g n m)) e) there
class_there g s receives m (name n) names none form there = names.0.class there
class_there g s receives m (apply at e es) names none form there =
    let at_it = when_routine (value_routine (callee_of g e)) (λ p. at_call g (place_of e) p es) in
    called_there g (place_of e) (callee_of g e) (result_class g e) (class_of g e) es (none_then (told_in_each g es) at_it (none_later (told_as g by_itself None e) (then_told (told_in_each g es) at_it) none)) form there
class_there g s receives m (field at e n) names none form there = absurd (true≢false (sym form))
class_there g s receives m (prefixed at o e) names none form there =
    sign_there g at o e (record { form = form; class = λ clean value. class_there g by_itself false None e names clean form value }) none there
class_there g s receives m (binary at l o p r) names none form there =
    let inside = told_as g by_itself None l ++ told_as g by_itself None r in
    let at_it = told_if_constant (has_form g false l && has_form g false r) (told_binary g p o l r) in
    let clean = none_inside inside at_it none in
    let left = class_there g by_itself false None l (known_first g (names_in l) (names_in r) names) (none_first (told_as g by_itself None l) (told_as g by_itself None r) clean) (both_left (has_form g false l) (has_form g false r) form)
    (left_there (λ c v w. value_of_binary o c v w) (constant_of g l) (class_of g r) (constant_of g r) there) in
    let right = first_there (λ c w. option_and_then (λ v. value_of_binary o c v w) (constant_of g l)) (class_of g r) (constant_of g r) there in
    let raising = told_if (is_some (class_of g l) && holds_of (λ c. holds_of_both (λ v w. raises (value_of_binary o c v) w) (constant_of g l) (constant_of g r)) (class_of g r)) (tell_at rules.M11 p) in
    binary_there o (class_of g l) (class_of g r) left right
    (not_misfit (holds_of_both (operands_misfit o) (class_of g l) (class_of g r)) (tell_at rules.M10 p) raising (constant_told (has_form g false l && has_form g false r) (told_binary g p o l r) form (none_then inside at_it none)))
