-- What is found of a node, by what is found of its parts and what comes of it.
use Rattle.std.proofs.Common.{◌≡◌, ℕ, suc, Bool, true, false, List, [], ◌∷◌, ◌++◌, length, Option, Some, None, refl, ap, sym, subst, ◌∙◌, arith}
use Rattle.std.specs.Prelude.{◌&&◌, ◌||◌, ◌==◌, not, if◌then◌else◌}
use Rattle.std.proofs.lemmas.List.{append-nil}
use Rattle.std.proofs.lemmas.Bool.{false≢true}
use Rattle.std.proofs.lemmas.Bool.Decides.{nat_tests}
use Rattle.chill_base.specs.declared.pos.Pos.{Pos}
use Rattle.chill_tree.specs.declared.tree.expr.Expr.{Expr}
use Rattle.chill_tree.specs.declared.tree.expr.Operator.{Operator}
use Rattle.chill_tree.specs.declared.tree.expr.Prefix.{Prefix}
use Rattle.chill_tree.specs.ExprTree.{ExprTree, ExprNodes, no_exprs, more_exprs, expr_nodes, expr_trees, place_of}
use Rattle.diagnostics.specs.declared.diagnostic.Diagnostic.{Diagnostic}
use Rattle.diagnostics.specs.declared.rule.Rule.TheVariants as rules
use Rattle.modes.specs.ModeTree.{ClassTree}
use Rattle.checks_model.specs.ValueTrees.{ValueTree}
use Rattle.checks_model.specs.Told.{tell_at, told_if, then_told, is_none_told, holds_of}
use Rattle.checks_model.specs.Ground as model
use Rattle.checks_model.specs.Ground.{Ground, Predefined, get_int, of_mode, truth, no_instance}
use Rattle.checks_model.specs.Operations.{is_measuring}
use Rattle.checks_model.specs.Classes.{Measured, class_of, class_of_call, class_of_first, class_of_measured, measured, measured_first, measured_misfits, count_exprs}
use Rattle.checks_model.specs.Constants.{has_form, are_arguments, constant_of, is_measured, is_value_routine, value_of_call, value_of_first, value_of_measured}
use Rattle.checks_model.specs.ConstantRules.{told_of_constants, told_in_each, told_call, told_if_constant, told_needed, when_routine}
use Rattle.constant_operators.specs.declared.known.Known.{Known}
use Rattle.constant_operators.specs.declared.operators.Computed.{Computed}
use Rattle.constant_operators.specs.Known.{IsComputed, binary_misfits, binary_raises, binary_class, binary_value, unary_misfits, unary_raises, unary_class, unary_value, IsKnown, IsKnownConstant, IsTold, routine_misfits, routine_raises, routine_class, routine_value}
use Rattle.constant_rules.specs.Found.{IsFound, Finds, FindsAt, Varies, unless_before}
use Rattle.constant_rules.specs.Walks.{FindsExpr, FindsRoutine, FindsNeeded, constant_routine, routine_form, routine_told, told_of_routine, measure_form, measure_told, one_told, told_at_node, binary_told, unary_told}
use Rattle.constant_rules.proofs.Finding.{none_both, none_then, constant_found, found_here, varying_found, told_found, as_varying, at_node, found_so}
use Rattle.constant_rules.proofs.Standings.{then_nothing}

-- ---- a node that is judged

none_list : (t : List Diagnostic) → is_none_told t ≡ true → t ≡ []
none_list [] e = refl
none_list (d ∷ t) e = absurd (false≢true e)

not_before : (t own : List Diagnostic) → is_none_told t ≡ false → unless_before t own ≡ []
not_before [] own e = absurd (false≢true (sym e))
not_before (d ∷ t) own e = refl

if_false : {A : Type 0} (b : Bool) (x y : A) → b ≡ false → (if b then x else y) ≡ y
if_false b x y e = ap (λ (b : Bool). if b then x else y) e

-- something is told in it
pub node_told : (f : Bool) (t own : List Diagnostic) (c : Option ClassTree) (v : Option ValueTree) (old : List Diagnostic) (k : Known) → is_none_told t ≡ false → k.is_constant ≡ f → k.is_clean ≡ false → FindsAt f t own c v old old k
node_told f t own c v old k none constant clean = record {
  told = sym (append-nil old) ∙ ap (λ (xs : List Diagnostic). old ++ xs) (sym (not_before t own none));
  found = told_found constant clean (none_then t own ∙ ap (λ (b : Bool). b && is_none_told own) none);
}

-- it isn't constant
pub node_varying : (f : Bool) (t own : List Diagnostic) (c : Option ClassTree) (v : Option ValueTree) (old : List Diagnostic) (k : Known) → f ≡ false → k.is_constant ≡ false → k.is_clean ≡ is_none_told t → FindsAt f t (told_if_constant f own) c v old old k
node_varying f t own c v old k form constant clean =
    subst (λ (f : Bool). FindsAt f t (told_if_constant f own) c v old old k) (sym form) (record {
      told = sym (append-nil old) ∙ ap (λ (xs : List Diagnostic). old ++ xs) (nothing (is_none_told t));
      found = varying_found constant (clean ∙ ap is_none_told (sym (then_nothing t)));
    })
  where
    none : List Diagnostic
    none = []

    nothing : (b : Bool) → none ≡ (if b then none else none)
    nothing true = refl
    nothing false = refl

-- nothing is told in it
pub node_found : (f : Bool) (t own : List Diagnostic) (c : Option ClassTree) (v : Option ValueTree) (old new : List Diagnostic) (k : Known) → f ≡ true → is_none_told t ≡ true → Finds true own c v old new k → FindsAt f t (told_if_constant f own) c v old new k
node_found f t own c v old new k form none h =
    subst (λ (f : Bool). FindsAt f t (told_if_constant f own) c v old new k) (sym form)
    (subst (λ (t : List Diagnostic). FindsAt true t own c v old new k) (sym (none_list t none)) (record { told = h.told; found = h.found }))

-- ---- what comes of an operator or a routine

pub computed_known : (misfits raised : Bool) (at : Pos) (c : Option ClassTree) (v : Option ValueTree) (old : List Diagnostic) (k : Known) → misfits ≡ false → raised ≡ false → IsKnownConstant c v k → Finds true (told_at_node misfits raised at) c v old old k
computed_known misfits raised at c v old k m r h =
    let none : told_at_node misfits raised at ≡ [] = (λ i. if m i then tell_at rules.M10 at ∷ [] else told_if (r i) (tell_at rules.M11 at)) in
    found_so refl none (λ _. (refl, refl)) (found_here old (constant_found h))

pub computed_misfit : (misfits raised : Bool) (at : Pos) (c : Option ClassTree) (v : Option ValueTree) (old new : List Diagnostic) (k : Known) → misfits ≡ true → new ≡ old ++ tell_at rules.M10 at ∷ [] → IsTold true k → Finds true (told_at_node misfits raised at) c v old new k
computed_misfit misfits raised at c v old new k m told h =
    let own : told_at_node misfits raised at ≡ tell_at rules.M10 at ∷ [] = ap (λ (b : Bool). told_at_node b raised at) m in
    record { told = told ∙ ap (λ (xs : List Diagnostic). old ++ xs) (sym own); found = told_found h.is_constant h.is_clean (ap is_none_told own) }

pub computed_raised : (misfits raised : Bool) (at : Pos) (c : Option ClassTree) (v : Option ValueTree) (old new : List Diagnostic) (k : Known) → misfits ≡ false → raised ≡ true → new ≡ old ++ tell_at rules.M11 at ∷ [] → IsTold true k → Finds true (told_at_node misfits raised at) c v old new k
computed_raised misfits raised at c v old new k m r told h =
    let own : told_at_node misfits raised at ≡ tell_at rules.M11 at ∷ [] = (λ i. told_at_node (m i) (r i) at) in
    record { told = told ∙ ap (λ (xs : List Diagnostic). old ++ xs) (sym own); found = told_found h.is_constant h.is_clean (ap is_none_told own) }

-- ---- calls of predefined names

pub counted : (es : List Expr) → count_exprs (expr_nodes (expr_trees es)) ≡ length es
counted [] = refl
counted (e ∷ es) = ap suc (counted es)

not_one : (n : ℕ) → (n ≡ 1 → ⊥) → (n == 1) ≡ false
not_one n h = elim (n == 1) as (λ b. (n == 1) ≡ b → (n == 1) ≡ false) [ true ↦ λ e. absurd (h (grind (arith, nat_tests, e))) | false ↦ λ e. e ] refl

routine_so : (p : Predefined) → is_value_routine p ≡ true → constant_routine p ≡ Some p
routine_so p e = ap (λ (b : Bool). if b then Some p else None) e

no_routine : (p : Predefined) → is_value_routine p ≡ false → constant_routine p ≡ None
no_routine p e = ap (λ (b : Bool). if b then Some p else None) e

-- of one that gives no value of its arguments
pub other_routine : (g : Ground) (at : Pos) (p : Predefined) (es : ExprNodes) (old : List Diagnostic) {new : List Diagnostic} {k : Known} → is_value_routine p ≡ false → Varies (told_in_each g es) old new k → FindsRoutine g at p es old new k
other_routine g at p es old none h = as_varying
    (ap (holds_of (λ p. are_arguments g (is_measuring p) es)) (no_routine p none))
    (ap (λ (o : Option Predefined). then_told (told_in_each g es) (when_routine o (λ p. told_if_constant (are_arguments g (is_measuring p) es) (told_call g at p es)))) (no_routine p none) ∙ then_nothing (told_in_each g es))
    h

-- of one with a wrong number of arguments
pub wrong_number : (g : Ground) (at : Pos) (p : Predefined) (es : ExprNodes) (f : Bool) (old : List Diagnostic) {mid new : List Diagnostic} {k : Known} → is_value_routine p ≡ true → (count_exprs es ≡ 1 → ⊥) → mid ≡ old ++ told_in_each g es → f ≡ routine_form g p es
    → ((c : Option ClassTree) (v : Option ValueTree) → FindsAt f (told_in_each g es) (told_if_constant f (tell_at rules.M10 at ∷ [])) c v mid new k) → FindsRoutine g at p es old new k
wrong_number g at p es f old is many so_far form h =
    let own : told_call g at p es ≡ tell_at rules.M10 at ∷ [] = ap (λ (b : Bool). if not b then tell_at rules.M10 at ∷ [] else one_told g at p es) (not_one (count_exprs es) many) in
    let same : routine_form g p es ≡ are_arguments g (is_measuring p) es = ap (holds_of (λ p. are_arguments g (is_measuring p) es)) (routine_so p is) in
    let told : told_of_routine g at p es ≡ then_told (told_in_each g es) (told_if_constant f (tell_at rules.M10 at ∷ [])) =
    ap (λ (o : Option Predefined). then_told (told_in_each g es) (when_routine o (λ p. told_if_constant (are_arguments g (is_measuring p) es) (told_call g at p es)))) (routine_so p is)
    ∙ (λ i. then_told (told_in_each g es) (told_if_constant ((sym same ∙ sym form) i) (own i))) in
    found_so (sym form) told (λ _. (refl, refl)) (at_node so_far (h (class_of_call p (measured_first g es) (class_of_first g es)) (value_of_call (constant_routine p) (measured_first g es) (class_of_first g es) (value_of_first g es))))

-- ---- with one argument

only_form : (m f : Bool) → ((m && f) && true) ≡ (m && f)
only_form true true = refl
only_form true false = refl
only_form false f = refl

and_true : (b : Bool) → (b && true) ≡ b
and_true true = refl
and_true false = refl

class_by : (p : Predefined) (m : Measured) (c : Option ClassTree) → is_value_routine p ≡ true → class_of_call p m c ≡ (if is_measuring p then class_of_measured p m else routine_class p c)
class_by get_int m c e = absurd (false≢true e)
class_by (of_mode x) m c e = refl
class_by (truth b) m c e = refl
class_by no_instance m c e = refl
class_by model.num m c e = refl
class_by model.succ m c e = refl
class_by model.pred m c e = refl
class_by model.abs m c e = refl
class_by model.card m c e = refl
class_by model.min m c e = refl
class_by model.max m c e = refl
class_by model.upper m c e = refl
class_by model.lower m c e = refl
class_by model.size m c e = refl
class_by model.put_int m c e = refl
class_by model.put_text m c e = refl
class_by model.put_nl m c e = refl

value_by : (p : Predefined) (m : Measured) (c : Option ClassTree) (v : Option ValueTree) → is_value_routine p ≡ true → value_of_call (constant_routine p) m c v ≡ (if is_measuring p then value_of_measured p m else routine_value p c v)
value_by p m c v e = ap (λ (o : Option Predefined). value_of_call o m c v) (routine_so p e)

-- a routine of one argument, by what is asked of it
one_argument : (g : Ground) (at : Pos) (p : Predefined) (x : ExprTree) (f : Bool) (own : List Diagnostic) (c : Option ClassTree) (v : Option ValueTree) (old : List Diagnostic) {mid new : List Diagnostic} {k : Known} → is_value_routine p ≡ true → mid ≡ old ++ told_of_constants g x
    → are_arguments g (is_measuring p) (more_exprs x no_exprs) ≡ f → told_call g at p (more_exprs x no_exprs) ≡ own → class_of_call p (measured g x) (class_of g x) ≡ c → value_of_call (constant_routine p) (measured g x) (class_of g x) (constant_of g x) ≡ v
    → FindsAt f (told_of_constants g x) (told_if_constant f own) c v mid new k → FindsRoutine g at p (more_exprs x no_exprs) old new k
one_argument g at p x f own c v old is so_far form told class value h =
    let each : told_in_each g (more_exprs x no_exprs) ≡ told_of_constants g x = append-nil (told_of_constants g x) in
    found_so
    (ap (holds_of (λ p. are_arguments g (is_measuring p) (more_exprs x no_exprs))) (routine_so p is) ∙ form)
    (ap (λ (o : Option Predefined). then_told (told_in_each g (more_exprs x no_exprs)) (when_routine o (λ p. told_if_constant (are_arguments g (is_measuring p) (more_exprs x no_exprs)) (told_call g at p (more_exprs x no_exprs))))) (routine_so p is)
    ∙ (λ i. then_told (each i) (told_if_constant (form i) (told i))))
    (λ _. (class, value)) (at_node so_far h)

pub value_found : (g : Ground) (at : Pos) (p : Predefined) (x : ExprTree) (old : List Diagnostic) {mid new : List Diagnostic} {k : Known} → is_value_routine p ≡ true → is_measuring p ≡ false → mid ≡ old ++ told_of_constants g x
    → FindsAt (has_form g false x) (told_of_constants g x) (told_if_constant (has_form g false x) (routine_told at p (class_of g x) (constant_of g x))) (routine_class p (class_of g x)) (routine_value p (class_of g x) (constant_of g x)) mid new k
    → FindsRoutine g at p (more_exprs x no_exprs) old new k
value_found g at p x old is none so_far h =
    one_argument g at p x (has_form g false x) (routine_told at p (class_of g x) (constant_of g x)) (routine_class p (class_of g x)) (routine_value p (class_of g x) (constant_of g x)) old is so_far
    (ap (λ (b : Bool). ((b && is_measured (measured g x)) || has_form g false x) && true) none ∙ and_true (has_form g false x))
    (ap (λ (b : Bool). if b then told_if (measured_misfits p (measured g x) (class_of g x)) (tell_at rules.M10 at) else routine_told at p (class_of g x) (constant_of g x)) none)
    (class_by p (measured g x) (class_of g x) is ∙ if_false (is_measuring p) (class_of_measured p (measured g x)) (routine_class p (class_of g x)) none)
    (value_by p (measured g x) (class_of g x) (constant_of g x) is ∙ if_false (is_measuring p) (value_of_measured p (measured g x)) (routine_value p (class_of g x) (constant_of g x)) none) h

pub measure_found : (g : Ground) (at : Pos) (p : Predefined) (x : ExprTree) (old : List Diagnostic) {mid new : List Diagnostic} {k : Known} → is_value_routine p ≡ true → is_measuring p ≡ true → mid ≡ old ++ told_of_constants g x
    → FindsAt (measure_form g x) (told_of_constants g x) (told_if_constant (measure_form g x) (measure_told at p (measured g x) (class_of g x))) (class_of_measured p (measured g x)) (value_of_measured p (measured g x)) mid new k
    → FindsRoutine g at p (more_exprs x no_exprs) old new k
measure_found g at p x old is own so_far h =
    one_argument g at p x (measure_form g x) (measure_told at p (measured g x) (class_of g x)) (class_of_measured p (measured g x)) (value_of_measured p (measured g x)) old is so_far
    (ap (λ (b : Bool). ((b && is_measured (measured g x)) || has_form g false x) && true) own ∙ and_true (is_measured (measured g x) || has_form g false x))
    (ap (λ (b : Bool). if b then told_if (measured_misfits p (measured g x) (class_of g x)) (tell_at rules.M10 at) else routine_told at p (class_of g x) (constant_of g x)) own)
    (class_by p (measured g x) (class_of g x) is ∙ ap (λ (b : Bool). if b then class_of_measured p (measured g x) else routine_class p (class_of g x)) own)
    (value_by p (measured g x) (class_of g x) (constant_of g x) is ∙ ap (λ (b : Bool). if b then value_of_measured p (measured g x) else routine_value p (class_of g x) (constant_of g x)) own) h

-- ---- where a constant is needed

pub needed_told : (g : Ground) (x : ExprTree) (old new : List Diagnostic) (k : Known) → FindsExpr g x old new k → k.is_clean ≡ false → FindsNeeded g x old new None
needed_told g x old new k h clean =
    let none = sym h.found.is_clean ∙ clean in
    let same : told_needed g x ≡ told_of_constants g x = ap (λ (xs : List Diagnostic). told_of_constants g x ++ xs) (if_false (is_none_told (told_of_constants g x)) (told_if (not (has_form g false x)) (tell_at rules.M1 (place_of x))) [] none) ∙ append-nil (told_of_constants g x) in
    record { told = h.told ∙ ap (λ (xs : List Diagnostic). old ++ xs) (sym same); found = ap is_none_told same ∙ none }

pub needed_other : (g : Ground) (x : ExprTree) (old mid new : List Diagnostic) (k : Known) → FindsExpr g x old mid k → k.is_clean ≡ true → k.is_constant ≡ false → new ≡ mid ++ tell_at rules.M1 (place_of x) ∷ [] → FindsNeeded g x old new None
needed_other g x old mid new k h clean constant told =
    let none = sym h.found.is_clean ∙ clean in
    let form = sym h.found.is_constant ∙ constant in
    let same : told_needed g x ≡ tell_at rules.M1 (place_of x) ∷ [] = (λ i. then_told (none_list (told_of_constants g x) none i) (told_if (not (form i)) (tell_at rules.M1 (place_of x)))) in
    let so_far : mid ≡ old = h.told ∙ ap (λ (xs : List Diagnostic). old ++ xs) (none_list (told_of_constants g x) none) ∙ append-nil old in
    record { told = told ∙ (λ i. so_far i ++ sym same i); found = ap is_none_told same }

pub needed_found : (g : Ground) (x : ExprTree) (old new : List Diagnostic) (k : Known) → FindsExpr g x old new k → k.is_clean ≡ true → k.is_constant ≡ true → FindsNeeded g x old new (Some k)
needed_found g x old new k h clean constant =
    let none = sym h.found.is_clean ∙ clean in
    let form = sym h.found.is_constant ∙ constant in
    let same : told_needed g x ≡ told_of_constants g x = ap (λ (f : Bool). then_told (told_of_constants g x) (told_if (not f) (tell_at rules.M1 (place_of x)))) form ∙ then_nothing (told_of_constants g x) in
    record { told = h.told ∙ ap (λ (xs : List Diagnostic). old ++ xs) (sym same); found = (ap is_none_told same ∙ none, record { known = h.found.known form none; is_constant = constant; is_clean = clean }) }

-- ---- operators and routines on constants

abbrev pub ToldOf : Computed → Pos → List Diagnostic → List Diagnostic → Known → Type 0
ToldOf computed at old new k = (misfits raised : Bool) (c : Option ClassTree) (v : Option ValueTree) → IsComputed misfits raised c v computed → Finds true (told_at_node misfits raised at) c v old new k

pub routine_node : (p : Predefined) (at : Pos) (f : Bool) (t : List Diagnostic) (c : Option ClassTree) (v : Option ValueTree) (old new : List Diagnostic) (arg k : Known) (computed : Computed) → IsFound f t c v arg → arg.is_constant ≡ true → arg.is_clean ≡ true
    → (IsKnown c v arg → IsComputed (routine_misfits p c) (routine_raises p c v) (routine_class p c) (routine_value p c v) computed) → ToldOf computed at old new k
    → FindsAt f t (told_if_constant f (routine_told at p c v)) (routine_class p c) (routine_value p c v) old new k
routine_node p at f t c v old new arg k computed h constant clean comes told =
    let form = sym h.is_constant ∙ constant in
    let none = sym h.is_clean ∙ clean in
    node_found f t (routine_told at p c v) (routine_class p c) (routine_value p c v) old new k form none (told (routine_misfits p c) (routine_raises p c v) (routine_class p c) (routine_value p c v) (comes (h.known form none)))

pub unary_node : (o : Prefix) (at : Pos) (f : Bool) (t : List Diagnostic) (c : Option ClassTree) (v : Option ValueTree) (old new : List Diagnostic) (arg k : Known) (computed : Computed) → IsFound f t c v arg → arg.is_constant ≡ true → arg.is_clean ≡ true
    → (IsKnown c v arg → IsComputed (unary_misfits o c) (unary_raises o c v) (unary_class o c) (unary_value o v) computed) → ToldOf computed at old new k
    → FindsAt f t (told_if_constant f (unary_told at o c v)) (unary_class o c) (unary_value o v) old new k
unary_node o at f t c v old new arg k computed h constant clean comes told =
    let form = sym h.is_constant ∙ constant in
    let none = sym h.is_clean ∙ clean in
    node_found f t (unary_told at o c v) (unary_class o c) (unary_value o v) old new k form none (told (unary_misfits o c) (unary_raises o c v) (unary_class o c) (unary_value o v) (comes (h.known form none)))

both_true : (a b : Bool) → (a && b) ≡ true → (a ≡ true) × (b ≡ true)
both_true true b e = (refl, e)
both_true false b e = absurd (false≢true e)

pub binary_node : (o : Operator) (at : Pos) (f h : Bool) (s t : List Diagnostic) (c d : Option ClassTree) (v w : Option ValueTree) (old new : List Diagnostic) (left right k : Known) (computed : Computed) → IsFound f s c v left → IsFound h t d w right → left.is_constant ≡ true → right.is_constant ≡ true
    → (left.is_clean && right.is_clean) ≡ true → (IsKnown c v left → IsKnown d w right → IsComputed (binary_misfits o c d) (binary_raises o c v d w) (binary_class o c d) (binary_value o v d w) computed) → ToldOf computed at old new k
    → FindsAt (f && h) (s ++ t) (told_if_constant (f && h) (binary_told at o c v d w)) (binary_class o c d) (binary_value o v d w) old new k
binary_node o at f h s t c d v w old new left right k computed x y one another clean comes told =
    let one_form = sym x.is_constant ∙ one in
    let other_form = sym y.is_constant ∙ another in
    let both = both_true left.is_clean right.is_clean clean in
    let one_none = sym x.is_clean ∙ both.0 in
    let other_none = sym y.is_clean ∙ both.1 in
    node_found (f && h) (s ++ t) (binary_told at o c v d w) (binary_class o c d) (binary_value o v d w) old new k (λ i. one_form i && other_form i) (none_both s t ∙ (λ i. one_none i && other_none i))
    (told (binary_misfits o c d) (binary_raises o c v d w) (binary_class o c d) (binary_value o v d w) (comes (x.known one_form one_none) (y.known other_form other_none)))
