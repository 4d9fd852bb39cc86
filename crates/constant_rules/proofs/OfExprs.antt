-- What is found of each kind of expression, from what is found of its parts.
use Rattle.std.proofs.Common.{◌≡◌, ℕ, Bool, true, false, List, ◌++◌, Option, Some, None, refl, ap, sym, subst, ◌∙◌, pos}
use Rattle.std.specs.Prelude.{◌&&◌, if◌then◌else◌, neg_ℤ}
use Rattle.chill_base.specs.declared.pos.Pos.{Pos}
use Rattle.chill_tree.specs.declared.tree.name.Name.{Name}
use Rattle.chill_tree.specs.declared.tree.expr.Prefix.{Prefix}
use Rattle.chill_tree.specs.declared.tree.expr.Prefix.TheVariants as prefixes
use Rattle.chill_tree.specs.declared.tree.expr.Operator.{Operator}
use Rattle.chill_tree.specs.ExprTree.{ExprTree, ExprNodes, RangeNodes, whole, character, text, this_instance, paren, receive, start, tuple, uniform, name, apply, field, prefixed, binary, place_of}
use Rattle.std.proofs.lemmas.Option.{same_Some}
use Rattle.std.proofs.lemmas.Bool.{false≢true}
use Rattle.chill_tree.proofs.ExprViews.{expr_built}
use Rattle.diagnostics.specs.declared.diagnostic.Diagnostic.{Diagnostic}
use Rattle.modes.specs.ModeTree.{ClassTree}
use Rattle.checks_model.specs.ValueTrees.{ValueTree}
use Rattle.checks_model.specs.Told.{then_told, holds_of}
use Rattle.checks_model.specs.Ground as model
use Rattle.checks_model.specs.Ground.{Ground, Origin, Predefined, of_mode, truth, no_instance, a_synonym, a_mode, an_element, a_location, a_parameter, a_counter, a_received, a_procedure, a_process, a_signal, a_modulion, a_predefined, origin_of}
use Rattle.checks_model.specs.Operations.{is_measuring}
use Rattle.checks_model.specs.Classes.{Measured, callee_by, callee_of, class_of, class_behind, class_of_call, class_of_first, measured_first, result_class}
use Rattle.checks_model.specs.Constants.{has_form, have_form, are_arguments, constant_of, value_routine, value_of_call, value_of_first, value_before}
use Rattle.checks_model.specs.ConstantRules.{told_of_constants, told_in_each, told_call, told_if_constant, when_routine, told_before, told_unary}
use Rattle.constant_operators.specs.declared.known.Known.{Known}
use Rattle.constant_operators.specs.Grounds.{predefined_of, predefined_named}
use Rattle.constant_operators.specs.Known.{binary_class, binary_value, unary_class, unary_value}
use Rattle.constant_rules.specs.Found.{IsFound, FindsAt, Varies}
use Rattle.constant_rules.specs.Walks.{FindsExpr, FindsRoutine, FindsLiteral, constant_routine, routine_form, binary_told, unary_told, told_in_all, minus_literal}
use Rattle.constant_rules.proofs.Standings.{unnamed_alone, varying_tuple, uniform_alone, varying_uniform, then_nothing}
use Rattle.constant_rules.proofs.Finding.{as_varying, at_node, found_so, in_turn}

-- ---- nodes that aren't constant

pub started : (g : Ground) (at : Pos) (n : Name) (es : ExprNodes) (old new : List Diagnostic) (k : Known) → Varies (told_in_each g es) old new k → FindsExpr g (start at n es) old new k
started g at n es old new k h = as_varying refl refl h

pub of_field : (g : Ground) (at : Pos) (e : ExprTree) (n : Name) (old new : List Diagnostic) (k : Known) → Varies (told_of_constants g e) old new k → FindsExpr g (field at e n) old new k
of_field g at e n old new k h = as_varying refl refl h

no_name : (n : Name) (b : Bool) → (if b then Some n else None) ≡ None → b ≡ false
no_name n true h = cc
no_name n false h = refl

-- a tuple without a name, or whose parts haven't the form
pub varying_parts : (g : Ground) (at : Pos) (n : Option Name) (b : Pos) (rs : RangeNodes) {old new : List Diagnostic} {k : Known} → (if have_form g rs then n else None) ≡ None → Varies (told_in_all g rs) old new k → FindsExpr g (tuple at n b rs) old new k
varying_parts g at None b rs h w = as_varying refl (unnamed_alone g at b rs) w
varying_parts g at (Some n) b rs h w = let e = no_name n (have_form g rs) h in as_varying e (varying_tuple g at n b rs e) w

pub varying_value : (g : Ground) (at : Pos) (n : Option Name) (b : Pos) (e : ExprTree) {old new : List Diagnostic} {k : Known} → (if has_form g true e then n else None) ≡ None → Varies (told_of_constants g e) old new k → FindsExpr g (uniform at n b e) old new k
varying_value g at None b e h w = as_varying refl (uniform_alone g at b e) w
varying_value g at (Some n) b e h w = let f = no_name n (has_form g true e) h in as_varying f (varying_uniform g at n b e f) w

-- a name of a tuple whose parts have the form
pub named_so : {o : Option Name} {n : Name} (b : Bool) → (if b then o else None) ≡ Some n → (b ≡ true) × (o ≡ Some n)
named_so true h = (refl, h)
named_so false h = cc

-- ---- calls

routine_same : (n : Name) (p : Predefined) → value_routine (callee_by n (Some (a_predefined p))) ≡ constant_routine p
routine_same n (of_mode m) = refl
routine_same n (truth b) = refl
routine_same n no_instance = refl
routine_same n model.num = refl
routine_same n model.succ = refl
routine_same n model.pred = refl
routine_same n model.abs = refl
routine_same n model.card = refl
routine_same n model.min = refl
routine_same n model.max = refl
routine_same n model.upper = refl
routine_same n model.lower = refl
routine_same n model.size = refl
routine_same n model.put_int = refl
routine_same n model.put_text = refl
routine_same n model.put_nl = refl
routine_same n model.get_int = refl

routine_by : (n : Name) (o : Option Origin) (p : Predefined) → predefined_of o ≡ Some p → value_routine (callee_by n o) ≡ constant_routine p
routine_by n None p h = absurd (cc)
routine_by n (Some (a_predefined q)) p h = routine_same n q ∙ ap constant_routine (same_Some q p h)
routine_by n (Some (a_synonym s)) p h = absurd (cc)
routine_by n (Some (a_mode novel m)) p h = absurd (cc)
routine_by n (Some (an_element ns part owner)) p h = absurd (cc)
routine_by n (Some (a_location d)) p h = absurd (cc)
routine_by n (Some (a_parameter m)) p h = absurd (cc)
routine_by n (Some (a_counter c)) p h = absurd (cc)
routine_by n (Some (a_received m count part)) p h = absurd (cc)
routine_by n (Some (a_procedure q)) p h = absurd (cc)
routine_by n (Some (a_process q)) p h = absurd (cc)
routine_by n (Some (a_signal s)) p h = absurd (cc)
routine_by n (Some (a_modulion kind items)) p h = absurd (cc)

no_routine_by : (n : Name) (o : Option Origin) → predefined_of o ≡ None → value_routine (callee_by n o) ≡ None
no_routine_by n None h = refl
no_routine_by n (Some (a_predefined q)) h = absurd (cc)
no_routine_by n (Some (a_synonym s)) h = refl
no_routine_by n (Some (a_mode novel m)) h = refl
no_routine_by n (Some (an_element ns part owner)) h = refl
no_routine_by n (Some (a_location d)) h = refl
no_routine_by n (Some (a_parameter m)) h = refl
no_routine_by n (Some (a_counter c)) h = refl
no_routine_by n (Some (a_received m count part)) h = refl
no_routine_by n (Some (a_procedure q)) h = refl
no_routine_by n (Some (a_process q)) h = refl
no_routine_by n (Some (a_signal s)) h = refl
no_routine_by n (Some (a_modulion kind items)) h = refl

pub no_routine : (g : Ground) (e : ExprTree) → predefined_named g e ≡ None → value_routine (callee_of g e) ≡ None
no_routine g (name n) h = no_routine_by n (origin_of g n) h
no_routine g (whole at n) h = refl
no_routine g (character at n) h = refl
no_routine g (text at n) h = refl
no_routine g (this_instance at) h = refl
no_routine g (paren at e) h = refl
no_routine g (receive at n) h = refl
no_routine g (start at n es) h = refl
no_routine g (tuple at n b rs) h = refl
no_routine g (uniform at n b e) h = refl
no_routine g (apply at e es) h = refl
no_routine g (field at e n) h = refl
no_routine g (prefixed at o e) h = refl
no_routine g (binary at l o p r) h = refl

routine_of : (g : Ground) (e : ExprTree) (p : Predefined) → predefined_named g e ≡ Some p → value_routine (callee_of g e) ≡ constant_routine p
routine_of g (name n) p h = routine_by n (origin_of g n) p h
routine_of g (whole x n) p h = absurd (cc)
routine_of g (character x n) p h = absurd (cc)
routine_of g (text x n) p h = absurd (cc)
routine_of g (this_instance x) p h = absurd (cc)
routine_of g (paren x e) p h = absurd (cc)
routine_of g (receive x n) p h = absurd (cc)
routine_of g (start x n xs) p h = absurd (cc)
routine_of g (tuple x n b rs) p h = absurd (cc)
routine_of g (uniform x n b e) p h = absurd (cc)
routine_of g (apply x e xs) p h = absurd (cc)
routine_of g (field x e n) p h = absurd (cc)
routine_of g (prefixed x o e) p h = absurd (cc)
routine_of g (binary x l o q r) p h = absurd (cc)

-- which calls have the form of a constant
pub routine_has_form : (g : Ground) (b : Bool) (at : Pos) (e : ExprTree) (es : ExprNodes) (p : Predefined) → predefined_named g e ≡ Some p → has_form g b (apply at e es) ≡ routine_form g p es
routine_has_form g b at e es p h = ap (holds_of (λ p. are_arguments g (is_measuring p) es)) (routine_of g e p h)

pub other_has_form : (g : Ground) (b : Bool) (at : Pos) (e : ExprTree) (es : ExprNodes) → predefined_named g e ≡ None → has_form g b (apply at e es) ≡ false
other_has_form g b at e es h = ap (holds_of (λ p. are_arguments g (is_measuring p) es)) (no_routine g e h)

pub ruleset form_views = (expr_built, routine_has_form, other_has_form)

-- what stands before brackets is no routine
pub applied_parts : (g : Ground) (at : Pos) (e : ExprTree) (es : ExprNodes) {old new : List Diagnostic} {k : Known} → predefined_named g e ≡ None → Varies (told_of_constants g e ++ told_in_each g es) old new k → FindsExpr g (apply at e es) old new k
applied_parts g at e es h w = let none = no_routine g e h in as_varying
    (ap (holds_of (λ p. are_arguments g (is_measuring p) es)) none)
    (ap (λ (p : Option Predefined). told_of_constants g e ++ then_told (told_in_each g es) (when_routine p (λ p. told_if_constant (are_arguments g (is_measuring p) es) (told_call g (place_of e) p es)))) none
    ∙ ap (λ (xs : List Diagnostic). told_of_constants g e ++ xs) (then_nothing (told_in_each g es))) w

-- ---- a call of a predefined name

-- the class of a call of a routine that gives a value
class_means : (n : Name) (q : Predefined) (f : Predefined → Bool) → holds_of f (constant_routine q) ≡ true → (r b c : Option ClassTree) (m : Measured) → class_behind (callee_by n (Some (a_predefined q))) r b m c ≡ class_of_call q m c
class_means n (of_mode x) f t r b c m = absurd (false≢true t)
class_means n (truth x) f t r b c m = absurd (false≢true t)
class_means n no_instance f t r b c m = absurd (false≢true t)
class_means n model.num f t r b c m = refl
class_means n model.succ f t r b c m = refl
class_means n model.pred f t r b c m = refl
class_means n model.abs f t r b c m = refl
class_means n model.card f t r b c m = refl
class_means n model.min f t r b c m = refl
class_means n model.max f t r b c m = refl
class_means n model.upper f t r b c m = refl
class_means n model.lower f t r b c m = refl
class_means n model.size f t r b c m = refl
class_means n model.put_int f t r b c m = refl
class_means n model.put_text f t r b c m = refl
class_means n model.put_nl f t r b c m = refl
class_means n model.get_int f t r b c m = refl

class_by : (n : Name) (o : Option Origin) (p : Predefined) (f : Predefined → Bool) → predefined_of o ≡ Some p → holds_of f (constant_routine p) ≡ true → (r b c : Option ClassTree) (m : Measured) → class_behind (callee_by n o) r b m c ≡ class_of_call p m c
class_by n None p f h t r b c m = absurd (cc)
class_by n (Some (a_predefined q)) p f h t r b c m = let same = same_Some q p h in class_means n q f (ap (λ (x : Predefined). holds_of f (constant_routine x)) same ∙ t) r b c m ∙ ap (λ (x : Predefined). class_of_call x m c) same
class_by n (Some (a_synonym s)) p f h t r b c m = absurd (cc)
class_by n (Some (a_mode novel x)) p f h t r b c m = absurd (cc)
class_by n (Some (an_element ns part owner)) p f h t r b c m = absurd (cc)
class_by n (Some (a_location d)) p f h t r b c m = absurd (cc)
class_by n (Some (a_parameter x)) p f h t r b c m = absurd (cc)
class_by n (Some (a_counter x)) p f h t r b c m = absurd (cc)
class_by n (Some (a_received x count part)) p f h t r b c m = absurd (cc)
class_by n (Some (a_procedure q)) p f h t r b c m = absurd (cc)
class_by n (Some (a_process q)) p f h t r b c m = absurd (cc)
class_by n (Some (a_signal s)) p f h t r b c m = absurd (cc)
class_by n (Some (a_modulion kind items)) p f h t r b c m = absurd (cc)

routine_named : (g : Ground) (at : Pos) (n : Name) (es : ExprNodes) (p : Predefined) {old new : List Diagnostic} {k : Known} → predefined_of (origin_of g n) ≡ Some p → FindsRoutine g n.at p es old new k → FindsExpr g (apply at (name n) es) old new k
routine_named g at n es p h w = let e = routine_by n (origin_of g n) p h in found_so
    (ap (holds_of (λ p. are_arguments g (is_measuring p) es)) e)
    (ap (λ (q : Option Predefined). then_told (told_in_each g es) (when_routine q (λ p. told_if_constant (are_arguments g (is_measuring p) es) (told_call g n.at p es)))) e)
    (λ f. (
      class_by n (origin_of g n) p (λ p. are_arguments g (is_measuring p) es) h (sym (ap (holds_of (λ p. are_arguments g (is_measuring p) es)) e) ∙ f)
          (result_class g (name n)) (class_of g (name n)) (class_of_first g es) (measured_first g es),
      ap (λ (q : Option Predefined). value_of_call q (measured_first g es) (class_of_first g es) (value_of_first g es)) e,
    ))
    w

pub called_routine : (g : Ground) (at : Pos) (e : ExprTree) (es : ExprNodes) (p : Predefined) {old new : List Diagnostic} {k : Known} → predefined_named g e ≡ Some p → FindsRoutine g (place_of e) p es old new k → FindsExpr g (apply at e es) old new k
called_routine g at (name n) es p h w = routine_named g at n es p h w
called_routine g at (whole x n) es p h w = absurd (cc)
called_routine g at (character x n) es p h w = absurd (cc)
called_routine g at (text x n) es p h w = absurd (cc)
called_routine g at (this_instance x) es p h w = absurd (cc)
called_routine g at (paren x e) es p h w = absurd (cc)
called_routine g at (receive x n) es p h w = absurd (cc)
called_routine g at (start x n xs) es p h w = absurd (cc)
called_routine g at (tuple x n b rs) es p h w = absurd (cc)
called_routine g at (uniform x n b e) es p h w = absurd (cc)
called_routine g at (apply x e xs) es p h w = absurd (cc)
called_routine g at (field x e n) es p h w = absurd (cc)
called_routine g at (prefixed x o e) es p h w = absurd (cc)
called_routine g at (binary x l o q r) es p h w = absurd (cc)

-- ---- operators

pub negative_found : (g : Ground) (at : Pos) (o : Prefix) (e : ExprTree) (l : Pos × ℕ) (old new : List Diagnostic) (k : Known) → minus_literal o e ≡ Some l → FindsLiteral l.0 2147483648 l.1 (neg_ℤ (pos l.1)) old new k → FindsExpr g (prefixed at o e) old new k
negative_found g at prefixes.Minus (whole p n) l old new k h w = subst (λ (l : Pos × ℕ). FindsLiteral l.0 2147483648 l.1 (neg_ℤ (pos l.1)) old new k) (sym (same_Some (p, n) l h)) w
negative_found g at prefixes.Not e l old new k h w = absurd (cc)
negative_found g at prefixes.Minus (character x n) l old new k h w = absurd (cc)
negative_found g at prefixes.Minus (text x n) l old new k h w = absurd (cc)
negative_found g at prefixes.Minus (this_instance x) l old new k h w = absurd (cc)
negative_found g at prefixes.Minus (paren x e) l old new k h w = absurd (cc)
negative_found g at prefixes.Minus (receive x n) l old new k h w = absurd (cc)
negative_found g at prefixes.Minus (start x n es) l old new k h w = absurd (cc)
negative_found g at prefixes.Minus (tuple x n b rs) l old new k h w = absurd (cc)
negative_found g at prefixes.Minus (uniform x n b e) l old new k h w = absurd (cc)
negative_found g at prefixes.Minus (name n) l old new k h w = absurd (cc)
negative_found g at prefixes.Minus (apply x e es) l old new k h w = absurd (cc)
negative_found g at prefixes.Minus (field x e n) l old new k h w = absurd (cc)
negative_found g at prefixes.Minus (prefixed x o e) l old new k h w = absurd (cc)
negative_found g at prefixes.Minus (binary x a o p r) l old new k h w = absurd (cc)

-- a sign or NOT before what isn't a literal behind a minus
told_before_other : (g : Ground) (at : Pos) (o : Prefix) (e : ExprTree) (inside : List Diagnostic) → minus_literal o e ≡ None → told_before g at o e inside ≡ then_told inside (told_if_constant (has_form g false e) (told_unary g at o e))
told_before_other g at prefixes.Not e inside h = refl
told_before_other g at prefixes.Minus (whole p n) inside h = absurd (cc)
told_before_other g at prefixes.Minus (character x n) inside h = refl
told_before_other g at prefixes.Minus (text x n) inside h = refl
told_before_other g at prefixes.Minus (this_instance x) inside h = refl
told_before_other g at prefixes.Minus (paren x e) inside h = refl
told_before_other g at prefixes.Minus (receive x n) inside h = refl
told_before_other g at prefixes.Minus (start x n es) inside h = refl
told_before_other g at prefixes.Minus (tuple x n b rs) inside h = refl
told_before_other g at prefixes.Minus (uniform x n b e) inside h = refl
told_before_other g at prefixes.Minus (name n) inside h = refl
told_before_other g at prefixes.Minus (apply x e es) inside h = refl
told_before_other g at prefixes.Minus (field x e n) inside h = refl
told_before_other g at prefixes.Minus (prefixed x o e) inside h = refl
told_before_other g at prefixes.Minus (binary x l o p r) inside h = refl

value_before_other : (o : Prefix) (e : ExprTree) (v : Option ValueTree) → minus_literal o e ≡ None → value_before o e v ≡ unary_value o v
value_before_other prefixes.Not e v h = refl
value_before_other prefixes.Minus (whole p n) v h = absurd (cc)
value_before_other prefixes.Minus (character x n) v h = refl
value_before_other prefixes.Minus (text x n) v h = refl
value_before_other prefixes.Minus (this_instance x) v h = refl
value_before_other prefixes.Minus (paren x e) v h = refl
value_before_other prefixes.Minus (receive x n) v h = refl
value_before_other prefixes.Minus (start x n es) v h = refl
value_before_other prefixes.Minus (tuple x n b rs) v h = refl
value_before_other prefixes.Minus (uniform x n b e) v h = refl
value_before_other prefixes.Minus (name n) v h = refl
value_before_other prefixes.Minus (apply x e es) v h = refl
value_before_other prefixes.Minus (field x e n) v h = refl
value_before_other prefixes.Minus (prefixed x o e) v h = refl
value_before_other prefixes.Minus (binary x l o p r) v h = refl

pub prefixed_found : (g : Ground) (at : Pos) (o : Prefix) (e : ExprTree) {old mid new : List Diagnostic} {l k : Known} → minus_literal o e ≡ None → FindsExpr g e old mid l
    → (IsFound (has_form g false e) (told_of_constants g e) (class_of g e) (constant_of g e) l
    → FindsAt (has_form g false e) (told_of_constants g e) (told_if_constant (has_form g false e) (unary_told at o (class_of g e) (constant_of g e))) (unary_class o (class_of g e)) (unary_value o (constant_of g e)) mid new k)
    → FindsExpr g (prefixed at o e) old new k
prefixed_found g at o e h x w = found_so refl (told_before_other g at o e (told_of_constants g e) h) (λ _. (refl, value_before_other o e (constant_of g e) h)) (at_node x.told (w x.found))

pub binary_found : (g : Ground) (at : Pos) (l : ExprTree) (o : Operator) (p : Pos) (r : ExprTree) {old mid next new : List Diagnostic} {a b k : Known} → FindsExpr g l old mid a → FindsExpr g r mid next b
    → FindsAt (has_form g false l && has_form g false r) (told_of_constants g l ++ told_of_constants g r)
    (told_if_constant (has_form g false l && has_form g false r) (binary_told p o (class_of g l) (constant_of g l) (class_of g r) (constant_of g r)))
    (binary_class o (class_of g l) (class_of g r)) (binary_value o (constant_of g l) (class_of g r) (constant_of g r)) next new k
    → FindsExpr g (binary at l o p r) old new k
binary_found g at l o p r {old} x y w = at_node (in_turn (told_of_constants g l) (told_of_constants g r) old x.told y.told) w
