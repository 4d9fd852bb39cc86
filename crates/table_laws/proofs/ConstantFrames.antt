-- The value of an expression, its form, and what is told of constants in it depend on the ground only by the names in the
-- expression.
use Rattle.std.proofs.Common.{◌≡◌, ℕ, suc, Bool, true, false, List, [], ◌∷◌, ◌++◌, Option, Some, None, true≢false, subst, refl, sym, ap, ◌∙◌}
use Rattle.std.specs.Prelude.{option_and_then, ◌==◌, ◌&&◌, ◌||◌, is_some, not, if◌then◌else◌}
use Rattle.chill_base.specs.declared.pos.Pos.{Pos}
use Rattle.chill_tree.specs.declared.tree.name.Name.{Name}
use Rattle.chill_tree.specs.declared.tree.expr.Operator.{Operator}
use Rattle.chill_tree.specs.declared.tree.expr.Prefix.{Prefix}
use Rattle.chill_tree.specs.declared.tree.expr.Prefix.TheVariants as prefixes
use Rattle.chill_tree.specs.ExprTree.{ExprTree, ExprNodes, RangeTree, RangeNodes, whole, character, text, this_instance, paren, receive, start, tuple, uniform, name, apply, field, prefixed, binary, no_exprs, more_exprs, alone, between, no_ranges, more_ranges, place_of}
use Rattle.modes.specs.ModeTree.{ModeTree, ClassTree}
use Rattle.modes.specs.Form.{FormTree}
use Rattle.modes.specs.Bounds.{bounds_of}
use Rattle.diagnostics.specs.declared.diagnostic.Diagnostic.{Diagnostic}
use Rattle.diagnostics.specs.declared.rule.Rule.TheVariants as rules
use Rattle.checks_model.specs.Alike.{goes_with}
use Rattle.checks_model.specs.Told.{is_none_told, tell_at, told_if, then_told, holds_of, holds_of_both}
use Rattle.checks_model.specs.Ground.{Ground, Predefined, origin_of, entry_of}
use Rattle.checks_model.specs.ValueTrees.{ValueTree}
use Rattle.checks_model.specs.Operations.{is_measuring, operands_misfit, operand_misfits, argument_misfits}
use Rattle.checks_model.specs.OperatorValues.{value_of_binary, value_of_unary, value_of_routine}
use Rattle.checks_model.specs.Classes.{class_of, class_of_first, callee_of, Measured, a_mode_of, misfit, other, measured, measured_first, measured_misfits, tuple_mode, shape_fits, uniform_fits, mode_of_part, count_exprs}
use Rattle.checks_model.specs.Constants.{has_form, have_form, range_has_form, are_arguments, is_measured, value_routine, both_ends, behind, tuple_value, uniform_value, applied, value_of_measured, value_of_call, value_of_name, value_before, constant_as, value_of_first, values_of_ranges, value_of_range}
use Rattle.checks_model.specs.ConstantRules.{Standing, by_itself, is_by_itself, is_in_synonym, is_constant_tuple, raises, told_unary, told_binary, told_call, is_outside, class_misfits, value_misfits, told_part, told_part_range, told_parts, range_misfits, ranges_misfit, told_misfit, told_tuple, told_uniform, is_judged, standing_of_parts, told_if_constant, when_routine, told_before, told_as, told_in_each, told_in_ranges, told_in_range}
use Rattle.table_laws.specs.Names.{names_in, names_in_each, names_in_range, names_in_ranges, some_name}
use Rattle.table_laws.specs.Frames.{SameKnownEach, ConstantFrame, ToldConstantFrame}
use Rattle.table_laws.proofs.KnownFrames.{first_known, later_known, of_two, of_three, of_four, tuple_mode_frame, callee_frame, measured_first_frame, value_known, form_frame, arguments_frame, ranges_form_frame, formed_class, first_formed, valued_class, first_valued, and_first, and_second}

-- ---- values

-- what is computed of a value needs its class only where the value is there
applied_frame : {A B C : Type 0} (f : A → B → Option C) (a k : Option A) (b : Option B) → (is_some b ≡ true → a ≡ k) → applied f a b ≡ applied f k b
applied_frame f a k (Some b) same = ap (λ x. applied f x (Some b)) (same refl)
applied_frame f None None None same = refl
applied_frame f None (Some k) None same = refl
applied_frame f (Some a) None None same = refl
applied_frame f (Some a) (Some k) None same = refl

call_value_frame : (p : Option Predefined) (m : Measured) (c k : Option ClassTree) (v : Option ValueTree) → (is_some v ≡ true → c ≡ k) → value_of_call p m c v ≡ value_of_call p m k v
call_value_frame None m c k v same = refl
call_value_frame (Some p) m c k v same = by (is_measuring p)
  where
    by : (b : Bool) → (if b then value_of_measured p m else applied (value_of_routine p) c v) ≡ (if b then value_of_measured p m else applied (value_of_routine p) k v)
    by true = refl
    by false = applied_frame (value_of_routine p) c k v same

mutual
  pub constant_frame : ConstantFrame
  constant_frame g h r (whole at n) same = refl
  constant_frame g h r (character at n) same = refl
  constant_frame g h r (text at n) same = refl
  constant_frame g h r (this_instance at) same = refl
  constant_frame g h r (paren at e) same = constant_frame g h r e same
  constant_frame g h r (receive at n) same = refl
  constant_frame g h r (start at n es) same = refl
  constant_frame g h r (tuple at m b rs) same =
      let mode = tuple_mode_frame g h m r (first_known g h (some_name m) (names_in_ranges rs) same) in
      of_two (tuple_value (shape_fits rs)) mode
      (ap (λ m. values_of_ranges g (shape_fits rs) 0 m rs) mode ∙ ranges_value_frame g h (shape_fits rs) 0 (tuple_mode h m r) rs (later_known g h (some_name m) (names_in_ranges rs) same))
  constant_frame g h r (uniform at m b e) same =
      let mode = tuple_mode_frame g h m r (first_known g h (some_name m) (names_in e) same) in
      of_two uniform_value mode
      (ap (λ m. constant_as g (mode_of_part uniform_fits 0 m) e) mode ∙ constant_frame g h (mode_of_part uniform_fits 0 (tuple_mode h m r)) e (later_known g h (some_name m) (names_in e) same))
  constant_frame g h r (name n) same = value_known (origin_of g n) (entry_of g n) (entry_of h n) same.0.entry ∙ ap (value_of_name (entry_of h n)) same.0.origin
  constant_frame g h r (apply at e es) same =
      let args = later_known g h (names_in e) (names_in_each es) same in
      call_value_frame (value_routine (callee_of g e)) (measured_first g es) (class_of_first g es) (class_of_first h es) (value_of_first g es) (first_valued g h es args)
      ∙ of_three (λ c m v. value_of_call (value_routine c) m (class_of_first h es) v) (callee_frame g h e (first_known g h (names_in e) (names_in_each es) same)) (measured_first_frame g h es args) (first_value_frame g h es args)
  constant_frame g h r (field at e n) same = refl
  constant_frame g h r (prefixed at o e) same = ap (value_before o e) (constant_frame g h None e same)
  constant_frame g h r (binary at l o p k) same =
      let right = later_known g h (names_in l) (names_in k) same in
      applied_frame (λ c w. option_and_then (λ v. value_of_binary o c v w) (constant_as g None l)) (class_of g k) (class_of h k) (constant_as g None k) (valued_class g h None None k right)
      ∙ of_two (λ v w. applied (λ c w. option_and_then (λ v. value_of_binary o c v w) v) (class_of h k) w) (constant_frame g h None l (first_known g h (names_in l) (names_in k) same)) (constant_frame g h None k right)

  pub first_value_frame : (g h : Ground) (es : ExprNodes) → SameKnownEach g h (names_in_each es) → value_of_first g es ≡ value_of_first h es
  first_value_frame g h no_exprs same = refl
  first_value_frame g h (more_exprs e es) same = constant_frame g h None e (first_known g h (names_in e) (names_in_each es) same)

  ranges_value_frame : (g h : Ground) (fits : FormTree → Bool) (k : ℕ) (m : Option ModeTree) (rs : RangeNodes) → SameKnownEach g h (names_in_ranges rs) → values_of_ranges g fits k m rs ≡ values_of_ranges h fits k m rs
  ranges_value_frame g h fits k m no_ranges same = refl
  ranges_value_frame g h fits k m (more_ranges r rs) same =
      of_two behind (range_value_frame g h (mode_of_part fits k m) r (first_known g h (names_in_range r) (names_in_ranges rs) same))
      (ranges_value_frame g h fits (suc k) m rs (later_known g h (names_in_range r) (names_in_ranges rs) same))

  range_value_frame : (g h : Ground) (m : Option ModeTree) (r : RangeTree) → SameKnownEach g h (names_in_range r) → value_of_range g m r ≡ value_of_range h m r
  range_value_frame g h m (alone e) same = ap (λ v. both_ends v v) (constant_frame g h m e same)
  range_value_frame g h m (between l k) same =
      of_two both_ends (constant_frame g h m l (first_known g h (names_in l) (names_in k) same)) (constant_frame g h m k (later_known g h (names_in l) (names_in k) same))

-- ---- what is told at one node

pub guarded : (b : Bool) {c : Bool} {x y : List Diagnostic} → b ≡ c → (b ≡ true → x ≡ y) → told_if_constant b x ≡ told_if_constant c y
guarded b {c} {x} {y} form same = by b same ∙ ap (λ b. told_if_constant b y) form
  where
    by : (b : Bool) → (b ≡ true → x ≡ y) → told_if_constant b x ≡ told_if_constant b y
    by true same = same refl
    by false same = refl

unary_frame : (g h : Ground) (at : Pos) (o : Prefix) (e : ExprTree) → SameKnownEach g h (names_in e) → has_form g false e ≡ true → told_unary g at o e ≡ told_unary h at o e
unary_frame g h at o e same form =
    of_two (λ c v. if holds_of (operand_misfits o) c then tell_at rules.M10 at ∷ [] else told_if (is_some c && holds_of (raises (value_of_unary o)) v) (tell_at rules.M11 at)) (formed_class g h None false e same form) (constant_frame g h None e same)

binary_frame : (g h : Ground) (at : Pos) (o : Operator) (l k : ExprTree) → SameKnownEach g h (names_in l) → SameKnownEach g h (names_in k) → (has_form g false l && has_form g false k) ≡ true → told_binary g at o l k ≡ told_binary h at o l k
binary_frame g h at o l k left right form =
    of_four (λ a b v w. if holds_of_both (operands_misfit o) a b then tell_at rules.M10 at ∷ [] else told_if (is_some a && holds_of (λ c. holds_of_both (λ v w. raises (value_of_binary o c v) w) v w) b) (tell_at rules.M11 at))
    (formed_class g h None false l left (and_first (has_form g false l) (has_form g false k) form)) (formed_class g h None false k right (and_second (has_form g false l) (has_form g false k) form))
    (constant_frame g h None l left) (constant_frame g h None k right)

-- the class of what is measured is asked for only where it isn't measured
measured_misfits_frame : (p : Predefined) (m : Measured) (c k : Option ClassTree) → (is_measured m ≡ false → c ≡ k) → measured_misfits p m c ≡ measured_misfits p m k
measured_misfits_frame p (a_mode_of m) c k same = refl
measured_misfits_frame p misfit c k same = refl
measured_misfits_frame p other c k same = ap (λ c. is_some c) (same refl)

-- the one argument of a routine
argument_formed : (g h : Ground) (es : ExprNodes) → SameKnownEach g h (names_in_each es) → are_arguments g true es ≡ true → is_measured (measured_first g es) ≡ false → class_of_first g es ≡ class_of_first h es
argument_formed g h no_exprs same form no_measure = refl
argument_formed g h (more_exprs e es) same form no_measure =
    formed_class g h None false e (first_known g h (names_in e) (names_in_each es) same)
    (subst (λ m. (m || has_form g false e) ≡ true) no_measure (and_first (is_measured (measured g e) || has_form g false e) (are_arguments g true es) form))

misfitting_frame : (g h : Ground) (p : Predefined) (es : ExprNodes) → SameKnownEach g h (names_in_each es) → are_arguments g true es ≡ true → measured_misfits p (measured_first g es) (class_of_first g es) ≡ measured_misfits p (measured_first h es) (class_of_first h es)
misfitting_frame g h p es same form =
    measured_misfits_frame p (measured_first g es) (class_of_first g es) (class_of_first h es) (argument_formed g h es same form) ∙ ap (λ m. measured_misfits p m (class_of_first h es)) (measured_first_frame g h es same)

-- what is told of a call of a routine, by whether it measures
abbrev told_by : Bool → Pos → Predefined → ExprNodes → Bool → Option ClassTree → Option ValueTree → List Diagnostic
told_by measures at p es misfits c v =
    if not (count_exprs es == 1) then tell_at rules.M10 at ∷ []
    else (if measures then told_if misfits (tell_at rules.M10 at) else (if holds_of (argument_misfits p) c then tell_at rules.M10 at ∷ [] else told_if (holds_of (λ c. holds_of (raises (value_of_routine p c)) v) c) (tell_at rules.M11 at)))

call_frame : (g h : Ground) (at : Pos) (p : Predefined) (es : ExprNodes) → SameKnownEach g h (names_in_each es) → are_arguments g (is_measuring p) es ≡ true → told_call g at p es ≡ told_call h at p es
call_frame g h at p es same form = by (is_measuring p) form
  where
    by : (measures : Bool) → are_arguments g measures es ≡ true
        → told_by measures at p es (measured_misfits p (measured_first g es) (class_of_first g es)) (class_of_first g es) (value_of_first g es)
        ≡ told_by measures at p es (measured_misfits p (measured_first h es) (class_of_first h es)) (class_of_first h es) (value_of_first h es)
    by true form = ap (λ b. if not (count_exprs es == 1) then tell_at rules.M10 at ∷ [] else told_if b (tell_at rules.M10 at)) (misfitting_frame g h p es same form)
    by false form = of_two (λ c v. told_by false at p es false c v) (first_formed g h es same form) (first_value_frame g h es same)

pub class_misfits_frame : (g h : Ground) (b : Bool) (m : Option ModeTree) (e : ExprTree) → SameKnownEach g h (names_in e) → has_form g b e ≡ true → class_misfits g m e ≡ class_misfits h m e
class_misfits_frame g h b m e same form = ap (λ c. holds_of_both (λ c m. not (goes_with c m)) c m) (formed_class g h m b e same form)

pub value_misfits_frame : (g h : Ground) (b : Bool) (m : Option ModeTree) (e : ExprTree) → SameKnownEach g h (names_in e) → has_form g b e ≡ true → value_misfits g m e ≡ value_misfits h m e
value_misfits_frame g h b m e same form = of_two (λ c v. holds_of_both goes_with c m && holds_of_both (λ v m. is_outside (bounds_of m) v) v m) (formed_class g h m b e same form) (constant_frame g h m e same)

part_frame : (g h : Ground) (m : Option ModeTree) (e : ExprTree) → SameKnownEach g h (names_in e) → has_form g true e ≡ true → told_part g m e ≡ told_part h m e
part_frame g h m e same form = ap (λ b. told_if b (tell_at rules.M11 (place_of e))) (value_misfits_frame g h true m e same form)

part_range_frame : (g h : Ground) (m : Option ModeTree) (r : RangeTree) → SameKnownEach g h (names_in_range r) → range_has_form g r ≡ true → told_part_range g m r ≡ told_part_range h m r
part_range_frame g h m (alone e) same form = part_frame g h m e same form
part_range_frame g h m (between l k) same form =
    of_two (λ a b. a ++ b) (part_frame g h m l (first_known g h (names_in l) (names_in k) same) (and_first (has_form g true l) (has_form g true k) form))
    (part_frame g h m k (later_known g h (names_in l) (names_in k) same) (and_second (has_form g true l) (has_form g true k) form))

parts_frame : (g h : Ground) (fits : FormTree → Bool) (k : ℕ) (m : Option ModeTree) (rs : RangeNodes) → SameKnownEach g h (names_in_ranges rs) → have_form g rs ≡ true → told_parts g fits k m rs ≡ told_parts h fits k m rs
parts_frame g h fits k m no_ranges same form = refl
parts_frame g h fits k m (more_ranges r rs) same form =
    of_two (λ a b. a ++ b) (part_range_frame g h (mode_of_part fits k m) r (first_known g h (names_in_range r) (names_in_ranges rs) same) (and_first (range_has_form g r) (have_form g rs) form))
    (parts_frame g h fits (suc k) m rs (later_known g h (names_in_range r) (names_in_ranges rs) same) (and_second (range_has_form g r) (have_form g rs) form))

range_misfits_frame : (g h : Ground) (m : Option ModeTree) (r : RangeTree) → SameKnownEach g h (names_in_range r) → range_has_form g r ≡ true → range_misfits g m r ≡ range_misfits h m r
range_misfits_frame g h m (alone e) same form = class_misfits_frame g h true m e same form
range_misfits_frame g h m (between l k) same form =
    of_two (λ a b. a || b) (class_misfits_frame g h true m l (first_known g h (names_in l) (names_in k) same) (and_first (has_form g true l) (has_form g true k) form))
    (class_misfits_frame g h true m k (later_known g h (names_in l) (names_in k) same) (and_second (has_form g true l) (has_form g true k) form))

ranges_misfit_frame : (g h : Ground) (fits : FormTree → Bool) (k : ℕ) (m : Option ModeTree) (rs : RangeNodes) → SameKnownEach g h (names_in_ranges rs) → have_form g rs ≡ true → ranges_misfit g fits k m rs ≡ ranges_misfit h fits k m rs
ranges_misfit_frame g h fits k m no_ranges same form = refl
ranges_misfit_frame g h fits k m (more_ranges r rs) same form =
    of_two (λ a b. a || b) (range_misfits_frame g h (mode_of_part fits k m) r (first_known g h (names_in_range r) (names_in_ranges rs) same) (and_first (range_has_form g r) (have_form g rs) form))
    (ranges_misfit_frame g h fits (suc k) m rs (later_known g h (names_in_range r) (names_in_ranges rs) same) (and_second (range_has_form g r) (have_form g rs) form))

tuple_frame : (g h : Ground) (m : Option ModeTree) (rs : RangeNodes) (at : Pos) → SameKnownEach g h (names_in_ranges rs) → have_form g rs ≡ true → told_tuple g m rs at ≡ told_tuple h m rs at
tuple_frame g h m rs at same form =
    of_two (λ a b. told_misfit (shape_fits rs) m a at ++ b) (ranges_misfit_frame g h (shape_fits rs) 0 m rs same form) (parts_frame g h (shape_fits rs) 0 m rs same form)

uniform_frame : (g h : Ground) (m : Option ModeTree) (e : ExprTree) (at : Pos) → SameKnownEach g h (names_in e) → has_form g true e ≡ true → told_uniform g m e at ≡ told_uniform h m e at
uniform_frame g h m e at same form =
    of_two (λ a b. told_misfit uniform_fits m a at ++ b) (class_misfits_frame g h true (mode_of_part uniform_fits 0 m) e same form) (part_frame g h (mode_of_part uniform_fits 0 m) e same form)

-- a tuple is judged only where its parts have the form
judged_form : (s : Standing) (n : Option Name) (parts : Bool) → is_judged s n parts ≡ true → parts ≡ true
judged_form s n parts is = and_second (not (is_by_itself s) || is_some n) parts (and_first (is_constant_tuple s n parts) (is_some n || not (is_in_synonym s)) is)

-- ---- over an expression

own_frame : (g h : Ground) (at : Pos) (o : Prefix) (e : ExprTree) {a b : List Diagnostic} → SameKnownEach g h (names_in e) → a ≡ b
    → then_told a (told_if_constant (has_form g false e) (told_unary g at o e)) ≡ then_told b (told_if_constant (has_form h false e) (told_unary h at o e))
own_frame g h at o e same inside = of_two then_told inside (guarded (has_form g false e) (form_frame g h false e same) (unary_frame g h at o e same))

-- an operand behind a sign or NOT
before_frame : (g h : Ground) (at : Pos) (o : Prefix) (e : ExprTree) {a b : List Diagnostic} → SameKnownEach g h (names_in e) → a ≡ b → told_before g at o e a ≡ told_before h at o e b
before_frame g h at prefixes.Not e same inside = own_frame g h at prefixes.Not e same inside
before_frame g h at prefixes.Minus (whole p n) same inside = refl
before_frame g h at prefixes.Minus (character p n) same inside = own_frame g h at prefixes.Minus (character p n) same inside
before_frame g h at prefixes.Minus (text p n) same inside = own_frame g h at prefixes.Minus (text p n) same inside
before_frame g h at prefixes.Minus (this_instance p) same inside = own_frame g h at prefixes.Minus (this_instance p) same inside
before_frame g h at prefixes.Minus (paren p e) same inside = own_frame g h at prefixes.Minus (paren p e) same inside
before_frame g h at prefixes.Minus (receive p n) same inside = own_frame g h at prefixes.Minus (receive p n) same inside
before_frame g h at prefixes.Minus (start p n es) same inside = own_frame g h at prefixes.Minus (start p n es) same inside
before_frame g h at prefixes.Minus (tuple p m b rs) same inside = own_frame g h at prefixes.Minus (tuple p m b rs) same inside
before_frame g h at prefixes.Minus (uniform p m b e) same inside = own_frame g h at prefixes.Minus (uniform p m b e) same inside
before_frame g h at prefixes.Minus (name n) same inside = own_frame g h at prefixes.Minus (name n) same inside
before_frame g h at prefixes.Minus (apply p e es) same inside = own_frame g h at prefixes.Minus (apply p e es) same inside
before_frame g h at prefixes.Minus (field p e n) same inside = own_frame g h at prefixes.Minus (field p e n) same inside
before_frame g h at prefixes.Minus (prefixed p q e) same inside = own_frame g h at prefixes.Minus (prefixed p q e) same inside
before_frame g h at prefixes.Minus (binary p l q s k) same inside = own_frame g h at prefixes.Minus (binary p l q s k) same inside

routine_frame : (g h : Ground) (at : Pos) (p : Option Predefined) (es : ExprNodes) → SameKnownEach g h (names_in_each es)
    → when_routine p (λ p. told_if_constant (are_arguments g (is_measuring p) es) (told_call g at p es)) ≡ when_routine p (λ p. told_if_constant (are_arguments h (is_measuring p) es) (told_call h at p es))
routine_frame g h at None es same = refl
routine_frame g h at (Some p) es same = guarded (are_arguments g (is_measuring p) es) (arguments_frame g h (is_measuring p) es same) (call_frame g h at p es same)

mutual
  pub told_constant_frame : ToldConstantFrame
  told_constant_frame g h s m (whole at n) same = refl
  told_constant_frame g h s m (character at n) same = refl
  told_constant_frame g h s m (text at n) same = refl
  told_constant_frame g h s m (this_instance at) same = refl
  told_constant_frame g h s m (paren at e) same = told_constant_frame g h s m e same
  told_constant_frame g h s m (receive at n) same = refl
  told_constant_frame g h s m (start at n es) same = told_each_frame g h es same.1
  told_constant_frame g h s m (tuple at n b rs) same =
      let parts = later_known g h (some_name n) (names_in_ranges rs) same in
      let mode = tuple_mode_frame g h n m (first_known g h (some_name n) (names_in_ranges rs) same) in
      let form = ranges_form_frame g h rs parts in
      of_two then_told
      (of_two (λ f m. told_in_ranges g (standing_of_parts s n f) (shape_fits rs) 0 m rs) form mode ∙ told_ranges_frame g h (standing_of_parts s n (have_form h rs)) (shape_fits rs) 0 (tuple_mode h n m) rs parts)
      (ap (λ m. told_if_constant (is_judged s n (have_form g rs)) (told_tuple g m rs b)) mode ∙ guarded (is_judged s n (have_form g rs)) (ap (is_judged s n) form) (λ is. tuple_frame g h (tuple_mode h n m) rs b parts (judged_form s n (have_form g rs) is)))
  told_constant_frame g h s m (uniform at n b e) same =
      let part = later_known g h (some_name n) (names_in e) same in
      let mode = tuple_mode_frame g h n m (first_known g h (some_name n) (names_in e) same) in
      let form = form_frame g h true e part in
      of_two then_told
      (of_two (λ f m. told_as g (standing_of_parts s n f) (mode_of_part uniform_fits 0 m) e) form mode ∙ told_constant_frame g h (standing_of_parts s n (has_form h true e)) (mode_of_part uniform_fits 0 (tuple_mode h n m)) e part)
      (ap (λ m. told_if_constant (is_judged s n (has_form g true e)) (told_uniform g m e b)) mode ∙ guarded (is_judged s n (has_form g true e)) (ap (is_judged s n) form) (λ is. uniform_frame g h (tuple_mode h n m) e b part (judged_form s n (has_form g true e) is)))
  told_constant_frame g h s m (name n) same = refl
  told_constant_frame g h s m (apply at e es) same =
      let base = first_known g h (names_in e) (names_in_each es) same in
      let args = later_known g h (names_in e) (names_in_each es) same in
      of_three (λ a b c. a ++ then_told b c) (told_constant_frame g h by_itself None e base) (told_each_frame g h es args)
      (ap (λ c. when_routine (value_routine c) (λ p. told_if_constant (are_arguments g (is_measuring p) es) (told_call g (place_of e) p es))) (callee_frame g h e base) ∙ routine_frame g h (place_of e) (value_routine (callee_of h e)) es args)
  told_constant_frame g h s m (field at e n) same = told_constant_frame g h by_itself None e same
  told_constant_frame g h s m (prefixed at o e) same = before_frame g h at o e same (told_constant_frame g h by_itself None e same)
  told_constant_frame g h s m (binary at l o p k) same =
      let left = first_known g h (names_in l) (names_in k) same in
      let right = later_known g h (names_in l) (names_in k) same in
      of_two then_told (of_two (λ a b. a ++ b) (told_constant_frame g h by_itself None l left) (told_constant_frame g h by_itself None k right))
      (guarded (has_form g false l && has_form g false k) (of_two (λ a b. a && b) (form_frame g h false l left) (form_frame g h false k right)) (binary_frame g h p o l k left right))

  told_each_frame : (g h : Ground) (es : ExprNodes) → SameKnownEach g h (names_in_each es) → told_in_each g es ≡ told_in_each h es
  told_each_frame g h no_exprs same = refl
  told_each_frame g h (more_exprs e es) same =
      of_two (λ a b. a ++ b) (told_constant_frame g h by_itself None e (first_known g h (names_in e) (names_in_each es) same)) (told_each_frame g h es (later_known g h (names_in e) (names_in_each es) same))

  told_ranges_frame : (g h : Ground) (s : Standing) (fits : FormTree → Bool) (k : ℕ) (m : Option ModeTree) (rs : RangeNodes) → SameKnownEach g h (names_in_ranges rs) → told_in_ranges g s fits k m rs ≡ told_in_ranges h s fits k m rs
  told_ranges_frame g h s fits k m no_ranges same = refl
  told_ranges_frame g h s fits k m (more_ranges r rs) same =
      of_two (λ a b. a ++ b) (told_range_frame g h s (mode_of_part fits k m) r (first_known g h (names_in_range r) (names_in_ranges rs) same))
      (told_ranges_frame g h s fits (suc k) m rs (later_known g h (names_in_range r) (names_in_ranges rs) same))

  told_range_frame : (g h : Ground) (s : Standing) (m : Option ModeTree) (r : RangeTree) → SameKnownEach g h (names_in_range r) → told_in_range g s m r ≡ told_in_range h s m r
  told_range_frame g h s m (alone e) same = told_constant_frame g h s m e same
  told_range_frame g h s m (between l k) same =
      of_two (λ a b. a ++ b) (told_constant_frame g h s m l (first_known g h (names_in l) (names_in k) same)) (told_constant_frame g h s m k (later_known g h (names_in l) (names_in k) same))

-- ---- what is told only where nothing is told before

pub then_guarded : (t : List Diagnostic) {u x y : List Diagnostic} → t ≡ u → (is_none_told t ≡ true → x ≡ y) → then_told t x ≡ then_told u y
then_guarded t {u} {x} {y} first same = by t same ∙ ap (λ t. then_told t y) first
  where
    by : (t : List Diagnostic) → (is_none_told t ≡ true → x ≡ y) → then_told t x ≡ then_told t y
    by [] same = same refl
    by (d ∷ ds) same = refl

-- where M1 isn't told, it has the form
pub none_formed : (t : List Diagnostic) (b : Bool) (d : Diagnostic) → is_none_told (then_told t (told_if (not b) d)) ≡ true → b ≡ true
none_formed [] true d none = refl
none_formed [] false d none = absurd (true≢false (sym none))
none_formed (x ∷ xs) b d none = absurd (true≢false (sym none))

pub none_told_first : (t u : List Diagnostic) → is_none_told (then_told t u) ≡ true → is_none_told t ≡ true
none_told_first [] u none = refl
none_told_first (x ∷ xs) u none = absurd (true≢false (sym none))
