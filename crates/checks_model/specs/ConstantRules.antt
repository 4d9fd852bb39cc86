-- The rules on constants: M1, M10, M11 and M12, each asked of one node. `told_as` goes over the nodes of an expression.
use Rattle.std.specs.Prelude.{ℕ, suc, Bool, true, false, ◌&&◌, ◌||◌, ◌==◌, not, nat_lt, if◌then◌else◌, List, [], ◌∷◌, ◌++◌, Option, Some, None, is_some, int_le}
use Rattle.chill_base.specs.declared.pos.Pos.{Pos}
use Rattle.chill_tree.specs.declared.tree.name.Name.{Name}
use Rattle.chill_tree.specs.declared.tree.expr.Operator.{Operator}
use Rattle.chill_tree.specs.declared.tree.expr.Prefix.{Prefix}
use Rattle.chill_tree.specs.declared.tree.expr.Prefix.TheVariants as prefixes
use Rattle.chill_tree.specs.ExprTree.{ExprTree, ExprNodes, RangeTree, RangeNodes, whole, character, text, this_instance, paren, receive, start, tuple, uniform, name, apply, field, prefixed, binary, no_exprs, more_exprs, alone, between, no_ranges, more_ranges, place_of}
use Rattle.modes.specs.declared.mode.Bounds.{Bounds}
use Rattle.modes.specs.ModeTree.{ModeTree}
use Rattle.modes.specs.Form.{FormTree, form_of}
use Rattle.modes.specs.Bounds.{bounds_of}
use Rattle.diagnostics.specs.declared.diagnostic.Diagnostic.{Diagnostic}
use Rattle.diagnostics.specs.declared.rule.Rule.TheVariants as rules
use Rattle.checks_model.specs.Alike.{goes_with}
use Rattle.checks_model.specs.ValueTrees.{ValueTree, number}
use Rattle.checks_model.specs.Ground.{Ground, Predefined}
use Rattle.checks_model.specs.Operations.{is_measuring, operands_misfit, operand_misfits, argument_misfits}
use Rattle.checks_model.specs.Classes.{class_of, class_as, callee_of, measured_first, class_of_first, tuple_mode, shape_fits, uniform_fits, mode_of_part, measured_misfits, count_exprs}
use Rattle.checks_model.specs.Told.{tell_at, told_if, then_told, holds_of, holds_of_both}
use Rattle.checks_model.specs.OperatorValues.{value_of_binary, value_of_unary, value_of_routine}
use Rattle.checks_model.specs.Constants.{has_form, have_form, are_arguments, value_routine, constant_as, constant_of, value_of_first}

-- ---- M10: operands in a constant don't fit. M11: the values of the operands are there, and the node has none. Each is asked of
-- one node of constant form in whose parts nothing is told

abbrev pub raises : {A : Type 0} → (A → Option ValueTree) → A → Bool
raises f v = not (is_some (f v))

abbrev pub told_unary : Ground → Pos → Prefix → ExprTree → List Diagnostic
told_unary g at o e =
    if holds_of (operand_misfits o) (class_of g e) then tell_at rules.M10 at ∷ []
    else told_if (is_some (class_of g e) && holds_of (raises (value_of_unary o)) (constant_of g e)) (tell_at rules.M11 at)

abbrev pub told_binary : Ground → Pos → Operator → ExprTree → ExprTree → List Diagnostic
told_binary g at o l r =
    if holds_of_both (operands_misfit o) (class_of g l) (class_of g r) then tell_at rules.M10 at ∷ []
    else told_if (is_some (class_of g l) && holds_of (λ c. holds_of_both (λ v w. raises (value_of_binary o c v) w) (constant_of g l) (constant_of g r)) (class_of g r)) (tell_at rules.M11 at)

-- a routine with a wrong number of arguments is M10 too
abbrev pub told_call : Ground → Pos → Predefined → ExprNodes → List Diagnostic
told_call g at p es =
    if not (count_exprs es == 1) then tell_at rules.M10 at ∷ []
    else (if is_measuring p then told_if (measured_misfits p (measured_first g es) (class_of_first g es)) (tell_at rules.M10 at)
    else (if holds_of (argument_misfits p) (class_of_first g es) then tell_at rules.M10 at ∷ []
    else told_if (holds_of (λ c. holds_of (raises (value_of_routine p c)) (value_of_first g es)) (class_of_first g es)) (tell_at rules.M11 at)))

-- M11 of a literal that is outside INT
abbrev pub told_literal : Pos → ℕ → ℕ → List Diagnostic
told_literal at limit n = told_if (nat_lt limit n) (tell_at rules.M11 at)

-- ---- M10 and M11 of a tuple of constant form

-- where a tuple stands: by itself; in a tuple of constant form; or as a synonym's value or a part of an unnamed tuple there,
-- of which M12 judges
pub data Standing : Type 0 where
  by_itself : Standing
  in_a_tuple : Standing
  in_a_synonym : Standing

abbrev pub is_by_itself : Standing → Bool
is_by_itself by_itself = true
is_by_itself in_a_tuple = false
is_by_itself in_a_synonym = false

abbrev pub is_in_synonym : Standing → Bool
is_in_synonym in_a_synonym = true
is_in_synonym by_itself = false
is_in_synonym in_a_tuple = false

-- a number outside bounds
abbrev pub is_outside : Option Bounds → ValueTree → Bool
is_outside (Some b) (number n) = not (int_le b.low n && int_le n b.high)
is_outside _ v = false

abbrev pub class_misfits : Ground → Option ModeTree → ExprTree → Bool
class_misfits g m e = holds_of_both (λ c m. not (goes_with c m)) (class_as g m e) m

abbrev pub value_misfits : Ground → Option ModeTree → ExprTree → Bool
value_misfits g m e = holds_of_both goes_with (class_as g m e) m && holds_of_both (λ v m. is_outside (bounds_of m) v) (constant_as g m e) m

-- M11 of a part: its class goes with the mode of the part, and its value lies outside
abbrev pub told_part : Ground → Option ModeTree → ExprTree → List Diagnostic
told_part g m e = told_if (value_misfits g m e) (tell_at rules.M11 (place_of e))

abbrev pub told_part_range : Ground → Option ModeTree → RangeTree → List Diagnostic
told_part_range g m (alone e) = told_part g m e
told_part_range g m (between l h) = told_part g m l ++ told_part g m h

abbrev pub told_parts : Ground → (FormTree → Bool) → ℕ → Option ModeTree → RangeNodes → List Diagnostic
told_parts g fits k m no_ranges = []
told_parts g fits k m (more_ranges r rs) = told_part_range g (mode_of_part fits k m) r ++ told_parts g fits (suc k) m rs

abbrev pub range_misfits : Ground → Option ModeTree → RangeTree → Bool
range_misfits g m (alone e) = class_misfits g m e
range_misfits g m (between l h) = class_misfits g m l || class_misfits g m h

abbrev pub ranges_misfit : Ground → (FormTree → Bool) → ℕ → Option ModeTree → RangeNodes → Bool
ranges_misfit g fits k m no_ranges = false
ranges_misfit g fits k m (more_ranges r rs) = range_misfits g (mode_of_part fits k m) r || ranges_misfit g fits (suc k) m rs

-- M10: the mode is there, and the tuple hasn't its form, or the class of a part doesn't go with the part's mode
abbrev pub told_misfit : (FormTree → Bool) → Option ModeTree → Bool → Pos → List Diagnostic
told_misfit fits m part_misfits at = told_if (holds_of (λ m. not (fits (form_of m)) || part_misfits) m) (tell_at rules.M10 at)

abbrev pub told_tuple : Ground → Option ModeTree → RangeNodes → Pos → List Diagnostic
told_tuple g m rs at = told_misfit (shape_fits rs) m (ranges_misfit g (shape_fits rs) 0 m rs) at ++ told_parts g (shape_fits rs) 0 m rs

abbrev pub told_uniform : Ground → Option ModeTree → ExprTree → Pos → List Diagnostic
told_uniform g m e at = told_misfit uniform_fits m (class_misfits g (mode_of_part uniform_fits 0 m) e) at ++ told_part g (mode_of_part uniform_fits 0 m) e

-- an unnamed tuple of constant form has a mode that receives it
abbrev pub is_constant_tuple : Standing → Option Name → Bool → Bool
is_constant_tuple s m parts_have_form = (not (is_by_itself s) || is_some m) && parts_have_form

-- a tuple of constant form of which M12 doesn't judge
abbrev pub is_judged : Standing → Option Name → Bool → Bool
is_judged s m parts_have_form = is_constant_tuple s m parts_have_form && (is_some m || not (is_in_synonym s))

-- where the parts of such a tuple stand
abbrev pub standing_of_parts : Standing → Option Name → Bool → Standing
standing_of_parts s m parts_have_form =
    if is_constant_tuple s m parts_have_form then (if is_judged s m parts_have_form then in_a_tuple else in_a_synonym) else by_itself

abbrev pub told_if_constant : Bool → List Diagnostic → List Diagnostic
told_if_constant is_constant told = if is_constant then told else []

abbrev pub when_routine : Option Predefined → (Predefined → List Diagnostic) → List Diagnostic
when_routine None f = []
when_routine (Some p) f = f p

-- ---- over an expression

-- the operand of a sign or NOT, with what is told in it; a minus directly before a literal makes one number with it
abbrev pub told_before : Ground → Pos → Prefix → ExprTree → List Diagnostic → List Diagnostic
told_before g at prefixes.Minus (whole p n) inside = told_literal p 2147483648 n
told_before g at o e inside = then_told inside (told_if_constant (has_form g false e) (told_unary g at o e))

abbrev mutual
  -- M10 and M11 in an expression that stands somewhere and goes to a place of a mode, where that has one
  pub told_as : Ground → Standing → Option ModeTree → ExprTree → List Diagnostic
  told_as g s m (whole at n) = told_literal at 2147483647 n
  told_as g s m (character at n) = []
  told_as g s m (text at n) = []
  told_as g s m (this_instance at) = []
  told_as g s m (receive at n) = []
  told_as g s m (name n) = []
  told_as g s m (paren at e) = told_as g s m e
  told_as g s m (start at n es) = told_in_each g es
  told_as g s m (field at e n) = told_as g by_itself None e
  told_as g s m (tuple at n b rs) =
      then_told (told_in_ranges g (standing_of_parts s n (have_form g rs)) (shape_fits rs) 0 (tuple_mode g n m) rs)
      (told_if_constant (is_judged s n (have_form g rs)) (told_tuple g (tuple_mode g n m) rs b))
  told_as g s m (uniform at n b e) =
      then_told (told_as g (standing_of_parts s n (has_form g true e)) (mode_of_part uniform_fits 0 (tuple_mode g n m)) e)
      (told_if_constant (is_judged s n (has_form g true e)) (told_uniform g (tuple_mode g n m) e b))
  told_as g s m (apply at e es) =
      told_as g by_itself None e
      ++ then_told (told_in_each g es) (when_routine (value_routine (callee_of g e)) (λ p. told_if_constant (are_arguments g (is_measuring p) es) (told_call g (place_of e) p es)))
  told_as g s m (prefixed at o e) = told_before g at o e (told_as g by_itself None e)
  told_as g s m (binary at l o p r) =
      then_told (told_as g by_itself None l ++ told_as g by_itself None r) (told_if_constant (has_form g false l && has_form g false r) (told_binary g p o l r))

  pub told_in_each : Ground → ExprNodes → List Diagnostic
  told_in_each g no_exprs = []
  told_in_each g (more_exprs e es) = told_as g by_itself None e ++ told_in_each g es

  pub told_in_ranges : Ground → Standing → (FormTree → Bool) → ℕ → Option ModeTree → RangeNodes → List Diagnostic
  told_in_ranges g s fits k m no_ranges = []
  told_in_ranges g s fits k m (more_ranges r rs) = told_in_range g s (mode_of_part fits k m) r ++ told_in_ranges g s fits (suc k) m rs

  pub told_in_range : Ground → Standing → Option ModeTree → RangeTree → List Diagnostic
  told_in_range g s m (alone e) = told_as g s m e
  told_in_range g s m (between l h) = told_as g s m l ++ told_as g s m h

-- M10 and M11 in an expression that stands by itself
abbrev pub told_of_constants : Ground → ExprTree → List Diagnostic
told_of_constants g e = told_as g by_itself None e

abbrev pub told_of_some_constants : Ground → Option ExprTree → List Diagnostic
told_of_some_constants g None = []
told_of_some_constants g (Some e) = told_of_constants g e

-- ---- M1: a constant is needed, nothing is told in the expression, and it hasn't the form

abbrev pub told_needed : Ground → ExprTree → List Diagnostic
told_needed g e = then_told (told_of_constants g e) (told_if (not (has_form g false e)) (tell_at rules.M1 (place_of e)))

abbrev pub told_some_needed : Ground → Option ExprTree → List Diagnostic
told_some_needed g None = []
told_some_needed g (Some e) = told_needed g e

-- ---- M12: a synonym's value doesn't go with its written mode or lies outside it

abbrev mutual
  -- of an unnamed tuple its form and its parts are asked, of anything else its class and its value
  pub misfits_as : Ground → Option ModeTree → ExprTree → Bool
  misfits_as g m (paren at e) = misfits_as g m e
  misfits_as g m (tuple at None b rs) = holds_of (λ m. not (shape_fits rs (form_of m))) m || some_misfits g (shape_fits rs) 0 m rs
  misfits_as g m (uniform at None b e) = holds_of (λ m. not (uniform_fits (form_of m))) m || misfits_as g (mode_of_part uniform_fits 0 m) e
  misfits_as g m e = class_misfits g m e || value_misfits g m e

  pub some_misfits : Ground → (FormTree → Bool) → ℕ → Option ModeTree → RangeNodes → Bool
  some_misfits g fits k m no_ranges = false
  some_misfits g fits k m (more_ranges r rs) = one_misfits g (mode_of_part fits k m) r || some_misfits g fits (suc k) m rs

  pub one_misfits : Ground → Option ModeTree → RangeTree → Bool
  one_misfits g m (alone e) = misfits_as g m e
  one_misfits g m (between l h) = misfits_as g m l || misfits_as g m h

-- where a synonym's expression stands: it has the mode that is written for the synonym
abbrev pub standing_with : Bool → Standing
standing_with has_mode = if has_mode then in_a_synonym else by_itself

-- M10, M11 and M1 of the expression of a synonym, which has a written mode that may be unknown
abbrev pub told_of_value : Ground → Bool → Option ModeTree → ExprTree → List Diagnostic
told_of_value g has_mode m e = then_told (told_as g (standing_with has_mode) m e) (told_if (not (has_form g has_mode e)) (tell_at rules.M1 (place_of e)))

abbrev pub told_of_synonym_value : Ground → Bool → Option ModeTree → ExprTree → List Diagnostic
told_of_synonym_value g has_mode m e = then_told (told_of_value g has_mode m e) (told_if (misfits_as g m e) (tell_at rules.M12 (place_of e)))
