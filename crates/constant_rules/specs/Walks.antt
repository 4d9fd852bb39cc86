-- What is found of each kind of expression, in the words of the rules on constants.
use Rattle.std.specs.Prelude.{◌≡◌, ℕ, Bool, true, false, ◌&&◌, ◌||◌, List, [], ◌∷◌, ◌++◌, Option, Some, None, is_none, ℤ, if◌then◌else◌}
use Rattle.chill_base.specs.declared.pos.Pos.{Pos}
use Rattle.chill_tree.specs.declared.tree.expr.Operator.{Operator}
use Rattle.chill_tree.specs.declared.tree.expr.Prefix.{Prefix}
use Rattle.chill_tree.specs.declared.tree.expr.Prefix.TheVariants as prefixes
use Rattle.chill_tree.specs.ExprTree.{ExprTree, ExprNodes, RangeTree, RangeNodes, whole, apply, paren, tuple, uniform, alone, between, no_ranges, more_ranges}
use Rattle.diagnostics.specs.declared.diagnostic.Diagnostic.{Diagnostic}
use Rattle.diagnostics.specs.declared.rule.Rule.TheVariants as rules
use Rattle.modes.specs.ModeTree.{ModeTree, ClassTree, derived, int}
use Rattle.checks_model.specs.ValueTrees.{ValueTree}
use Rattle.checks_model.specs.Told.{tell_at, told_if, then_told, is_none_told, holds_of}
use Rattle.checks_model.specs.Ground.{Ground, Predefined}
use Rattle.checks_model.specs.Operations.{is_measuring}
use Rattle.checks_model.specs.OperatorValues.{in_int}
use Rattle.checks_model.specs.Classes.{Measured, class_of, class_of_call, class_of_first, class_of_measured, measured, measured_first, measured_misfits}
use Rattle.checks_model.specs.Constants.{has_form, have_form, are_arguments, constant_of, is_measured, is_value_routine, value_of_call, value_of_first, value_of_measured}
use Rattle.checks_model.specs.ConstantRules.{told_of_constants, told_in_each, told_call, told_if_constant, when_routine, told_literal, told_needed, told_of_synonym_value}
use Rattle.checks_model.specs.WrittenModes.{unless_told}
use Rattle.checks_model.specs.Table.{value_within}
use Rattle.constant_operators.specs.declared.known.Known.{Known}
use Rattle.constant_operators.specs.Known.{IsKnownConstant, binary_misfits, binary_raises, unary_misfits, unary_raises, routine_misfits, routine_raises}
use Rattle.constant_rules.specs.Found.{Finds, FindsAt}

-- of an expression that stands by itself
abbrev pub FindsExpr : Ground → ExprTree → List Diagnostic → List Diagnostic → Known → Type 0
FindsExpr g x old new k = Finds (has_form g false x) (told_of_constants g x) (class_of g x) (constant_of g x) old new k

-- of a literal of INT, up to a limit
abbrev pub FindsLiteral : Pos → ℕ → ℕ → ℤ → List Diagnostic → List Diagnostic → Known → Type 0
FindsLiteral at limit n number old new k = Finds true (told_literal at limit n) (Some (derived int)) (in_int number) old new k

-- what is told in the ends of ranges, each by itself
abbrev pub told_in_ends : Ground → RangeTree → List Diagnostic
told_in_ends g (alone e) = told_of_constants g e
told_in_ends g (between l h) = told_of_constants g l ++ told_of_constants g h

abbrev pub told_in_all : Ground → RangeNodes → List Diagnostic
told_in_all g no_ranges = []
told_in_all g (more_ranges r rs) = told_in_ends g r ++ told_in_all g rs

-- ---- what is told of an operator or a routine, by the classes and values of what it takes

abbrev pub told_at_node : Bool → Bool → Pos → List Diagnostic
told_at_node misfits raises at = if misfits then tell_at rules.M10 at ∷ [] else told_if raises (tell_at rules.M11 at)

abbrev pub binary_told : Pos → Operator → Option ClassTree → Option ValueTree → Option ClassTree → Option ValueTree → List Diagnostic
binary_told at o l v r w = told_at_node (binary_misfits o l r) (binary_raises o l v r w) at

abbrev pub unary_told : Pos → Prefix → Option ClassTree → Option ValueTree → List Diagnostic
unary_told at o c v = told_at_node (unary_misfits o c) (unary_raises o c v) at

abbrev pub routine_told : Pos → Predefined → Option ClassTree → Option ValueTree → List Diagnostic
routine_told at p c v = told_at_node (routine_misfits p c) (routine_raises p c v) at

abbrev pub measure_told : Pos → Predefined → Measured → Option ClassTree → List Diagnostic
measure_told at p m c = told_if (measured_misfits p m c) (tell_at rules.M10 at)

-- ---- a call of a predefined name

-- the routine, where it gives a value of its arguments alone
abbrev pub constant_routine : Predefined → Option Predefined
constant_routine p = if is_value_routine p then Some p else None

abbrev pub routine_form : Ground → Predefined → ExprNodes → Bool
routine_form g p es = holds_of (λ p. are_arguments g (is_measuring p) es) (constant_routine p)

abbrev pub told_of_routine : Ground → Pos → Predefined → ExprNodes → List Diagnostic
told_of_routine g at p es = then_told (told_in_each g es) (when_routine (constant_routine p) (λ p. told_if_constant (are_arguments g (is_measuring p) es) (told_call g at p es)))

abbrev pub FindsRoutine : Ground → Pos → Predefined → ExprNodes → List Diagnostic → List Diagnostic → Known → Type 0
FindsRoutine g at p es old new k =
    Finds (routine_form g p es) (told_of_routine g at p es) (class_of_call p (measured_first g es) (class_of_first g es))
    (value_of_call (constant_routine p) (measured_first g es) (class_of_first g es) (value_of_first g es)) old new k

-- what is told of a routine of one argument
abbrev pub one_told : Ground → Pos → Predefined → ExprNodes → List Diagnostic
one_told g at p es =
    if is_measuring p then measure_told at p (measured_first g es) (class_of_first g es)
    else routine_told at p (class_of_first g es) (value_of_first g es)

-- of UPPER, LOWER or SIZE of an argument
abbrev pub measured_form : Measured → Bool → Bool
measured_form m form = is_measured m || form

abbrev pub measure_form : Ground → ExprTree → Bool
measure_form g x = measured_form (measured g x) (has_form g false x)

-- of an argument that measures this, in which that is told, and which has a class
abbrev pub FindsMeasure : Pos → Predefined → Measured → Bool → List Diagnostic → Option ClassTree → List Diagnostic → List Diagnostic → Known → Type 0
FindsMeasure at p m form inside c old new k =
    FindsAt (measured_form m form) inside (told_if_constant (measured_form m form) (measure_told at p m c)) (class_of_measured p m) (value_of_measured p m) old new k

-- ---- tuples

-- the expression has brackets behind it
abbrev pub is_apply : ExprTree → Bool
is_apply (apply at e es) = true
is_apply _ = false

-- a tuple of constants without a mode's name, in parentheses or not
abbrev pub is_unnamed_tuple : Ground → ExprTree → Bool
is_unnamed_tuple g (paren at e) = is_unnamed_tuple g e
is_unnamed_tuple g (tuple at m b rs) = is_none m && have_form g rs
is_unnamed_tuple g (uniform at m b e) = is_none m && has_form g true e
is_unnamed_tuple g _ = false

-- the value of a synonym with a written mode that may be unknown, where nothing is told of its expression
abbrev pub synonym_value : Ground → Option ModeTree → ExprTree → Option ValueTree
synonym_value g m x = unless_told (told_of_synonym_value g true m x) (value_within g m x)

-- a minus directly before a literal: the literal with its place
abbrev pub minus_literal : Prefix → ExprTree → Option (Pos × ℕ)
minus_literal prefixes.Minus (whole at n) = Some (at, n)
minus_literal prefixes.Minus _ = None
minus_literal prefixes.Not e = None

-- an argument of a routine that measures it or takes its value
abbrev pub is_argument : Ground → Bool → ExprTree → Bool
is_argument g measures e = (measures && is_measured (measured g e)) || has_form g false e

-- ---- where a constant is needed

-- what is known where nothing is told of it
abbrev pub IsNeeded : Ground → ExprTree → Option Known → Type 0
IsNeeded g x None = is_none_told (told_needed g x) ≡ false
IsNeeded g x (Some k) = (is_none_told (told_needed g x) ≡ true) × IsKnownConstant (class_of g x) (constant_of g x) k

pub record FindsNeeded (g : Ground) (x : ExprTree) (old new : List Diagnostic) (known : Option Known) : Type 0 where
  pub told : new ≡ old ++ told_needed g x
  pub found : IsNeeded g x known

-- a range between two
abbrev pub is_between : RangeTree → Bool
is_between (alone e) = false
is_between (between l h) = true

-- an expression that isn't in parentheses, and no tuple without a mode's name
abbrev pub is_own : ExprTree → Bool
is_own (paren at e) = false
is_own (tuple at None b rs) = false
is_own (uniform at None b e) = false
is_own _ = true
