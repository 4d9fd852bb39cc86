-- Operators on numbers, and comparisons of any values, by how these stand to each other.
use Rattle.std.specs.Prelude.{Bool, false, ◌||◌, not, if◌then◌else◌, List, Option, Some, ℤ}
use Rattle.chill_tree.specs.declared.tree.expr.Operator.{Operator}
use Rattle.chill_tree.specs.declared.tree.expr.Operator.TheVariants as ops
use Rattle.scalar_operators.specs.Numbers.{truth_of}
use Rattle.checks_model.specs.ValueTrees.{ValueTree, number, members, is_less, same_value}
use Rattle.checks_model.specs.Operations.{is_arithmetic, is_logic, is_on_sets}
use Rattle.checks_model.specs.OperatorValues.{arithmetic, logic, zipped, truth_value}

-- a comparison of two values, of which the first is less, the same, or greater
abbrev pub compared : Operator → Bool → Bool → Bool → Bool
compared ops.Equal less same greater = same
compared ops.NotEqual less same greater = not same
compared ops.Less less same greater = less
compared ops.LessOrEqual less same greater = less || same
compared ops.Greater less same greater = greater
compared ops.GreaterOrEqual less same greater = greater || same
compared _ less same greater = false

abbrev pub compared_values : Operator → ValueTree → ValueTree → Bool
compared_values o v w = compared o (is_less v w) (same_value v w) (is_less w v)

-- the value of an operator on two numbers
abbrev pub value_on_numbers : Operator → ℤ → ℤ → Option ValueTree
value_on_numbers o a b =
    if is_arithmetic o then arithmetic o a b
    else (if is_logic o then Some (truth_value (logic o (truth_of a) (truth_of b)))
    else Some (truth_value (compared_values o (number a) (number b))))

-- the value of an operator on two powersets
abbrev pub value_on_sets : Operator → List Bool → List Bool → Option ValueTree
value_on_sets o as' bs = if is_on_sets o then Some (members (zipped (logic o) as' bs)) else Some (truth_value (compared_values o (members as') (members bs)))
