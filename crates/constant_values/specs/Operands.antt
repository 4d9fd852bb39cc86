-- Operands by their classes, their values as trees and their flat scalars.
use Rattle.std.specs.Prelude.{◌≡◌, ℕ, Bool, true, false, List, ℤ, length, Option, Some, None, is_some, IsTrue}
use Rattle.chill_tree.specs.declared.tree.expr.Operator.{Operator}
use Rattle.chill_tree.specs.declared.tree.expr.Prefix.{Prefix}
use Rattle.chill_tree.specs.declared.tree.expr.Operator.TheVariants as ops
use Rattle.modes.specs.ModeTree.{ModeTree, ClassTree}
use Rattle.modes.specs.Form.{FormTree, of_powerset, of_chars, of_array, of_structure, of_meeting}
use Rattle.checks_model.specs.ValueTrees.{ValueTree, members, scalars_in}
use Rattle.checks_model.specs.Ground.{Predefined}
use Rattle.checks_model.specs.Operations.{class_of_binary, class_of_unary, class_of_routine}
use Rattle.constant_values.specs.Fits.{fits_class}

-- ---- what the values of a class are

-- the mode of the members of powersets
abbrev pub member_mode : Option FormTree → Option ModeTree
member_mode (Some (of_powerset m)) = Some m
member_mode _ = None

-- the values are texts, arrays or structures, or there are none
abbrev pub have_parts : Option FormTree → Bool
have_parts (Some (of_chars n)) = true
have_parts (Some (of_array i e how)) = true
have_parts (Some (of_structure fs p)) = true
have_parts (Some of_meeting) = true
have_parts _ = false

abbrev pub is_in_operator : Operator → Bool
is_in_operator ops.In = true
is_in_operator _ = false

-- ---- operands

-- a value of a class, with its scalars
pub record IsOperand (c : ClassTree) (v : ValueTree) (flat : List ℤ) : Type 0 where
  pub fits : IsTrue (fits_class c v)
  pub scalars : scalars_in v ≡ flat

-- two values that an operator takes
pub record AreOperands (o : Operator) (c d : ClassTree) (v w : ValueTree) (left right : List ℤ) : Type 0 where
  pub taken : IsTrue (is_some (class_of_binary o c d))
  pub one : IsOperand c v left
  pub other : IsOperand d w right

-- a value that an operator takes
pub record IsTaken (o : Prefix) (c : ClassTree) (v : ValueTree) (flat : List ℤ) : Type 0 where
  pub taken : IsTrue (is_some (class_of_unary o c))
  pub operand : IsOperand c v flat

-- a value that a routine takes
pub record IsArgument (p : Predefined) (c : ClassTree) (v : ValueTree) (flat : List ℤ) : Type 0 where
  pub taken : IsTrue (is_some (class_of_routine p c))
  pub operand : IsOperand c v flat

-- a powerset of so many members, with its scalars
pub record IsSet (bs : List Bool) (size : ℕ) (flat : List ℤ) : Type 0 where
  pub count : length bs ≡ size
  pub scalars : scalars_in (members bs) ≡ flat
