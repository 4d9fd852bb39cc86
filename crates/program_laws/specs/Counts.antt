-- The law of counts: an elaborated expression has as many scalars as a value of its class, and the bounds of its root.
use Rattle.std.specs.Prelude.{◌≡◌, Option, Some}
use Rattle.chill_tree.specs.ExprTree.{ExprTree}
use Rattle.modes.specs.ModeTree.{ModeTree, ClassTree}
use Rattle.program_trees.specs.ExprTree as made
use Rattle.checks_model.specs.Classes.{class_as}
use Rattle.elaboration_model.specs.Numbering.{Source}
use Rattle.elaboration_model.specs.Expressions.{count_in, expr_as}

-- what is made of an expression of a class
pub record IsOfClass (s : Source) (m : Option ModeTree) (e : ExprTree) (x : made.ExprTree) : Type 0 where
  pub class : ClassTree
  pub is : class_as s.known m e ≡ Some class
  pub operation : made.OperationTree
  pub whole : x ≡ made.expr (count_in class) (made.root_bounds class) operation

abbrev pub CountsLaw : Type 0
CountsLaw = (s : Source) (m : Option ModeTree) (e : ExprTree) (x : made.ExprTree) → expr_as s m e ≡ Some x → IsOfClass s m e x
