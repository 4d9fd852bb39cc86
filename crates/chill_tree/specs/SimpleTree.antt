-- Actions that hold no other, and what controls a loop, without where they lie in memory.
use Rattle.std.specs.Prelude.{Bool, List, Option, option_map}
use Rattle.std.specs.declared.alloc.Global.{Global}
use Rattle.std.specs.declared.boxed.Box.{Box}
use Rattle.chill_base.specs.declared.pos.Pos.{Pos}
use Rattle.chill_tree.specs.declared.tree.name.Name.{Name}
use Rattle.chill_tree.specs.declared.tree.expr.Operator.{Operator}
use Rattle.chill_tree.specs.declared.tree.statement.Simple.{Simple}
use Rattle.chill_tree.specs.declared.tree.statement.Simple.TheVariants as simples
use Rattle.chill_tree.specs.declared.tree.statement.Control.{Control}
use Rattle.chill_tree.specs.declared.tree.statement.Control.TheVariants as controls
use Rattle.chill_tree.specs.ExprTree.{ExprTree, boxed_expr, expr_trees}

-- an action that holds no other
pub data SimpleTree : Type 0 where
  assign : Pos → ExprTree → ExprTree → SimpleTree
  -- the place of the operator comes behind it
  update : Pos → ExprTree → Operator → Pos → ExprTree → SimpleTree
  call_of : Pos → Bool → Name → List ExprTree → SimpleTree
  exit : Pos → Name → SimpleTree
  return_with : Pos → Option ExprTree → SimpleTree
  result_of : Pos → ExprTree → SimpleTree
  assert_that : Pos → ExprTree → SimpleTree
  cause : Pos → Name → SimpleTree
  stop : Pos → SimpleTree
  start_of : Pos → Name → List ExprTree → SimpleTree
  delay : Pos → Name → Option ExprTree → SimpleTree
  continue_event : Pos → Name → SimpleTree
  send : Pos → Name → Option (List ExprTree) → Option ExprTree → Option ExprTree → SimpleTree

-- how often a loop is done
pub data ControlTree : Type 0 where
  while_holds : Pos → ExprTree → ControlTree
  for_ever : Pos → ControlTree
  for_members : Pos → Name → ExprTree → Option ExprTree → ControlTree
  for_steps : Pos → Name → ExprTree → Option ExprTree → Bool → ExprTree → Option ExprTree → ControlTree

-- ---- the trees of values

abbrev pub simple_tree : Simple → SimpleTree
simple_tree (simples.Assign at t v) = assign at (boxed_expr t) (boxed_expr v)
simple_tree (simples.Update at t o p v) = update at (boxed_expr t) o p (boxed_expr v)
simple_tree (simples.Call at c n es) = call_of at c n (expr_trees es)
simple_tree (simples.Exit at n) = exit at n
simple_tree (simples.Return at v) = return_with at (option_map boxed_expr v)
simple_tree (simples.Result at v) = result_of at (boxed_expr v)
simple_tree (simples.Assert at c) = assert_that at (boxed_expr c)
simple_tree (simples.Cause at n) = cause at n
simple_tree (simples.Stop at) = stop at
simple_tree (simples.Start at n es) = start_of at n (expr_trees es)
simple_tree (simples.Delay at n p) = delay at n (option_map boxed_expr p)
simple_tree (simples.Continue at n) = continue_event at n
simple_tree (simples.Send at n es r p) = send at n (option_map expr_trees es) (option_map boxed_expr r) (option_map boxed_expr p)

abbrev pub boxed_simple : Box Simple Global → SimpleTree
boxed_simple b = simple_tree b.value

abbrev pub control_tree : Control → ControlTree
control_tree (controls.While at c) = while_holds at (boxed_expr c)
control_tree (controls.Forever at) = for_ever at
control_tree (controls.Members at n s c) = for_members at n (boxed_expr s) (option_map boxed_expr c)
control_tree (controls.Steps at n s b d e c) = for_steps at n (boxed_expr s) (option_map boxed_expr b) d (boxed_expr e) (option_map boxed_expr c)
