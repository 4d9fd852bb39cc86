-- What is found, without where it lies in memory.
use Rattle.std.specs.Prelude.{List, map}
use Rattle.chill_tree.specs.ExprTree.{expr_tree}
use Rattle.wait_exprs.specs.declared.wait.Wait.{Wait}
use Rattle.wait_exprs.specs.declared.wait.Wait.TheVariants as variants
use Rattle.wait_exprs.specs.Waits.{WaitTree, set_of, priority_of}

abbrev pub wait_tree : Wait → WaitTree
wait_tree (variants.Set e) = set_of (expr_tree e.now)
wait_tree (variants.Priority e) = priority_of (expr_tree e.now)

abbrev pub wait_trees : List Wait → List WaitTree
wait_trees ws = map wait_tree ws
