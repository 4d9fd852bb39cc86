-- The trees of expressions by their fields.
use Rattle.std.proofs.Common.{◌≡◌, Option, Some, None, refl, ap, ◌∙◌, arith}
use Rattle.std.specs.Prelude.{ℕ, ◌+◌, option_map}
use Rattle.std.specs.declared.alloc.Global.{Global}
use Rattle.std.specs.declared.boxed.Box.{Box}
use Rattle.chill_tree.proofs.ExprViews.{expr_built}
use Rattle.chill_tree.specs.declared.tree.expr.Expr.{Expr}
use Rattle.chill_tree.specs.declared.tree.expr.ValueRange.{ValueRange, out-ValueRange, fold_out-ValueRange, map-ValueRange}
use Rattle.chill_tree.specs.ExprTree.{ExprTree, RangeTree, range_of, expr_layer, range_layer, expr_tree, boxed_expr, range_tree}
use Rattle.text_size.specs.Nodes.{nodes, nodes_in_some, nodes_in_range}

range-fields : (e : Box Expr Global) (o : Option (Box Expr Global)) → range_layer (map-ValueRange Expr ValueRange ExprTree RangeTree expr_tree range_tree (record { first = e; last = o })) ≡ range_of (boxed_expr e) (option_map boxed_expr o)
range-fields e None = refl
range-fields e (Some f) = refl

tree-range_out : (r : ValueRange) → range_tree r ≡ range_of (boxed_expr (out-ValueRange r).first) (option_map boxed_expr (out-ValueRange r).last)
unfolding expr_tree range_tree
tree-range_out r = fold_out-ValueRange ExprTree RangeTree expr_layer range_layer r ∙ range-fields (out-ValueRange r).first (out-ValueRange r).last

nodes-range_of : (e : ExprTree) (o : Option ExprTree) → nodes_in_range (range_of e o) ≡ nodes e + nodes_in_some o
nodes-range_of e None = omega arith
nodes-range_of e (Some f) = refl

-- the nodes in a range, by its first value and its last
pub nodes-range : (r : ValueRange) → nodes_in_range (range_tree r) ≡ nodes (boxed_expr (out-ValueRange r).first) + nodes_in_some (option_map boxed_expr (out-ValueRange r).last)
nodes-range r = ap nodes_in_range (tree-range_out r) ∙ nodes-range_of (boxed_expr (out-ValueRange r).first) (option_map boxed_expr (out-ValueRange r).last)

pub ruleset expr_views = (expr_built, nodes-range)
