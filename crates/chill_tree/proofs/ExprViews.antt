-- The trees of expressions that are built.
use Rattle.std.proofs.Common.{◌≡◌, ℕ, List, Option, Some, None, ap, sym, ◌∙◌}
use Rattle.std.specs.Prelude.{option_map}
use Rattle.std.specs.declared.alloc.Global.{Global}
use Rattle.std.specs.declared.boxed.Box.{Box}
use Rattle.chill_base.specs.declared.pos.Pos.{Pos}
use Rattle.chill_tree.specs.declared.tree.name.Name.{Name}
use Rattle.chill_tree.specs.declared.tree.expr.Operator.{Operator}
use Rattle.chill_tree.specs.declared.tree.expr.Prefix.{Prefix}
use Rattle.chill_tree.specs.declared.tree.expr.Expr.{Expr, fold-Expr, fold-roll-Expr}
use Rattle.chill_tree.specs.declared.tree.expr.Expr.TheOpen as opens
use Rattle.chill_tree.specs.declared.tree.expr.Expr.TheVariants as made
use Rattle.chill_tree.specs.declared.tree.expr.ValueRange.{ValueRange, fold-roll-ValueRange, roll-ValueRange}
use Rattle.chill_tree.specs.ExprTree.{ExprTree, RangeTree, whole, character, text, this_instance, paren, receive, start, tuple, uniform, name, apply, field, prefixed, binary, expr_nodes, range_nodes, range_of, expr_layer, range_layer, expr_tree, boxed_expr, range_tree, expr_trees, range_trees}

pub tree-whole : (at : Pos) (n : ℕ) → expr_tree (made.Whole at n) ≡ whole at n
unfolding expr_tree range_tree
tree-whole at n = ap (fold-Expr ExprTree RangeTree expr_layer range_layer) (sym (made.rolls-Whole at n)) ∙ fold-roll-Expr ExprTree RangeTree expr_layer range_layer (opens.Whole at n)

pub tree-character : (at : Pos) (n : ℕ) → expr_tree (made.Char at n) ≡ character at n
unfolding expr_tree range_tree
tree-character at n = ap (fold-Expr ExprTree RangeTree expr_layer range_layer) (sym (made.rolls-Char at n)) ∙ fold-roll-Expr ExprTree RangeTree expr_layer range_layer (opens.Char at n)

pub tree-text : (at : Pos) (n : List ℕ) → expr_tree (made.Text at n) ≡ text at n
unfolding expr_tree range_tree
tree-text at n = ap (fold-Expr ExprTree RangeTree expr_layer range_layer) (sym (made.rolls-Text at n)) ∙ fold-roll-Expr ExprTree RangeTree expr_layer range_layer (opens.Text at n)

pub tree-this_instance : (at : Pos) → expr_tree (made.This at) ≡ this_instance at
unfolding expr_tree range_tree
tree-this_instance at = ap (fold-Expr ExprTree RangeTree expr_layer range_layer) (sym (made.rolls-This at)) ∙ fold-roll-Expr ExprTree RangeTree expr_layer range_layer (opens.This at)

pub tree-paren : (at : Pos) (e : Box Expr Global) → expr_tree (made.Paren at e) ≡ paren at (boxed_expr e)
unfolding expr_tree range_tree
tree-paren at e = ap (fold-Expr ExprTree RangeTree expr_layer range_layer) (sym (made.rolls-Paren at e)) ∙ fold-roll-Expr ExprTree RangeTree expr_layer range_layer (opens.Paren at e)

pub tree-receive : (at : Pos) (n : Name) → expr_tree (made.Receive at n) ≡ receive at n
unfolding expr_tree range_tree
tree-receive at n = ap (fold-Expr ExprTree RangeTree expr_layer range_layer) (sym (made.rolls-Receive at n)) ∙ fold-roll-Expr ExprTree RangeTree expr_layer range_layer (opens.Receive at n)

pub tree-start : (at : Pos) (n : Name) (es : List Expr) → expr_tree (made.Start at n es) ≡ start at n (expr_nodes (expr_trees es))
unfolding expr_tree range_tree
tree-start at n es = ap (fold-Expr ExprTree RangeTree expr_layer range_layer) (sym (made.rolls-Start at n es)) ∙ fold-roll-Expr ExprTree RangeTree expr_layer range_layer (opens.Start at n es)

pub tree-tuple : (at : Pos) (m : Option Name) (b : Pos) (rs : List ValueRange) → expr_tree (made.Tuple at m b rs) ≡ tuple at m b (range_nodes (range_trees rs))
unfolding expr_tree range_tree
tree-tuple at m b rs = ap (fold-Expr ExprTree RangeTree expr_layer range_layer) (sym (made.rolls-Tuple at m b rs)) ∙ fold-roll-Expr ExprTree RangeTree expr_layer range_layer (opens.Tuple at m b rs)

pub tree-uniform : (at : Pos) (m : Option Name) (b : Pos) (e : Box Expr Global) → expr_tree (made.Uniform at m b e) ≡ uniform at m b (boxed_expr e)
unfolding expr_tree range_tree
tree-uniform at m b e = ap (fold-Expr ExprTree RangeTree expr_layer range_layer) (sym (made.rolls-Uniform at m b e)) ∙ fold-roll-Expr ExprTree RangeTree expr_layer range_layer (opens.Uniform at m b e)

pub tree-name : (n : Name) → expr_tree (made.Name n) ≡ name n
unfolding expr_tree range_tree
tree-name n = ap (fold-Expr ExprTree RangeTree expr_layer range_layer) (sym (made.rolls-Name n)) ∙ fold-roll-Expr ExprTree RangeTree expr_layer range_layer (opens.Name n)

pub tree-apply : (at : Pos) (e : Box Expr Global) (es : List Expr) → expr_tree (made.Apply at e es) ≡ apply at (boxed_expr e) (expr_nodes (expr_trees es))
unfolding expr_tree range_tree
tree-apply at e es = ap (fold-Expr ExprTree RangeTree expr_layer range_layer) (sym (made.rolls-Apply at e es)) ∙ fold-roll-Expr ExprTree RangeTree expr_layer range_layer (opens.Apply at e es)

pub tree-field : (at : Pos) (e : Box Expr Global) (n : Name) → expr_tree (made.Field at e n) ≡ field at (boxed_expr e) n
unfolding expr_tree range_tree
tree-field at e n = ap (fold-Expr ExprTree RangeTree expr_layer range_layer) (sym (made.rolls-Field at e n)) ∙ fold-roll-Expr ExprTree RangeTree expr_layer range_layer (opens.Field at e n)

pub tree-prefixed : (at : Pos) (o : Prefix) (e : Box Expr Global) → expr_tree (made.Prefixed at o e) ≡ prefixed at o (boxed_expr e)
unfolding expr_tree range_tree
tree-prefixed at o e = ap (fold-Expr ExprTree RangeTree expr_layer range_layer) (sym (made.rolls-Prefixed at o e)) ∙ fold-roll-Expr ExprTree RangeTree expr_layer range_layer (opens.Prefixed at o e)

pub tree-binary : (at : Pos) (l : Box Expr Global) (o : Operator) (p : Pos) (r : Box Expr Global) → expr_tree (made.Binary at l o p r) ≡ binary at (boxed_expr l) o p (boxed_expr r)
unfolding expr_tree range_tree
tree-binary at l o p r = ap (fold-Expr ExprTree RangeTree expr_layer range_layer) (sym (made.rolls-Binary at l o p r)) ∙ fold-roll-Expr ExprTree RangeTree expr_layer range_layer (opens.Binary at l o p r)

pub tree-range : (e : Box Expr Global) (o : Option (Box Expr Global)) → range_tree (roll-ValueRange (record { first = e; last = o })) ≡ range_of (boxed_expr e) (option_map boxed_expr o)
unfolding expr_tree range_tree
tree-range e None = fold-roll-ValueRange ExprTree RangeTree expr_layer range_layer (record { first = e; last = None })
tree-range e (Some f) = fold-roll-ValueRange ExprTree RangeTree expr_layer range_layer (record { first = e; last = Some f })

pub ruleset expr_built = (tree-whole, tree-character, tree-text, tree-this_instance, tree-paren, tree-receive, tree-start, tree-tuple, tree-uniform, tree-name, tree-apply, tree-field, tree-prefixed, tree-binary, tree-range)
