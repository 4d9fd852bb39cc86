-- The labels of an alternative, by their ends.
use Rattle.std.proofs.Common.{◌≡◌, ◌++◌, refl, sym, ap, ◌∙◌, append-nil, append_assoc, Option, Some, None}
use Rattle.std.specs.Prelude.{option_map}
use Rattle.std.specs.declared.alloc.Global.{Global}
use Rattle.std.specs.declared.boxed.Box.{Box}
use Rattle.chill_tree.specs.declared.tree.expr.Expr.{Expr}
use Rattle.chill_tree.specs.declared.tree.expr.ValueRange.{ValueRange, out-ValueRange, fold_out-ValueRange, map-ValueRange}
use Rattle.chill_tree.specs.ExprTree.{ExprTree, RangeTree, range_of, expr_layer, range_layer, expr_tree, boxed_expr, range_tree}
use Rattle.modes.specs.ModeTree.{ClassTree}
use Rattle.checks_model.specs.Ground.{Ground}
use Rattle.checks_model.specs.ActionRules.{told_label_end, told_label}
use Rattle.statement_rules.specs.Steps.{told_last}

range-fields : (e : Box Expr Global) (o : Option (Box Expr Global)) → range_layer (map-ValueRange Expr ValueRange ExprTree RangeTree expr_tree range_tree (record { first = e; last = o })) ≡ range_of (boxed_expr e) (option_map boxed_expr o)
range-fields e None = refl
range-fields e (Some f) = refl

tree-range_out : (r : ValueRange) → range_tree r ≡ range_of (boxed_expr (out-ValueRange r).first) (option_map boxed_expr (out-ValueRange r).last)
unfolding expr_tree range_tree
tree-range_out r = fold_out-ValueRange ExprTree RangeTree expr_layer range_layer r ∙ range-fields (out-ValueRange r).first (out-ValueRange r).last

ends : (g : Ground) (sel : Option ClassTree) (e : ExprTree) (o : Option ExprTree) → told_label g sel (range_of e o) ≡ told_label_end g sel e ++ told_last g sel o
ends g sel e None = sym (append-nil (told_label_end g sel e))
ends g sel e (Some f) = refl

pub label-out : (g : Ground) (sel : Option ClassTree) (r : ValueRange) → told_label g sel (range_tree r) ≡ told_label_end g sel (boxed_expr (out-ValueRange r).first) ++ told_last g sel (option_map boxed_expr (out-ValueRange r).last)
label-out g sel r = ap (told_label g sel) (tree-range_out r) ∙ ends g sel (boxed_expr (out-ValueRange r).first) (option_map boxed_expr (out-ValueRange r).last)

pub ruleset label_views = (label-out, append-nil, append_assoc)
