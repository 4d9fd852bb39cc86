-- Trees by their fields.
use Rattle.std.proofs.Common.{◌≡◌, ◌++◌, List, [], ◌∷◌, Option, Some, None, map, refl, sym, ap, ◌∙◌, append-nil, append_assoc}
use Rattle.std.specs.Prelude.{option_map}
use Rattle.std.specs.declared.alloc.Global.{Global}
use Rattle.std.specs.declared.boxed.Box.{Box}
use Rattle.chill_tree.proofs.ExprViews.{expr_built}
use Rattle.chill_tree.proofs.ModeViews.{base_built}
use Rattle.chill_tree.specs.declared.tree.expr.Expr.{Expr}
use Rattle.chill_tree.specs.declared.tree.expr.ValueRange.{ValueRange, out-ValueRange, fold_out-ValueRange, map-ValueRange}
use Rattle.chill_tree.specs.ExprTree.{ExprTree, RangeTree, range_of, expr_layer, range_layer, expr_tree, boxed_expr, range_tree}
use Rattle.chill_tree.specs.declared.tree.mode.Field.{Field, out-Field, fold_out-Field}
use Rattle.chill_tree.specs.ModeTree.{BaseTree, FieldTree, base_layer, field_layer, base_tree, boxed_base, field_tree, place_tree}
use Rattle.chill_tree.specs.declared.tree.name.Name.{Name}
use Rattle.met_names.specs.Sources.{over_expr, over_some, over_range}

range-fields : (e : Box Expr Global) (o : Option (Box Expr Global)) → range_layer (map-ValueRange Expr ValueRange ExprTree RangeTree expr_tree range_tree (record { first = e; last = o })) ≡ range_of (boxed_expr e) (option_map boxed_expr o)
range-fields e None = refl
range-fields e (Some f) = refl

pub tree-range_out : (r : ValueRange) → range_tree r ≡ range_of (boxed_expr (out-ValueRange r).first) (option_map boxed_expr (out-ValueRange r).last)
unfolding expr_tree range_tree
tree-range_out r = fold_out-ValueRange ExprTree RangeTree expr_layer range_layer r ∙ range-fields (out-ValueRange r).first (out-ValueRange r).last

over-range_of : {A : Type 0} (at_source : Name → List A) (e : ExprTree) (o : Option ExprTree) → over_range at_source (range_of e o) ≡ over_expr at_source e ++ over_some at_source o
over-range_of at_source e None = sym (append-nil (over_expr at_source e))
over-range_of at_source e (Some f) = refl

-- what is told in a range, by its first value and its last
pub over-range_out : {A : Type 0} (at_source : Name → List A) (r : ValueRange) → over_range at_source (range_tree r) ≡ over_expr at_source (boxed_expr (out-ValueRange r).first) ++ over_some at_source (option_map boxed_expr (out-ValueRange r).last)
over-range_out at_source r = ap (over_range at_source) (tree-range_out r) ∙ over-range_of at_source (boxed_expr (out-ValueRange r).first) (option_map boxed_expr (out-ValueRange r).last)

pub ruleset expr_views = (expr_built, over-range_out, append-nil, append_assoc)

pub tree-field_out : (f : Field) → field_tree f ≡ record { names = (out-Field f).names; base = boxed_base (out-Field f).base; place = option_map place_tree (out-Field f).place }
unfolding base_tree field_tree
tree-field_out f = fold_out-Field BaseTree FieldTree base_layer field_layer f

pub ruleset mode_views = (base_built, tree-field_out, append-nil, append_assoc)
