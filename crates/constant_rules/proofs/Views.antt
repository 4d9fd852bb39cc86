-- The trees of parts of tuples, and how many there are.
use Rattle.std.proofs.Common.{◌≡◌, ℕ, zero, suc, ◌<◌, ◌≤◌, List, [], ◌∷◌, length, get_or, Option, Some, None, refl, ap, sym, ◌∙◌, arith}
use Rattle.std.specs.Prelude.{◌&&◌, not, slice_get, option_map}
use Rattle.std.specs.declared.alloc.Global.{Global}
use Rattle.std.specs.declared.boxed.Box.{Box}
use Rattle.chill_tree.specs.declared.tree.expr.Expr.{Expr}
use Rattle.chill_tree.specs.declared.tree.expr.ValueRange.{ValueRange, fold_out-ValueRange, map-ValueRange, out-ValueRange}
use Rattle.chill_tree.specs.ExprTree.{ExprTree, RangeTree, range_of, expr_layer, range_layer, expr_tree, boxed_expr, expr_nodes, expr_trees, more_exprs, no_exprs, range_tree, range_trees, range_nodes, RangeNodes, alone, between, more_ranges}
use Rattle.modes.specs.declared.mode.Field.{Field}
use Rattle.modes.specs.ModeTree.{field_nodes, field_tree, field_trees}
use Rattle.checks_model.specs.Classes.{are_alone, count_ranges, count_fields, field_mode_at}
use Rattle.constant_rules.specs.Walks.{is_between}

range-fields : (e : Box Expr Global) (o : Option (Box Expr Global)) → range_layer (map-ValueRange Expr ValueRange ExprTree RangeTree expr_tree range_tree (record { first = e; last = o })) ≡ range_of (boxed_expr e) (option_map boxed_expr o)
range-fields e None = refl
range-fields e (Some f) = refl

pub range_out : (r : ValueRange) → range_tree r ≡ range_of (boxed_expr (out-ValueRange r).first) (option_map boxed_expr (out-ValueRange r).last)
unfolding expr_tree range_tree
range_out r = fold_out-ValueRange ExprTree RangeTree expr_layer range_layer r ∙ range-fields (out-ValueRange r).first (out-ValueRange r).last

pub ranges_counted : (rs : List ValueRange) → count_ranges (range_nodes (range_trees rs)) ≡ length rs
ranges_counted [] = refl
ranges_counted (r ∷ rs) = ap suc (ranges_counted rs)

pub fields_counted : (fs : List Field) → count_fields (field_nodes (field_trees fs)) ≡ length fs
fields_counted [] = refl
fields_counted (f ∷ fs) = ap suc (fields_counted fs)

pub field_found : (fs : List Field) (k : ℕ) → field_mode_at k (field_nodes (field_trees fs)) ≡ option_map (λ f. (field_tree f).mode) (slice_get fs k)
field_found [] k = refl
field_found (f ∷ fs) zero = refl
field_found (f ∷ fs) (suc k) = field_found fs k

pub alone_more : (r : RangeTree) (rs : RangeNodes) → are_alone (more_ranges r rs) ≡ (not (is_between r) && are_alone rs)
alone_more (alone e) rs = refl
alone_more (between l h) rs = refl

-- a list of one expression
pub one_item : (xs : List Expr) (x : Expr) → 1 ≤ length xs → length xs < 2 → x ≡ get_or xs 0 x → expr_nodes (expr_trees xs) ≡ more_exprs (expr_tree x) no_exprs
one_item [] x some few is = absurd (omega (arith, some))
one_item (y ∷ []) x some few is = ap (λ (z : Expr). more_exprs (expr_tree z) no_exprs) (sym is)
one_item (y ∷ z ∷ xs) x some few is = absurd (omega (arith, few))
