-- Parts of tuples and fields of structures, as they lie in memory.
use Rattle.std.proofs.Common.{◌≡◌, ◌≢◌, ◌++◌, ℕ, zero, suc, List, [], ◌∷◌, map, length, Option, Some, None, refl, ap, sym, ◌∙◌, arith}
use Rattle.std.specs.Prelude.{Bool, ◌&&◌, not, slice_get, option_map}
use Rattle.std.specs.declared.alloc.Global.{Global}
use Rattle.std.specs.declared.boxed.Box.{Box}
use Rattle.chill_tree.specs.declared.tree.expr.Expr.{Expr}
use Rattle.chill_tree.specs.declared.tree.expr.ValueRange.{ValueRange, fold_out-ValueRange, map-ValueRange, out-ValueRange}
use Rattle.chill_tree.specs.ExprTree.{ExprTree, RangeTree, range_of, expr_layer, range_layer, expr_tree, expr_trees, expr_nodes, boxed_expr, range_tree, range_trees, range_nodes, RangeNodes, alone, between, no_ranges, more_ranges}
use Rattle.modes.specs.declared.mode.Field.{Field}
use Rattle.modes.specs.ModeTree.{ModeTree, field_nodes, field_tree, field_trees}
use Rattle.modes.specs.Form.{FormTree}
use Rattle.diagnostics.specs.declared.diagnostic.Diagnostic.{Diagnostic}
use Rattle.checks_model.specs.Ground.{Ground}
use Rattle.checks_model.specs.Classes.{are_alone, count_ranges, count_fields, count_exprs, field_mode_at, mode_of_part}
use Rattle.checks_model.specs.ValueRules.{Receiver, of_mode, told_in_range, told_in_parts}
use Rattle.expr_rules.specs.declared.tuples.Shape.{Shape}
use Rattle.expr_rules.specs.Views.{part_of_shape}
use Rattle.expr_rules.specs.Shapes.{is_between, told_in_shape}
use Rattle.expr_rules.specs.Steps.{range_told, only_class}

range-fields : (e : Box Expr Global) (o : Option (Box Expr Global)) → range_layer (map-ValueRange Expr ValueRange ExprTree RangeTree expr_tree range_tree (record { first = e; last = o })) ≡ range_of (boxed_expr e) (option_map boxed_expr o)
range-fields e None = refl
range-fields e (Some f) = refl

pub range_out : (r : ValueRange) → range_tree r ≡ range_of (boxed_expr (out-ValueRange r).first) (option_map boxed_expr (out-ValueRange r).last)
unfolding expr_tree range_tree
range_out r = fold_out-ValueRange ExprTree RangeTree expr_layer range_layer r ∙ range-fields (out-ValueRange r).first (out-ValueRange r).last

pub range_none : (r : ValueRange) → (out-ValueRange r).last ≡ None → range_tree r ≡ alone (boxed_expr (out-ValueRange r).first)
range_none r none = range_out r ∙ ap (λ o. range_of (boxed_expr (out-ValueRange r).first) (option_map boxed_expr o)) none

pub range_some : (r : ValueRange) (f : Box Expr Global) → (out-ValueRange r).last ≡ Some f → range_tree r ≡ between (boxed_expr (out-ValueRange r).first) (boxed_expr f)
range_some r f some = range_out r ∙ ap (λ o. range_of (boxed_expr (out-ValueRange r).first) (option_map boxed_expr o)) some

pub ranges_counted : (rs : List ValueRange) → count_ranges (range_nodes (range_trees rs)) ≡ length rs
ranges_counted [] = refl
ranges_counted (r ∷ rs) = ap suc (ranges_counted rs)

pub fields_counted : (fs : List Field) → count_fields (field_nodes (field_trees fs)) ≡ length fs
fields_counted [] = refl
fields_counted (f ∷ fs) = ap suc (fields_counted fs)

pub args_counted : (es : List Expr) → count_exprs (expr_nodes (expr_trees es)) ≡ length es
args_counted [] = refl
args_counted (e ∷ es) = ap suc (args_counted es)

pub field_found : (fs : List Field) (k : ℕ) → field_mode_at k (field_nodes (field_trees fs)) ≡ option_map (λ f. (field_tree f).mode) (slice_get fs k)
field_found [] k = refl
field_found (f ∷ fs) zero = refl
field_found (f ∷ fs) (suc k) = field_found fs k

pub alone_more : (r : RangeTree) (rs : RangeNodes) → are_alone (more_ranges r rs) ≡ (not (is_between r) && are_alone rs)
alone_more (alone e) rs = refl
alone_more (between l h) rs = refl

-- only one argument has a class
pub only_none : (g : Ground) (es : List Expr) → length es ≢ 1 → only_class g (expr_nodes (expr_trees es)) ≡ None
only_none g [] apart = refl
only_none g (e ∷ []) apart = absurd (apart refl)
only_none g (e ∷ f ∷ es) apart = refl

-- ---- shapes with equal parts tell the same

range_same : (g : Ground) (m : Option ModeTree) (r : RangeTree) → range_told g (of_mode m) r ≡ told_in_range g m r
range_same g m (alone e) = refl
range_same g m (between l h) = refl

pub same_parts : (g : Ground) (s : Shape) (fits : FormTree → Bool) (m : Option ModeTree) (k : ℕ) (rs : RangeNodes) → ((j : ℕ) → part_of_shape s j ≡ mode_of_part fits j m) → told_in_shape g s k rs ≡ told_in_parts g fits k m rs
same_parts g s fits m k no_ranges same = refl
same_parts g s fits m k (more_ranges r rs) same =
    ap (λ (p : Option ModeTree). range_told g (of_mode p) r ++ told_in_shape g s (suc k) rs) (same k)
    ∙ ap (λ (ds : List Diagnostic). ds ++ told_in_shape g s (suc k) rs) (range_same g (mode_of_part fits k m) r)
    ∙ ap (λ (ds : List Diagnostic). told_in_range g (mode_of_part fits k m) r ++ ds) (same_parts g s fits m (suc k) rs same)

pub ruleset counted = (ranges_counted, fields_counted)

pub ruleset ranges = (range_none, range_some)
