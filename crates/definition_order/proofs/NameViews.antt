-- The places of the names in trees, by the trees' fields.
use Rattle.std.proofs.Common.{◌≡◌, ◌++◌, List, [], ◌∷◌, Option, Some, None, map, refl, sym, ap, ◌∙◌, append-nil, append_assoc}
use Rattle.std.specs.Prelude.{option_map}
use Rattle.std.proofs.lemmas.Option.{slice_get-map}
use Rattle.std.specs.declared.alloc.Global.{Global}
use Rattle.std.specs.declared.boxed.Box.{Box}
use Rattle.chill_tree.proofs.ExprViews.{expr_built}
use Rattle.chill_tree.proofs.ModeViews.{base_built}
use Rattle.chill_tree.specs.declared.tree.name.Name.{Name}
use Rattle.chill_tree.specs.declared.tree.expr.Expr.{Expr}
use Rattle.chill_tree.specs.declared.tree.expr.ValueRange.{ValueRange, out-ValueRange, fold_out-ValueRange, map-ValueRange}
use Rattle.chill_tree.specs.ExprTree.{ExprTree, RangeTree, range_of, expr_layer, range_layer, expr_tree, boxed_expr, range_tree}
use Rattle.table_laws.specs.Names.{names_in, names_in_some, names_in_range}
use Rattle.definition_order.specs.Places.{places_of}
use Rattle.definition_origins.proofs.Views.{tree-field_out}

pub places_append : (ns ms : List Name) → places_of (ns ++ ms) ≡ places_of ns ++ places_of ms
places_append [] ms = refl
places_append (n ∷ ns) ms = ap (λ ps. n.at ∷ ps) (places_append ns ms)

range-fields : (e : Box Expr Global) (o : Option (Box Expr Global)) → range_layer (map-ValueRange Expr ValueRange ExprTree RangeTree expr_tree range_tree (record { first = e; last = o })) ≡ range_of (boxed_expr e) (option_map boxed_expr o)
range-fields e None = refl
range-fields e (Some f) = refl

tree-range_out : (r : ValueRange) → range_tree r ≡ range_of (boxed_expr (out-ValueRange r).first) (option_map boxed_expr (out-ValueRange r).last)
unfolding expr_tree range_tree
tree-range_out r = fold_out-ValueRange ExprTree RangeTree expr_layer range_layer r ∙ range-fields (out-ValueRange r).first (out-ValueRange r).last

names-range_of : (e : ExprTree) (o : Option ExprTree) → names_in_range (range_of e o) ≡ names_in e ++ names_in_some o
names-range_of e None = sym (append-nil (names_in e))
names-range_of e (Some f) = refl

-- the names in a range, by its first value and its last
pub names-range_out : (r : ValueRange) → names_in_range (range_tree r) ≡ names_in (boxed_expr (out-ValueRange r).first) ++ names_in_some (option_map boxed_expr (out-ValueRange r).last)
names-range_out r = ap names_in_range (tree-range_out r) ∙ names-range_of (boxed_expr (out-ValueRange r).first) (option_map boxed_expr (out-ValueRange r).last)

pub ruleset expr_views = (expr_built, names-range_out, places_append, append-nil, append_assoc)

pub ruleset mode_views = (base_built, tree-field_out, places_append, append-nil, append_assoc)

pub ruleset tree_views = (slice_get-map)
