-- The trees of fields.
use Rattle.std.proofs.Common.{◌≡◌}
use Rattle.std.specs.Prelude.{option_map}
use Rattle.chill_tree.specs.declared.tree.mode.Field.{Field, out-Field, fold_out-Field}
use Rattle.chill_tree.specs.ModeTree.{BaseTree, FieldTree, base_layer, field_layer, base_tree, boxed_base, field_tree, place_tree}
use Rattle.chill_tree.proofs.ModeViews.{base_built}

pub tree-field_out : (f : Field) → field_tree f ≡ record { names = (out-Field f).names; base = boxed_base (out-Field f).base; place = option_map place_tree (out-Field f).place }
unfolding base_tree field_tree
tree-field_out f = fold_out-Field BaseTree FieldTree base_layer field_layer f

pub ruleset mode_views = (base_built, tree-field_out)
