-- A clause of fields by its parts.
use Rattle.std.proofs.Common.{◌≡◌, append_assoc}
use Rattle.std.specs.Prelude.{option_map}
use Rattle.chill_tree.specs.declared.tree.mode.Field.{Field, out-Field, fold_out-Field}
use Rattle.chill_tree.specs.ModeTree.{BaseTree, FieldTree, base_layer, field_layer, base_tree, boxed_base, field_tree, place_tree}

pub tree-field_out : (f : Field) → field_tree f ≡ record { names = (out-Field f).names; base = boxed_base (out-Field f).base; place = option_map place_tree (out-Field f).place }
unfolding base_tree field_tree
tree-field_out f = fold_out-Field BaseTree FieldTree base_layer field_layer f

pub ruleset clause_views = (tree-field_out, append_assoc)
