-- The trees of modes that are built.
use Rattle.std.proofs.Common.{◌≡◌, List, Option, ap, sym, ◌∙◌}
use Rattle.std.specs.Prelude.{option_map}
use Rattle.std.specs.declared.alloc.Global.{Global}
use Rattle.std.specs.declared.boxed.Box.{Box}
use Rattle.chill_base.specs.declared.pos.Pos.{Pos}
use Rattle.chill_tree.specs.declared.tree.name.Name.{Name}
use Rattle.chill_tree.specs.declared.tree.expr.Expr.{Expr}
use Rattle.chill_tree.specs.declared.tree.mode.Packing.{Packing}
use Rattle.chill_tree.specs.declared.tree.mode.Discrete.{Discrete}
use Rattle.chill_tree.specs.declared.tree.mode.Index.{Index}
use Rattle.chill_tree.specs.declared.tree.mode.Place.{Place}
use Rattle.chill_tree.specs.declared.tree.mode.Spread.{Spread}
use Rattle.chill_tree.specs.declared.tree.mode.Base.{Base, fold-Base, fold-roll-Base}
use Rattle.chill_tree.specs.declared.tree.mode.Base.TheOpen as opens
use Rattle.chill_tree.specs.declared.tree.mode.Base.TheVariants as made_base
use Rattle.chill_tree.specs.declared.tree.mode.Field.{Field, fold-roll-Field, roll-Field}
use Rattle.chill_tree.specs.ExprTree.{boxed_expr}
use Rattle.chill_tree.specs.ModeTree.{BaseTree, FieldTree, discrete, powerset, chars, structure, array, field_nodes, discrete_tree, index_tree, place_tree, spread_tree, base_layer, field_layer, base_tree, boxed_base, field_tree, field_trees}

pub tree-discrete : (d : Discrete) → base_tree (made_base.Discrete d) ≡ discrete (discrete_tree d)
unfolding base_tree field_tree
tree-discrete d = ap (fold-Base BaseTree FieldTree base_layer field_layer) (sym (made_base.rolls-Discrete d)) ∙ fold-roll-Base BaseTree FieldTree base_layer field_layer (opens.Discrete d)

pub tree-powerset : (at : Pos) (d : Discrete) → base_tree (made_base.Powerset at d) ≡ powerset at (discrete_tree d)
unfolding base_tree field_tree
tree-powerset at d = ap (fold-Base BaseTree FieldTree base_layer field_layer) (sym (made_base.rolls-Powerset at d)) ∙ fold-roll-Base BaseTree FieldTree base_layer field_layer (opens.Powerset at d)

pub tree-chars : (at : Pos) (e : Box Expr Global) → base_tree (made_base.Chars at e) ≡ chars at (boxed_expr e)
unfolding base_tree field_tree
tree-chars at e = ap (fold-Base BaseTree FieldTree base_layer field_layer) (sym (made_base.rolls-Chars at e)) ∙ fold-roll-Base BaseTree FieldTree base_layer field_layer (opens.Chars at e)

pub tree-structure : (at : Pos) (fs : List Field) (p : Option Packing) → base_tree (made_base.Struct at fs p) ≡ structure at (field_nodes (field_trees fs)) p
unfolding base_tree field_tree
tree-structure at fs p = ap (fold-Base BaseTree FieldTree base_layer field_layer) (sym (made_base.rolls-Struct at fs p)) ∙ fold-roll-Base BaseTree FieldTree base_layer field_layer (opens.Struct at fs p)

pub tree-array : (at : Pos) (i : Index) (b : Box Base Global) (s : Option Spread) → base_tree (made_base.Array at i b s) ≡ array at (index_tree i) (boxed_base b) (option_map spread_tree s)
unfolding base_tree field_tree
tree-array at i b s = ap (fold-Base BaseTree FieldTree base_layer field_layer) (sym (made_base.rolls-Array at i b s)) ∙ fold-roll-Base BaseTree FieldTree base_layer field_layer (opens.Array at i b s)

pub tree-field : (ns : List Name) (b : Box Base Global) (p : Option Place) → field_tree (roll-Field (record { names = ns; base = b; place = p })) ≡ record { names = ns; base = boxed_base b; place = option_map place_tree p }
unfolding base_tree field_tree
tree-field ns b p = fold-roll-Field BaseTree FieldTree base_layer field_layer (record { names = ns; base = b; place = p })

pub ruleset base_built = (tree-discrete, tree-powerset, tree-chars, tree-structure, tree-array, tree-field)
