-- The trees of items that are built.
use Rattle.std.proofs.Common.{◌≡◌, List, Option, ap, sym, ◌∙◌}
use Rattle.std.specs.Prelude.{map, option_map}
use Rattle.std.specs.declared.alloc.Global.{Global}
use Rattle.std.specs.declared.boxed.Box.{Box}
use Rattle.chill_base.specs.declared.pos.Pos.{Pos}
use Rattle.chill_tree.specs.declared.tree.name.Name.{Name}
use Rattle.chill_tree.specs.declared.tree.local.Local.{Local}
use Rattle.chill_tree.specs.declared.tree.statement.Statement.{Statement}
use Rattle.chill_tree.specs.declared.tree.statement.Handler.{Handler}
use Rattle.chill_tree.specs.declared.tree.item.ModulionKind.{ModulionKind}
use Rattle.chill_tree.specs.declared.tree.item.Passed.{Passed}
use Rattle.chill_tree.specs.declared.tree.item.Signal.{Signal}
use Rattle.chill_tree.specs.declared.tree.item.Procedure.{Procedure}
use Rattle.chill_tree.specs.declared.tree.item.Process.{Process}
use Rattle.chill_tree.specs.declared.tree.item.Item.{Item, fold-Item, fold-roll-Item}
use Rattle.chill_tree.specs.declared.tree.item.Item.TheOpen as opens
use Rattle.chill_tree.specs.declared.tree.item.Item.TheVariants as made_item
use Rattle.chill_tree.specs.declared.tree.item.Modulion.{Modulion, fold-roll-Modulion, roll-Modulion}
use Rattle.chill_tree.specs.LocalTree.{local_tree}
use Rattle.chill_tree.specs.StatementTree.{statement_tree, boxed_handler}
use Rattle.chill_tree.specs.ItemTree.{ItemTree, ModulionTree, seize, grant, local_item, signals, procedure, process, action, modulion_item, signal_tree, boxed_procedure, boxed_process, item_layer, modulion_layer, item_tree, modulion_tree, boxed_modulion, item_trees}

pub tree-seize : (at : Pos) (p : Passed) → item_tree (made_item.Seize at p) ≡ seize at p
unfolding item_tree modulion_tree
tree-seize at p = ap (fold-Item ItemTree ModulionTree item_layer modulion_layer) (sym (made_item.rolls-Seize at p)) ∙ fold-roll-Item ItemTree ModulionTree item_layer modulion_layer (opens.Seize at p)

pub tree-grant : (at : Pos) (p : Passed) → item_tree (made_item.Grant at p) ≡ grant at p
unfolding item_tree modulion_tree
tree-grant at p = ap (fold-Item ItemTree ModulionTree item_layer modulion_layer) (sym (made_item.rolls-Grant at p)) ∙ fold-roll-Item ItemTree ModulionTree item_layer modulion_layer (opens.Grant at p)

pub tree-local_item : (l : Local) → item_tree (made_item.Local l) ≡ local_item (local_tree l)
unfolding item_tree modulion_tree
tree-local_item l = ap (fold-Item ItemTree ModulionTree item_layer modulion_layer) (sym (made_item.rolls-Local l)) ∙ fold-roll-Item ItemTree ModulionTree item_layer modulion_layer (opens.Local l)

pub tree-signals : (at : Pos) (ss : List Signal) → item_tree (made_item.Signals at ss) ≡ signals at (map signal_tree ss)
unfolding item_tree modulion_tree
tree-signals at ss = ap (fold-Item ItemTree ModulionTree item_layer modulion_layer) (sym (made_item.rolls-Signals at ss)) ∙ fold-roll-Item ItemTree ModulionTree item_layer modulion_layer (opens.Signals at ss)

pub tree-procedure : (p : Box Procedure Global) → item_tree (made_item.Procedure p) ≡ procedure (boxed_procedure p)
unfolding item_tree modulion_tree
tree-procedure p = ap (fold-Item ItemTree ModulionTree item_layer modulion_layer) (sym (made_item.rolls-Procedure p)) ∙ fold-roll-Item ItemTree ModulionTree item_layer modulion_layer (opens.Procedure p)

pub tree-process : (p : Box Process Global) → item_tree (made_item.Process p) ≡ process (boxed_process p)
unfolding item_tree modulion_tree
tree-process p = ap (fold-Item ItemTree ModulionTree item_layer modulion_layer) (sym (made_item.rolls-Process p)) ∙ fold-roll-Item ItemTree ModulionTree item_layer modulion_layer (opens.Process p)

pub tree-modulion_item : (m : Box Modulion Global) → item_tree (made_item.Modulion m) ≡ modulion_item (boxed_modulion m)
unfolding item_tree modulion_tree
tree-modulion_item m = ap (fold-Item ItemTree ModulionTree item_layer modulion_layer) (sym (made_item.rolls-Modulion m)) ∙ fold-roll-Item ItemTree ModulionTree item_layer modulion_layer (opens.Modulion m)

pub tree-action : (s : Statement) → item_tree (made_item.Statement s) ≡ action (statement_tree s)
unfolding item_tree modulion_tree
tree-action s = ap (fold-Item ItemTree ModulionTree item_layer modulion_layer) (sym (made_item.rolls-Statement s)) ∙ fold-roll-Item ItemTree ModulionTree item_layer modulion_layer (opens.Statement s)

pub tree-modulion : (n : Name) (k : ModulionKind) (is : List Item) (h : Option (Box Handler Global)) (c : Option Name) → modulion_tree (roll-Modulion (record { name = n; kind = k; items = is; handler = h; closing = c })) ≡ record { name = n; kind = k; items = item_trees is; handler = option_map boxed_handler h; closing = c }
unfolding item_tree modulion_tree
tree-modulion n k is h c = fold-roll-Modulion ItemTree ModulionTree item_layer modulion_layer (record { name = n; kind = k; items = is; handler = h; closing = c })

pub ruleset item_built = (tree-seize, tree-grant, tree-local_item, tree-signals, tree-procedure, tree-process, tree-modulion_item, tree-action, tree-modulion)
