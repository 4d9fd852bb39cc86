use Rattle.std.proofs.Common.{◌≡◌, ◌++◌, List, OnOk, subst}
use Rattle.chill_tree.specs.ItemTree.{item_trees}
use Rattle.diagnostics.specs.declared.diagnostic.Diagnostic.{Diagnostic}
use Rattle.process_names.proofs.RegionTables.{all_granted}
use Rattle.process_names.proofs.granted.tell_in_region.Goals as goal

pub returns : goal.returns
returns c = subst (λ (ds : List Diagnostic). OnOk c.tell_all.result (c.tell_all.new.told ≡ c.args.told.now ++ ds)) (all_granted c.in_ok-table.table (item_trees c.args.items.now) c.in_ok-table.ensures) c.tell_all.ensures
