-- What is told of the items of a modulion.
use Rattle.std.proofs.Common.{◌≡◌, ◌++◌, refl, ap, ◌∙◌, append-nil, append_assoc}
use Rattle.std.proofs.lemmas.Grind.{flat_map-append}
use Rattle.chill_tree.proofs.ItemViews.{item_built}
use Rattle.chill_tree.specs.declared.tree.item.ModulionKind.{ModulionKind}
use Rattle.chill_tree.specs.ItemTree.{ItemNodes, no_items, more_items}
use Rattle.checks_model.specs.Ground.{Ground}
use Rattle.checks_model.specs.Sites.{sites_of_item, sites_of_items}
use Rattle.checks_model.specs.Phases.{statements_told_at}
use Rattle.local_names.proofs.ItemViews.{tree-modulion_out}
use Rattle.statement_laws.specs.Steps.{told_at_all}
use Rattle.statement_rules.specs.Steps.{told_in_items}

-- statements tell nothing of where an item stands
pub items-told : (g : Ground) (kind : ModulionKind) (all is : ItemNodes) → told_at_all g (sites_of_items kind all is) ≡ told_in_items g is
items-told g kind all no_items = refl
items-told g kind all (more_items i is) = flat_map-append (statements_told_at g) (sites_of_item i) (sites_of_items kind all is) ∙ ap (λ rest. told_at_all g (sites_of_item i) ++ rest) (items-told g kind all is)

pub ruleset item_views = (item_built, tree-modulion_out, items-told, flat_map-append, append-nil, append_assoc)
