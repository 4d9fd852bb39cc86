-- What definitions are defined by, without where it lies in memory, and without what is kept beside it to evaluate each clause
-- once.
use Rattle.std.specs.Prelude.{ℕ, Bool, true, false, List, [], ◌∷◌, map, length, Option, Some, None}
use Rattle.chill_tree.specs.declared.tree.name.Name.{Name}
use Rattle.chill_tree.specs.ModeTree.{mode_tree}
use Rattle.chill_tree.specs.LocalTree.{synonym_tree, declaration_tree}
use Rattle.chill_tree.specs.SimpleTree.{control_tree}
use Rattle.chill_tree.specs.StatementTree.{ReceiveTree, receive_tree}
use Rattle.chill_tree.specs.ItemTree.{ModulionTree, procedure_tree, process_tree, signal_tree, modulion_tree, item_nodes}
use Rattle.checks_model.specs.Ground as model
use Rattle.class_operators.specs.Predefined.{predefined_tree}
use Rattle.definition_origins.specs.declared.origin.Owner.{Owner}
use Rattle.definition_origins.specs.declared.origin.Origin.{Origin}
use Rattle.definition_origins.specs.declared.origin.Origin.TheVariants as origins

abbrev pub owner_tree : Option Owner → Option (Name × Bool)
owner_tree None = None
owner_tree (Some o) = Some (o.name.now, o.novel)

abbrev pub count_received : Option (List Name) → ℕ
count_received None = 0
count_received (Some ns) = length ns

abbrev pub received_tree : ReceiveTree → ℕ → model.Origin
received_tree a part = model.a_received a.source (count_received a.received) part

abbrev pub modulion_origin : ModulionTree → model.Origin
modulion_origin m = model.a_modulion m.kind (item_nodes m.items)

abbrev pub origin_tree : Origin → model.Origin
origin_tree (origins.Synonym s f) = model.a_synonym (synonym_tree s.now)
origin_tree (origins.SynMode d) = model.a_mode false (mode_tree d.now.mode)
origin_tree (origins.NewMode d) = model.a_mode true (mode_tree d.now.mode)
origin_tree (origins.Element e) = model.an_element e.names.now e.part (owner_tree e.owner)
origin_tree (origins.Location d f) = model.a_location (declaration_tree d.now)
origin_tree (origins.Parameter m p f) = model.a_parameter (mode_tree m.now)
origin_tree (origins.Counter c) = model.a_counter (control_tree c.now)
origin_tree (origins.Received a part) = received_tree (receive_tree a.now) part
origin_tree (origins.Procedure p) = model.a_procedure (procedure_tree p.now)
origin_tree (origins.Process p) = model.a_process (process_tree p.now)
origin_tree (origins.Signal s) = model.a_signal (signal_tree s.now)
origin_tree (origins.Modulion m) = modulion_origin (modulion_tree m.now)
origin_tree (origins.Predefined p) = model.a_predefined (predefined_tree p)

abbrev pub origin_trees : List Origin → List model.Origin
origin_trees os = map origin_tree os
