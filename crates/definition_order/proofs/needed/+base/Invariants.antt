use Rattle.std.proofs.Common.{◌≡◌, ◌++◌, drop}
use Rattle.chill_tree.specs.ModeTree.{field_nodes, field_trees}
use Rattle.table_laws.specs.Names.{names_in_fields}
use Rattle.definition_order.specs.Places.{places_of}
use Rattle.definition_order.proofs.needed.+base.Given as goal

abbrev pub invariant-add_fields-loop-field : goal.invariant-add_fields-loop-field
invariant-add_fields-loop-field l = l.places ++ places_of (names_in_fields (field_nodes (field_trees (drop l.field-index l.fields)))) ≡ l.fn.places ++ places_of (names_in_fields (field_nodes (field_trees l.fields)))
