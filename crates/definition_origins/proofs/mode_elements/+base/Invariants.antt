use Rattle.std.proofs.Common.{◌≡◌, ◌++◌, drop, map}
use Rattle.chill_tree.specs.ModeTree.{field_nodes, field_trees}
use Rattle.definition_origins.specs.Walks.{elements_in_fields}
use Rattle.definition_origins.specs.OriginTrees.{origin_trees}
use Rattle.definition_origins.proofs.mode_elements.+base.Given as goal

abbrev pub invariant-add_fields-loop-field : goal.invariant-add_fields-loop-field
invariant-add_fields-loop-field l = origin_trees l.found ++ elements_in_fields (field_nodes (field_trees (drop l.field-index l.fields))) ≡ origin_trees l.fn.found ++ elements_in_fields (field_nodes (field_trees l.fields))
