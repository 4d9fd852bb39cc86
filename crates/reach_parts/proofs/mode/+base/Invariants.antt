use Rattle.std.proofs.Common.{◌≡◌, ◌++◌, drop}
use Rattle.chill_tree.specs.ModeTree.{field_nodes, field_trees}
use Rattle.names_model.specs.ModeMentions.{mentions_of_fields}
use Rattle.reach_parts.proofs.mode.+base.Given as goal

abbrev pub invariant-add_fields-loop-field : goal.invariant-add_fields-loop-field
invariant-add_fields-loop-field l =
    l.out ++ mentions_of_fields (field_nodes (field_trees (drop l.field-index l.fields))) ≡ l.fn.out ++ mentions_of_fields (field_nodes (field_trees l.fields))
