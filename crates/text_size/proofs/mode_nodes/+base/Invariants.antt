use Rattle.std.proofs.Common.{◌≡◌, ◌+◌, ◌≤◌, drop, map}
use Rattle.text_size.specs.Nodes.{capped}
use Rattle.chill_tree.specs.ModeTree.{field_nodes, field_trees}
use Rattle.text_size.specs.ModeNodes.{nodes_in_fields}
use Rattle.text_size.proofs.mode_nodes.+base.Given as goal

abbrev pub invariant-nodes_in_fields-loop-field : goal.invariant-nodes_in_fields-loop-field
invariant-nodes_in_fields-loop-field l = record {
  few : l.count ≤ 4294967295;
  sum : capped (l.count + nodes_in_fields (field_nodes (field_trees (drop l.field-index l.fields)))) ≡ capped (nodes_in_fields (field_nodes (field_trees l.fields)));
}
