use Rattle.std.proofs.Common.{◌≡◌, ◌≤◌, ◌+◌, min, drop}
use Rattle.modes.specs.ModeTree.{field_nodes, field_trees}
use Rattle.modes.specs.Scalars.{scalars_in_fields}
use Rattle.mode_rules.proofs.too_many.+counting.Given as goal

abbrev pub invariant-scalars_in_fields-loop-field : goal.invariant-scalars_in_fields-loop-field
invariant-scalars_in_fields-loop-field l = record {
  least : l.count ≤ 65537;
  rest : min (l.count + scalars_in_fields 0 (field_nodes (field_trees (drop l.field-index l.fields)))) 65537 ≡ min (scalars_in_fields 0 (field_nodes (field_trees l.fields))) 65537;
}
