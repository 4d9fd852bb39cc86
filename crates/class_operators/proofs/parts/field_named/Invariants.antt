use Rattle.std.proofs.Common.{◌≡◌, drop}
use Rattle.modes.specs.ModeTree.{field_nodes, field_trees}
use Rattle.checks_model.specs.Operations.{field_in}
use Rattle.class_operators.proofs.parts.field_named.Given as goal

abbrev pub invariant-loop-field : goal.invariant-loop-field
invariant-loop-field l =
    field_in l.name (field_nodes (field_trees (drop l.field-index l.fields))) ≡ field_in l.name (field_nodes (field_trees l.fields))
