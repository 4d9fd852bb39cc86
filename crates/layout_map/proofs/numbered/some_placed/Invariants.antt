use Rattle.std.proofs.Common.{◌≡◌, drop}
use Rattle.modes.specs.ModeTree.{field_nodes, field_trees}
use Rattle.layout_map.specs.Numbered.{some_placed}
use Rattle.layout_map.proofs.numbered.some_placed.Given as goal

abbrev pub invariant-loop-field : goal.invariant-loop-field
invariant-loop-field l =
    some_placed (field_nodes (field_trees (drop l.field-index l.fields))) ≡ some_placed (field_nodes (field_trees l.fields))
