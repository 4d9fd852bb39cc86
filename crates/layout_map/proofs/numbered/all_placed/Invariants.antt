use Rattle.std.proofs.Common.{◌≡◌, drop}
use Rattle.modes.specs.ModeTree.{field_nodes, field_trees}
use Rattle.layout_map.specs.Numbered.{all_placed}
use Rattle.layout_map.proofs.numbered.all_placed.Given as goal

abbrev pub invariant-loop-field : goal.invariant-loop-field
invariant-loop-field l =
    all_placed (field_nodes (field_trees (drop l.field-index l.fields))) ≡ all_placed (field_nodes (field_trees l.fields))
