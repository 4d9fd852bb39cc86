use Rattle.std.proofs.Common.{◌≡◌, drop}
use Rattle.modes.specs.ModeTree.{field_nodes, field_trees}
use Rattle.layout_map.specs.Overlap.{fields_overlap}
use Rattle.layout_map.proofs.overlap.+overlap.Given as goal

abbrev pub invariant-fields_overlap-loop-field : goal.invariant-fields_overlap-loop-field
invariant-fields_overlap-loop-field l =
    fields_overlap (field_nodes (field_trees (drop l.field-index l.fields))) l.next ≡ fields_overlap (field_nodes (field_trees l.fields)) l.number
