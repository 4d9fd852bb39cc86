use Rattle.std.proofs.Common.{◌≡◌, drop}
use Rattle.modes.specs.ModeTree.{field_nodes, field_trees}
use Rattle.layout_map.specs.Numbered.{fields_impossible}
use Rattle.layout_map.proofs.numbered.+impossible.Given as goal

abbrev pub invariant-fields_impossible-loop-field : goal.invariant-fields_impossible-loop-field
invariant-fields_impossible-loop-field l =
    fields_impossible (field_nodes (field_trees (drop l.field-index l.fields))) l.mixed l.next ≡ fields_impossible (field_nodes (field_trees l.fields)) l.mixed l.number
