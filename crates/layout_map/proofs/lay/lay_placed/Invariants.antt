use Rattle.std.proofs.Common.{◌≡◌, ◌≤◌, ◌++◌, max, drop}
use Rattle.modes.specs.ModeTree.{field_nodes, field_trees}
use Rattle.layout_map.specs.Spots.{placed_spots, placed_end}
use Rattle.layout_map.proofs.lay.lay_placed.Given as goal

abbrev pub invariant-loop-field : goal.invariant-loop-field
invariant-loop-field l = record {
  room : l.next ≤ 137438953440;
  least : l.cursor ≤ l.next;
  spots : l.out ++ placed_spots (field_nodes (field_trees (drop l.field-index l.fields))) l.cursor ≡ l.initial.out ++ placed_spots (field_nodes (field_trees l.fields)) l.cursor;
  end : max l.next (placed_end (field_nodes (field_trees (drop l.field-index l.fields))) l.cursor) ≡ placed_end (field_nodes (field_trees l.fields)) l.cursor;
}
