use Rattle.std.proofs.Common.{◌≡◌, ◌≤◌, ◌-◌, ◌++◌, drop, true, false}
use Rattle.modes.specs.ModeTree.{mode_tree, field_nodes, field_trees}
use Rattle.layout_map.specs.Spots.{up, times, laid, laid_fields}
use Rattle.layout_map.proofs.lay.+lay.Given as goal

abbrev pub invariant-lay-loop-k : goal.invariant-lay-loop-k
invariant-lay-loop-k l = record {
  room : l.next ≤ 137438953440;
  spots : l.out ++ (times (l.count - l._k) (laid (mode_tree l.element.value) false) l.next).0 ≡ l.initial.out ++ (times l.count (laid (mode_tree l.element.value) false) (up l.cursor)).0;
  end : (times (l.count - l._k) (laid (mode_tree l.element.value) false) l.next).1 ≡ (times l.count (laid (mode_tree l.element.value) false) (up l.cursor)).1;
}

abbrev pub invariant-lay-loop-k-2 : goal.invariant-lay-loop-k-2
invariant-lay-loop-k-2 l = record {
  room : l.next ≤ 137438953440;
  spots : l.out ++ (times (l.count - l._k) (laid (mode_tree l.element.value) true) l.next).0 ≡ l.initial.out ++ (times l.count (laid (mode_tree l.element.value) true) (up l.cursor)).0;
  end : (times (l.count - l._k) (laid (mode_tree l.element.value) true) l.next).1 ≡ (times l.count (laid (mode_tree l.element.value) true) (up l.cursor)).1;
}

abbrev pub invariant-lay_fields-loop-field : goal.invariant-lay_fields-loop-field
invariant-lay_fields-loop-field l = record {
  room : l.next ≤ 137438953440;
  spots : l.out ++ (laid_fields (field_nodes (field_trees (drop l.field-index l.fields))) l.packed l.next).0 ≡ l.fn.out ++ (laid_fields (field_nodes (field_trees l.fields)) l.packed l.cursor).0;
  end : (laid_fields (field_nodes (field_trees (drop l.field-index l.fields))) l.packed l.next).1 ≡ (laid_fields (field_nodes (field_trees l.fields)) l.packed l.cursor).1;
}
