use Rattle.std.proofs.Common.{◌≡◌, ◌++◌, drop}
use Rattle.modes.specs.ModeTree.{mode_tree, field_nodes, field_trees}
use Rattle.modes.specs.Scalars.{Begins, lowest_of, lowest_of_fields, repeated}
use Rattle.modes.proofs.lowest.+lowest.Given as goal

abbrev pub invariant-add_fields-loop-field : goal.invariant-add_fields-loop-field
invariant-add_fields-loop-field l = record {
  rest : l.out ++ lowest_of_fields (field_nodes (field_trees (drop l.field-index l.fields))) ≡ l.fn.out ++ lowest_of_fields (field_nodes (field_trees l.fields));
  keeps : Begins l.fn.out l.out;
}

abbrev pub invariant-add_lowest-loop-i : goal.invariant-add_lowest-loop-i
invariant-add_lowest-loop-i l = l.out ≡ l.initial.out ++ repeated l._i (lowest_of (mode_tree l.element.value))
