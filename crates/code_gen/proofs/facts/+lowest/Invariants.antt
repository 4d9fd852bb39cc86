use Rattle.std.proofs.Common.{◌≡◌, ◌++◌, drop, replicate}
use Rattle.modes.specs.ModeTree.{mode_tree, field_nodes, field_trees}
use Rattle.code_gen.specs.Lowest.{lowest_value, lowest_values}
use Rattle.code_gen.proofs.facts.+lowest.Given as goal

-- so many elements
abbrev pub invariant-lowest_value-loop-i : goal.invariant-lowest_value-loop-i
invariant-lowest_value-loop-i l = l.parts ≡ replicate l._i (lowest_value (mode_tree l.element.value))

-- the values so far, and those of the fields that are left
abbrev pub invariant-lowest_values-loop-field : goal.invariant-lowest_values-loop-field
invariant-lowest_values-loop-field l =
    l.values ++ lowest_values (field_nodes (field_trees (drop l.field-index l.fields))) ≡ lowest_values (field_nodes (field_trees l.fields))
