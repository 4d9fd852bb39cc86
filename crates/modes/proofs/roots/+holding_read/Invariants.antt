use Rattle.std.proofs.Common.{◌≡◌, drop}
use Rattle.modes.specs.ModeTree.{field_nodes, field_trees}
use Rattle.modes.specs.Roots.{hold_read}
use Rattle.modes.proofs.roots.+holding_read.Given as goal

abbrev pub invariant-hold_read-loop-field : goal.invariant-hold_read-loop-field
invariant-hold_read-loop-field l =
    hold_read (field_nodes (field_trees (drop l.field-index l.fields))) ≡ hold_read (field_nodes (field_trees l.fields))
