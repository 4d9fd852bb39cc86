use Rattle.std.proofs.Common.{◌≡◌, ◌-◌, length}
use Rattle.modes.specs.ModeTree.{field_nodes, field_trees}
use Rattle.layout_map.specs.Overlap.{ats_of, second_from, placed_overlap}
use Rattle.layout_map.proofs.overlap.placed_overlap.Given as goal

abbrev pub invariant-loop-second : goal.invariant-loop-second
invariant-loop-second l =
    let ats = ats_of (field_nodes (field_trees l.fields)) in
    second_from (length l.fields - l.second) l.second l.number ats ≡ placed_overlap ats l.number
