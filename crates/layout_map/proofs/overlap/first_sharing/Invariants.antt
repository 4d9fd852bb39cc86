use Rattle.std.proofs.Common.{◌≡◌, ◌-◌}
use Rattle.modes.specs.ModeTree.{field_nodes, field_trees}
use Rattle.layout_map.specs.Overlap.{ats_of, at_number, sharing_from}
use Rattle.layout_map.proofs.overlap.first_sharing.Given as goal

abbrev pub invariant-loop-first : goal.invariant-loop-first
invariant-loop-first l =
    let ats = ats_of (field_nodes (field_trees l.fields)) in
    sharing_from (l.second - l.first) l.first (at_number ats l.second) ats ≡ sharing_from l.second 0 (at_number ats l.second) ats
