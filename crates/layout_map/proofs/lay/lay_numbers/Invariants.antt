use Rattle.std.proofs.Common.{◌≡◌, ◌≤◌, ◌++◌}
use Rattle.modes.specs.Scalars.{numbers_of}
use Rattle.layout_map.specs.Spots.{numbers}
use Rattle.layout_map.proofs.lay.lay_numbers.Given as goal

abbrev pub invariant-loop-left : goal.invariant-loop-left
invariant-loop-left l = record {
  room : l.next ≤ 137438953440;
  spots : l.out ++ (numbers (numbers_of l.left) l.left l.packed l.next).0 ≡ l.initial.out ++ (numbers (numbers_of l.members) l.members l.packed l.cursor).0;
  end : (numbers (numbers_of l.left) l.left l.packed l.next).1 ≡ (numbers (numbers_of l.members) l.members l.packed l.cursor).1;
}

abbrev pub decreases-loop-left : goal.decreases-loop-left
decreases-loop-left l = l.left
