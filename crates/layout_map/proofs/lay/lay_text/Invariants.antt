use Rattle.std.proofs.Common.{◌≡◌, ◌≤◌, ◌-◌, ◌++◌}
use Rattle.layout_map.specs.Spots.{times, one, character}
use Rattle.layout_map.proofs.lay.lay_text.Given as goal

abbrev pub invariant-loop-k : goal.invariant-loop-k
invariant-loop-k l = record {
  room : l.next ≤ 137438953440;
  spots : l.out ++ (times (l.length - l._k) (one character l.packed) l.next).0 ≡ l.initial.out ++ (times l.length (one character l.packed) l.cursor).0;
  end : (times (l.length - l._k) (one character l.packed) l.next).1 ≡ (times l.length (one character l.packed) l.cursor).1;
}
