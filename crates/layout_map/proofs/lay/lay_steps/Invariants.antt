use Rattle.std.proofs.Common.{◌≡◌, ◌≤◌, ◌-◌, ◌++◌}
use Rattle.layout_map.specs.Spots.{times, step_one}
use Rattle.layout_map.proofs.lay.lay_steps.Given as goal

abbrev pub invariant-loop-k : goal.invariant-loop-k
invariant-loop-k l = record {
  room : l.bit ≤ 137438953440;
  spots : l.out ++ (times (l.count - l._k) (step_one (l.at.end - l.at.start) l.signed l.step) l.bit).0 ≡ l.initial.out ++ (times l.count (step_one (l.at.end - l.at.start) l.signed l.step) l.first).0;
}
