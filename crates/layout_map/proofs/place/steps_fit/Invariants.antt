use Rattle.std.proofs.Common.{◌≡◌, ◌≤◌, ◌-◌, ◌^◌}
use Rattle.layout_map.specs.Place.{steps_fit}
use Rattle.layout_map.proofs.place.steps_fit.Given as goal

abbrev pub invariant-loop-k : goal.invariant-loop-k
invariant-loop-k l = record {
  near : l.bit ≤ 2 ^ 20;
  rest : steps_fit (l.count - l._k) l.length l.step l.bit ≡ steps_fit l.count l.length l.step l.first;
}
