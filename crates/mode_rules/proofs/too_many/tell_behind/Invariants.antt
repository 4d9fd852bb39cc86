use Rattle.std.proofs.Common.{◌≡◌, ◌≤◌, drop}
use Rattle.constant_operators.specs.Grounds.{ground_of}
use Rattle.mode_rules.specs.Ready.{IsReady}
use Rattle.mode_rules.specs.Shared.{told_places}
use Rattle.mode_rules.proofs.too_many.tell_behind.Given as goal

abbrev pub invariant-loop-at : goal.invariant-loop-at
invariant-loop-at l = record {
  told : l.told ≡ l.fn.told;
  few : l.sum ≤ 65536;
  rest : IsReady l.ground → told_places (ground_of l.ground) l.sum (drop l.at-index l.places) ≡ told_places (ground_of l.ground) 0 l.places;
}
