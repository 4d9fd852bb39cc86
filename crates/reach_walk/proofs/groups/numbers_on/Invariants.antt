use Rattle.std.proofs.Common.{◌≡◌, ◌+◌, ◌<◌, ◌^◌, ◌++◌, drop, length}
use Rattle.names_model.specs.Definitions.{numbers_on}
use Rattle.reach_walk.proofs.groups.numbers_on.Given as goal

abbrev pub invariant-loop-name : goal.invariant-loop-name
invariant-loop-name l = l.from + length l.names < 2 ^ 32 → record {
  next : l.next + length (drop l._name-index l.names) ≡ l.from + length l.names;
  numbers : l.numbers ++ numbers_on l.next (length (drop l._name-index l.names)) ≡ numbers_on l.from (length l.names);
}
