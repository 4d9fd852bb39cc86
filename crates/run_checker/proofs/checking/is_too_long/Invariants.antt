use Rattle.std.proofs.Common.{◌≡◌, ◌≤◌, take}
use Rattle.kernel_base.specs.Units.{units_of_all}
use Rattle.run_checker.proofs.checking.is_too_long.Given as goal

abbrev pub invariant-loop-place : goal.invariant-loop-place
invariant-loop-place l = record {
  units : l.units ≡ units_of_all (take l.place l.events);
  few : l.units ≤ 20000000;
}
