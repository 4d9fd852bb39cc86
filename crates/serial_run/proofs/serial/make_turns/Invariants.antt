use Rattle.std.proofs.Common.{◌≡◌, ◌-◌}
use Rattle.kernel_base.specs.Units.{units_of_all}
use Rattle.serial_run.specs.Standing.{AllStand}
use Rattle.serial_run.proofs.serial.make_turns.Given as goal

abbrev pub invariant-turns : goal.invariant-turns
invariant-turns l = record {
  stand : AllStand l.guarded l.kernel l.runners.items;
  facts : l.kernel.facts ≡ l.fn.kernel.facts;
}

abbrev pub decreases-turns : goal.decreases-turns
decreases-turns l = l.kernel.facts.units - units_of_all l.kernel.events
