use Rattle.std.proofs.Common.{◌-◌, length}
use Rattle.kernel_steps.specs.View.{world_seen}
use Rattle.serial_run.specs.Standing.{AllStand, KeepsEvents}
use Rattle.serial_run.proofs.taking.take_all.Given as goal

abbrev pub invariant-takes : goal.invariant-takes
invariant-takes l = record {
  stand : AllStand l.guarded l.kernel l.runners.items;
  events : KeepsEvents l.fn.kernel l.kernel;
}

abbrev pub decreases-takes : goal.decreases-takes
decreases-takes l = length (world_seen l.kernel).processes - l.kernel.taken
