use Rattle.std.proofs.Common.{◌≡◌}
use Rattle.serial_run.specs.Driven.{made_of}
use Rattle.serial_run.specs.Standing.{AllStand}
use Rattle.serial_run.proofs.stopped.make_some_turns.Given as goal

abbrev pub invariant-loop-made : goal.invariant-loop-made
invariant-loop-made l = record {
  stand : AllStand l.guarded l.kernel l.runners.items;
  made : made_of l.kernel.events ≡ l.made;
  facts : l.kernel.facts ≡ l.fn.kernel.facts;
}
