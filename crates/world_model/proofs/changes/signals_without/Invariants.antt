use Rattle.std.proofs.Common.{◌≡◌}
use Rattle.world_model.specs.World.{signals_but}
use Rattle.world_model.proofs.changes.signals_without.Given as goal

abbrev pub invariant-loop-signal : goal.invariant-loop-signal
invariant-loop-signal l = l.rest.items ≡ signals_but l.send l.yielded
