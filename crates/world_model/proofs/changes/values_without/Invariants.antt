use Rattle.std.proofs.Common.{◌≡◌}
use Rattle.world_model.specs.World.{values_but}
use Rattle.world_model.proofs.changes.values_without.Given as goal

abbrev pub invariant-loop-value : goal.invariant-loop-value
invariant-loop-value l = l.rest.items ≡ values_but l.send l.yielded
