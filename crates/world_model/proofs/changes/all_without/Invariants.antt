use Rattle.std.proofs.Common.{◌≡◌, map}
use Rattle.world_model.specs.World.{values_but}
use Rattle.world_model.proofs.changes.all_without.Given as goal

abbrev pub invariant-loop-values : goal.invariant-loop-values
invariant-loop-values l = l.rest.items ≡ map (values_but l.send) l.yielded
