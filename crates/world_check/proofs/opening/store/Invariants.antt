use Rattle.std.proofs.Common.{◌≡◌, take, map}
use Rattle.kernel_base.specs.Value.{scalars_of}
use Rattle.world_check.proofs.opening.store.Given as goal

abbrev pub invariant-loop-value : goal.invariant-loop-value
invariant-loop-value l = l.all.items ≡ map scalars_of (take l.value-index l.store)
