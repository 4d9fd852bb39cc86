use Rattle.std.proofs.Common.{◌≡◌, ◌≤◌, ◌*◌, ◌^◌, take}
use Rattle.kernel_base.specs.Value as values
use Rattle.world_check.proofs.flat.bits_of.Given as goal

abbrev pub invariant-loop-offset : goal.invariant-loop-offset
invariant-loop-offset l = (l.bits ≡ values.number_of (take l.offset-index l.offsets) l.j) × (l.bits ≤ 2 ^ 31 * l.offset-index)
