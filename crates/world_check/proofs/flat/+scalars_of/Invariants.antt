use Rattle.std.proofs.Common.{◌≡◌, take}
use Rattle.std.specs.List.{flat_map}
use Rattle.kernel_base.specs.Value.{scalars_of}
use Rattle.world_check.specs.Opening.{HasFewMembersEach}
use Rattle.world_check.proofs.flat.+scalars_of.Given as goal

abbrev pub invariant-loop-part : goal.invariant-loop-part
invariant-loop-part l = HasFewMembersEach l.value → l.all.items ≡ flat_map scalars_of (take l.part-index l.part-items)
