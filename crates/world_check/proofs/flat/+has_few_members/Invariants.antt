use Rattle.std.proofs.Common.{◌<◌, ℕ, get_or}
use Rattle.kernel_base.specs.declared.value.Value.{Value}
use Rattle.world_check.specs.Opening.{HasFewMembersEach}
use Rattle.world_check.proofs.flat.+has_few_members.Given as goal

abbrev pub invariant-loop-part : goal.invariant-loop-part
invariant-loop-part l = (i : ℕ) (d : Value) → i < l.part-index → HasFewMembersEach (get_or l.part-items i d)
