use Rattle.std.proofs.Common.{◌<◌, ℕ, get_or}
use Rattle.kernel_base.specs.declared.value.Value.{Value}
use Rattle.world_check.specs.Opening.{HasFewMembersEach}
use Rattle.world_check.proofs.opening.have_few_members.Given as goal

abbrev pub invariant-loop-value : goal.invariant-loop-value
invariant-loop-value l = (i : ℕ) (d : Value) → i < l.value-index → HasFewMembersEach (get_or l.value-items i d)
