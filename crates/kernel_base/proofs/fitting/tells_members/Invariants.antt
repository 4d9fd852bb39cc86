use Rattle.std.proofs.Common.{◌≡◌, ℕ, ◌+◌, ◌<◌}
use Rattle.std.specs.Int.{bit_at}
use Rattle.kernel_base.proofs.fitting.tells_members.Given as goal

abbrev pub invariant-loop-k : goal.invariant-loop-k
invariant-loop-k l = (k : ℕ) → k < l.k → bit_at l.bits k ≡ 1 → l.first + k < l.size
