use Rattle.std.proofs.Common.{◌≡◌, ◌<◌, ℕ, Some, slice_get}
use Rattle.code_types.specs.declared.code.Handler.{Handler}
use Rattle.code_types.specs.Agreement.{Everywhere}
use Rattle.code_guard.specs.Heights.{KeepsHeight}
use Rattle.code_guard.proofs.meeting.all_keep.Given as goal

abbrev pub invariant-loop-i : goal.invariant-loop-i
invariant-loop-i l = (k : ℕ) (handler : Handler) → k < l.i → slice_get l.code.handlers k ≡ Some handler → Everywhere l.code (λ body row place instr. KeepsHeight l.code l.heights handler body place instr)
