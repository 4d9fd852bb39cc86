use Rattle.std.proofs.Common.{◌≡◌, ◌<◌, ℕ, Some, slice_get}
use Rattle.code_types.specs.declared.code.Handler.{Handler}
use Rattle.code_types.specs.Agreement.{HandlesInOneBody}
use Rattle.code_guard.proofs.instructions.handlers_fit.Given as goal

abbrev pub invariant-loop-i : goal.invariant-loop-i
invariant-loop-i l = (k : ℕ) (handler : Handler) → k < l.i → slice_get l.code.handlers k ≡ Some handler → HandlesInOneBody l.code handler
