use Rattle.std.proofs.Common.{◌≡◌, ◌<◌, ℕ, Some, slice_get}
use Rattle.code_types.specs.declared.instr.Instr.{Instr}
use Rattle.code_guard.specs.Heights.{KeepsHeight}
use Rattle.code_guard.proofs.meeting.keep_in_range.Given as goal

abbrev pub invariant-loop-place : goal.invariant-loop-place
invariant-loop-place l = (k body : ℕ) (instr : Instr) → k < l.place → slice_get l.owners k ≡ Some body → slice_get l.code.instrs k ≡ Some instr → KeepsHeight l.code l.heights l.handler body k instr
