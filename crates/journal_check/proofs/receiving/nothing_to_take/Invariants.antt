use Rattle.std.proofs.Common.{◌≡◌, ◌<◌, ℕ, Some}
use Rattle.std.specs.Prelude.{slice_get}
use Rattle.kernel_base.specs.declared.request.Alternative.{Alternative}
use Rattle.journal_check.specs.Receiving.{NoCandidate}
use Rattle.journal_check.proofs.receiving.nothing_to_take.Given as goal

abbrev pub invariant-loop-place : goal.invariant-loop-place
invariant-loop-place l = (k : ℕ) (a : Alternative) → k < l.place → slice_get l.buffers k ≡ Some a → NoCandidate l.facts l.world a.thing
