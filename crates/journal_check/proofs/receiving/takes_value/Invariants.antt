use Rattle.std.proofs.Common.{◌≡◌, ◌<◌, ℕ, Some}
use Rattle.std.specs.Prelude.{slice_get}
use Rattle.kernel_base.specs.declared.request.Alternative.{Alternative}
use Rattle.journal_check.specs.Receiving.{TakesFrom}
use Rattle.journal_check.proofs.receiving.takes_value.Given as goal

abbrev pub invariant-loop-place : goal.invariant-loop-place
invariant-loop-place l = (k : ℕ) (a : Alternative) → k < l.place → slice_get l.buffers k ≡ Some a → TakesFrom l.facts l.world l.buffers l.receipt.alternative l.receipt.send l.receipt.scalars.now l.receipt.by l.refill a.thing → ⊥
