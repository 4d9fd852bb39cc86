use Rattle.std.proofs.Common.{◌≡◌, ◌<◌, ℕ, None}
use Rattle.journal_check.specs.Receiving.{offered_priority}
use Rattle.journal_check.proofs.offers.nobody_sends.Given as goal

abbrev pub invariant-loop-p : goal.invariant-loop-p
invariant-loop-p l = (k : ℕ) → k < l.p → offered_priority l.world l.buffer k ≡ None
