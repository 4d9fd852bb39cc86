use Rattle.std.proofs.Common.{◌≡◌, ◌<◌, ◌≤◌, ℕ, Some}
use Rattle.journal_check.specs.Receiving.{offered_priority}
use Rattle.journal_check.proofs.offers.no_offer_above.Given as goal

abbrev pub invariant-loop-p : goal.invariant-loop-p
invariant-loop-p l = (k other : ℕ) → k < l.p → offered_priority l.world l.buffer k ≡ Some other → other ≤ l.priority
