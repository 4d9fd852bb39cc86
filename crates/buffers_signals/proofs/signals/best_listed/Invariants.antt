use Rattle.kernel_lists.specs.Best.{BestBelow}
use Rattle.buffers_signals.specs.Pending.{rank_for}
use Rattle.buffers_signals.proofs.signals.best_listed.Given as goal

abbrev pub invariant-loop-place : goal.invariant-loop-place
invariant-loop-place l = BestBelow (λ a. rank_for l.wanted l.pending.queues l.who l.process a.thing) l.signals l.place l.found
