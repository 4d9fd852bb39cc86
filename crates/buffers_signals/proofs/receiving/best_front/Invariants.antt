use Rattle.kernel_lists.specs.Best.{BestBelow}
use Rattle.buffers_signals.specs.Ranks.{front_rank}
use Rattle.buffers_signals.proofs.receiving.best_front.Given as goal

abbrev pub invariant-loop-place : goal.invariant-loop-place
invariant-loop-place l = BestBelow (λ a. front_rank l.lengths l.stored.values l.senders.senders a.thing) l.buffers l.place l.found
