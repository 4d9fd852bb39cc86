use Rattle.std.proofs.Common.{◌≡◌, ◌++◌, ◌∷◌, [], List, length, map, subst, sym, ap, ◌∙◌, arith}
use Rattle.std.specs.VecDeque.{deque_items}
use Rattle.std.proofs.lemmas.List.{map-append, replicate-append-replicate}
use Rattle.world_model.specs.declared.world.PendingSignal.{PendingSignal}
use Rattle.value_queues.specs.Queues.{AreInOrder}
use Rattle.signal_queues.specs.Pending.{AreKept, AreSent, IsKept, Queue, value_of}
use Rattle.signal_queues.proofs.Kept.{kept_push, none_there, nothing_pending, nothing_sent}
use Rattle.signal_queues.proofs.queues.SignalQueues.new.Goals as goal

pub loop-preserved : goal.loop-preserved
loop-preserved c =
    let items = c.loop.queues.items in
    let more : c.push.new.self.items ≡ c.loop.queues.items ++ c.new.result ∷ [] = c.in_ok-push.ensures.items in
    let kept : IsKept 0 (length c.loop.queues.items) c.new.result = record {
      fits = omega (arith, c.new.ensures.len);
      order = subst (λ (l : List PendingSignal). AreInOrder (map value_of l)) (sym c.new.ensures.items) tt;
      own = λ x h. none_there c.new.result.items x c.new.ensures.items h;
    } in (
      ap (λ (qs : List Queue). map deque_items qs) more ∙ map-append deque_items items (c.new.result ∷ [])
          ∙ ap (λ (vs : List PendingSignal). map deque_items c.loop.queues.items ++ vs ∷ []) c.new.ensures.items ∙ ap (λ (vs : List (List PendingSignal)). vs ++ [] ∷ []) c.loop.invariant.0 ∙ replicate-append-replicate c.loop.counter 1 [],
      subst (AreKept 0) (sym more) (kept_push 0 items c.new.result kept c.loop.invariant.1),
    )

pub invariant_of-result : goal.invariant_of-result
invariant_of-result c = (c.loop.invariant.1, subst (λ (qs : List (List PendingSignal)). AreSent 0 qs) (sym c.loop.invariant.0) (nothing_sent 0 c.loop.counter))

pub returns-clause-pending : goal.returns-clause-pending
returns-clause-pending c = nothing_pending 0 c.loop.counter (map deque_items c.loop.queues.items) c.loop.invariant.0
