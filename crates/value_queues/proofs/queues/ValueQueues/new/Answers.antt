use Rattle.std.proofs.Common.{◌≡◌, ◌++◌, ◌∷◌, [], List, map, ap, ◌∙◌, arith}
use Rattle.std.specs.VecDeque.{deque_items}
use Rattle.std.proofs.lemmas.List.{map-append, replicate-append-replicate}
use Rattle.world_model.specs.declared.world.StoredValue.{StoredValue}
use Rattle.value_queues.specs.Queues.{AreInOrder}
use Rattle.value_queues.proofs.Ordered.{Queue, AreFit, fit_push}
use Rattle.value_queues.proofs.queues.ValueQueues.new.Goals as goal

pub loop-preserved : goal.loop-preserved
loop-preserved c =
    let items = c.loop.queues.items in
    let more : c.push.new.self.items ≡ c.loop.queues.items ++ c.new.result ∷ [] = c.in_ok-push.ensures.items in
    let empty : AreInOrder c.new.result.items = rw c.new.ensures.items tt in
    let fit : AreFit 0 (c.loop.queues.items ++ c.new.result ∷ []) = fit_push 0 items c.new.result (omega (arith, c.new.ensures.len), empty) c.loop.invariant.1 in (
      ap (λ (qs : List Queue). map deque_items qs) more ∙ map-append deque_items items (c.new.result ∷ [])
          ∙ ap (λ (vs : List StoredValue). map deque_items c.loop.queues.items ++ vs ∷ []) c.new.ensures.items ∙ ap (λ (vs : List (List StoredValue)). vs ++ [] ∷ []) c.loop.invariant.0 ∙ replicate-append-replicate c.loop.counter 1 [],
      rw more fit,
    )
