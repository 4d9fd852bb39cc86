use Rattle.std.proofs.Common.{◌≡◌, ◌∙◌, map, subst}
use Rattle.std.specs.List.{insert}
use Rattle.kernel_lists.specs.declared.best.Rank.{Rank}
use Rattle.value_queues.specs.Queues.{IsPlaceFor, rank_of}
use Rattle.value_queues.proofs.Ordered.{placed_here, placed_order}
use Rattle.signal_queues.specs.Pending.{value_of}
use Rattle.signal_queues.proofs.Kept.{map_insert}
use Rattle.signal_queues.proofs.queues.put_in.Goals as goal

pub returns-clause-puts : goal.returns-clause-puts
returns-clause-puts c = (c.place_for-place.result, rw c.unwrap.ensures at c.insert.ensures.items)

pub returns-clause-order : goal.returns-clause-order
returns-clause-order c =
    let items = c.args.queue.now.items in
    let at = c.place_for-place.result in
    let value = c.args.signal.value in
    let more : c.insert.new.self.items ≡ insert c.args.queue.now.items c.place_for-place.result c.args.signal = rw c.unwrap.ensures at c.insert.ensures.items in
    let place : IsPlaceFor (rank_of c.args.signal.value) (map value_of c.args.queue.now.items) c.place_for-place.result = subst (λ (r : Rank). IsPlaceFor r (map value_of c.args.queue.now.items) c.place_for-place.result) c.rank.ensures c.place_for-place.ensures in
    rw (more, map_insert items at c.args.signal ∙ placed_here value (map value_of items) at c.requires.order place) (placed_order value (map value_of items) c.requires.order)
