use Rattle.std.proofs.Common.{◌≡◌, ◌∙◌, subst}
use Rattle.std.specs.List.{insert}
use Rattle.kernel_lists.specs.declared.best.Rank.{Rank}
use Rattle.value_queues.specs.Queues.{IsPlaceFor, rank_of}
use Rattle.value_queues.proofs.Ordered.{placed_here, placed_order}
use Rattle.value_queues.proofs.queues.put_in.Goals as goal

pub returns-clause-values : goal.returns-clause-values
returns-clause-values c =
    let items = c.args.queue.now.items in
    let more : c.insert.new.self.items ≡ insert c.args.queue.now.items c.place_for-place.result c.args.value = rw c.unwrap.ensures at c.insert.ensures.items in
    let place : IsPlaceFor (rank_of c.args.value) c.args.queue.now.items c.place_for-place.result = subst (λ (r : Rank). IsPlaceFor r c.args.queue.now.items c.place_for-place.result) c.rank.ensures c.place_for-place.ensures in
    more ∙ placed_here c.args.value items c.place_for-place.result c.requires.order place

pub returns-clause-order : goal.returns-clause-order
returns-clause-order c =
    let more : c.insert.new.self.items ≡ insert c.args.queue.now.items c.place_for-place.result c.args.value = rw c.unwrap.ensures at c.insert.ensures.items in
    let place : IsPlaceFor (rank_of c.args.value) c.args.queue.now.items c.place_for-place.result = subst (λ (r : Rank). IsPlaceFor r c.args.queue.now.items c.place_for-place.result) c.rank.ensures c.place_for-place.ensures in
    rw (more ∙ placed_here c.args.value c.args.queue.now.items c.place_for-place.result c.requires.order place) (placed_order c.args.value c.args.queue.now.items c.requires.order)
