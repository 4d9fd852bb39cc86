use Rattle.std.proofs.Common.{◌≡◌, ◌<◌, [], List, length, map, ap, sym, ◌∙◌, subst, slice_set}
use Rattle.std.specs.VecDeque.{deque_items}
use Rattle.std.proofs.lemmas.List.{get_or-map, map-set, length-map}
use Rattle.world_model.specs.declared.world.StoredValue.{StoredValue}
use Rattle.value_queues.specs.Queues.{SeenQueues, placed, values_in, with_placed}
use Rattle.value_queues.proofs.queues.ValueQueues.put.Goals as goal

pub returns-clause-values : goal.returns-clause-values
returns-clause-values c =
    let items = c.self.inside.queues.items in
    let buffer = c.args.buffer in
    let there : c.args.buffer < length (map deque_items c.self.inside.queues.items) = subst (λ (s : SeenQueues). c.args.buffer < length s.values) (sym c.self.view_is) c.requires.there in
    let low : c.args.buffer < length c.self.inside.queues.items = subst (λ n. c.args.buffer < n) (length-map c.self.inside.queues.items deque_items) there in
    let was : c.index_mut.result.now.items ≡ values_in (map deque_items c.self.inside.queues.items) c.args.buffer = ap deque_items c.index_mut.ensures.value ∙ sym (get_or-map deque_items items buffer c.index_mut.result.now [] low) in
    map-set deque_items items buffer c.put_in.new.queue
    ∙ ap (λ (vs : List StoredValue). slice_set (map deque_items c.self.inside.queues.items) c.args.buffer vs) (c.put_in.ensures.values ∙ ap (placed c.args.value) was)
    ∙ ap (λ (s : SeenQueues). with_placed s.values c.args.buffer c.args.value) c.self.view_is
