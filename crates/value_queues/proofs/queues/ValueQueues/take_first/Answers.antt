use Rattle.std.proofs.Common.{◌≡◌, ◌<◌, ◌∷◌, [], length, map, ap, sym, ◌∙◌, subst, slice_set}
use Rattle.std.specs.Prelude.{IsSome}
use Rattle.std.specs.VecDeque.{deque_items}
use Rattle.std.proofs.lemmas.List.{get_or-map, map-set}
use Rattle.value_queues.specs.Queues.{SeenQueues, first_rank, values_in}
use Rattle.value_queues.proofs.Ordered.{some_within}
use Rattle.value_queues.proofs.queues.ValueQueues.take_first.Goals as goal

pub returns-clause-taken : goal.returns-clause-taken
returns-clause-taken c =
    let items = c.self.inside.queues.items in
    let buffer = c.args.buffer in
    let new = c.pop_front.new.self in
    let some : IsSome (first_rank (values_in (map deque_items c.self.inside.queues.items) c.args.buffer)) = subst (λ (s : SeenQueues). IsSome (first_rank (values_in s.values c.args.buffer))) (sym c.self.view_is) c.requires in
    let low : c.args.buffer < length c.self.inside.queues.items = some_within c.self.inside.queues.items c.args.buffer some in
    let popped : c.index_mut.result.now.items ≡ c.unwrap.result ∷ c.pop_front.new.self.items = rw c.unwrap.ensures at c.pop_front.ensures.items in
    record {
      rest = new.items;
      was = ap (λ (s : SeenQueues). values_in s.values c.args.buffer) (sym c.self.view_is) ∙ get_or-map deque_items items buffer c.index_mut.result.now [] low ∙ ap deque_items (sym c.index_mut.ensures.value) ∙ popped;
      new_is = map-set deque_items items buffer new ∙ ap (λ (s : SeenQueues). slice_set s.values c.args.buffer c.pop_front.new.self.items) c.self.view_is;
    }
