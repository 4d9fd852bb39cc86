use Rattle.std.proofs.Common.{◌≡◌, ◌+◌, ◌<◌, ◌≤◌, length, Some, slice_get, ap, sym, ◌∙◌, arith}
use Rattle.std.specs.VecDeque.{deque_items, deque_len, deque_capacity}
use Rattle.std.proofs.Math.Seq.{map-set_same}
use Rattle.std.proofs.lemmas.List.{length-map}
use Rattle.std.proofs.lemmas.Option.{slice_get-get_or, slice_get_within}
use Rattle.value_queues.specs.Queues.{SeenQueues, AreInOrder}
use Rattle.value_queues.proofs.Ordered.{fit_set, fit_more}
use Rattle.value_queues.proofs.queues.ValueQueues.reserve.Goals as goal

pub returns-in_err-reserve-clause-values : goal.returns-in_err-reserve-clause-values
returns-in_err-reserve-clause-values c =
    let items = c.loop-buffer.self-inside.queues.items in
    map-set_same deque_items items c.loop-buffer.buffer c.reserve.new.self c.index_mut.result.now (c.reserve.ensures.items ∙ ap deque_items c.index_mut.ensures.value)
    ∙ c.loop-buffer.invariant.values ∙ ap (λ (s : SeenQueues). s.values) c.self.view_is

pub loop-buffer-preserved : goal.loop-buffer-preserved
loop-buffer-preserved c =
    let items = c.loop-buffer.self-inside.queues.items in
    let inv = c.loop-buffer.invariant in
    let buffer = c.loop-buffer.buffer in
    let old = c.index_mut.result.now in
    let new = c.reserve.new.self in
    let same : length c.loop-buffer.self-inside.queues.items ≡ length c.self.inside.queues.items = sym (length-map items deque_items) ∙ ap length inv.values ∙ length-map c.self.inside.queues.items deque_items in
    let low : c.loop-buffer.buffer < length c.loop-buffer.self-inside.queues.items = omega (arith, same, c.loop-buffer-test.true, c.len-buffer-end.ensures, c.self.inside.queues.ok.0) in
    let at : slice_get c.loop-buffer.self-inside.queues.items c.loop-buffer.buffer ≡ Some c.index_mut.result.now = slice_get-get_or items buffer old low ∙ ap Some (sym c.index_mut.ensures.value) in
    let was = inv.fit buffer old at in
    let order : AreInOrder c.reserve.new.self.items = rw c.reserve.ensures.items was.1 in
    let fits : deque_len c.reserve.new.self + c.loop-buffer.self-inside.room ≤ deque_capacity c.reserve.new.self = omega (arith, was.0, c.reserve.ensures.len, c.reserve.ensures.capacity) in
    let room : deque_len c.reserve.new.self + c.args.n ≤ deque_capacity c.reserve.new.self = c.in_ok-reserve.ensures.ok in
    record {
      values = map-set_same deque_items items buffer new old (c.reserve.ensures.items ∙ ap deque_items c.index_mut.ensures.value) ∙ inv.values;
      fit = fit_set c.loop-buffer.self-inside.room items buffer new (fits, order) inv.fit;
      more = fit_more c.args.n items buffer old new at (room, order) inv.more;
      same = inv.same;
    }

pub invariant_of-self-2 : goal.invariant_of-self-2
invariant_of-self-2 c =
    let items = c.loop-buffer.self-inside.queues.items in
    let inv = c.loop-buffer.invariant in
    let same : length c.loop-buffer.self-inside.queues.items ≡ length c.self.inside.queues.items = sym (length-map items deque_items) ∙ ap length inv.values ∙ length-map c.self.inside.queues.items deque_items in
    λ k q at. inv.more k q (omega (arith, slice_get_within items k q at, same, c.loop-buffer-test.false, c.len-buffer-end.ensures, c.self.inside.queues.ok.0)) at
