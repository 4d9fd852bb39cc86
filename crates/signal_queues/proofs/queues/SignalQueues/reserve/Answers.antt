use Rattle.std.proofs.Common.{◌≡◌, ◌+◌, ◌<◌, ◌≤◌, List, length, map, Some, slice_get, slice_set, ap, sym, subst, ◌∙◌, arith}
use Rattle.std.specs.VecDeque.{deque_items, deque_len, deque_capacity}
use Rattle.std.proofs.Math.Seq.{map-set_same}
use Rattle.std.proofs.lemmas.List.{length-map}
use Rattle.std.proofs.lemmas.Option.{slice_get-get_or, slice_get_within}
use Rattle.world_model.specs.declared.world.PendingSignal.{PendingSignal}
use Rattle.value_queues.specs.Queues.{AreInOrder}
use Rattle.signal_queues.specs.Pending.{IsThere, SeenPending, value_of}
use Rattle.signal_queues.proofs.Kept.{kept_set, kept_more, sent_same}
use Rattle.signal_queues.proofs.queues.SignalQueues.reserve.Goals as goal

pub returns-in_err-reserve-clause-queues : goal.returns-in_err-reserve-clause-queues
returns-in_err-reserve-clause-queues c =
    let items = c.loop-signal.self-inside.queues.items in
    map-set_same deque_items items c.loop-signal.signal c.reserve.new.self c.index_mut.result.now (c.reserve.ensures.items ∙ ap deque_items c.index_mut.ensures.value)
    ∙ c.loop-signal.invariant.queues ∙ ap (λ (s : SeenPending). s.queues) c.self.view_is

pub loop-signal-preserved : goal.loop-signal-preserved
loop-signal-preserved c =
    let items = c.loop-signal.self-inside.queues.items in
    let inv = c.loop-signal.invariant in
    let signal = c.loop-signal.signal in
    let old = c.index_mut.result.now in
    let new = c.reserve.new.self in
    let same : length c.loop-signal.self-inside.queues.items ≡ length c.self.inside.queues.items = sym (length-map items deque_items) ∙ ap length inv.queues ∙ length-map c.self.inside.queues.items deque_items in
    let low : c.loop-signal.signal < length c.loop-signal.self-inside.queues.items = omega (arith, same, c.loop-signal-test.true, c.len-signal-end.ensures, c.self.inside.queues.ok.0) in
    let at : slice_get c.loop-signal.self-inside.queues.items c.loop-signal.signal ≡ Some c.index_mut.result.now = slice_get-get_or items signal old low ∙ ap Some (sym c.index_mut.ensures.value) in
    let was = inv.kept signal old at in
    let same_items : c.reserve.new.self.items ≡ c.index_mut.result.now.items = c.reserve.ensures.items in
    let order = subst (λ (l : List PendingSignal). AreInOrder (map value_of l)) (sym same_items) was.order in
    let own = subst (λ (l : List PendingSignal). (x : PendingSignal) → IsThere l x → x.signal ≡ c.loop-signal.signal) (sym same_items) was.own in
    let fits : deque_len c.reserve.new.self + c.loop-signal.self-inside.room ≤ deque_capacity c.reserve.new.self = omega (arith, was.fits, c.reserve.ensures.len, c.reserve.ensures.capacity) in
    let room : deque_len c.reserve.new.self + c.args.n ≤ deque_capacity c.reserve.new.self = c.in_ok-reserve.ensures.ok in
    record {
      queues = map-set_same deque_items items signal new old (c.reserve.ensures.items ∙ ap deque_items c.index_mut.ensures.value) ∙ inv.queues;
      kept = kept_set c.loop-signal.self-inside.room items signal new (record { fits = fits; order = order; own = own }) inv.kept;
      more = kept_more c.args.n items signal old new at (record { fits = room; order = order; own = own }) inv.more;
      same = inv.same;
      last = inv.last;
    }

pub invariant_of-self-2 : goal.invariant_of-self-2
invariant_of-self-2 c =
    let items = c.loop-signal.self-inside.queues.items in
    let inv = c.loop-signal.invariant in
    let same : length c.loop-signal.self-inside.queues.items ≡ length c.self.inside.queues.items = sym (length-map items deque_items) ∙ ap length inv.queues ∙ length-map c.self.inside.queues.items deque_items in (
      λ k q at. inv.more k q (omega (arith, slice_get_within items k q at, same, c.loop-signal-test.false, c.len-signal-end.ensures, c.self.inside.queues.ok.0)) at,
      sent_same c.self.inside.last c.loop-signal.self-inside.last (map deque_items c.self.inside.queues.items) (map deque_items c.loop-signal.self-inside.queues.items) inv.last inv.queues c.self.invariant.1,
    )

pub invariant_of-self : goal.invariant_of-self
invariant_of-self c =
    let items = c.loop-signal.self-inside.queues.items in
    let inv = c.loop-signal.invariant in
    let signal = c.loop-signal.signal in
    let old = c.index_mut.result.now in
    let new = c.reserve.new.self in
    let same : length c.loop-signal.self-inside.queues.items ≡ length c.self.inside.queues.items = sym (length-map items deque_items) ∙ ap length inv.queues ∙ length-map c.self.inside.queues.items deque_items in
    let low : c.loop-signal.signal < length c.loop-signal.self-inside.queues.items = omega (arith, same, c.loop-signal-test.true, c.len-signal-end.ensures, c.self.inside.queues.ok.0) in
    let at : slice_get c.loop-signal.self-inside.queues.items c.loop-signal.signal ≡ Some c.index_mut.result.now = slice_get-get_or items signal old low ∙ ap Some (sym c.index_mut.ensures.value) in
    let was = inv.kept signal old at in
    let same_items : c.reserve.new.self.items ≡ c.index_mut.result.now.items = c.reserve.ensures.items in
    let order = subst (λ (l : List PendingSignal). AreInOrder (map value_of l)) (sym same_items) was.order in
    let own = subst (λ (l : List PendingSignal). (x : PendingSignal) → IsThere l x → x.signal ≡ c.loop-signal.signal) (sym same_items) was.own in
    let fits : deque_len c.reserve.new.self + c.loop-signal.self-inside.room ≤ deque_capacity c.reserve.new.self = omega (arith, was.fits, c.reserve.ensures.len, c.reserve.ensures.capacity) in
    let queues = map-set_same deque_items items signal new old (c.reserve.ensures.items ∙ ap deque_items c.index_mut.ensures.value) ∙ inv.queues in (
      kept_set c.loop-signal.self-inside.room items signal new (record { fits = fits; order = order; own = own }) inv.kept,
      sent_same c.self.inside.last c.loop-signal.self-inside.last (map deque_items c.self.inside.queues.items) (map deque_items (slice_set c.loop-signal.self-inside.queues.items c.loop-signal.signal c.reserve.new.self)) inv.last queues c.self.invariant.1,
    )
