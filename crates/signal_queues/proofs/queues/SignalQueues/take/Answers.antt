use Rattle.std.proofs.Common.{◌≡◌, ◌+◌, ◌<◌, ◌≤◌, ◌∙◌, List, length, map, get_or, sym, ap, subst, Some, slice_get, arith}
use Rattle.std.specs.List.{remove}
use Rattle.std.specs.VecDeque.{deque_capacity, deque_items, deque_len}
use Rattle.std.proofs.lemmas.Option.{slice_get-get_or}
use Rattle.world_model.specs.declared.world.PendingSignal.{PendingSignal}
use Rattle.world_model.specs.World.{signals_but}
use Rattle.signal_queues.specs.Pending.{SeenPending, pending_in, queue_of}
use Rattle.signal_queues.proofs.Kept.{kept_set, queue_at, there_at, take_order, take_own, take_pending, take_sent}
use Rattle.signal_queues.proofs.queues.SignalQueues.take.Goals as goal

pub returns-clause-taken : goal.returns-clause-taken
returns-clause-taken c =
    let items = c.self.inside.queues.items in
    let k = c.args.signal in
    let old = c.index_mut.result.now in
    let there : c.args.place < length (queue_of (map deque_items c.self.inside.queues.items) c.args.signal) = subst (λ (s : SeenPending). c.args.place < length (queue_of s.queues c.args.signal)) (sym c.self.view_is) c.requires in
    let low : c.args.signal < length c.self.inside.queues.items = there_at items k c.args.place there in
    let at : slice_get c.self.inside.queues.items c.args.signal ≡ Some c.index_mut.result.now = slice_get-get_or items k old low ∙ ap Some (sym c.index_mut.ensures.value) in
    let within : c.args.place < length c.index_mut.result.now.items = subst (λ (l : List PendingSignal). c.args.place < length l) (queue_at items k old at) there in
    let value : c.unwrap.result ≡ get_or c.index_mut.result.now.items c.args.place c.unwrap.result = rw c.unwrap.ensures at c.remove.ensures.value in
    let stood : slice_get c.index_mut.result.now.items c.args.place ≡ Some c.unwrap.result = slice_get-get_or c.index_mut.result.now.items c.args.place c.unwrap.result within ∙ ap Some (sym value) in
    ap (λ (s : SeenPending). slice_get (queue_of s.queues c.args.signal) c.args.place) (sym c.self.view_is) ∙ ap (λ (l : List PendingSignal). slice_get l c.args.place) (queue_at items k old at) ∙ stood

pub returns-clause-pending : goal.returns-clause-pending
returns-clause-pending c =
    let items = c.self.inside.queues.items in
    let k = c.args.signal in
    let old = c.index_mut.result.now in
    let there : c.args.place < length (queue_of (map deque_items c.self.inside.queues.items) c.args.signal) = subst (λ (s : SeenPending). c.args.place < length (queue_of s.queues c.args.signal)) (sym c.self.view_is) c.requires in
    let low : c.args.signal < length c.self.inside.queues.items = there_at items k c.args.place there in
    let at : slice_get c.self.inside.queues.items c.args.signal ≡ Some c.index_mut.result.now = slice_get-get_or items k old low ∙ ap Some (sym c.index_mut.ensures.value) in
    let within : c.args.place < length c.index_mut.result.now.items = subst (λ (l : List PendingSignal). c.args.place < length l) (queue_at items k old at) there in
    let value : c.unwrap.result ≡ get_or c.index_mut.result.now.items c.args.place c.unwrap.result = rw c.unwrap.ensures at c.remove.ensures.value in
    let stood : slice_get c.index_mut.result.now.items c.args.place ≡ Some c.unwrap.result = slice_get-get_or c.index_mut.result.now.items c.args.place c.unwrap.result within ∙ ap Some (sym value) in
    let is : c.remove.new.self.items ≡ remove c.index_mut.result.now.items c.args.place = rw c.unwrap.ensures at c.remove.ensures.items in
    take_pending items k old c.remove.new.self c.args.place c.unwrap.result at stood is c.self.inside.last c.self.invariant.1 ∙ ap (λ (s : SeenPending). signals_but c.unwrap.result.value.send (pending_in s)) c.self.view_is

pub invariant_of-self : goal.invariant_of-self
invariant_of-self c =
    let items = c.self.inside.queues.items in
    let k = c.args.signal in
    let old = c.index_mut.result.now in
    let there : c.args.place < length (queue_of (map deque_items c.self.inside.queues.items) c.args.signal) = subst (λ (s : SeenPending). c.args.place < length (queue_of s.queues c.args.signal)) (sym c.self.view_is) c.requires in
    let low : c.args.signal < length c.self.inside.queues.items = there_at items k c.args.place there in
    let at : slice_get c.self.inside.queues.items c.args.signal ≡ Some c.index_mut.result.now = slice_get-get_or items k old low ∙ ap Some (sym c.index_mut.ensures.value) in
    let within : c.args.place < length c.index_mut.result.now.items = subst (λ (l : List PendingSignal). c.args.place < length l) (queue_at items k old at) there in
    let value : c.unwrap.result ≡ get_or c.index_mut.result.now.items c.args.place c.unwrap.result = rw c.unwrap.ensures at c.remove.ensures.value in
    let stood : slice_get c.index_mut.result.now.items c.args.place ≡ Some c.unwrap.result = slice_get-get_or c.index_mut.result.now.items c.args.place c.unwrap.result within ∙ ap Some (sym value) in
    let is : c.remove.new.self.items ≡ remove c.index_mut.result.now.items c.args.place = rw c.unwrap.ensures at c.remove.ensures.items in
    let was = c.self.invariant.0 k old at in
    let fits : deque_len c.remove.new.self + c.self.inside.room ≤ deque_capacity c.remove.new.self = let len : deque_len c.remove.new.self + 1 ≡ deque_len c.index_mut.result.now = rw c.unwrap.ensures at c.remove.ensures.len in omega (arith, was.fits, len, c.remove.ensures.capacity) in (
      kept_set c.self.inside.room items k c.remove.new.self (record {
        fits = fits;
        order = take_order items k old c.remove.new.self c.args.place c.unwrap.result at stood is was.order;
        own = take_own items k old c.remove.new.self c.args.place c.unwrap.result at stood is was.own;
      }) c.self.invariant.0,
      take_sent items k old c.remove.new.self c.args.place c.unwrap.result at stood is c.self.inside.last c.self.invariant.1,
    )
