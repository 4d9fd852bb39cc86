use Rattle.std.proofs.Common.{◌≡◌, ◌+◌, ◌-◌, ◌<◌, ◌≤◌, ◌∙◌, ◌++◌, ◌∷◌, [], length, refl, sym, ap, subst, Some, slice_get, arith}
use Rattle.std.specs.VecDeque.{deque_capacity, deque_items, deque_len}
use Rattle.std.proofs.lemmas.List.{length-map}
use Rattle.std.proofs.lemmas.Option.{slice_get-get_or}
use Rattle.signal_queues.specs.Pending.{SeenPending, pending_in}
use Rattle.signal_queues.proofs.Kept.{kept_fewer, kept_set, put_own, put_pending, put_sent}
use Rattle.signal_queues.proofs.queues.SignalQueues.put.Goals as goal

pub returns-clause-pending : goal.returns-clause-pending
returns-clause-pending c =
    let items = c.self.inside.queues.items in
    let k = c.args.signal.signal in
    let old = c.index_mut.result.now in
    let low : c.args.signal.signal < length c.self.inside.queues.items = rw (length-map items deque_items) at (subst (λ (s : SeenPending). k < length s.queues) (sym c.self.view_is) c.requires.there) in
    let next : c.self.inside.last < c.args.signal.value.send = subst (λ (s : SeenPending). s.last < c.args.signal.value.send) (sym c.self.view_is) c.requires.next in
    let at : slice_get c.self.inside.queues.items c.args.signal.signal ≡ Some c.index_mut.result.now = slice_get-get_or items k old low ∙ ap Some (sym c.index_mut.ensures.value) in
    put_pending items k old c.put_in.new.queue c.put_in.ensures.puts.0 c.args.signal at c.put_in.ensures.puts.1 c.self.inside.last next c.self.invariant.1
    ∙ ap (λ (s : SeenPending). pending_in s ++ c.args.signal ∷ []) c.self.view_is

pub invariant_of-self : goal.invariant_of-self
invariant_of-self c =
    let items = c.self.inside.queues.items in
    let k = c.args.signal.signal in
    let old = c.index_mut.result.now in
    let new = c.put_in.new.queue in
    let low : c.args.signal.signal < length c.self.inside.queues.items = rw (length-map items deque_items) at (subst (λ (s : SeenPending). k < length s.queues) (sym c.self.view_is) c.requires.there) in
    let next : c.self.inside.last < c.args.signal.value.send = subst (λ (s : SeenPending). s.last < c.args.signal.value.send) (sym c.self.view_is) c.requires.next in
    let some : 0 < c.self.inside.room = subst (λ (s : SeenPending). 0 < s.room) (sym c.self.view_is) c.requires.room in
    let at : slice_get c.self.inside.queues.items c.args.signal.signal ≡ Some c.index_mut.result.now = slice_get-get_or items k old low ∙ ap Some (sym c.index_mut.ensures.value) in
    let was = c.self.invariant.0 k old at in
    let fits : deque_len c.put_in.new.queue + (c.self.inside.room - 1) ≤ deque_capacity c.put_in.new.queue = omega (arith, was.fits, some, c.put_in.ensures.len, c.put_in.ensures.capacity) in (
      kept_set (c.self.inside.room - 1) items k new (record { fits = fits; order = c.put_in.ensures.order; own = put_own items k old new c.put_in.ensures.puts.0 c.args.signal at c.put_in.ensures.puts.1 refl was.own }) (kept_fewer c.self.inside.room (c.self.inside.room - 1) items (omega arith) c.self.invariant.0),
      put_sent items k old new c.put_in.ensures.puts.0 c.args.signal at c.put_in.ensures.puts.1 c.self.inside.last next c.self.invariant.1,
    )

pub put_in-requires-clause-room : goal.put_in-requires-clause-room
put_in-requires-clause-room c =
    let items = c.self.inside.queues.items in
    let k = c.args.signal.signal in
    let old = c.index_mut.result.now in
    let low : c.args.signal.signal < length c.self.inside.queues.items = rw (length-map items deque_items) at (subst (λ (s : SeenPending). k < length s.queues) (sym c.self.view_is) c.requires.there) in
    let some : 0 < c.self.inside.room = subst (λ (s : SeenPending). 0 < s.room) (sym c.self.view_is) c.requires.room in
    let at : slice_get c.self.inside.queues.items c.args.signal.signal ≡ Some c.index_mut.result.now = slice_get-get_or items k old low ∙ ap Some (sym c.index_mut.ensures.value) in
    let was = c.self.invariant.0 k old at in
    omega (arith, was.fits, some)

pub put_in-requires-clause-order : goal.put_in-requires-clause-order
put_in-requires-clause-order c =
    let items = c.self.inside.queues.items in
    let k = c.args.signal.signal in
    let old = c.index_mut.result.now in
    let low : c.args.signal.signal < length c.self.inside.queues.items = rw (length-map items deque_items) at (subst (λ (s : SeenPending). k < length s.queues) (sym c.self.view_is) c.requires.there) in
    let at : slice_get c.self.inside.queues.items c.args.signal.signal ≡ Some c.index_mut.result.now = slice_get-get_or items k old low ∙ ap Some (sym c.index_mut.ensures.value) in
    (c.self.invariant.0 k old at).order
