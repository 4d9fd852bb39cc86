use Rattle.std.proofs.Common.{◌≡◌, ◌<◌, ◌∙◌, List, length, map, sym, ap, subst, Some, slice_get}
use Rattle.std.specs.VecDeque.{deque_items}
use Rattle.std.proofs.lemmas.Option.{slice_get-get_or}
use Rattle.world_model.specs.declared.world.PendingSignal.{PendingSignal}
use Rattle.signal_queues.specs.Pending.{SeenPending, queue_of}
use Rattle.signal_queues.proofs.Kept.{queue_at, there_at}
use Rattle.signal_queues.proofs.queues.SignalQueues.at.Goals as goal

pub returns : goal.returns
returns c =
    let items = c.self.inside.queues.items in
    let k = c.args.signal in
    let old = c.index.result.now in
    let there : c.args.place < length (queue_of (map deque_items c.self.inside.queues.items) c.args.signal) = subst (λ (s : SeenPending). c.args.place < length (queue_of s.queues c.args.signal)) (sym c.self.view_is) c.requires in
    let low : c.args.signal < length c.self.inside.queues.items = there_at items k c.args.place there in
    let at : slice_get c.self.inside.queues.items c.args.signal ≡ Some c.index.result.now = slice_get-get_or items k old low ∙ ap Some (sym c.index.ensures) in
    let within : c.args.place < length c.index.result.now.items = subst (λ (l : List PendingSignal). c.args.place < length l) (queue_at items k old at) there in
    ap (λ (s : SeenPending). slice_get (queue_of s.queues c.args.signal) c.args.place) (sym c.self.view_is) ∙ ap (λ (l : List PendingSignal). slice_get l c.args.place) (queue_at items k old at)
    ∙ slice_get-get_or c.index.result.now.items c.args.place c.index-2.result.now within ∙ ap Some (sym c.index-2.ensures)
