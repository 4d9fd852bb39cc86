use Rattle.std.proofs.Common.{◌≡◌, ◌<◌, ◌≤◌, length, sym, ap, ◌∙◌, arith, Some, slice_get}
use Rattle.std.proofs.lemmas.Option.{slice_get-get_or}
use Rattle.wait_queues.proofs.Stepping.{leaves_here, leaves_not}
use Rattle.wait_queues.proofs.queues.leave_at.Goals as goal

pub returns-then-place-len : goal.returns-then-place-len
returns-then-place-len c =
    let items = c.args.queues.now.items in
    let low : c.args.place < length c.args.queues.now.items = omega (arith, c.if-place-len.true, c.len.ensures, c.args.queues.now.ok.0) in
    let at : slice_get c.args.queues.now.items c.args.place ≡ Some c.index_mut.result.now = slice_get-get_or items c.args.place c.index_mut.result.now low ∙ ap Some (sym c.index_mut.ensures.value) in
    leaves_here items c.args.place c.args.who c.index_mut.result.now c.take.new.self at c.take.ensures.waiters c.take.ensures.room

pub returns-else-place-len : goal.returns-else-place-len
returns-else-place-len c =
    let past : length c.args.queues.now.items ≤ c.args.place = omega (arith, c.if-place-len.false, c.len.ensures, c.args.queues.now.ok.0) in
    leaves_not c.args.queues.now.items c.args.place c.args.who past
