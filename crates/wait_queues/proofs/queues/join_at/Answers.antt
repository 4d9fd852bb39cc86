use Rattle.std.proofs.Common.{◌≡◌, ◌<◌, ◌≤◌, length, sym, ap, ◌∙◌, arith, Some, slice_get}
use Rattle.std.proofs.lemmas.Option.{slice_get-get_or}
use Rattle.wait_queues.proofs.Stepping.{joins_here, joins_not}
use Rattle.wait_queues.proofs.queues.join_at.Goals as goal

pub put-requires-clause-room : goal.put-requires-clause-room
put-requires-clause-room c =
    let items = c.args.queues.now.items in
    let low : c.args.place < length c.args.queues.now.items = omega (arith, c.if-place-len.true, c.len.ensures, c.args.queues.now.ok.0) in
    let at : slice_get c.args.queues.now.items c.args.place ≡ Some c.index_mut.result.now = slice_get-get_or items c.args.place c.index_mut.result.now low ∙ ap Some (sym c.index_mut.ensures.value) in
    (c.requires c.index_mut.result.now at).0

pub put-requires-clause-once : goal.put-requires-clause-once
put-requires-clause-once c =
    let items = c.args.queues.now.items in
    let low : c.args.place < length c.args.queues.now.items = omega (arith, c.if-place-len.true, c.len.ensures, c.args.queues.now.ok.0) in
    let at : slice_get c.args.queues.now.items c.args.place ≡ Some c.index_mut.result.now = slice_get-get_or items c.args.place c.index_mut.result.now low ∙ ap Some (sym c.index_mut.ensures.value) in
    (c.requires c.index_mut.result.now at).1

pub returns-then-place-len : goal.returns-then-place-len
returns-then-place-len c =
    let items = c.args.queues.now.items in
    let low : c.args.place < length c.args.queues.now.items = omega (arith, c.if-place-len.true, c.len.ensures, c.args.queues.now.ok.0) in
    let at : slice_get c.args.queues.now.items c.args.place ≡ Some c.index_mut.result.now = slice_get-get_or items c.args.place c.index_mut.result.now low ∙ ap Some (sym c.index_mut.ensures.value) in
    joins_here items c.args.place c.args.waiter c.index_mut.result.now c.put.new.self at c.put.ensures.waiters c.put.ensures.room

pub returns-else-place-len : goal.returns-else-place-len
returns-else-place-len c =
    let past : length c.args.queues.now.items ≤ c.args.place = omega (arith, c.if-place-len.false, c.len.ensures, c.args.queues.now.ok.0) in
    joins_not c.args.queues.now.items c.args.place c.args.waiter past
