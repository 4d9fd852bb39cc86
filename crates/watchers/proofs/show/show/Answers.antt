use Rattle.watchers.proofs.Folds.{saw_one_more, fault_shown, fault_handed}
use Rattle.watchers.proofs.show.show.Goals as goal

pub returns-in_err-see : goal.returns-in_err-see
returns-in_err-see g c =
    let start = (goal.Watcher-dyn g (c.args.watcher.now.vtable, c.args.watcher.now.value)).watching c.args.watcher.now.value in
    let here = (goal.Watcher-dyn g (c.loop-event.watcher.vtable, c.loop-event.watcher.value)).watching c.loop-event.watcher.value in
    let next = (goal.Watcher-dyn g (c.see.new.watcher.vtable, c.see.new.watcher.value)).watching c.see.new.watcher.value in
    let fault = c.in_err-see.field-0.0 in
    fault_handed start next c.args.events.now c.from_residual.result fault c.from_residual.ensures.1
    (fault_shown start here next c.args.events.now c.loop-event.event-index c.event-item.result fault c.loop-event-test.true c.event-item.is c.loop-event.invariant.0 c.loop-event.invariant.1 c.in_err-see.ensures)

pub loop-event-preserved : goal.loop-event-preserved
loop-event-preserved g c =
    let start = (goal.Watcher-dyn g (c.args.watcher.now.vtable, c.args.watcher.now.value)).watching c.args.watcher.now.value in
    let here = (goal.Watcher-dyn g (c.loop-event.watcher.vtable, c.loop-event.watcher.value)).watching c.loop-event.watcher.value in
    let next = (goal.Watcher-dyn g (c.see.new.watcher.vtable, c.see.new.watcher.value)).watching c.see.new.watcher.value in
    saw_one_more start here next c.args.events.now c.loop-event.event-index c.event-item.result c.loop-event-test.true c.event-item.is c.loop-event.invariant.0 c.loop-event.invariant.1 c.in_ok-see.ensures
