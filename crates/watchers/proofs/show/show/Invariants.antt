use Rattle.std.proofs.Common.{◌≡◌, take, IsFalse}
use Rattle.watchers.specs.Shown.{fold_of, refuses_some}
use Rattle.watchers.proofs.show.show.Given as goal

-- it saw the events so far, and refused none of them
abbrev pub invariant-loop-event : goal.invariant-loop-event
invariant-loop-event g l =
    let start = (goal.Watcher-dyn g (l.fn.watcher.vtable, l.fn.watcher.value)).watching l.fn.watcher.value in
    ((goal.Watcher-dyn g (l.watcher.vtable, l.watcher.value)).watching l.watcher.value ≡ fold_of start (take l.event-index l.events))
    × IsFalse (refuses_some start (take l.event-index l.events))
