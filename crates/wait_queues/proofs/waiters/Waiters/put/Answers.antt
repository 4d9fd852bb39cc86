use Rattle.std.proofs.Common.{◌≡◌, ◌∙◌, ap, None}
use Rattle.std.specs.List.{insert}
use Rattle.kernel_lists.specs.Once.{entry_of}
use Rattle.wait_queues.specs.Waiting.{SeenWaiters, placed, waiter_of}
use Rattle.wait_queues.proofs.Placed.{placed_here, placed_once, placed_order}
use Rattle.wait_queues.proofs.waiters.Waiters.put.Goals as goal

pub invariant_of-self : goal.invariant_of-self
invariant_of-self c =
    let items = c.self.inside.waiters.items in
    let more : c.insert.new.self.items ≡ insert c.self.inside.waiters.items c.place_for-place.result c.args.waiter = rw c.unwrap.ensures at c.insert.ensures.items in
    let none : entry_of waiter_of c.self.inside.waiters.items c.args.waiter.who ≡ None = ap (λ (v : SeenWaiters). entry_of waiter_of v.waiters c.args.waiter.who) c.self.view_is ∙ c.requires.once in
    rw (more ∙ placed_here c.args.waiter items c.place_for-place.result c.self.invariant.0 c.place_for-place.ensures) (placed_order c.args.waiter items c.self.invariant.0, placed_once c.args.waiter items none c.self.invariant.1)

pub returns-clause-waiters : goal.returns-clause-waiters
returns-clause-waiters c =
    let items = c.self.inside.waiters.items in
    let more : c.insert.new.self.items ≡ insert c.self.inside.waiters.items c.place_for-place.result c.args.waiter = rw c.unwrap.ensures at c.insert.ensures.items in
    more ∙ placed_here c.args.waiter items c.place_for-place.result c.self.invariant.0 c.place_for-place.ensures ∙ ap (λ (v : SeenWaiters). placed c.args.waiter v.waiters) c.self.view_is
