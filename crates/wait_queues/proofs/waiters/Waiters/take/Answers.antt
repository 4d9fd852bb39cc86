use Rattle.std.proofs.Common.{◌≡◌, ◌∙◌, sym, ap, arith}
use Rattle.std.specs.List.{remove}
use Rattle.std.proofs.lemmas.Option.{slice_get_within}
use Rattle.kernel_lists.specs.Once.{others}
use Rattle.kernel_lists.proofs.Entries.{others_all, once_others}
use Rattle.wait_queues.specs.Waiting.{SeenWaiters, waiter_of}
use Rattle.wait_queues.proofs.Placed.{others_order, taken_out}
use Rattle.wait_queues.proofs.waiters.Waiters.take.Goals as goal

pub invariant_of-self : goal.invariant_of-self
invariant_of-self c =
    let items = c.self.inside.waiters.items in
    let first = c.in-Some.ensures.some in
    let low = slice_get_within items c.in-Some.place first.item first.at in
    let there = c.remove-taken.ensures.succeeds first.item (omega (arith, low, c.self.inside.waiters.ok.0)) in
    let out : c.remove-taken.new.self.items ≡ remove c.self.inside.waiters.items c.in-Some.place = rw there at c.remove-taken.ensures.items in
    rw (out ∙ taken_out items c.args.who c.in-Some.place first c.self.invariant.1) (others_order items c.args.who c.self.invariant.0, once_others waiter_of items c.args.who c.self.invariant.1)

pub returns-in-Some-clause-waiters : goal.returns-in-Some-clause-waiters
returns-in-Some-clause-waiters c =
    let items = c.self.inside.waiters.items in
    let first = c.in-Some.ensures.some in
    let low = slice_get_within items c.in-Some.place first.item first.at in
    let there = c.remove-taken.ensures.succeeds first.item (omega (arith, low, c.self.inside.waiters.ok.0)) in
    let out : c.remove-taken.new.self.items ≡ remove c.self.inside.waiters.items c.in-Some.place = rw there at c.remove-taken.ensures.items in
    out ∙ taken_out items c.args.who c.in-Some.place first c.self.invariant.1 ∙ ap (λ (v : SeenWaiters). others waiter_of v.waiters c.args.who) c.self.view_is

pub returns-in-None-clause-waiters : goal.returns-in-None-clause-waiters
returns-in-None-clause-waiters c =
    let items = c.self.inside.waiters.items in
    ap (λ (v : SeenWaiters). v.waiters) (sym c.self.view_is) ∙ sym (others_all waiter_of items c.args.who c.in-None.ensures.none) ∙ ap (λ (v : SeenWaiters). others waiter_of v.waiters c.args.who) c.self.view_is
