use Rattle.std.proofs.Common.{◌≡◌, List, [], ◌∷◌, Option, Some, ap, sym, ◌∙◌, refl, subst, slice_get}
use Rattle.std.specs.Prelude.{IsSome, min}
use Rattle.indexmap.specs.IndexMap.{spare}
use Rattle.kernel_base.specs.declared.request.Alternative.{Alternative}
use Rattle.wait_queues.specs.declared.waiters.Waiter.{Waiter}
use Rattle.wait_queues.specs.Waiting.{Leaves}
use Rattle.wait_queues.proofs.Ties.{tied_leave}
use Rattle.event_queues.specs.declared.sets.Delayed.{Delayed}
use Rattle.event_queues.specs.Delayed.{NobodyOn, Sets, Wakes, delayed_on, listed_in}
use Rattle.event_queues.proofs.Choosing.{first_listed, if_none, nobody, none_first, some_first, wakes}
use Rattle.event_queues.proofs.sets.EventSets.wake.Goals as goal

pub returns-in_err-first-clause-none : goal.returns-in_err-first-clause-none
returns-in_err-first-clause-none c =
    let empty : c.at.result.now.waiters ≡ [] = none_first c.at.result.now.waiters (sym c.first.ensures ∙ c.in_err-first.was) in
    let stood : slice_get c.self.inside.waits.waiting c.args.event ≡ Some [] = c.at.ensures ∙ ap (λ (ws : List Waiter). Some ws) empty in
    if_none c.from_residual.result _ (subst (λ (s : Sets). NobodyOn c.args.event s.delayed) c.self.view_is (nobody c.self.inside.delayed.entries c.self.inside.waits.waiting c.args.event c.self.invariant.tied stood), refl, refl)

pub unwrap-woken-requires : goal.unwrap-woken-requires
unwrap-woken-requires c =
    let first = c.in_ok-first.first in
    let rest = some_first c.at.result.now.waiters first (sym c.first.ensures ∙ c.in_ok-first.was) in
    let stood : slice_get c.self.inside.waits.waiting c.args.event ≡ Some (c.in_ok-first.first ∷ rest.0) = c.at.ensures ∙ ap (λ (ws : List Waiter). Some ws) rest.1 in
    let l = first_listed c.self.inside.delayed.entries c.self.inside.waits.waiting c.args.event first rest.0 c.self.invariant.tied stood in
    subst (λ (o : Option Delayed). IsSome o) (sym (c.swap_remove.ensures.value ∙ l.at)) refl

pub invariant_of-self : goal.invariant_of-self
invariant_of-self c =
    let first = c.in_ok-first.first in
    let item = c.unwrap-woken.result in
    let is : listed_in c.self.inside.delayed.entries c.in_ok-first.first.who ≡ Some c.unwrap-woken.result = sym c.swap_remove.ensures.value ∙ c.unwrap-woken.ensures in
    let leaves : Leaves c.in_ok-first.first.who c.unwrap-woken.result.events c.self.inside.waits.waiting c.leave.new.self.waiting = subst (λ (xs : List Alternative). Leaves c.in_ok-first.first.who xs c.self.inside.waits.waiting c.leave.new.self.waiting) c.as_slice.ensures c.leave.ensures.waiting in
    record {
      each = leaves.each ∙ c.self.invariant.each;
      tied = tied_leave delayed_on c.self.inside.delayed.entries c.swap_remove.new.self.entries c.self.inside.waits.waiting c.leave.new.self.waiting first.who item.priority item.events item c.self.invariant.tied is (λ place. refl) (λ q. c.swap_remove.ensures.updates.0 q) leaves;
    }

pub returns-clause-some : goal.returns-clause-some
returns-clause-some c =
    let first = c.in_ok-first.first in
    let item = c.unwrap-woken.result in
    let rest = some_first c.at.result.now.waiters first (sym c.first.ensures ∙ c.in_ok-first.was) in
    let stood : slice_get c.self.inside.waits.waiting c.args.event ≡ Some (c.in_ok-first.first ∷ rest.0) = c.at.ensures ∙ ap (λ (ws : List Waiter). Some ws) rest.1 in
    let is : listed_in c.self.inside.delayed.entries c.in_ok-first.first.who ≡ Some c.unwrap-woken.result = sym c.swap_remove.ensures.value ∙ c.unwrap-woken.ensures in
    let leaves : Leaves c.in_ok-first.first.who c.unwrap-woken.result.events c.self.inside.waits.waiting c.leave.new.self.waiting = subst (λ (xs : List Alternative). Leaves c.in_ok-first.first.who xs c.self.inside.waits.waiting c.leave.new.self.waiting) c.as_slice.ensures c.leave.ensures.waiting in
    let old : Sets = record { lengths = c.self.inside.lengths; delayed = c.self.inside.delayed.entries; waiting = c.self.inside.waits.waiting; spare = min (spare c.self.inside.delayed) c.self.inside.waits.room } in
    let new : Sets = record { lengths = c.self.inside.lengths; delayed = c.swap_remove.new.self.entries; waiting = c.leave.new.self.waiting; spare = min (spare c.swap_remove.new.self) c.leave.new.self.room } in
    subst (λ (s : Sets). Wakes c.args.event s new (record { thing = c.in_ok-first.first.who; number = c.in_ok-first.first.number })) c.self.view_is
    (wakes old new c.args.event first rest.0 item c.self.invariant.tied c.in_order.ensures stood is (λ q. c.swap_remove.ensures.updates.0 q) leaves)
