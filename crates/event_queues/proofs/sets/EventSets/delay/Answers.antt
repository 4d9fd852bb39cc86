use Rattle.std.proofs.Common.{◌≡◌, List, Some, None, ap, ◌∙◌, refl, subst}
use Rattle.std.specs.Prelude.{nat_eq}
use Rattle.std.specs.HashMap.{Updates}
use Rattle.kernel_base.specs.declared.request.Alternative.{Alternative}
use Rattle.wait_queues.specs.Waiting.{Joins}
use Rattle.wait_queues.proofs.Ties.{nowhere, tied_join}
use Rattle.event_queues.specs.Delayed.{Sets, delayed_on, listed_in}
use Rattle.event_queues.proofs.sets.EventSets.delay.Goals as goal

pub join-requires-clause-nowhere : goal.join-requires-clause-nowhere
join-requires-clause-nowhere c =
    let none : listed_in c.self.inside.delayed.entries c.args.who ≡ None = ap (λ (s : Sets). listed_in s.delayed c.args.who) c.self.view_is ∙ c.requires.once in
    nowhere delayed_on c.self.inside.delayed.entries c.self.inside.waits.waiting c.args.who c.self.invariant.tied none

pub invariant_of-self : goal.invariant_of-self
invariant_of-self c =
    let none : listed_in c.self.inside.delayed.entries c.args.who ≡ None = ap (λ (s : Sets). listed_in s.delayed c.args.who) c.self.view_is ∙ c.requires.once in
    let old = c.self.inside.waits.waiting in
    let new = c.join.new.self.waiting in
    let joins : Joins c.args.who c.args.priority c.args.events c.self.inside.waits.waiting c.join.new.self.waiting = subst (λ (xs : List Alternative). Joins c.args.who c.args.priority xs c.self.inside.waits.waiting c.join.new.self.waiting) c.as_slice.ensures c.join.ensures.waiting in
    let updates : Updates nat_eq c.self.inside.delayed c.insert.new.self c.args.who (Some (record { events = c.args.events; priority = c.args.priority })) = rw c.unwrap-none.ensures at c.insert.ensures.updates in
    record {
      each = joins.each ∙ c.self.invariant.each;
      tied = tied_join delayed_on c.self.inside.delayed.entries c.insert.new.self.entries old new c.args.who c.args.priority c.args.events (record { events = c.args.events; priority = c.args.priority }) c.self.invariant.tied none (λ place. refl) (λ q. updates.0 q) joins;
    }
