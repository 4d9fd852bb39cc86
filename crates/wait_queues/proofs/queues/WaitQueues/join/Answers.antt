use Rattle.std.proofs.Common.{◌≡◌, ◌+◌, ◌-◌, ℕ, map, subst, sym, ap, arith}
use Rattle.wait_queues.specs.Waiting.{HaveRoom, IsNowhere, Joins, SeenQueues, those_of}
use Rattle.wait_queues.proofs.Stepping.{joins_of, room_joined, unseen}
use Rattle.wait_queues.proofs.Ties.{ordered_join}
use Rattle.wait_queues.proofs.queues.WaitQueues.join.Goals as goal

pub join_each-requires-clause-nowhere : goal.join_each-requires-clause-nowhere
join_each-requires-clause-nowhere c = unseen c.self.inside.queues.items c.args.who (subst (λ (s : SeenQueues). IsNowhere s.waiting c.args.who) (sym c.self.view_is) c.requires.nowhere)

pub invariant_of-self : goal.invariant_of-self
invariant_of-self c =
    let old = c.self.inside.queues.items in
    let new = c.join_each.new.queues.items in
    let rooms = ap (λ (s : SeenQueues). s.room) c.self.view_is in
    let has = c.requires.room in
    let one : c.self.inside.room ≡ (c.self.inside.room - 1) + 1 = omega (arith, rooms, has) in
    let nowhere = subst (λ (s : SeenQueues). IsNowhere s.waiting c.args.who) (sym c.self.view_is) c.requires.nowhere in (
      room_joined c.args.who c.args.priority (c.self.inside.room - 1) c.args.places.now old new (subst (λ (n : ℕ). HaveRoom n c.self.inside.queues.items) one c.self.invariant.0) c.join_each.ensures,
      ordered_join c.args.who c.args.priority c.args.places.now (map those_of old) (map those_of new) nowhere (joins_of c.args.who c.args.priority c.args.places.now old new c.join_each.ensures) c.self.invariant.1,
    )

pub returns-clause-waiting : goal.returns-clause-waiting
returns-clause-waiting c =
    let old = c.self.inside.queues.items in
    let new = c.join_each.new.queues.items in
    subst (λ (s : SeenQueues). Joins c.args.who c.args.priority c.args.places.now s.waiting (map those_of c.join_each.new.queues.items)) c.self.view_is (joins_of c.args.who c.args.priority c.args.places.now old new c.join_each.ensures)
