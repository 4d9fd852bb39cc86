use Rattle.std.proofs.Common.{map, subst}
use Rattle.wait_queues.specs.Waiting.{Leaves, SeenQueues, those_of}
use Rattle.wait_queues.proofs.Stepping.{leaves_of, room_left}
use Rattle.wait_queues.proofs.Ties.{ordered_leave}
use Rattle.wait_queues.proofs.queues.WaitQueues.leave.Goals as goal

pub invariant_of-self : goal.invariant_of-self
invariant_of-self c =
    let old = c.self.inside.queues.items in
    let new = c.leave_each.new.queues.items in (
      room_left c.args.who c.self.inside.room c.args.places.now old new c.self.invariant.0 c.leave_each.ensures,
      ordered_leave c.args.who c.args.places.now (map those_of old) (map those_of new) (leaves_of c.args.who c.args.places.now old new c.leave_each.ensures) c.self.invariant.1,
    )

pub returns-clause-waiting : goal.returns-clause-waiting
returns-clause-waiting c =
    let old = c.self.inside.queues.items in
    let new = c.leave_each.new.queues.items in
    subst (λ (s : SeenQueues). Leaves c.args.who c.args.places.now s.waiting (map those_of c.leave_each.new.queues.items)) c.self.view_is (leaves_of c.args.who c.args.places.now old new c.leave_each.ensures)
