use Rattle.std.proofs.Common.{◌<◌, sym, subst}
use Rattle.std.specs.List.{Contains}
use Rattle.std.specs.Vec.{vec_len}
use Rattle.graph_order.specs.Placing.{Places}
use Rattle.graph_order.proofs.Flags.{put_kept}
use Rattle.graph_order.proofs.placed.Placed.put.Goals as goal

pub invariant_of-self-2 : goal.invariant_of-self-2
invariant_of-self-2 c =
    put_kept c.self.inside.flags.items (vec_len c.self.inside.flags) c.self.inside.order c.push.new.self c.args.node
    (subst (λ (p : Places). c.args.node < p.count) (sym c.self.view_is) c.requires.below)
    (subst (λ (p : Places). ¬ Contains p.order c.args.node) (sym c.self.view_is) c.requires.new)
    c.in_ok-push.ensures.ok c.self.invariant
