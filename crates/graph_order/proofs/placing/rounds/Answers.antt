use Rattle.std.proofs.Common.{◌≡◌, ◌<◌, ℕ, List, length, arith, sym, subst}
use Rattle.std.specs.List.{All}
use Rattle.graph_order.specs.Placing.{Rounded}
use Rattle.graph_order.proofs.Rounds.{all_below, sorted_more, stuck_at_end}
use Rattle.graph_order.proofs.placing.rounds.Goals as goal

pub round-requires-clause-below : goal.round-requires-clause-below
round-requires-clause-below c = subst (λ (ns : List ℕ). All (λ d. d < c.loop-later.placed.count) ns) (sym c.as_slice.ensures) (all_below c.args.needs.now c.loop-later.placed c.loop-later.waiting c.loop-later.invariant)

pub returns-then-len : goal.returns-then-len
returns-then-len c =
    let rounded = subst (λ (ns : List ℕ). Rounded c.args.needs.now c.loop-later.placed c.round.new.placed ns c.round.new.later) c.as_slice.ensures c.in_ok-round.ensures in
    let same : length c.round.new.later ≡ length c.loop-later.waiting = omega (arith, c.len.ensures, c.len-in-loop-later.ensures, c.if-len.true) in
    stuck_at_end c.args.needs.now c.loop-later.placed c.round.new.placed c.loop-later.waiting c.round.new.later c.loop-later.invariant rounded same

pub loop-later-preserved : goal.loop-later-preserved
loop-later-preserved c =
    let rounded = subst (λ (ns : List ℕ). Rounded c.args.needs.now c.loop-later.placed c.round.new.placed ns c.round.new.later) c.as_slice.ensures c.in_ok-round.ensures in
    sorted_more c.args.needs.now c.loop-later.placed c.round.new.placed c.loop-later.waiting c.round.new.later c.loop-later.invariant rounded
