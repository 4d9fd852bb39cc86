use Rattle.std.proofs.Common.{arith}
use Rattle.expr_gen.proofs.Copies.{one_turn, turn_counted, turns_counted}
use Rattle.expr_gen.proofs.repeating.copies_size.Goals as goal

pub loop-turn-preserved : goal.loop-turn-preserved
loop-turn-preserved c =
    let one = one_turn c.loop-turn.there c.args.elements in
    record {
      sum = turn_counted c.loop-turn._turn c.loop-turn.there c.next_there-there.result c.args.elements c.loop-turn.size c.turn_size.result c.saturating_add-size.result _
          c.loop-turn-test.true c.next_there-there.ensures c.turn_size.ensures (omega (arith, one, c.loop-turn.invariant.few, c.turn_size.ensures)) c.loop-turn.invariant.sum;
      few = omega (arith, one, c.loop-turn.invariant.few, c.turn_size.ensures);
    }

pub returns : goal.returns
returns c = turns_counted c.loop-turn._turn c.loop-turn.there c.args.elements c.loop-turn.size c.loop-turn-test.false c.loop-turn.invariant.sum
