use Rattle.expr_gen.proofs.Appending.{kept_on}
use Rattle.expr_gen.proofs.Copies.{turn_step, turns_done}
use Rattle.expr_gen.proofs.repeating.put_copies.Goals as goal

pub loop-turn-preserved : goal.loop-turn-preserved
loop-turn-preserved c = record {
  left = turn_step c.loop-turn._turn c.loop-turn.there c.next_there-there.result c.args.elements c.args.count c.loop-turn-test.true c.next_there-there.ensures c.loop-turn.invariant.left c.in_ok-put_turn.ensures.puts;
  keeps = kept_on c.loop-turn.invariant.keeps c.in_ok-put_turn.ensures.keeps;
}

pub returns-clause-puts : goal.returns-clause-puts
returns-clause-puts c = turns_done c.loop-turn._turn c.loop-turn.there c.args.elements c.args.count c.loop-turn-test.false c.loop-turn.invariant.left
