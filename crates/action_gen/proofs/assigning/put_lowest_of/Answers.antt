use Rattle.expr_gen.proofs.Appending.{kept_on}
use Rattle.action_gen.specs.Puts.{lay_around}
use Rattle.action_gen.proofs.Assigned.{lowest_turn, lowests_told}
use Rattle.action_gen.proofs.assigning.put_lowest_of.Goals as goal

pub loop-number-preserved : goal.loop-number-preserved
loop-number-preserved c = record {
  left = lowest_turn (lay_around c.args.around.now) c.args.value.now c.args.locals.now c.loop-number.number-index c.loop-number-test.true c.loop-number.invariant.left (c.in_ok-put_lowest.ensures.puts c.in_ok-count.ensures);
  keeps = kept_on c.loop-number.invariant.keeps c.in_ok-put_lowest.ensures.keeps;
}

pub returns-clause-puts : goal.returns-clause-puts
returns-clause-puts c = lowests_told (lay_around c.args.around.now) c.args.value.now c.args.locals.now c.loop-number.number-index c.loop-number-test.false c.loop-number.invariant.left
