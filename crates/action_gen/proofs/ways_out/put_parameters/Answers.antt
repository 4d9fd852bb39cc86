use Rattle.std.proofs.Common.{◌-◌, arith}
use Rattle.expr_gen.proofs.Appending.{kept_by, kept_on, nothing}
use Rattle.action_gen.proofs.GivenBack.{begin_back, back_turn, all_back}
use Rattle.action_gen.proofs.ways_out.put_parameters.Goals as goal

pub loop-turn-init : goal.loop-turn-init
loop-turn-init c = record {
  made = begin_back c.args.parameters.now c.args.locals.now (c.min-count.result - 0) c.args.draft.now.code (omega (arith, c.min-count.ensures));
  keeps = kept_by (nothing c.args.draft.now.code);
}

pub loop-turn-preserved : goal.loop-turn-preserved
loop-turn-preserved c = record {
  made = back_turn c.args.parameters.now c.args.locals.now c.min-count.result c.loop-turn._turn _ c.index-locals-i.result c.loop-turn-test.true c.min-count.ensures c.index-locals-i.is c.loop-turn.invariant.made c.in_ok-put_given_back.ensures.puts;
  keeps = kept_on c.loop-turn.invariant.keeps c.in_ok-put_given_back.ensures.keeps;
}

pub returns-clause-puts : goal.returns-clause-puts
returns-clause-puts c = all_back c.args.parameters.now c.args.locals.now c.min-count.result c.loop-turn._turn c.loop-turn-test.false c.loop-turn.invariant.made
