use Rattle.std.proofs.Common.{arith}
use Rattle.action_gen.proofs.Waiting.{count_turn, count_done}
use Rattle.action_gen.proofs.waits.count_of_events.Goals as goal

pub loop-alternative-preserved : goal.loop-alternative-preserved
loop-alternative-preserved c = record {
  counted = count_turn c.args.alternatives.now c.loop-alternative.alternative-index c.alternative-item.result c.len.result c.loop-alternative.count c.counted.result c.saturating_add-count.result _
      c.loop-alternative-test.true c.alternative-item.is c.len.ensures c.counted.ensures c.saturating_add-count.ensures c.loop-alternative.invariant.counted;
  few = omega (arith, c.saturating_add-count.type_inv);
}

pub returns : goal.returns
returns c = omega (arith, count_done c.args.alternatives.now c.loop-alternative.alternative-index c.loop-alternative-test.false, c.loop-alternative.invariant.counted, c.loop-alternative.invariant.few)
