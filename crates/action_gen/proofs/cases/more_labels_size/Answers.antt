use Rattle.std.proofs.Common.{get_or, refl, arith}
use Rattle.action_gen.proofs.Labels.{no_bounds, counted_turn, counted_done}
use Rattle.action_gen.proofs.cases.more_labels_size.Goals as goal

pub loop-label-preserved : goal.loop-label-preserved
loop-label-preserved c = record {
  counted = counted_turn c.args.labels.now c.loop-label.label-index (get_or c.args.labels.now c.loop-label.label-index no_bounds) c.loop-label.size c.label_size.result c.saturating_add.result c.saturating_add-size.result _
      c.loop-label-test.true refl c.label_size.ensures c.saturating_add.ensures c.saturating_add-size.ensures c.loop-label.invariant.counted;
  few = omega (arith, c.saturating_add-size.ensures);
}

pub returns : goal.returns
returns c = omega (arith, counted_done c.args.labels.now c.loop-label.label-index c.loop-label-test.false, c.loop-label.invariant.counted, c.loop-label.invariant.few)
