use Rattle.std.proofs.Common.{get_or, refl}
use Rattle.expr_gen.proofs.Appending.{kept_on}
use Rattle.action_gen.proofs.Labels.{no_bounds, labels_turn, labels_done}
use Rattle.action_gen.proofs.cases.put_more_labels.Goals as goal

pub loop-label-preserved : goal.loop-label-preserved
loop-label-preserved c = record {
  left = labels_turn c.args.kept c.args.labels.now c.loop-label.label-index (get_or c.args.labels.now c.loop-label.label-index no_bounds) c.loop-label-test.true refl c.loop-label.invariant.left c.in_ok-put_label.ensures.puts c.in_ok-put.ensures.puts;
  keeps = kept_on c.loop-label.invariant.keeps (kept_on c.in_ok-put_label.ensures.keeps c.in_ok-put.ensures.keeps);
}

pub returns-clause-puts : goal.returns-clause-puts
returns-clause-puts c = labels_done c.args.kept c.args.labels.now c.loop-label.label-index c.loop-label-test.false c.loop-label.invariant.left
