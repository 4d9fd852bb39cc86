use Rattle.reach_walk.proofs.Grouping.{named-on, named-end}
use Rattle.reach_walk.proofs.groups.named_in.Goals as goal

pub loop-mention-preserved : goal.loop-mention-preserved
loop-mention-preserved c = λ whole r s. named-on whole r c.args.text.now c.loop-mention.mention-index c.mention-item.result c.loop-mention.numbers _ _ c.loop-mention-test.true c.mention-item.is (c.loop-mention.invariant whole r s) (c.in_ok-push_seen.ensures whole r s)

pub returns : goal.returns
returns c = λ whole r s. named-end whole r c.args.text.now c.loop-mention.mention-index _ _ c.loop-mention-test.false (c.loop-mention.invariant whole r s)
