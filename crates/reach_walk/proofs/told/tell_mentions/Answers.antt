use Rattle.names_model.specs.NameRules.{told_mention}
use Rattle.reach_tables.proofs.Appends.{flat_map-on, flat_map-end}
use Rattle.reach_walk.proofs.told.tell_mentions.Goals as goal

pub loop-mention-preserved : goal.loop-mention-preserved
loop-mention-preserved c = λ whole r s. flat_map-on (told_mention whole r) c.args.text.now c.loop-mention.mention-index c.mention-item.result c.loop-mention.out.items _ _ c.loop-mention-test.true c.mention-item.is (c.loop-mention.invariant whole r s) (c.in_ok-tell_mention.ensures whole r s)

pub returns : goal.returns
returns c = λ whole r s. flat_map-end (told_mention whole r) c.args.text.now c.loop-mention.mention-index _ _ c.loop-mention-test.false (c.loop-mention.invariant whole r s)
