use Rattle.sound_facts.proofs.PlaceLemmas.{apart_by_ends}
use Rattle.sound_facts.proofs.layouts.share_no_bit.Goals as goal

pub returns-else-a-b : goal.returns-else-a-b
returns-else-a-b c = apart_by_ends c.args.a c.args.b c.max.result c.min.result (cc) c.max.ensures c.min.ensures
