use Rattle.code_safety.proofs.talks.talk_prefix_law.Goals as goal
use Rattle.code_safety.proofs.TalkPrefixes.{talk_prefix}

pub returns : goal.returns
returns c = talk_prefix
