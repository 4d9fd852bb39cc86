use Rattle.code_safety.proofs.talks.talk_exists_law.Goals as goal
use Rattle.code_safety.proofs.Talking.{talk_exists}

pub returns : goal.returns
returns c = talk_exists
