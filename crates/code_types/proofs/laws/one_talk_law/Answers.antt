use Rattle.code_types.proofs.laws.one_talk_law.Goals as goal
use Rattle.code_types.proofs.ManySteps.{one_talk}

pub returns : goal.returns
returns c = one_talk
