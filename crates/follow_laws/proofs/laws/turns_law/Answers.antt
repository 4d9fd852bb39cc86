use Rattle.follow_laws.proofs.laws.turns_law.Goals as goal
use Rattle.follow_laws.proofs.LoopRuns.{turns_law}

pub returns : goal.returns
returns c = turns_law
