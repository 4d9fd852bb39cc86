use Rattle.follow_laws.proofs.laws.instruction_law.Goals as goal
use Rattle.follow_laws.proofs.Gathered.{instruction_law}

pub returns : goal.returns
returns c = instruction_law
