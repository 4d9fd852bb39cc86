use Rattle.program_laws.proofs.laws.program_law.Goals as goal
use Rattle.program_laws.proofs.Program.{elaborated_there}

pub returns : goal.returns
returns c = elaborated_there
