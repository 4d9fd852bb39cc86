use Rattle.code_laws.proofs.laws.leaves_law.Goals as goal
use Rattle.code_laws.proofs.StayingStatements.{leaves_law}

pub returns : goal.returns
returns c = leaves_law
