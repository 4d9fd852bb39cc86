use Rattle.run_laws.proofs.laws.births_law.Goals as goal
use Rattle.run_laws.proofs.Births.{births_law}

pub returns : goal.returns
returns c = births_law
