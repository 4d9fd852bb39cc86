use Rattle.run_laws.proofs.laws.code_run_law.Goals as goal
use Rattle.run_laws.proofs.Following.{code_run_law}

pub returns : goal.returns
returns c = code_run_law
