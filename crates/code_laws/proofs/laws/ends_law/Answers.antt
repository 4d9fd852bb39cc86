use Rattle.code_laws.proofs.laws.ends_law.Goals as goal
use Rattle.code_laws.proofs.ProcessEnds.{ends_run}

pub returns : goal.returns
returns c = ends_run
