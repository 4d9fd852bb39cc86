use Rattle.statement_code_laws.proofs.laws.leaving_law.Goals as goal
use Rattle.statement_code_laws.proofs.LeavingRuns.{leaving_law}

pub returns : goal.returns
returns c = leaving_law
