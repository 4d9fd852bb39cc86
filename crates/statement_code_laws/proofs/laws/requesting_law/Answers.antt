use Rattle.statement_code_laws.proofs.laws.requesting_law.Goals as goal
use Rattle.statement_code_laws.proofs.RequestRuns.{requesting_law}

pub returns : goal.returns
returns c = requesting_law
