use Rattle.statement_code_laws.proofs.laws.joining_law.Goals as goal
use Rattle.statement_code_laws.proofs.StatementRuns.{joining_law}

pub returns : goal.returns
returns c = joining_law
