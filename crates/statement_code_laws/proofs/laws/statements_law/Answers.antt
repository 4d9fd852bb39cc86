use Rattle.statement_code_laws.proofs.laws.statements_law.Goals as goal
use Rattle.statement_code_laws.proofs.StatementRuns.{statements_law}

pub returns : goal.returns
returns c = statements_law
