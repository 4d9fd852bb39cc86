use Rattle.statement_code_laws.proofs.laws.looping_law.Goals as goal
use Rattle.statement_code_laws.proofs.StatementRuns.{looping_law}

pub returns : goal.returns
returns c = looping_law
