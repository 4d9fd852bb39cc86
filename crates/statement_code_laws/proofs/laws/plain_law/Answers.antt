use Rattle.statement_code_laws.proofs.laws.plain_law.Goals as goal
use Rattle.statement_code_laws.proofs.PlainRuns.{plain_law}

pub returns : goal.returns
returns c = plain_law
