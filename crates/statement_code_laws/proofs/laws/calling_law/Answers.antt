use Rattle.statement_code_laws.proofs.laws.calling_law.Goals as goal
use Rattle.statement_code_laws.proofs.CallingRuns.{calling_law}

pub returns : goal.returns
returns c = calling_law
