use Rattle.statement_code_laws.proofs.laws.assignment_law.Goals as goal
use Rattle.statement_code_laws.proofs.AssignRuns.{assignment_law}

pub returns : goal.returns
returns c = assignment_law
