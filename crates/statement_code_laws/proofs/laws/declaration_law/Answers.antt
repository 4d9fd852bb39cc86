use Rattle.statement_code_laws.proofs.laws.declaration_law.Goals as goal
use Rattle.statement_code_laws.proofs.DeclarationRuns.{declaration_law}

pub returns : goal.returns
returns c = declaration_law
