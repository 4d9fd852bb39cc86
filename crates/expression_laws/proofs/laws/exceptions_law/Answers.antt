use Rattle.expression_laws.proofs.laws.exceptions_law.Goals as goal
use Rattle.expression_laws.proofs.Exceptions.{exceptions_there}

pub returns : goal.returns
returns c = exceptions_there
