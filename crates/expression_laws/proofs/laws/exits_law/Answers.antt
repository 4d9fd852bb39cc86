use Rattle.expression_laws.proofs.laws.exits_law.Goals as goal
use Rattle.expression_laws.proofs.Exits.{exits_there}

pub returns : goal.returns
returns c = exits_there
