use Rattle.body_code_laws.proofs.laws.raises_known_law.Goals as goal
use Rattle.body_code_laws.proofs.RaisedStatements.{raises_known}

pub returns : goal.returns
returns c = raises_known
