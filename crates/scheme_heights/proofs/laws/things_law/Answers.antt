use Rattle.scheme_heights.proofs.laws.things_law.Goals as goal
use Rattle.scheme_heights.proofs.GivenStatements.{things_law}

pub returns : goal.returns
returns c = things_law
