use Rattle.source_meaning.proofs.laws.enough_law.Goals as goal
use Rattle.source_meaning.proofs.EnoughBodies.{enough_law}

pub returns : goal.returns
returns c = enough_law
