use Rattle.bounds_laws.proofs.laws.within_law.Goals as goal
use Rattle.bounds_laws.proofs.BodiesLie.{within}

pub returns : goal.returns
returns c = within
