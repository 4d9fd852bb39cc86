use Rattle.well_made_laws.proofs.laws.well_made_law.Goals as goal
use Rattle.well_made_laws.proofs.Bodies.{bodies_well_made}

pub returns : goal.returns
returns c = bodies_well_made
