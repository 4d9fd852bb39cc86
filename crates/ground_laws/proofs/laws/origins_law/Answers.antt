use Rattle.ground_laws.proofs.laws.origins_law.Goals as goal
use Rattle.ground_laws.proofs.Defining.{origins_define}

pub returns : goal.returns
returns c = origins_define
