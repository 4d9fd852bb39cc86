use Rattle.order_laws.proofs.laws.ground_law.Goals as goal
use Rattle.order_laws.proofs.TextCounters.{one_ground}
use Rattle.order_laws.proofs.GroundThere.{ground_there}

pub returns-clause-there : goal.returns-clause-there
returns-clause-there c = ground_there

pub returns-clause-one : goal.returns-clause-one
returns-clause-one c = one_ground
