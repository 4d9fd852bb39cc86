use Rattle.range_laws.proofs.laws.bodies_in_range_law.Goals as goal
use Rattle.range_laws.proofs.Programs.{bodies_in_range}

pub returns : goal.returns
returns c = bodies_in_range
