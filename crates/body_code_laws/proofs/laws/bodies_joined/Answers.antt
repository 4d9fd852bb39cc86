use Rattle.body_code_laws.proofs.laws.bodies_joined.Goals as goal
use Rattle.body_code_laws.proofs.AllBodies.{bodies_joined}

pub returns : goal.returns
returns c = bodies_joined
