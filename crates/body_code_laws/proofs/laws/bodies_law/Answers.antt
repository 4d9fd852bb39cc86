use Rattle.body_code_laws.proofs.laws.bodies_law.Goals as goal
use Rattle.body_code_laws.proofs.AllBodies.{bodies_law}

pub returns : goal.returns
returns c = bodies_law
