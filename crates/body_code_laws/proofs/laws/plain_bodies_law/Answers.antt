use Rattle.body_code_laws.proofs.laws.plain_bodies_law.Goals as goal
use Rattle.body_code_laws.proofs.AllBodies.{plain_bodies}

pub returns : goal.returns
returns c = plain_bodies
