use Rattle.made_laws.proofs.laws.bodies_law.Goals as goal
use Rattle.made_laws.proofs.Made.{few_made, placed_made}

pub returns : goal.returns
returns c = record { few = few_made; placed = placed_made }
