use Rattle.code_safety.proofs.needs.land_law.Goals as goal
use Rattle.code_safety.proofs.Needing.{can_land}

pub returns : goal.returns
returns c = can_land
