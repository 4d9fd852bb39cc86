use Rattle.run_laws.proofs.laws.held_regions_law.Goals as goal
use Rattle.run_laws.proofs.HeldRegions.{held_regions_law}

pub returns : goal.returns
returns c = held_regions_law
