use Rattle.region_laws.proofs.laws.asks_inside_law.Goals as goal
use Rattle.region_laws.proofs.RegionLocations.{asks_inside_law}

pub returns : goal.returns
returns c = asks_inside_law
