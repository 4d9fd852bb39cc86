use Rattle.region_laws.proofs.laws.region_locations_law.Goals as goal
use Rattle.region_laws.proofs.RegionLocations.{region_locations_law}

pub returns : goal.returns
returns c = region_locations_law
