use Rattle.region_laws.proofs.laws.text_regions_law.Goals as goal
use Rattle.region_laws.proofs.RegionLocations.{text_regions_law}

pub returns : goal.returns
returns c = text_regions_law
