use Rattle.world_model.proofs.Again.{freed_region_law}
use Rattle.world_model.proofs.laws.freed_region_law.Goals as goal

pub returns : goal.returns
returns c = freed_region_law
