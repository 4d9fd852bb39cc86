use Rattle.world_model.proofs.RunParts.{prefix_law}
use Rattle.world_model.proofs.laws.prefix_law.Goals as goal

pub returns : goal.returns
returns c = prefix_law
