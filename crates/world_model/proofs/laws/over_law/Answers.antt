use Rattle.world_model.proofs.Ends.{over_law}
use Rattle.world_model.proofs.laws.over_law.Goals as goal

pub returns : goal.returns
returns c = over_law
