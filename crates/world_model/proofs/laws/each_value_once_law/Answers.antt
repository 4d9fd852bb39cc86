use Rattle.world_model.proofs.Sent.{each_value_once_law}
use Rattle.world_model.proofs.laws.each_value_once_law.Goals as goal

pub returns : goal.returns
returns c = each_value_once_law
