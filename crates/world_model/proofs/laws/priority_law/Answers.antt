use Rattle.world_model.proofs.Choices.{priority_law}
use Rattle.world_model.proofs.laws.priority_law.Goals as goal

pub returns : goal.returns
returns c = priority_law
