use Rattle.code_safety.proofs.weights.weight_law.Goals as goal
use Rattle.code_safety.proofs.Falling.{weighs}

pub returns : goal.returns
returns c = weighs
