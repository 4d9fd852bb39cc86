use Rattle.code_safety.proofs.weights.fall_law.Goals as goal
use Rattle.code_safety.proofs.Falling.{moves_fall}

pub returns : goal.returns
returns c = moves_fall
