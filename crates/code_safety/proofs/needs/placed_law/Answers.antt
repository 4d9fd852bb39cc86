use Rattle.code_safety.proofs.needs.placed_law.Goals as goal
use Rattle.code_safety.proofs.Needing.{placed}

pub returns : goal.returns
returns c = placed
