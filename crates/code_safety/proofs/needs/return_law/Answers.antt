use Rattle.code_safety.proofs.needs.return_law.Goals as goal
use Rattle.code_safety.proofs.Needing.{can_take}

pub returns : goal.returns
returns c = can_take
