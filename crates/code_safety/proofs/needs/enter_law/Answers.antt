use Rattle.code_safety.proofs.needs.enter_law.Goals as goal
use Rattle.code_safety.proofs.Needing.{can_enter}

pub returns : goal.returns
returns c = can_enter
