use Rattle.code_safety.proofs.needs.hold_law.Goals as goal
use Rattle.code_safety.proofs.Needing.{can_hold}

pub returns : goal.returns
returns c = can_hold
