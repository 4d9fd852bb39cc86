use Rattle.code_safety.proofs.needs.make_law.Goals as goal
use Rattle.code_safety.proofs.Needing.{can_make}

pub returns : goal.returns
returns c = can_make
