use Rattle.code_safety.proofs.leading.move_leads_law.Goals as goal
use Rattle.code_safety.proofs.SingleMoves.{move_leads}

pub returns : goal.returns
returns c = move_leads
