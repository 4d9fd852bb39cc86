use Rattle.code_safety.proofs.leading.no_move_leads_law.Goals as goal
use Rattle.code_safety.proofs.SingleMoves.{no_move_leads}

pub returns : goal.returns
returns c = no_move_leads
