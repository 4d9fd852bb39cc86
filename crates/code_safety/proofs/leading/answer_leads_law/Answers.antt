use Rattle.code_safety.proofs.leading.answer_leads_law.Goals as goal
use Rattle.code_safety.proofs.SingleMoves.{answer_leads}

pub returns : goal.returns
returns c = answer_leads
