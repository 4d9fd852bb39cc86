use Rattle.code_safety.proofs.laws.lead_preservation_law.Goals as goal
use Rattle.code_safety.proofs.ReachedIsSafe.{leads_well}

pub returns : goal.returns
returns c = leads_well
