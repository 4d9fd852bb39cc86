use Rattle.code_safety.proofs.laws.reach_safety_law.Goals as goal
use Rattle.code_safety.proofs.ReachedIsSafe.{reaches_well}

pub returns : goal.returns
returns c = reaches_well
