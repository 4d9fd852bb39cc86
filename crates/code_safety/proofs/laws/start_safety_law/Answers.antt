use Rattle.code_safety.proofs.laws.start_safety_law.Goals as goal
use Rattle.code_safety.proofs.Starting.{starts_well}

pub returns : goal.returns
returns c = starts_well
