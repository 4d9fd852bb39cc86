use Rattle.code_safety.proofs.laws.progress_and_preservation_law.Goals as goal
use Rattle.code_safety.proofs.MovePreservation.{moves_well}

pub returns : goal.returns
returns c = moves_well
