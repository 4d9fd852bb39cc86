use Rattle.code_safety.proofs.laws.answer_preservation_law.Goals as goal
use Rattle.code_safety.proofs.Answered.{answers_well}

pub returns : goal.returns
returns c = answers_well
