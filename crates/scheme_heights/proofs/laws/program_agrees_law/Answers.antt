use Rattle.scheme_heights.proofs.laws.program_agrees_law.Goals as goal
use Rattle.scheme_heights.proofs.Programs.{program_agrees}

pub returns : goal.returns
returns c = program_agrees
