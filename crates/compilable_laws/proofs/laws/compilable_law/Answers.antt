use Rattle.compilable_laws.proofs.laws.compilable_law.Goals as goal
use Rattle.compilable_laws.proofs.Programs.{program_compilable}

pub returns : goal.returns
returns c = program_compilable
