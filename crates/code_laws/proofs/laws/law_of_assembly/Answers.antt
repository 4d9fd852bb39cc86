use Rattle.code_laws.proofs.laws.law_of_assembly.Goals as goal
use Rattle.code_laws.proofs.Assembling.{assembled}

pub returns : goal.returns
returns c = assembled
