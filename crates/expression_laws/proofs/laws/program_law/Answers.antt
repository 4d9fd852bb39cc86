use Rattle.expression_laws.proofs.laws.program_law.Goals as goal
use Rattle.expression_laws.proofs.Program.{program_there}
use Rattle.expression_laws.proofs.Text.{text_elaborated}

pub returns : goal.returns
returns c = record { rows = program_there; text = text_elaborated }
