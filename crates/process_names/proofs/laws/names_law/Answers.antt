use Rattle.process_names.proofs.laws.names_law.Goals as goal
use Rattle.process_names.proofs.Phase.{names_told}

pub returns : goal.returns
returns c = names_told
