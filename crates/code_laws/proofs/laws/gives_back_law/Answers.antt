use Rattle.code_laws.proofs.laws.gives_back_law.Goals as goal
use Rattle.code_laws.proofs.BodyEnds.{gives_back_run}

pub returns : goal.returns
returns c = gives_back_run
