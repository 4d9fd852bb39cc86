use Rattle.code_laws.proofs.laws.begins_law.Goals as goal
use Rattle.code_laws.proofs.BodyBegins.{begins_run}

pub returns : goal.returns
returns c = begins_run
