use Rattle.report_laws.proofs.laws.states_law.Goals as goal
use Rattle.report_laws.proofs.Told.{states_law}

pub returns : goal.returns
returns c = states_law
