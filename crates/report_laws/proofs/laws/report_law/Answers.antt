use Rattle.report_laws.proofs.laws.report_law.Goals as goal
use Rattle.report_laws.proofs.Told.{report_law}

pub returns : goal.returns
returns c = report_law
