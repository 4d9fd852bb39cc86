use Rattle.code_laws.proofs.laws.skips_law.Goals as goal
use Rattle.code_laws.proofs.BodySkips.{skips_run}

pub returns : goal.returns
returns c = skips_run
