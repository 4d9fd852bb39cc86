use Rattle.body_code_laws.proofs.laws.initialisations_joined.Goals as goal
use Rattle.body_code_laws.proofs.RegionRuns.{initialisations_joined}

pub returns : goal.returns
returns c = initialisations_joined
