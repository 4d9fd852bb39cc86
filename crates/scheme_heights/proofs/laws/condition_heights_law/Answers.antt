use Rattle.scheme_heights.proofs.laws.condition_heights_law.Goals as goal
use Rattle.scheme_heights.proofs.Conditions.{condition_heights_law}

pub returns : goal.returns
returns c = condition_heights_law
