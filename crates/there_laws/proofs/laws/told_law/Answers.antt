use Rattle.there_laws.proofs.laws.told_law.Goals as goal
use Rattle.there_laws.proofs.Told.{untold}

pub returns : goal.returns
returns c = untold
