use Rattle.there_laws.proofs.laws.modes_law.Goals as goal
use Rattle.there_laws.proofs.Modes.{written_there}

pub returns : goal.returns
returns c = written_there
