use Rattle.program_laws.proofs.laws.counters_law.Goals as goal
use Rattle.program_laws.proofs.Counters.{counters_there}

pub returns : goal.returns
returns c = counters_there
