use Rattle.program_laws.proofs.laws.counts_law.Goals as goal
use Rattle.program_laws.proofs.Counts.{counts_are}

pub returns : goal.returns
returns c = counts_are
