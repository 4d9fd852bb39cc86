use Rattle.follow_laws.proofs.laws.labelled_law.Goals as goal
use Rattle.follow_laws.proofs.HandledRuns.{labelled_runs}

pub returns : goal.returns
returns c = labelled_runs
