use Rattle.text_laws.proofs.laws.same_runs_law.Goals as goal
use Rattle.text_laws.proofs.CodeJournals.{same_runs}

pub returns : goal.returns
returns c = same_runs
