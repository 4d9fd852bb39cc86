use Rattle.wait_exprs.proofs.laws.split_law.Goals as goal
use Rattle.wait_exprs.proofs.Splitting.{split}

pub returns : goal.returns
returns c = split
