use Rattle.code_laws.proofs.laws.raised_again_law.Goals as goal
use Rattle.code_laws.proofs.RaisedAgain.{raised_again}

pub returns : goal.returns
returns c = raised_again
