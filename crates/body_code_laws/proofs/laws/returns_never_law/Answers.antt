use Rattle.body_code_laws.proofs.laws.returns_never_law.Goals as goal
use Rattle.body_code_laws.proofs.NeverReturns.{returns_never}

pub returns : goal.returns
returns c = returns_never
