use Rattle.within_laws.proofs.laws.within_law.Goals as goal
use Rattle.within_laws.proofs.Text.{text_within}

pub returns : goal.returns
returns c = text_within
