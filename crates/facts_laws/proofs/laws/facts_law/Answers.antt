use Rattle.facts_laws.proofs.laws.facts_law.Goals as goal
use Rattle.facts_laws.proofs.Facts.{facts_law}

pub returns : goal.returns
returns c = facts_law
