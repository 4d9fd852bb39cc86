use Rattle.body_code_laws.proofs.laws.items_law.Goals as goal
use Rattle.body_code_laws.proofs.ItemRuns.{items_law}

pub returns : goal.returns
returns c = items_law
