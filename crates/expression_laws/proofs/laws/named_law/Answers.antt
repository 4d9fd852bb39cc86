use Rattle.expression_laws.proofs.laws.named_law.Goals as goal
use Rattle.expression_laws.proofs.Named.{nodes_named}
use Rattle.expression_laws.proofs.WellNamed.{well_named}

pub returns : goal.returns
returns c = record { named = nodes_named; well = well_named }
