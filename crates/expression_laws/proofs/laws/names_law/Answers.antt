use Rattle.expression_laws.proofs.laws.names_law.Goals as goal
use Rattle.expression_laws.proofs.Things.{things_known}
use Rattle.expression_laws.proofs.KnownNames.{names_known}
use Rattle.expression_laws.proofs.TextRows.{rows_placed}
use Rattle.expression_laws.proofs.Outside.{meets_outside}

pub returns : goal.returns
returns c = record { things = things_known; known = names_known; placed = rows_placed; outside = meets_outside }
