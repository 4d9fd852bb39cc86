use Rattle.elaborated_laws.proofs.laws.table_modes_law.Goals as goal
use Rattle.elaborated_laws.proofs.Entries.{table_modes}

pub returns : goal.returns
returns c = table_modes
