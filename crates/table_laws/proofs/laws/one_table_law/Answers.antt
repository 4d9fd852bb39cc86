use Rattle.table_laws.proofs.laws.one_table_law.Goals as goal
use Rattle.table_laws.proofs.OneTable.{one_table, filling}

pub returns : goal.returns
returns c = record { one = one_table; filled = filling }
