use Rattle.ground_laws.proofs.laws.rows_law.Goals as goal
use Rattle.ground_laws.proofs.Rows.{each_use, each_row}

pub returns-clause-uses : goal.returns-clause-uses
returns-clause-uses c = each_use

pub returns-clause-rows : goal.returns-clause-rows
returns-clause-rows c = each_row
