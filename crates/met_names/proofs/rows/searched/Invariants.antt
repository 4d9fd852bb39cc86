use Rattle.std.proofs.Common.{◌≡◌, drop}
use Rattle.checks_model.specs.Ground.{number_at}
use Rattle.met_names.proofs.rows.searched.Given as goal

abbrev pub invariant-loop-row : goal.invariant-loop-row
invariant-loop-row l = number_at l.rows l.at ≡ number_at (drop l.row-index l.rows) l.at
