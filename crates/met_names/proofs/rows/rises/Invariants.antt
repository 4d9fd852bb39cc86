use Rattle.std.proofs.Common.{drop}
use Rattle.names_laws.specs.Rising.{use_places}
use Rattle.met_names.proofs.Rising.{Chain, nowhere}
use Rattle.met_names.proofs.rows.rises.Given as goal

-- where the rest goes on rising from the last place, all rise
abbrev pub invariant-loop-row : goal.invariant-loop-row
invariant-loop-row l = Chain l.last (use_places (drop l.row-index l.rows)) → Chain nowhere (use_places l.rows)
