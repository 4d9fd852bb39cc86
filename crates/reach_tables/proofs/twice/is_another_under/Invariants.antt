use Rattle.std.proofs.Common.{◌≡◌, drop}
use Rattle.reach_tables.specs.Held.{held}
use Rattle.reach_tables.specs.Tellings.{is_another_among}
use Rattle.reach_tables.proofs.twice.is_another_under.Given as goal

abbrev pub invariant-loop-other : goal.invariant-loop-other
invariant-loop-other l = is_another_among l.number (drop l.other-index (held l.table l.name)) ≡ is_another_among l.number (held l.table l.name)
