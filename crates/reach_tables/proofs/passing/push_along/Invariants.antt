use Rattle.std.proofs.Common.{◌≡◌, ◌++◌}
use Rattle.reach_tables.proofs.Elements.{along_first}
use Rattle.reach_tables.specs.Scopes.{told_by}
use Rattle.reach_tables.proofs.passing.push_along.Given as goal

abbrev pub invariant-loop-step : goal.invariant-loop-step
invariant-loop-step l = l.out ≡ l.fn.out ++ along_first l.book.all.items (told_by l.source) l.number l.step
