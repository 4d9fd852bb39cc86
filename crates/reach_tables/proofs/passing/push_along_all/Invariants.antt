use Rattle.std.proofs.Common.{◌≡◌, ◌++◌, drop}
use Rattle.std.specs.Prelude.{flat_map}
use Rattle.names_model.specs.Entries.{along}
use Rattle.reach_tables.specs.Scopes.{told_by}
use Rattle.reach_tables.proofs.passing.push_along_all.Given as goal

abbrev pub invariant-loop-number : goal.invariant-loop-number
invariant-loop-number l = l.out ++ flat_map (along l.book.all.items (told_by l.source)) (drop l.number-index l.numbers) ≡ l.fn.out ++ flat_map (along l.book.all.items (told_by l.source)) l.numbers
