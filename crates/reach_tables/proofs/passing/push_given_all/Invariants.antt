use Rattle.std.proofs.Common.{◌≡◌, ◌++◌, drop}
use Rattle.names_model.specs.Entries.{given_all}
use Rattle.reach_tables.proofs.passing.push_given_all.Given as goal

abbrev pub invariant-loop-number : goal.invariant-loop-number
invariant-loop-number l = l.out ++ given_all l.book.all.items l.region (drop l.number-index l.own) ≡ l.fn.out ++ given_all l.book.all.items l.region l.own
