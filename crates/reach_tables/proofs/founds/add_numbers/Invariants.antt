use Rattle.std.proofs.Common.{◌≡◌, ℕ, List, drop}
use Rattle.names_model.specs.Definitions.{under}
use Rattle.names_model.specs.Entries.{once_behind}
use Rattle.reach_tables.specs.Held.{held}
use Rattle.reach_tables.specs.Marks.{Marks}
use Rattle.reach_tables.proofs.founds.add_numbers.Given as goal

abbrev pub invariant-loop-number : goal.invariant-loop-number
invariant-loop-number l = Marks l.fn.marked l.fn.table l.book.all.items → record {
  marks : Marks l.marked l.table l.book.all.items;
  by : (n : List ℕ) → once_behind (held l.table n) (under l.book.all.items n (drop l.number-index l.numbers)) ≡ once_behind (held l.fn.table n) (under l.book.all.items n l.numbers);
}
