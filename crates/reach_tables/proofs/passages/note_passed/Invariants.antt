use Rattle.std.proofs.Common.{◌≡◌, ℕ, List, [], ◌++◌, None, drop, if◌then◌else◌}
use Rattle.std.specs.Str.{bytes_eq}
use Rattle.reach_tables.specs.Held.{held}
use Rattle.reach_tables.specs.Tellings.{firsts}
use Rattle.reach_tables.proofs.passages.note_passed.Given as goal

abbrev pub invariant-loop-number : goal.invariant-loop-number
invariant-loop-number l = (n : List ℕ) → held l.out n ++ (if bytes_eq l.name n then firsts l.book.all.items l.last (drop l.number-index l.numbers) else []) ≡ (if bytes_eq l.name n then held l.fn.out n ++ firsts l.book.all.items None l.numbers else held l.fn.out n)
