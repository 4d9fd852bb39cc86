use Rattle.std.proofs.Common.{◌≡◌}
use Rattle.std.specs.Prelude.{filter}
use Rattle.code_scheme.specs.BodyItems.{numbers_from}
use Rattle.stmt_gen.specs.Marking.{has_mark}
use Rattle.stmt_gen.proofs.again.marked.Given as goal

abbrev pub invariant-loop-number : goal.invariant-loop-number
invariant-loop-number l = l.numbers ≡ filter (has_mark l.marks) (numbers_from 0 l.number)
