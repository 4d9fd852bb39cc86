use Rattle.stmt_gen.specs.Marking.{MarksBelow}
use Rattle.stmt_gen.proofs.again.language_marks.Given as goal

abbrev pub invariant-loop-number : goal.invariant-loop-number
invariant-loop-number l = MarksBelow l.number l.count l.found.items
