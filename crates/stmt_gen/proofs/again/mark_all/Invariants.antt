use Rattle.std.proofs.Common.{take}
use Rattle.stmt_gen.specs.Marking.{MarksAll}
use Rattle.stmt_gen.proofs.again.mark_all.Given as goal

abbrev pub invariant-loop-exception : goal.invariant-loop-exception
invariant-loop-exception l = MarksAll (take l.exception-index l.exceptions) l.initial.marks.items l.marks.items
