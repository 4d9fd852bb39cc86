use Rattle.std.proofs.Common.{take}
use Rattle.stmt_gen.specs.Marking.{MarksAllRaised}
use Rattle.stmt_gen.proofs.again.mark_all_raised.Given as goal

abbrev pub invariant-loop-instr : goal.invariant-loop-instr
invariant-loop-instr l = MarksAllRaised l.program (take l.instr-index l.instrs) l.initial.marks.items l.marks.items
