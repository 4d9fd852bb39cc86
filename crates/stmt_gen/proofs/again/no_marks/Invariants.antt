use Rattle.stmt_gen.specs.Marking.{HasNoMark}
use Rattle.stmt_gen.proofs.again.no_marks.Given as goal

abbrev pub invariant-loop-turn : goal.invariant-loop-turn
invariant-loop-turn l = HasNoMark l._turn l.marks.items
