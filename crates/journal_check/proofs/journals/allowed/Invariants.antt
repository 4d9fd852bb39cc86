use Rattle.journal_check.proofs.Fronts.{Reaches}
use Rattle.journal_check.proofs.journals.allowed.Given as goal

abbrev pub invariant-loop-place : goal.invariant-loop-place
invariant-loop-place l = Reaches l.facts l.events l.place l.world
