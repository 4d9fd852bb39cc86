use Rattle.code_guard.specs.Heights.{IsKnown, IsTold}
use Rattle.code_guard.proofs.heights.tell_beginnings.Given as goal

abbrev pub invariant-loop-body : goal.invariant-loop-body
invariant-loop-body l = IsKnown l.code (IsTold l.code l.body 0 0) l.known
