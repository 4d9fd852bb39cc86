use Rattle.std.proofs.Common.{length}
use Rattle.code_guard.specs.Heights.{IsKnown, IsTold}
use Rattle.code_guard.proofs.heights.tell_targets.Given as goal

abbrev pub invariant-loop-i : goal.invariant-loop-i
invariant-loop-i l = IsKnown l.code (IsTold l.code (length l.code.bodies) l.i 0) l.known
