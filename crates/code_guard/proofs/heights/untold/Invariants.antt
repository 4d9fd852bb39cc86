use Rattle.code_guard.specs.Heights.{IsUntold}
use Rattle.code_guard.proofs.heights.untold.Given as goal

abbrev pub invariant-places : goal.invariant-places
invariant-places l = IsUntold l.counter l.known.items
