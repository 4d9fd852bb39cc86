use Rattle.code_guard.specs.Owners.{AreOwned, ReachesTo}
use Rattle.code_guard.proofs.bodies.owners_of.Given as goal

abbrev pub invariant-loop-place : goal.invariant-loop-place
invariant-loop-place l = AreOwned l.code l.place l.owners.items × ReachesTo l.code l.body l.place
