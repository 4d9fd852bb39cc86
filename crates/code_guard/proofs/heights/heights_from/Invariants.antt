use Rattle.code_guard.specs.Heights.{IsFound}
use Rattle.code_guard.proofs.heights.heights_from.Given as goal

abbrev pub invariant-loop-place : goal.invariant-loop-place
invariant-loop-place l = IsFound l.code l.owners l.place l.known l.heights.items
