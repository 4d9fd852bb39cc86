use Rattle.std.proofs.Common.{◌<◌, ℕ}
use Rattle.code_guard.specs.Owners.{RisesAt}
use Rattle.code_guard.proofs.bodies.bodies_rise.Given as goal

abbrev pub invariant-loop-body : goal.invariant-loop-body
invariant-loop-body l = (k : ℕ) → k < l.body → RisesAt l.code k
