use Rattle.std.proofs.Common.{refl}
use Rattle.code_guard.proofs.guarded.guard.Goals as goal

pub invariant_of-result : goal.invariant_of-result
invariant_of-result c = c.in-Ok-true.ensures.0 c.in-Ok-true.field-0-test

pub returns-in-Ok-true-clause-ok : goal.returns-in-Ok-true-clause-ok
returns-in-Ok-true-clause-ok c = (refl, c.in-Ok-true.ensures.0 c.in-Ok-true.field-0-test)
