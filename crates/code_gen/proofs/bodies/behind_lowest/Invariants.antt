use Rattle.std.proofs.Common.{◌≡◌, drop}
use Rattle.program_trees.specs.StatementTree.{statements_of}
use Rattle.code_scheme.specs.BodyCode.{behind_lowest}
use Rattle.code_gen.proofs.bodies.behind_lowest.Given as goal

abbrev pub invariant-loop-i : goal.invariant-loop-i
invariant-loop-i l = behind_lowest (statements_of (drop l.i l.statements)) ≡ behind_lowest (statements_of l.statements)
