use Rattle.std.proofs.Common.{◌≡◌, ◌+◌, ◌≤◌, drop}
use Rattle.program_trees.specs.ExprTree.{received_of}
use Rattle.code_scheme.specs.Pieces.{capped}
use Rattle.code_scheme.specs.ExprCode.{counts_of}
use Rattle.expr_gen.proofs.values.scalars_of.Given as goal

abbrev pub invariant-loop-received : goal.invariant-loop-received
invariant-loop-received l = record {
  counted : capped (l.count + counts_of (received_of (drop l.received-index l.all))) ≡ capped (counts_of (received_of l.all));
  few : l.count ≤ 4294967295;
}
