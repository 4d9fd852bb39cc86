use Rattle.std.proofs.Common.{◌≡◌, ◌+◌, ◌≤◌, drop, map}
use Rattle.program_trees.specs.ProgramTree.{local_row_tree}
use Rattle.code_scheme.specs.Pieces.{capped}
use Rattle.code_scheme.specs.StatementSite.{scalars_in}
use Rattle.expr_gen.proofs.frames.scalars_in.Given as goal

abbrev pub invariant-loop-local : goal.invariant-loop-local
invariant-loop-local l = record {
  counted : capped (l.scalars + scalars_in (map local_row_tree (drop l.local-index l.locals))) ≡ capped (scalars_in (map local_row_tree l.locals));
  few : l.scalars ≤ 4294967295;
}
