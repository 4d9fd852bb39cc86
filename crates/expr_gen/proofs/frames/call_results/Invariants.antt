use Rattle.std.proofs.Common.{◌≡◌, ◌+◌, ◌≤◌, drop, length, map, min}
use Rattle.program_trees.specs.ProgramTree.{local_row_tree}
use Rattle.code_scheme.specs.Pieces.{capped}
use Rattle.code_scheme.specs.StatementSite.{back_scalars}
use Rattle.expr_gen.proofs.frames.call_results.Given as goal

abbrev pub invariant-loop-i : goal.invariant-loop-i
invariant-loop-i l = record {
  counted : capped (l.scalars + back_scalars (drop l.i l.parameters) (map local_row_tree (drop l.i l.locals))) ≡ capped (l.initial.scalars + back_scalars l.parameters (map local_row_tree l.locals));
  few : l.scalars ≤ 4294967295;
  end : l.i-end ≡ min (length l.parameters) (length l.locals);
}
