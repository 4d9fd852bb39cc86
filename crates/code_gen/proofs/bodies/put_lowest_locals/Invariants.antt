use Rattle.std.proofs.Common.{length, drop, map}
use Rattle.program_trees.specs.ProgramTree.{local_row_tree}
use Rattle.code_scheme.specs.BodyCode.{locals_code}
use Rattle.expr_gen.proofs.Appending.{StillTo}
use Rattle.code_gen.proofs.bodies.put_lowest_locals.Given as goal

abbrev pub invariant-loop-local : goal.invariant-loop-local
invariant-loop-local l =
    StillTo (λ at. locals_code (map local_row_tree l.locals)) (length (locals_code (map local_row_tree l.locals)))
    (λ at. locals_code (map local_row_tree (drop l.local-index l.locals))) (length (locals_code (map local_row_tree (drop l.local-index l.locals))))
    l.initial.draft.code l.draft.code
