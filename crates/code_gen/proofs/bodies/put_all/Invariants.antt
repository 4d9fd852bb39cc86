use Rattle.std.proofs.Common.{drop, map}
use Rattle.program_trees.specs.ProgramTree.{checked_tree, body_row_tree}
use Rattle.code_gen.proofs.Appended.{BodiesLeft}
use Rattle.code_gen.proofs.bodies.put_all.Given as goal

abbrev pub invariant-loop-body : goal.invariant-loop-body
invariant-loop-body l =
    BodiesLeft (checked_tree l.program) (map body_row_tree l.bodies) (map body_row_tree (drop l.body-index l.bodies))
    l.initial.draft.code l.draft.code
