use Rattle.std.proofs.Common.{◌≡◌, drop}
use Rattle.program_trees.specs.ProgramTree.{checked_tree}
use Rattle.code_scheme.specs.BodyCode.{heads_of, greatest_height}
use Rattle.code_gen.proofs.rows.greatest_height.Given as goal

abbrev pub invariant-loop-instr : goal.invariant-loop-instr
invariant-loop-instr l =
    greatest_height (heads_of (checked_tree l.program)) l.height l.greatest (drop l.instr-index l.instrs)
    ≡ greatest_height (heads_of (checked_tree l.program)) 0 0 l.instrs
