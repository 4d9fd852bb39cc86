use Rattle.tree_print.proofs.SameProgram.{written_program}
use Rattle.tree_print.proofs.same_tree.same_program_law.Goals as goal

pub returns : goal.returns
returns c = written_program
