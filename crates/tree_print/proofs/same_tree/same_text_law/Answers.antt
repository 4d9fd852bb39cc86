use Rattle.tree_print.proofs.SameProgram.{same_text}
use Rattle.tree_print.proofs.same_tree.same_text_law.Goals as goal

pub returns : goal.returns
returns c = same_text
