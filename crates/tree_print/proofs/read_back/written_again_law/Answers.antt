use Rattle.tree_print.proofs.ReadBack.{written_again}
use Rattle.tree_print.proofs.read_back.written_again_law.Goals as goal

pub returns : goal.returns
returns c = written_again
