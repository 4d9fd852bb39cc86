use Rattle.tree_print.proofs.ReadBack.{read_back}
use Rattle.tree_print.proofs.read_back.read_back_law.Goals as goal

pub returns : goal.returns
returns c = read_back
