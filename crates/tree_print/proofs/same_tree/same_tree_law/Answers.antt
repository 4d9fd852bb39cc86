use Rattle.tree_print.proofs.SameTokensProgram.{read_again}
use Rattle.tree_print.proofs.same_tree.same_tree_law.Goals as goal

pub returns : goal.returns
returns c toks others x d e = read_again d others e
