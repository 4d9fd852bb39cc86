use Rattle.tree_print.proofs.TreeTokensItem.{tokens_are}
use Rattle.tree_print.proofs.same_tree.tree_tokens_law.Goals as goal

pub returns : goal.returns
returns c toks x d = tokens_are d
