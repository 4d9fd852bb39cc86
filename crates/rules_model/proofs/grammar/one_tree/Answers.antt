use Rattle.rules_model.proofs.OneTree.{one_tree_lem}
use Rattle.rules_model.proofs.grammar.one_tree.Goals as goal

pub returns : goal.returns
returns c = one_tree_lem
