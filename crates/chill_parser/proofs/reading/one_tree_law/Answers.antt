use Rattle.rules_model.proofs.OneTree.{one_tree_lem}
use Rattle.chill_parser.proofs.reading.one_tree_law.Goals as goal

pub returns : goal.returns
returns c = one_tree_lem
