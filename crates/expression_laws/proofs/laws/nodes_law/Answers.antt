use Rattle.expression_laws.proofs.laws.nodes_law.Goals as goal
use Rattle.expression_laws.proofs.Nodes.{nodes_there}

pub returns : goal.returns
returns c = nodes_there
