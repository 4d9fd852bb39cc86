use Rattle.std.specs.Vec.{vec_len}
use Rattle.cycles.proofs.search.Search.close.Given as goal

abbrev pub decreases-nodes : goal.decreases-nodes
decreases-nodes l = vec_len l.self.open
