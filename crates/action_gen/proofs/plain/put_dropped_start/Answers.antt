use Rattle.expr_gen.proofs.Appending.{at_last}
use Rattle.action_gen.proofs.plain.put_dropped_start.Goals as goal

pub returns-clause-puts : goal.returns-clause-puts
returns-clause-puts c = at_last c.put.result _ _ _ c.in_ok-put_start.ensures.puts c.put.ensures.puts
