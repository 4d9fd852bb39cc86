use Rattle.expr_gen.proofs.Appending.{at_last}
use Rattle.action_gen.proofs.plain.put_used.Goals as goal

pub returns-clause-puts : goal.returns-clause-puts
returns-clause-puts c = at_last c.put.result _ _ _ c.in_ok-put_expr.ensures.puts c.put.ensures.puts
