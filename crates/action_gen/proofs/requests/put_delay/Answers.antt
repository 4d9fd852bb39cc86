use Rattle.expr_gen.proofs.Appending.{and_then, at_last}
use Rattle.action_gen.proofs.requests.put_delay.Goals as goal

pub returns-clause-puts : goal.returns-clause-puts
returns-clause-puts c = at_last c.put-4.result _ _ _ (and_then (and_then c.in_ok-put.ensures.puts c.in_ok-put-2.ensures.puts) c.in_ok-put-3.ensures.puts) c.put-4.ensures.puts
