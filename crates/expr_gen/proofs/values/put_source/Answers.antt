use Rattle.expr_gen.proofs.Appending.{and_then, at_last}
use Rattle.expr_gen.proofs.values.put_source.Goals as goal

pub returns-clause-puts : goal.returns-clause-puts
returns-clause-puts c = at_last c.put_number-2.result _ _ _ (and_then c.in_ok-put.ensures.puts c.in_ok-put_number.ensures.puts) c.put_number-2.ensures.puts
