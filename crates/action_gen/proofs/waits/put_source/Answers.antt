use Rattle.expr_gen.proofs.Appending.{and_then, at_last}
use Rattle.action_gen.proofs.waits.put_source.Goals as goal

pub returns-clause-puts : goal.returns-clause-puts
returns-clause-puts c =
    let first = rw c.first_received.ensures at c.in_ok-put_count.ensures.puts in
    let count = rw c.in_ok-count.ensures at c.put_count-2.ensures.puts in
    at_last c.put_count-2.result _ _ _ (and_then c.in_ok-put.ensures.puts first) count
