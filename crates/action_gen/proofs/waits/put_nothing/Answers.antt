use Rattle.std.proofs.lemmas.Result.{on_ok_weaker}
use Rattle.expr_gen.proofs.Appending.{and_then}
use Rattle.action_gen.proofs.Waiting.{nothing_made}
use Rattle.action_gen.proofs.waits.put_nothing.Goals as goal

pub returns-in_ok-put-2-clause-puts : goal.returns-in_ok-put-2-clause-puts
returns-in_ok-put-2-clause-puts c =
    on_ok_weaker c.put-then-has_else-2.result
    (λ q. nothing_made c.args.has_else c.args.chosen c.args.count c.args.otherwise c.if-has_else.true
    (and_then c.in_ok-put.ensures.puts (and_then c.in_ok-put_count.ensures.puts (and_then c.in_ok-put-2.ensures.puts q))))
    c.put-then-has_else-2.ensures.puts
