use Rattle.std.proofs.lemmas.Result.{on_ok_weaker}
use Rattle.expr_gen.proofs.Appending.{and_then}
use Rattle.action_gen.proofs.cases.put_selector.Goals as goal

pub returns-clause-puts : goal.returns-clause-puts
returns-clause-puts c = on_ok_weaker c.put.result (λ q. and_then c.in_ok-put_expr.ensures.puts q) c.put.ensures.puts
