use Rattle.std.proofs.lemmas.Result.{on_ok_weaker}
use Rattle.expr_gen.proofs.Appending.{and_then}
use Rattle.action_gen.proofs.Controls.{kept_rest}
use Rattle.action_gen.proofs.steps.put_rest.Goals as goal

pub returns-in_ok-put-in-Kept-2-clause-puts : goal.returns-in_ok-put-in-Kept-2-clause-puts
returns-in_ok-put-in-Kept-2-clause-puts c =
    on_ok_weaker c.put-in-Kept-3.result (λ q. kept_rest c.args.step c.in-Kept.local c.in-Kept.is (and_then c.in_ok-put-in-Kept.ensures.puts (and_then c.in_ok-put-in-Kept-2.ensures.puts q)))
    c.put-in-Kept-3.ensures.puts
