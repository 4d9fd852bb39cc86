use Rattle.std.proofs.lemmas.Result.{on_ok_weaker}
use Rattle.expr_gen.proofs.Appending.{and_then, kept_by, kept_on}
use Rattle.action_gen.proofs.steps.put_next.Goals as goal

pub returns-clause-puts : goal.returns-clause-puts
returns-clause-puts c =
    let by = rw c.by_step.ensures at c.in_ok-put-3.ensures.puts in
    let forth = rw c.forth.ensures at c.in_ok-put-4.ensures.puts in
    on_ok_weaker c.put-5.result
    (λ q. and_then c.in_ok-put_before.ensures.puts (and_then c.in_ok-put.ensures.puts (and_then c.in_ok-put-2.ensures.puts (and_then by (and_then forth q)))))
    c.put-5.ensures.puts

pub returns-clause-keeps : goal.returns-clause-keeps
returns-clause-keeps c =
    kept_on (kept_by (and_then c.in_ok-put_before.ensures.puts (and_then c.in_ok-put.ensures.puts (and_then c.in_ok-put-2.ensures.puts (and_then c.in_ok-put-3.ensures.puts c.in_ok-put-4.ensures.puts)))))
    c.put-5.ensures.keeps
