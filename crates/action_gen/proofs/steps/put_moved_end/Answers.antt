use Rattle.std.proofs.lemmas.Result.{on_ok_weaker}
use Rattle.action_gen.proofs.Controls.{all_then}
use Rattle.action_gen.proofs.steps.put_moved_end.Goals as goal

pub returns-clause-puts : goal.returns-clause-puts
returns-clause-puts c =
    let back = rw c.back.ensures at c.in_ok-put-2.ensures.puts in
    on_ok_weaker c.put-3.result (λ q. all_then c.in_ok-put.ensures.puts (all_then c.in_ok-put_rest.ensures.puts (all_then back q))) c.put-3.ensures.puts
