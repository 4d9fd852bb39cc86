use Rattle.std.proofs.Common.{refl}
use Rattle.std.proofs.lemmas.Result.{on_ok_weaker}
use Rattle.action_gen.specs.Counting.{steps_of}
use Rattle.action_gen.proofs.Controls.{first_value_made}
use Rattle.action_gen.proofs.steps.put_first_value.Goals as goal

pub returns-clause-puts : goal.returns-clause-puts
returns-clause-puts c =
    on_ok_weaker c.put-3.result
    (λ q. first_value_made (steps_of c.args.steps) c.args.behind c.in_ok-turn.turn (c.in_ok-turn.ensures 9 refl)
    c.in_ok-put_first_test.ensures.puts c.in_ok-put_limit.ensures.puts c.in_ok-put.ensures.puts c.in_ok-put-2.ensures.puts q)
    c.put-3.ensures.puts
