use Rattle.std.proofs.lemmas.Result.{on_ok_weaker}
use Rattle.action_gen.specs.Counting.{steps_of}
use Rattle.action_gen.proofs.Controls.{nearer_down, nearer_up}
use Rattle.action_gen.proofs.steps.put_nearer.Goals as goal

pub returns-in_ok-put_nearest-clause-puts : goal.returns-in_ok-put_nearest-clause-puts
returns-in_ok-put_nearest-clause-puts c =
    on_ok_weaker c.put.result (λ q. nearer_down (steps_of c.args.steps) c.if-steps.true c.in_ok-put_nearest.ensures.puts q) c.put.ensures.puts

pub returns-in_ok-put-clause-puts : goal.returns-in_ok-put-clause-puts
returns-in_ok-put-clause-puts c =
    on_ok_weaker c.put_nearest-else-steps.result (λ q. nearer_up (steps_of c.args.steps) c.if-steps.false c.in_ok-put.ensures.puts q) c.put_nearest-else-steps.ensures.puts
