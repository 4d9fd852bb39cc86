use Rattle.std.proofs.Common.{◌≡◌, ◌+◌, length, arith}
use Rattle.std.proofs.lemmas.Result.{on_ok_weaker}
use Rattle.code_scheme.specs.Pieces.{capped}
use Rattle.code_scheme.specs.StatementLoops.{rest_code}
use Rattle.action_gen.specs.Counting.{step_of, steps_of}
use Rattle.action_gen.proofs.Controls.{near_end_made}
use Rattle.action_gen.proofs.steps.put_near_end.Goals as goal

pub returns-clause-puts : goal.returns-clause-puts
returns-clause-puts c =
    let four : c.saturating_add.result ≡ capped (length (rest_code (step_of c.args.steps.step)) + 4) = omega (arith, c.rest_size.ensures) in
    on_ok_weaker c.put-3.result
    (λ q. near_end_made (steps_of c.args.steps) c.in_ok-behind.behind (c.in_ok-behind.ensures (length (rest_code (step_of c.args.steps.step)) + 4) four)
    c.in_ok-put_nearer.ensures.puts c.in_ok-put.ensures.puts c.in_ok-put-2.ensures.puts c.in_ok-put_nearest.ensures.puts q)
    c.put-3.ensures.puts
