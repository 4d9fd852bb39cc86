use Rattle.std.proofs.lemmas.Result.{on_ok_weaker}
use Rattle.action_gen.specs.Counting.{steps_of}
use Rattle.action_gen.proofs.Controls.{first_test_made}
use Rattle.action_gen.proofs.steps.put_first_test.Goals as goal

pub returns-clause-puts : goal.returns-clause-puts
returns-clause-puts c =
    on_ok_weaker c.put_branch.result (λ q. first_test_made (steps_of c.args.steps) c.args.behind c.in_ok-put_before.ensures.puts q) c.put_branch.ensures.puts
