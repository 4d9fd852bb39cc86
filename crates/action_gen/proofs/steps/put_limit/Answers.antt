use Rattle.std.proofs.Common.{sym, ◌∙◌}
use Rattle.std.proofs.lemmas.Result.{on_ok_weaker}
use Rattle.action_gen.specs.Counting.{steps_of}
use Rattle.action_gen.proofs.Controls.{no_limit, limit_made}
use Rattle.action_gen.proofs.steps.put_limit.Goals as goal

pub returns-then-is_one-clause-puts : goal.returns-then-is_one-clause-puts
returns-then-is_one-clause-puts c = no_limit (steps_of c.args.steps) _ (sym c.is_one.ensures ∙ c.if-is_one.true)

pub returns-clause-puts : goal.returns-clause-puts
returns-clause-puts c =
    on_ok_weaker c.put_moved_end.result (λ q. limit_made (steps_of c.args.steps) (sym c.is_one.ensures ∙ c.if-is_one.false) c.in_ok-put_near_end.ensures.puts q) c.put_moved_end.ensures.puts
