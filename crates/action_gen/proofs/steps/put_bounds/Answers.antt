use Rattle.std.specs.Prelude.{option_map}
use Rattle.std.proofs.lemmas.Result.{on_ok_weaker}
use Rattle.program_trees.specs.ExprTree.{expr_tree, boxed_expr}
use Rattle.action_gen.specs.Putting.{standing_of}
use Rattle.action_gen.proofs.Controls.{bounds_made}
use Rattle.action_gen.proofs.steps.put_bounds.Goals as goal

pub returns-clause-puts : goal.returns-clause-puts
returns-clause-puts c =
    let kept = rw c.steps_kept.ensures at c.put.ensures.puts in
    on_ok_weaker c.put.result
    (λ q. bounds_made (standing_of c.args.around.now) (expr_tree c.args.start.now) (option_map boxed_expr c.args.step.now) (expr_tree c.args.end.now)
    c.in_ok-put_within.ensures.puts c.in_ok-put_own_step.ensures.puts c.in_ok-put_within-2.ensures.puts q)
    kept
