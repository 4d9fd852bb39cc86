use Rattle.std.proofs.Common.{true, ◌+◌, arith}
use Rattle.std.proofs.lemmas.Result.{on_ok_weaker}
use Rattle.program_trees.specs.ExprTree.{expr_tree}
use Rattle.code_scheme.specs.ExprSizes.{condition_size}
use Rattle.action_gen.specs.Putting.{standing_of}
use Rattle.action_gen.proofs.Asked.{assert_told}
use Rattle.action_gen.proofs.plain.put_assert.Goals as goal

pub returns-clause-puts : goal.returns-clause-puts
returns-clause-puts c =
    on_ok_weaker c.put.result
    (λ q. assert_told (standing_of c.args.around.now) (expr_tree c.args.condition.now) _ (c.in_ok-target_behind.ensures (condition_size (expr_tree c.args.condition.now) true + 1) (omega (arith, c.condition_size.ensures, c.saturating_add-size.ensures))) c.in_ok-put_condition.ensures.puts q)
    c.put.ensures.puts
