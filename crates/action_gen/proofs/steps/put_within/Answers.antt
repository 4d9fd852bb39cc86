use Rattle.std.proofs.Common.{Some, ap, ◌∙◌, Option}
use Rattle.std.proofs.lemmas.Result.{on_ok_weaker}
use Rattle.modes.specs.declared.mode.Bounds.{Bounds}
use Rattle.program_trees.specs.ExprTree.{expr_tree}
use Rattle.code_scheme.specs.Pieces.{bounds_to_test}
use Rattle.action_gen.specs.Putting.{standing_of}
use Rattle.action_gen.proofs.Controls.{within_made}
use Rattle.action_gen.proofs.steps.put_within.Goals as goal

pub returns-clause-puts : goal.returns-clause-puts
returns-clause-puts c =
    let tested = c.bounds_to_test.ensures ∙ ap (λ (own : Option Bounds). bounds_to_test (Some c.args.bounds) own) c.bounds_of_value.ensures in
    let check = rw tested at c.put_check.ensures.puts in
    on_ok_weaker c.put_check.result (λ q. within_made (standing_of c.args.around.now) c.args.bounds (expr_tree c.args.value.now) c.in_ok-put_expr.ensures.puts q) check
