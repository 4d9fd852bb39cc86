use Rattle.std.proofs.Common.{◌≡◌, ◌∙◌, ◌++◌, ap}
use Rattle.chill_tree.specs.ExprTree.{expr_trees}
use Rattle.constant_operators.specs.Grounds.{ground_of}
use Rattle.mode_rules.proofs.Calls.{action_told}
use Rattle.mode_rules.proofs.actions.tell_in_arguments.Goals as goal

pub returns : goal.returns
returns c = λ ready none.
    c.in_ok-tell_in_all.ensures ready ∙ ap (λ ds. c.args.told.now ++ ds) (action_told (ground_of c.args.ground.now) c.args.name.now (expr_trees c.args.args.now) none)
