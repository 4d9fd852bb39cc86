use Rattle.chill_tree.specs.ExprTree.{expr_trees}
use Rattle.class_operators.specs.Predefined.{predefined_tree}
use Rattle.constant_operators.specs.Grounds.{ground_of}
use Rattle.mode_rules.proofs.Calls.{routine_told}
use Rattle.mode_rules.proofs.actions.tell_in_routine.Goals as goal

pub returns : goal.returns
returns c = λ ready is.
    routine_told (ground_of c.args.ground.now) c.args.name.now (expr_trees c.args.args.now) (predefined_tree c.args.own) c.args.told.now c.routine.new.told _ is (c.in_ok-_found.ensures ready.keeps)
