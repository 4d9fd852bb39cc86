use Rattle.modes.specs.ModeTree.{mode_tree, class_tree}
use Rattle.checks_model.specs.Alike as alike
use Rattle.class_operators.proofs.Told.{by_test}
use Rattle.class_operators.proofs.classes.goes.Goals as goal

pub returns : goal.returns
returns c = by_test c.goes_with.result (alike.goes_with (class_tree c.args.class.now) (mode_tree c.args.mode.now)) (c.tests_law.ensures.goes_with (class_tree c.args.class.now) (mode_tree c.args.mode.now)) c.goes_with.ensures
