use Rattle.modes.specs.ModeTree.{class_tree}
use Rattle.checks_model.specs.Alike.{are_compatible}
use Rattle.class_operators.proofs.Told.{by_test}
use Rattle.class_operators.proofs.classes.fit.Goals as goal

pub returns : goal.returns
returns c = by_test c.compatible.result (are_compatible (class_tree c.args.left.now) (class_tree c.args.right.now)) (c.tests_law.ensures.compatible (class_tree c.args.left.now) (class_tree c.args.right.now)) c.compatible.ensures
