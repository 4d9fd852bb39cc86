use Rattle.std.proofs.Common.{rules}
use Rattle.chill_tree.specs.ItemTree.{program_tree}
use Rattle.constant_operators.specs.Grounds.{ground_of}
use Rattle.mode_rules.proofs.Sites.{program_so}
use Rattle.mode_rules.proofs.phase.told_of_program.Goals as goal

pub returns : goal.returns
returns c = λ ready. program_so (ground_of c.args.ground.now) (program_tree c.args.tree.now) _ (search rules)
