use Rattle.chill_tree.specs.ModeTree as written
use Rattle.written_modes.specs.Wholes.{is_whole, tree_there}
use Rattle.written_modes.proofs.FewLemmas.{laid_there, few_there}
use Rattle.written_modes.proofs.written.written_mode.Goals as goal

pub returns-clause-laid : goal.returns-clause-laid
returns-clause-laid c = λ h f.
    laid_there c.found_modes_law.ensures.laid c.args.ground.now h (is_whole c.args.standing) (written.mode_tree c.args.mode.now) (tree_there c.in_ok-found.found) (c.in_ok-found.ensures.mode h f)

pub returns-clause-few : goal.returns-clause-few
returns-clause-few c = λ h f.
    few_there c.found_modes_law.ensures.few c.args.ground.now f (is_whole c.args.standing) (written.mode_tree c.args.mode.now) (tree_there c.in_ok-found.found) (c.in_ok-found.ensures.mode h f)
