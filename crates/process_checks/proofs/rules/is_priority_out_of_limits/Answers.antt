use Rattle.std.proofs.Common.{ap, ◌∙◌}
use Rattle.modes.specs.ModeTree.{mode_tree}
use Rattle.process_checks.specs.Waiting.{is_outside_limits}
use Rattle.process_checks.proofs.Limits.{within}
use Rattle.process_checks.proofs.rules.is_priority_out_of_limits.Goals as goal

pub returns-else-goes_not_with : goal.returns-else-goes_not_with
returns-else-goes_not_with c = λ whole d v known.
    within c.tests_law.ensures.goes_with d v c.args.priority.now (mode_tree c.args.int.now) c.goes_not_with.result c.is_outside_limits.result whole known c.goes_not_with.ensures c.if-goes_not_with.false
    (c.is_outside_limits.ensures ∙ ap is_outside_limits c.number.ensures)
