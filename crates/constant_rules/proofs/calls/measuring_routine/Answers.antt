use Rattle.std.proofs.Common.{◌≡◌, Some, None, rules}
use Rattle.chill_tree.specs.ExprTree.{expr_tree}
use Rattle.modes.specs.ModeTree.{mode_tree}
use Rattle.class_operators.specs.Predefined.{predefined_tree}
use Rattle.checks_model.specs.Classes.{measured, a_mode_of, misfit, other}
use Rattle.constant_operators.specs.Grounds.{ground_of}
use Rattle.constant_operators.proofs.LaidParts.{measured_laid}
use Rattle.constant_rules.proofs.OfMeasures.{measured_so, mode_laid}
use Rattle.constant_rules.proofs.calls.measuring_routine.Goals as goal

pub returns-in-Broken : goal.returns-in-Broken
returns-in-Broken c = λ ground own f t d v h.
    let same : a_mode_of None ≡ measured (ground_of c.args.ground.now) (expr_tree c.args.arg.now) = search rules in
    measured_so (predefined_tree c.args.own) (a_mode_of None) (measured (ground_of c.args.ground.now) (expr_tree c.args.arg.now)) c.args.at f t d c.args.told.now c.args.told.now c.of_broken.result same
    (c.of_broken.ensures c.args.at (predefined_tree c.args.own) f t d c.args.told.now h.is_clean)

pub returns-in_ok-measured-in-Mode : goal.returns-in_ok-measured-in-Mode
returns-in_ok-measured-in-Mode c = λ ground own f t d v h.
    let n = measured (ground_of c.args.ground.now) (expr_tree c.args.arg.now) in
    let m = mode_tree c.in-Mode.mode.value in
    let same : a_mode_of (Some m) ≡ n = search rules in
    measured_so (predefined_tree c.args.own) (a_mode_of (Some m)) n c.args.at f t d c.args.told.now c.of_mode.new.told c.in_ok-measured-in-Mode.measured same
    (c.in_ok-measured-in-Mode.ensures ground own (mode_laid m n same (measured_laid c.args.ground.now (expr_tree c.args.arg.now) ground)) f t d h.is_clean)

pub returns-in_ok-part-in-Misfit : goal.returns-in_ok-part-in-Misfit
returns-in_ok-part-in-Misfit c = λ ground own f t d v h.
    let n = measured (ground_of c.args.ground.now) (expr_tree c.args.arg.now) in
    let same : misfit ≡ n = search rules in
    measured_so (predefined_tree c.args.own) misfit n c.args.at f t d c.args.told.now c.of_misfit.new.told c.in_ok-part-in-Misfit.part same (c.in_ok-part-in-Misfit.ensures (predefined_tree c.args.own) f t d h.is_clean)

pub returns-in_ok-other-in-Other : goal.returns-in_ok-other-in-Other
returns-in_ok-other-in-Other c = λ ground own f t d v h.
    let n = measured (ground_of c.args.ground.now) (expr_tree c.args.arg.now) in
    let same : other ≡ n = search rules in
    measured_so (predefined_tree c.args.own) other n c.args.at f t d c.args.told.now c.of_other.new.told c.in_ok-other-in-Other.other same (c.in_ok-other-in-Other.ensures (predefined_tree c.args.own) f t d v h)
