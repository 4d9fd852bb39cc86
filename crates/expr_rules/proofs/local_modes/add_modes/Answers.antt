use Rattle.std.proofs.Common.{◌∙◌, ◌-◌, ◌+◌, refl, arith}
use Rattle.constant_operators.specs.Grounds.{ground_of}
use Rattle.expr_rules.proofs.Counting.{counted_more}
use Rattle.expr_rules.proofs.local_modes.add_modes.Goals as goal

pub loop-number-preserved : goal.loop-number-preserved
loop-number-preserved c = λ has.
    let before = c.loop-number.invariant has in
    let step = c.in_ok-add_mode.ensures before.0.kept in
    let number = c.loop-number.number in
    let count = c.in-Ok.count in (
      record { names = step.names ∙ before.0.names; origins = step.origins ∙ before.0.origins; ground = refl; kept = step.kept },
      counted_more (ground_of c.loop-number.evaluation) (ground_of c.add_mode.new.evaluation) number (count - (number + 1)) (count - number) (omega arith) step.ground ∙ before.1,
    )
