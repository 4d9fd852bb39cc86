use Rattle.std.proofs.Common.{◌≡◌, ◌-◌, length}
use Rattle.constant_operators.specs.Grounds.{ground_of, HasGround}
use Rattle.order_laws.specs.Counted.{counted}
use Rattle.expr_rules.specs.Counted.{IsCounted}
use Rattle.expr_rules.proofs.local_modes.add_modes.Given as goal

-- what is counted from here on is what is counted from the first
abbrev pub invariant-loop-number : goal.invariant-loop-number
invariant-loop-number l = HasGround l.fn.evaluation →
    IsCounted l.fn.evaluation l.evaluation (ground_of l.evaluation)
    × (counted (ground_of l.evaluation) l.number (l.count - l.number) ≡ counted (ground_of l.fn.evaluation) 0 l.count)
