-- How far a burst has come: the ticks that are left, and what is left before the next tick.
use Rattle.std.proofs.Common.{◌≡◌, ℕ, ◌+◌, ◌*◌, ◌<◌, subst, arith}
use Rattle.code_types.specs.declared.code.Code.{Code}
use Rattle.code_types.specs.State.{State}
use Rattle.code_types.specs.Steps.{Goes, move}
use Rattle.code_safety.specs.Standing.{StandsOn}
use Rattle.code_safety.specs.Weights.{most_weight, weight}
use Rattle.code_safety.proofs.Falling.{weighs}
use Rattle.code_safety.proofs.StandingOn.{falls_going}

-- each tick that is left weighs more than any process
abbrev pub burst_weight : Code → ℕ → State → ℕ
burst_weight code left s = left * (most_weight code + 1) + weight code s

-- a step without a tick
pub goes_falls : (code : Code) (left : ℕ) (s next : State) → StandsOn code s → move code s ≡ Goes next → burst_weight code left next < burst_weight code left s
goes_falls code left s next stands e = let falls = falls_going code s next stands e in omega arith

-- a tick
pub makes_falls : (code : Code) (left fewer : ℕ) (s next : State) → StandsOn code next → fewer + 1 ≡ left → burst_weight code fewer next < burst_weight code left s
makes_falls code left fewer s next stands e =
    let low = weighs code stands.0 next stands.1 in
    subst (λ (n : ℕ). burst_weight code fewer next < burst_weight code n s) e (omega arith)
