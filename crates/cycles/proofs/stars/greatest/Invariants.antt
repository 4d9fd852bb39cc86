use Rattle.std.proofs.Common.{◌≤◌, All, take}
use Rattle.cycles.proofs.stars.greatest.Given as goal

-- the greatest so far
abbrev pub invariant-loop-number : goal.invariant-loop-number
invariant-loop-number l = (l.fn.least ≤ l.greatest) × All (λ n. n ≤ l.greatest) (take l.number-index l.numbers)
