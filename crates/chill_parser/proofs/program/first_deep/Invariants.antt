use Rattle.std.proofs.Common.{◌≡◌, ◌+◌, ◌≤◌, drop}
use Rattle.rules_model.specs.Nesting.{first_deep}
use Rattle.chill_parser.proofs.program.first_deep.Given as goal

-- what is still looked for is what was looked for at the start, and each token leaves one level more at most
abbrev pub invariant-loop-token : goal.invariant-loop-token
invariant-loop-token l = (first_deep l.room (drop l.token-index l.tokens) ≡ first_deep 65 l.tokens) × (l.room ≤ 65 + l.token-index)
