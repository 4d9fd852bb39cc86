use Rattle.std.proofs.Common.{◌≡◌, ℕ, ◌<◌, Some}
use Rattle.std.specs.Prelude.{slice_get}
use Rattle.chill_tree.specs.declared.token.Token.{Token}
use Rattle.chill_parser.proofs.program.stands_at.Given as goal

-- no token so far stands there
abbrev pub invariant-loop-token : goal.invariant-loop-token
invariant-loop-token l = (k : ℕ) (t : Token) → k < l.token-index → slice_get l.tokens k ≡ Some t → t.at ≡ l.at → ⊥
