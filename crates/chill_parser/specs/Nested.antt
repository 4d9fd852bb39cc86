-- The token at which the nesting first reaches a bound.
use Rattle.std.specs.Prelude.{◌≡◌, ℕ, ◌<◌, pos, List, length, slice_get, Some}
use Rattle.chill_base.specs.declared.pos.Pos.{Pos}
use Rattle.chill_tree.specs.declared.token.Token.{Token}
use Rattle.rules_model.specs.Nesting.{nesting_at}

-- The nesting is n at token k, which stands at this place, and it isn't n at any token before.
pub record ReachesFirst (n : ℕ) (toks : List Token) (at : Pos) : Type 0 where
  pub k : ℕ
  pub token : Token
  pub here : slice_get toks k ≡ Some token
  pub place : token.at ≡ at
  pub reached : nesting_at toks k ≡ pos n
  pub before : (j : ℕ) → j < k → nesting_at toks j ≡ pos n → ⊥

-- the nesting is n at no token
abbrev pub NeverReaches : ℕ → List Token → Type 0
NeverReaches n toks = (k : ℕ) → k < length toks → nesting_at toks k ≡ pos n → ⊥
