-- A canonical text is read as the tokens that it was written from.
use Rattle.std.specs.Prelude.{◌≡◌, ℕ, List}
use Rattle.chill_tree.specs.declared.token.Token.{Token}
use Rattle.rules_model.specs.TreeTokens.{Kinds}
use Rattle.rules_model.specs.TokensCut.{AreTokensOf}
use Rattle.tree_print.specs.Canonical.{token_kinds, canonical_text}

-- the text has tokens, and they are of these kinds
pub record IsReadAs (text : List ℕ) (kinds : Kinds) : Type 0 where
  pub tokens : List Token
  pub read : AreTokensOf text tokens
  pub same : token_kinds tokens ≡ kinds

-- what is written of the tokens of any text is read as tokens of the same kinds
abbrev pub ReadBackLaw : Type 0
ReadBackLaw = (text : List ℕ) (tokens : List Token) → AreTokensOf text tokens → IsReadAs (canonical_text (token_kinds tokens)) (token_kinds tokens)

-- what was written is written again as it is
abbrev pub WrittenAgainLaw : Type 0
WrittenAgainLaw = (text : List ℕ) (tokens others : List Token) → AreTokensOf text tokens → AreTokensOf (canonical_text (token_kinds tokens)) others → canonical_text (token_kinds others) ≡ canonical_text (token_kinds tokens)
