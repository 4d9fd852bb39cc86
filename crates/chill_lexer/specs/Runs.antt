-- What the lexer's own functions say beside the definition.
use Rattle.std.specs.Prelude.{◌≡◌, ◌++◌, ℕ, Bool, false, ◌==◌, ◌&&◌, ◌||◌, List, [], ◌∷◌, Option, Some, None}
use Rattle.chill_base.specs.declared.pos.Pos.{Pos}
use Rattle.chill_tree.specs.declared.token.Token.{Token}
use Rattle.chill_tree.specs.declared.token.TokenKind.{TokenKind}
use Rattle.rules_model.specs.TokensShapes.{Piece, token, is_separator, is_letter, is_decimal}
use Rattle.rules_model.specs.TokensReading.{is_digit}

-- a `_` stands at the front, and a digit behind it
abbrev pub is_apart : ℕ → List ℕ → Bool
is_apart base (b ∷ c ∷ bs) = b == 95 && is_digit base c
is_apart base bs = false

-- a digit stands at the front
abbrev pub begins_numeral : ℕ → List ℕ → Bool
begins_numeral base [] = false
begins_numeral base (b ∷ bs) = is_digit base b

-- the token that the piece is stands behind the others, and has so many bytes; or there is no piece
abbrev pub IsPut : Pos → Option (Piece × ℕ) → List Token → List Token → Option ℕ → Type 0
IsPut at piece old new None = piece ≡ None
IsPut at piece old new (Some length) = (kind : TokenKind) × (piece ≡ Some (token kind, length)) × (new ≡ old ++ record { at = at; kind = kind } ∷ [])

-- the piece that a token is, if any
abbrev pub as_token : Option (TokenKind × ℕ) → Option (Piece × ℕ)
as_token None = None
as_token (Some found) = Some (token found.0, found.1)

-- no sign begins with the byte, but a separator, a name or a literal
abbrev pub begins_other : ℕ → Bool
begins_other b = is_separator b || is_letter b || is_decimal b || b == 39 || b == 34
