-- What the lexer finds at the front of a text.
use Rattle.std.specs.Prelude.{◌≡◌, ℕ, ◌+◌, ◌⊎◌, Bool, false, ◌==◌, ◌&&◌, ◌||◌, List, [], ◌∷◌, take, Option, Some, None}
use Rattle.chill_base.specs.declared.pos.Pos.{Pos}
use Rattle.chill_tree.specs.declared.token.Token.{Token}
use Rattle.chill_lexer.specs.declared.front.Front.{Front}
use Rattle.chill_lexer.specs.declared.front.Front.TheVariants as fronts
use Rattle.chill_lexer.specs.Runs.{IsPut}
use Rattle.rules_model.specs.TokensShapes.{between}
use Rattle.rules_model.specs.TokensCut.{behind_all}
use Rattle.rules_model.specs.TokensReading.{begins_with, piece_at}

-- the two bytes stand at the front
abbrev pub starts : ℕ → ℕ → List ℕ → Bool
starts a b [] = false
starts a b (c ∷ cs) = c == a && begins_with b cs

-- it is a separator or a comment, and the place behind it is right; or no piece begins
abbrev pub IsBetween : Pos → List ℕ → Front → Type 0
IsBetween at text (fronts.Between length behind) = (piece_at text ≡ Some (between, length)) × (behind ≡ behind_all at (take length text))
IsBetween at text (fronts.Token length) = ⊥
IsBetween at text fronts.Bad = piece_at text ≡ None

-- it is the piece there, or no piece begins; a token stands behind the others, and else there is no token more
abbrev pub IsFront : Pos → List ℕ → List Token → List Token → Front → Type 0
IsFront at text old new (fronts.Between length behind) = IsBetween at text (fronts.Between length behind) × (new ≡ old)
IsFront at text old new (fronts.Token length) = IsPut at (piece_at text) old new (Some length)
IsFront at text old new fronts.Bad = piece_at text ≡ None

-- it is a token of so many bytes, which stands behind the others, or separates within a line, and there is no token more
abbrev pub IsAlong : Pos → List ℕ → List Token → List Token → ℕ → Type 0
IsAlong at text old new n =
    IsPut at (piece_at text) old new (Some n)
    ⊎ ((piece_at text ≡ Some (between, n)) × (record { line = at.line; column = at.column + n } ≡ behind_all at (take n text)) × (new ≡ old))

-- a token of so many bytes, or none
abbrev pub of_token : Option ℕ → Front
of_token None = fronts.Bad
of_token (Some length) = fronts.Token length

-- two bytes can be a sign of two, or begin a comment, where the second is this
abbrev pub goes_on : ℕ → Bool
goes_on b = b == 61 || b == 45 || b == 42
