-- The tokens of a text: the text is cut into pieces, each the longest at its place.
use Rattle.std.specs.Prelude.{◌≡◌, ◌≢◌, ℕ, ◌+◌, ◌==◌, List, [], ◌∷◌, ◌++◌, Some, if◌then◌else◌}
use Rattle.chill_base.specs.declared.pos.Pos.{Pos}
use Rattle.chill_tree.specs.declared.token.Token.{Token}
use Rattle.rules_model.specs.TokensShapes.{Shape, IsLongest, Piece, between, token, piece_of}

-- the place behind a byte: a column counts bytes, and a line ends at a line feed
abbrev pub behind : Pos → ℕ → Pos
behind at b = if b == 10 then record { line = at.line + 1; column = 1 } else record { line = at.line; column = at.column + 1 }

-- the place behind some bytes
abbrev pub behind_all : Pos → List ℕ → Pos
behind_all at [] = at
behind_all at (b ∷ bs) = behind_all (behind at b) bs

abbrev pub first_place : Pos
first_place = record { line = 1; column = 1 }

-- a piece as it stands at the front of a text
pub record IsPieceAt (piece : Piece) (front rest : List ℕ) : Type 0 where
  pub shape : Shape
  pub longest : IsLongest shape front rest
  pub is : piece_of shape ≡ Some piece

-- a piece of a cut: its bytes and what it is
pub record Cut : Type 0 where
  pub bytes : List ℕ
  pub piece : Piece

-- the pieces joined
abbrev pub joined : List Cut → List ℕ
joined [] = []
joined (cut ∷ cuts) = cut.bytes ++ joined cuts

-- each piece stands before the next ones and the rest
abbrev pub ArePieces : List Cut → List ℕ → Type 0
ArePieces [] rest = Unit {0}
ArePieces (cut ∷ cuts) rest = IsPieceAt cut.piece cut.bytes (joined cuts ++ rest) × ArePieces cuts rest

-- the token that a piece is
abbrev pub own_token : Pos → Piece → List Token
own_token at between = []
own_token at (token kind) = record { at = at; kind = kind } ∷ []

-- the tokens among the pieces, each at its place
abbrev pub tokens_among : Pos → List Cut → List Token
tokens_among at [] = []
tokens_among at (cut ∷ cuts) = own_token at cut.piece ++ tokens_among (behind_all at cut.bytes) cuts

-- the tokens of a text
pub record AreTokensOf (text : List ℕ) (tokens : List Token) : Type 0 where
  pub cuts : List Cut
  pub whole : text ≡ joined cuts
  pub pieces : ArePieces cuts []
  pub are : tokens ≡ tokens_among first_place cuts

-- no piece begins at the front
abbrev pub BeginsNone : List ℕ → Type 0
BeginsNone bytes = (piece : Piece) (front rest : List ℕ) → front ++ rest ≡ bytes → IsPieceAt piece front rest → ⊥

-- the first place of a text where no piece begins
pub record IsBadAt (text : List ℕ) (at : Pos) : Type 0 where
  pub cuts : List Cut
  pub bad : List ℕ
  pub whole : text ≡ joined cuts ++ bad
  pub pieces : ArePieces cuts bad
  pub some : bad ≢ []
  pub none : BeginsNone bad
  pub place : at ≡ behind_all first_place (joined cuts)
