-- The text literals among the tokens of a text have at most 256 bytes.
use Rattle.std.proofs.Common.{◌≡◌, ℕ, Bool, true, false, List, [], ◌∷◌, ◌++◌, length, Option, Some, None, refl, sym, subst}
use Rattle.std.proofs.lemmas.Bool.{leb-true}
use Rattle.std.specs.Prelude.{nat_le, nat_lt, ◌^◌, if◌then◌else◌}
use Rattle.chill_base.specs.declared.pos.Pos.{Pos}
use Rattle.chill_tree.specs.declared.token.Token.{Token}
use Rattle.chill_tree.specs.declared.token.Word.{Word}
use Rattle.chill_tree.specs.declared.token.TokenKind.TheVariants as kinds
use Rattle.chill_tree.specs.Spelling.{word_of}
use Rattle.rules_model.specs.TokensShapes.{Shape, separator, comment, unclosed, name, whole, character, text, sign, Piece, between, token, named, piece_of}
use Rattle.rules_model.specs.TokensCut.{behind_all, first_place, Cut, ArePieces, own_token, tokens_among, AreTokensOf}
use Rattle.elaborated_laws.proofs.Told.{no_some, same_some}
use Rattle.written_laws.proofs.Shown.{IsShortKind, AreShortTokens}

abbrev IsShortPiece : Piece → Type 0
IsShortPiece between = Unit {0}
IsShortPiece (token k) = IsShortKind k

name_short : (bytes : List ℕ) (w : Option Word) → IsShortKind (named bytes w)
name_short bytes (Some w) = tt
name_short bytes None = tt

limited : (b : Bool) (p q : Piece) → (b ≡ true → IsShortPiece p) → (if b then Some p else None) ≡ Some q → IsShortPiece q
limited true p q short is = subst IsShortPiece (same_some p q is) (short refl)
limited false p q short is = no_some q is

shape_short : (s : Shape) (p : Piece) → piece_of s ≡ Some p → IsShortPiece p
shape_short separator p is = subst IsShortPiece (same_some between p is) tt
shape_short comment p is = subst IsShortPiece (same_some between p is) tt
shape_short unclosed p is = no_some p is
shape_short (name bytes) p is = limited (nat_le (length bytes) 64) (token (named bytes (word_of bytes))) p (λ fits. name_short bytes (word_of bytes)) is
shape_short (whole n) p is = limited (nat_lt n (2 ^ 64)) (token (kinds.Whole n)) p (λ fits. tt) is
shape_short (character b) p is = subst IsShortPiece (same_some (token (kinds.Char b)) p is) tt
shape_short (text value) p is = limited (nat_le (length value) 256) (token (kinds.Text value)) p (λ fits. leb-true (length value) 256 fits) is
shape_short (sign s) p is = subst IsShortPiece (same_some (token (kinds.Sign s)) p is) tt

own_short : (at : Pos) (p : Piece) (ts : List Token) → IsShortPiece p → AreShortTokens ts → AreShortTokens (own_token at p ++ ts)
own_short at between ts short rest = rest
own_short at (token k) ts short rest = (short, rest)

among_short : (at : Pos) (cuts : List Cut) (rest : List ℕ) → ArePieces cuts rest → AreShortTokens (tokens_among at cuts)
among_short at [] rest pieces = tt
among_short at (c ∷ cuts) rest pieces =
    own_short at c.piece (tokens_among (behind_all at c.bytes) cuts) (shape_short pieces.0.shape c.piece pieces.0.is) (among_short (behind_all at c.bytes) cuts rest pieces.1)

pub tokens_short : (bytes : List ℕ) (tokens : List Token) → AreTokensOf bytes tokens → AreShortTokens tokens
tokens_short bytes tokens are = subst AreShortTokens (sym are.are) (among_short first_place are.cuts [] are.pieces)
