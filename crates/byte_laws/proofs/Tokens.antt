-- The characters and the text literals among the tokens of a text of bytes are bytes.
use Rattle.std.proofs.Common.{◌≡◌, ℕ, Bool, true, false, List, [], ◌∷◌, ◌++◌, length, Option, Some, None, refl, sym, subst, arith}
use Rattle.std.proofs.lemmas.Bool.{eqb-true}
use Rattle.std.specs.Prelude.{◌==◌, nat_le, nat_lt, ◌^◌, if◌then◌else◌}
use Rattle.chill_base.specs.declared.pos.Pos.{Pos}
use Rattle.chill_tree.specs.declared.token.Token.{Token}
use Rattle.chill_tree.specs.declared.token.Word.{Word}
use Rattle.chill_tree.specs.declared.token.TokenKind.{TokenKind}
use Rattle.chill_tree.specs.declared.token.TokenKind.TheVariants as kinds
use Rattle.chill_tree.specs.Spelling.{word_of}
use Rattle.rules_model.specs.TokensShapes.{Shape, separator, comment, unclosed, name, whole, character, text, sign, Spells, a_character, an_apostrophe, a_text, quoted, Piece, between, token, named, piece_of}
use Rattle.rules_model.specs.TokensCut.{behind_all, first_place, Cut, joined, ArePieces, own_token, tokens_among, AreTokensOf}
use Rattle.rules_model.specs.TreeTokens.{Kinds}
use Rattle.tree_print.specs.Canonical.{token_kinds}
use Rattle.elaborated_laws.proofs.Told.{no_some, same_some}
use Rattle.written_laws.specs.Written.{Each}
use Rattle.byte_laws.specs.Bytes.{IsByte}

-- what holds of each of two lists joined holds of each of either
bytes_first : (xs ys : List ℕ) → Each IsByte (xs ++ ys) → Each IsByte xs
bytes_first [] ys each = tt
bytes_first (x ∷ xs) ys each = (each.0, bytes_first xs ys each.1)

bytes_later : (xs ys : List ℕ) → Each IsByte (xs ++ ys) → Each IsByte ys
bytes_later [] ys each = each
bytes_later (x ∷ xs) ys each = bytes_later xs ys each.1

-- a token of bytes
abbrev pub IsByteKind : TokenKind → Type 0
IsByteKind (kinds.Char b) = IsByte b
IsByteKind (kinds.Text s) = Each IsByte s
IsByteKind k = Unit {0}

abbrev pub Fine : Kinds → Type 0
Fine ks = Each IsByteKind ks

-- kinds joined one behind the other
abbrev pub chain : Kinds → List Kinds → Kinds
chain ks [] = ks
chain ks (ls ∷ more) = chain (ks ++ ls) more

first_of : (xs ys : Kinds) → Fine (xs ++ ys) → Fine xs
first_of [] ys fine = tt
first_of (x ∷ xs) ys fine = (fine.0, first_of xs ys fine.1)

later_of : (xs ys : Kinds) → Fine (xs ++ ys) → Fine ys
later_of [] ys fine = fine
later_of (x ∷ xs) ys fine = later_of xs ys fine.1

-- tokens of bytes, piece by piece
pub pieces : (ks : Kinds) (more : List Kinds) → Fine (chain ks more) → Fine ks × Each Fine more
pieces ks [] fine = (fine, tt)
pieces ks (ls ∷ more) fine = let p = pieces (ks ++ ls) more fine in (first_of ks ls p.0, (later_of ks ls p.0, p.1))

abbrev IsBytePiece : Piece → Type 0
IsBytePiece between = Unit {0}
IsBytePiece (token k) = IsByteKind k

name_bytes : (bytes : List ℕ) (w : Option Word) → IsByteKind (named bytes w)
name_bytes bytes (Some w) = tt
name_bytes bytes None = tt

limited : (b : Bool) (p q : Piece) → IsBytePiece p → (if b then Some p else None) ≡ Some q → IsBytePiece q
limited true p q fits is = subst IsBytePiece (same_some p q is) fits
limited false p q fits is = no_some q is

char_byte : {b : ℕ} {front : List ℕ} → Spells (character b) front → Each IsByte front → IsByte b
char_byte (a_character line other) each = each.1.0
char_byte an_apostrophe each = each.0

unquoted : (bs : List ℕ) → Each IsByte (quoted bs) → Each IsByte bs
unquoted [] each = tt
unquoted (b ∷ bs) each = by (b == 34) refl (λ more. unquoted bs more) each
  where
    by : (c : Bool) → (b == 34) ≡ c → (Each IsByte (quoted bs) → Each IsByte bs) → Each IsByte (if c then 34 ∷ 34 ∷ quoted bs else b ∷ quoted bs) → Each IsByte (b ∷ bs)
    by true is rest each = (let own = eqb-true b 34 is in omega (arith, own), rest each.1.1)
    by false is rest each = (each.0, rest each.1)

text_bytes : {value front : List ℕ} → Spells (text value) front → Each IsByte front → Each IsByte value
text_bytes (a_text {value = value} line) each = unquoted value (bytes_first (quoted value) (34 ∷ []) each.1)

shape_bytes : (s : Shape) (p : Piece) (front : List ℕ) → Spells s front → Each IsByte front → piece_of s ≡ Some p → IsBytePiece p
shape_bytes separator p front spells each is = subst IsBytePiece (same_some between p is) tt
shape_bytes comment p front spells each is = subst IsBytePiece (same_some between p is) tt
shape_bytes unclosed p front spells each is = no_some p is
shape_bytes (name bytes) p front spells each is = limited (nat_le (length bytes) 64) (token (named bytes (word_of bytes))) p (name_bytes bytes (word_of bytes)) is
shape_bytes (whole n) p front spells each is = limited (nat_lt n (2 ^ 64)) (token (kinds.Whole n)) p tt is
shape_bytes (character b) p front spells each is = subst IsBytePiece (same_some (token (kinds.Char b)) p is) (char_byte spells each)
shape_bytes (text value) p front spells each is = limited (nat_le (length value) 256) (token (kinds.Text value)) p (text_bytes spells each) is
shape_bytes (sign s) p front spells each is = subst IsBytePiece (same_some (token (kinds.Sign s)) p is) tt

own_bytes : (at : Pos) (p : Piece) (ts : List Token) → IsBytePiece p → Fine (token_kinds ts) → Fine (token_kinds (own_token at p ++ ts))
own_bytes at between ts fits rest = rest
own_bytes at (token k) ts fits rest = (fits, rest)

among_bytes : (at : Pos) (cuts : List Cut) (rest : List ℕ) → ArePieces cuts rest → Each IsByte (joined cuts) → Fine (token_kinds (tokens_among at cuts))
among_bytes at [] rest pieces each = tt
among_bytes at (c ∷ cuts) rest pieces each =
    own_bytes at c.piece (tokens_among (behind_all at c.bytes) cuts)
    (shape_bytes pieces.0.shape c.piece c.bytes pieces.0.longest.spells (bytes_first c.bytes (joined cuts) each) pieces.0.is)
    (among_bytes (behind_all at c.bytes) cuts rest pieces.1 (bytes_later c.bytes (joined cuts) each))

pub tokens_bytes : (bytes : List ℕ) (tokens : List Token) → AreTokensOf bytes tokens → Each IsByte bytes → Fine (token_kinds tokens)
tokens_bytes bytes tokens are each =
    subst (λ ts. Fine (token_kinds ts)) (sym are.are) (among_bytes first_place are.cuts [] are.pieces (subst (Each IsByte) are.whole each))
