-- What the pieces of a text look like (Z.200, chapter on the lexical elements).
use Rattle.std.specs.Prelude.{◌≡◌, ◌≢◌, ℕ, ◌+◌, ◌-◌, ◌*◌, ◌<◌, ◌≤◌, ◌^◌, nat_le, nat_lt, Bool, true, false, ◌==◌, ◌&&◌, ◌||◌, List, [], ◌∷◌, ◌++◌, length, Option, Some, None, if◌then◌else◌, fold, codes}
use Rattle.std.specs.List.{list_all}
use Rattle.chill_tree.specs.declared.token.Sign.{Sign}
use Rattle.chill_tree.specs.declared.token.Word.{Word}
use Rattle.chill_tree.specs.declared.token.TokenKind.{TokenKind}
use Rattle.chill_tree.specs.declared.token.TokenKind.TheVariants as kinds
use Rattle.chill_tree.specs.Spelling.{sign_spelling, word_of}

-- blank, tab, line feed, carriage return
abbrev pub is_separator : ℕ → Bool
is_separator b = b == 32 || b == 9 || b == 10 || b == 13

abbrev pub is_letter : ℕ → Bool
is_letter b = nat_le 65 b && nat_le b 90 || nat_le 97 b && nat_le b 122

abbrev pub is_decimal : ℕ → Bool
is_decimal b = nat_le 48 b && nat_le b 57

-- letters, digits and `_`
abbrev pub is_name_byte : ℕ → Bool
is_name_byte b = is_letter b || is_decimal b || b == 95

-- any byte but a line feed
abbrev pub is_in_line : ℕ → Bool
is_in_line b = nat_lt b 10 || nat_lt 10 b

-- what a digit counts: A to F in either case from 10 on, and 16 where the byte is no digit of any base
abbrev pub digit_of : ℕ → ℕ
digit_of b =
    if nat_le 48 b && nat_le b 57 then b - 48
    else (if nat_le 65 b && nat_le b 70 then b - 55
    else (if nat_le 97 b && nat_le b 102 then b - 87
    else 16))

-- the base that a letter before `'` names: D, H, O and B in either case
abbrev pub base_of : ℕ → Option ℕ
base_of b =
    if b == 68 || b == 100 then Some 10
    else (if b == 72 || b == 104 then Some 16
    else (if b == 79 || b == 111 then Some 8
    else (if b == 66 || b == 98 then Some 2
    else None)))

-- digits of a base, and `_` only between two of them
pub data IsNumeral : ℕ → List ℕ → Type 0 where
  digit : {base b : ℕ} → digit_of b < base → IsNumeral base (b ∷ [])
  more : {base b : ℕ} {bs : List ℕ} → digit_of b < base → IsNumeral base bs → IsNumeral base (b ∷ bs)
  apart : {base b : ℕ} {bs : List ℕ} → digit_of b < base → IsNumeral base bs → IsNumeral base (b ∷ (codes "_" ++ bs))

-- the number that they stand for
abbrev pub with_digit : ℕ → ℕ → ℕ → ℕ
with_digit base n b = if b == 95 then n else n * base + digit_of b

abbrev pub number_of : ℕ → List ℕ → ℕ
number_of base bs = fold (with_digit base) 0 bs

-- the bytes begin with `*/`
abbrev pub closes : List ℕ → Bool
closes (a ∷ b ∷ bs) = a == 42 && b == 47
closes (b ∷ []) = false
closes [] = false

-- no `*/` begins in the bytes
abbrev pub LacksClosing : List ℕ → Type 0
LacksClosing [] = Unit {0}
LacksClosing (b ∷ bs) = (closes (b ∷ bs) ≡ false) × LacksClosing bs

-- a text's value as it is written between the quotes: each `"` twice
abbrev pub quoted : List ℕ → List ℕ
quoted [] = []
quoted (b ∷ bs) = if b == 34 then 34 ∷ 34 ∷ quoted bs else b ∷ quoted bs

-- What a piece of a text looks like. An unclosed comment has a shape too, and is no piece.
pub data Shape : Type 0 where
  separator : Shape
  comment : Shape
  unclosed : Shape
  name : List ℕ → Shape
  whole : ℕ → Shape
  character : ℕ → Shape
  text : List ℕ → Shape
  sign : Sign → Shape

-- the bytes of each shape
pub data Spells : Shape → List ℕ → Type 0 where
  -- one separator
  a_separator : {b : ℕ} → is_separator b ≡ true → Spells separator (b ∷ [])
  -- `--` and what is left of the line
  a_line : {bs : List ℕ} → list_all is_in_line bs ≡ true → Spells comment (codes "--" ++ bs)
  -- `/*` up to the next `*/`, which begins behind it
  a_comment : (bs : List ℕ) → LacksClosing (bs ++ codes "*") → Spells comment (codes "/*" ++ (bs ++ codes "*/"))
  an_unclosed : {bs : List ℕ} → LacksClosing bs → Spells unclosed (codes "/*" ++ bs)
  -- a letter, and letters, digits and `_`
  a_name : {b : ℕ} {bs : List ℕ} → is_letter b ≡ true → list_all is_name_byte bs ≡ true → Spells (name (b ∷ bs)) (b ∷ bs)
  -- decimal digits
  a_whole : {bs : List ℕ} → IsNumeral 10 bs → Spells (whole (number_of 10 bs)) bs
  -- a letter for the base, `'`, and digits of that base
  a_based : {b base : ℕ} {bs : List ℕ} → base_of b ≡ Some base → IsNumeral base bs → Spells (whole (number_of base bs)) (b ∷ (codes "'" ++ bs))
  -- a byte between two `'`, neither a line feed nor `'`
  a_character : {b : ℕ} → is_in_line b ≡ true → b ≢ 39 → Spells (character b) (codes "'" ++ b ∷ codes "'")
  -- the apostrophe is written `''''` (our own choice)
  an_apostrophe : Spells (character 39) (codes "''''")
  -- bytes of one line between two `"`, each `"` among them twice
  a_text : {value : List ℕ} → list_all is_in_line value ≡ true → Spells (text value) (34 ∷ (quoted value ++ 34 ∷ []))
  a_sign : {s : Sign} → Spells (sign s) (sign_spelling s)

-- the longest shape at the front, before the rest
pub record IsLongest (shape : Shape) (front rest : List ℕ) : Type 0 where
  pub spells : Spells shape front
  pub longest : (other : Shape) (longer less : List ℕ) → Spells other longer → longer ++ less ≡ front ++ rest → length longer ≤ length front

-- a piece: what separates tokens, or a token
pub data Piece : Type 0 where
  between : Piece
  token : TokenKind → Piece

-- a name is a reserved word in upper or in lower case
abbrev pub named : List ℕ → Option Word → TokenKind
named bytes (Some word) = kinds.Word word
named bytes None = kinds.Name bytes

-- The piece that a shape is. It is none where a comment isn't closed, a name is longer than 64 bytes, a whole
-- literal is above 2^64 - 1, or a text is longer than 256 bytes.
abbrev pub piece_of : Shape → Option Piece
piece_of separator = Some between
piece_of comment = Some between
piece_of unclosed = None
piece_of (name bytes) = if nat_le (length bytes) 64 then Some (token (named bytes (word_of bytes))) else None
piece_of (whole n) = if nat_lt n (2 ^ 64) then Some (token (kinds.Whole n)) else None
piece_of (character b) = Some (token (kinds.Char b))
piece_of (text value) = if nat_le (length value) 256 then Some (token (kinds.Text value)) else None
piece_of (sign s) = Some (token (kinds.Sign s))
