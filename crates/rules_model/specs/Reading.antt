-- Reading from the front: a tree and the tokens behind it, or why there is none.
use Rattle.std.specs.Prelude.{ℕ, zero, suc, List, [], ◌∷◌, ◌++◌, length, Option, Some, None, Result, Ok, Err, if◌then◌else◌}
use Rattle.chill_base.specs.declared.pos.Pos.{Pos}
use Rattle.chill_tree.specs.declared.token.Word.{Word}
use Rattle.chill_tree.specs.declared.token.Sign.{Sign}
use Rattle.chill_tree.specs.declared.token.Sign.TheVariants as signs
use Rattle.chill_tree.specs.declared.token.Token.{Token}
use Rattle.chill_tree.specs.declared.token.TokenKind.{TokenKind}
use Rattle.chill_tree.specs.declared.token.TokenKind.TheVariants as kinds
use Rattle.chill_tree.specs.declared.tree.name.Name.{Name}
use Rattle.rules_model.specs.declared.extent.Extent.{Extent}
use Rattle.rules_model.specs.declared.extent.Extent.TheVariants as extents
use Rattle.rules_model.specs.Marks.{Toks, is_sign, is_word, begins}

-- why there is no tree: the nesting is too deep at a place, or a token or the end doesn't fit
pub data Fault : Type 0 where
  Deep : Pos → Fault
  Absent : Option Pos → Fault

-- what was read, and the tokens behind it
abbrev pub Read : Type 0 → Type 0
Read A = Result (A × Toks) Fault

-- what was read if it is there, and the tokens behind it
abbrev pub Piece : Type 0 → Type 0
Piece A = Result (Option (A × Toks)) Fault

infixl 10 ◌>>=◌
abbrev pub ◌>>=◌ : {A B : Type 0} → Result A Fault → (A → Result B Fault) → Result B Fault
(Ok x) >>= f = f x
(Err e) >>= f = Err e

-- goes on where something is; where nothing is, the longest reading keeps y, and a whole one fails
abbrev pub settle : {A B : Type 0} → Extent → Result A Fault → B → (A → Result B Fault) → Result B Fault
settle w (Ok x) y f = f x
settle w (Err (Deep p)) y f = Err (Deep p)
settle extents.Longest (Err (Absent p)) y f = Ok y
settle extents.Whole (Err (Absent p)) y f = Err (Absent p)

abbrev pub chosen : {A B : Type 0} → Option A → B → (A → B) → B
chosen None y f = y
chosen (Some x) y f = f x

-- reads behind an opening token, where a level of nesting is left
abbrev pub roomy : {B : Type 0} → ℕ → Pos → Result B Fault → Result B Fault
roomy zero p r = Err (Deep p)
roomy (suc n) p r = r

unfoldable pub sign_at : Sign → Toks → Read Pos
sign_at s [] = Err (Absent None)
sign_at s (t ∷ rest) = if is_sign s t.kind then Ok (t.at, rest) else Err (Absent (Some t.at))

unfoldable pub word_at : Word → Toks → Read Pos
word_at w [] = Err (Absent None)
word_at w (t ∷ rest) = if is_word w t.kind then Ok (t.at, rest) else Err (Absent (Some t.at))

abbrev pub name_of : Token → Toks → Read Name
name_of t rest = go t.kind
  where
    go : TokenKind → Read Name
    go (kinds.Name n) = Ok (record { at = t.at; text = n }, rest)
    go _ = Err (Absent (Some t.at))

unfoldable pub name_at : Toks → Read Name
name_at [] = Err (Absent None)
name_at (t ∷ rest) = name_of t rest

-- piece after piece, at most so many, each added to what there is
unfoldable pub repeat : {S P : Type 0} → (Toks → Piece P) → (S → P → S) → ℕ → S → Toks → Read S
repeat piece grow zero s toks = Ok (s, toks)
repeat piece grow (suc k) s toks = piece toks >>= λ o. chosen o (Ok (s, toks)) (λ x. repeat piece grow k (grow s x.0) x.1)

abbrev pub push : {X : Type 0} → List X → X → List X
push xs x = xs ++ x ∷ []

-- piece after piece
abbrev pub many_at : {X : Type 0} → (Toks → Piece X) → Toks → Read (List X)
many_at piece toks = repeat piece push (length toks) [] toks

-- a comma and one more, if the comma is there
unfoldable pub another_at : {X : Type 0} → (Toks → Read X) → Toks → Piece X
another_at read toks = if begins signs.Comma toks then (sign_at signs.Comma toks >>= λ c. read c.1 >>= λ x. Ok (Some x)) else Ok None

-- one, and one more behind each comma
unfoldable pub listed_at : {X : Type 0} → (Toks → Read X) → Toks → Read (List X)
listed_at read toks = read toks >>= λ x. repeat (another_at read) push (length toks) (x.0 ∷ []) x.1
