-- The canonical text of a list of tokens (our own choice).
use Rattle.std.specs.Prelude.{ℕ, ◌==◌, List, [], ◌∷◌, ◌++◌, map, codes, if◌then◌else◌}
use Rattle.std.specs.Fmt.{decimal}
use Rattle.chill_tree.specs.declared.token.Sign.TheVariants as signs
use Rattle.chill_tree.specs.declared.token.TokenKind.{TokenKind}
use Rattle.chill_tree.specs.declared.token.TokenKind.TheVariants as kinds
use Rattle.chill_tree.specs.declared.token.Token.{Token}
use Rattle.chill_tree.specs.Spelling.{word_spelling, sign_spelling}
use Rattle.rules_model.specs.TokensShapes.{quoted}
use Rattle.rules_model.specs.Marks.{is_sign}
use Rattle.rules_model.specs.TreeTokens.{Kinds}

-- tokens without their places
abbrev pub token_kinds : List Token → Kinds
token_kinds = map (λ token. token.kind)

-- a byte as it stands in a character literal: the apostrophe is written twice
abbrev pub character_text : ℕ → List ℕ
character_text byte = if byte == 39 then codes "''" else byte ∷ []

-- how a token is written: a word in upper case, a whole literal in decimal digits
abbrev pub kind_text : TokenKind → List ℕ
kind_text (kinds.Word word) = word_spelling word
kind_text (kinds.Name bytes) = bytes
kind_text (kinds.Whole number) = decimal number
kind_text (kinds.Char byte) = codes "'" ++ (character_text byte ++ codes "'")
kind_text (kinds.Text value) = 34 ∷ (quoted value ++ 34 ∷ [])
kind_text (kinds.Sign sign) = sign_spelling sign

-- a blank, where another token follows
abbrev pub blank_before : Kinds → List ℕ
blank_before [] = []
blank_before (kind ∷ kinds) = codes " "

-- what stands behind a token: a line feed behind `;`, a blank between two others
abbrev pub gap_behind : TokenKind → Kinds → List ℕ
gap_behind kind following = if is_sign signs.Semicolon kind then codes "\n" else blank_before following

-- the tokens in order, with what stands between them
abbrev pub canonical_text : Kinds → List ℕ
canonical_text [] = []
canonical_text (kind ∷ kinds) = kind_text kind ++ (gap_behind kind kinds ++ canonical_text kinds)
