-- The longest shape at the front of a text, computed: for proofs and for the lexer's own functions.
use Rattle.std.specs.Prelude.{ℕ, suc, ◌-◌, nat_lt, Bool, false, ◌==◌, ◌&&◌, List, [], ◌∷◌, length, take, drop, Option, Some, None, option_map, unwrap_or, if◌then◌else◌}
use Rattle.std.specs.List.{prefix_len}
use Rattle.chill_tree.specs.declared.token.Sign.{Sign}
use Rattle.chill_tree.specs.declared.token.Sign.TheVariants as signs
use Rattle.rules_model.specs.TokensShapes.{is_separator, is_letter, is_decimal, is_name_byte, is_in_line, digit_of, base_of, number_of, closes, Shape, separator, comment, unclosed, name, whole, character, text, sign, Piece, piece_of}

abbrev pub is_digit : ℕ → ℕ → Bool
is_digit base b = nat_lt (digit_of b) base

-- how many bytes go on with a numeral behind one of its digits
abbrev pub more_length : ℕ → List ℕ → ℕ
more_length base [] = 0
more_length base (b ∷ []) = if is_digit base b then 1 else 0
more_length base (b ∷ c ∷ bs) =
    if is_digit base b then suc (more_length base (c ∷ bs))
    else (if b == 95 && is_digit base c then suc (suc (more_length base bs))
    else 0)

-- how many bytes of the front are a numeral
abbrev pub numeral_length : ℕ → List ℕ → ℕ
numeral_length base [] = 0
numeral_length base (b ∷ bs) = if is_digit base b then suc (more_length base bs) else 0

-- how many bytes there are up to and with the first `*/`
abbrev pub closing_length : List ℕ → Option ℕ
closing_length [] = None
closing_length (b ∷ bs) = if closes (b ∷ bs) then Some 2 else option_map suc (closing_length bs)

-- how many bytes there are behind a `"` up to and with the `"` that closes the text
abbrev pub text_length : List ℕ → Option ℕ
text_length [] = None
text_length (b ∷ []) = if b == 34 then Some 1 else None
text_length (b ∷ c ∷ bs) =
    if b == 10 then None
    else (if b == 34 then (if c == 34 then Some (unwrap_or (option_map (λ n. suc (suc n)) (text_length bs)) 1) else Some 1)
    else option_map suc (text_length (c ∷ bs)))

-- the value of what stands between the quotes
abbrev pub unquoted : List ℕ → List ℕ
unquoted [] = []
unquoted (b ∷ []) = b ∷ []
unquoted (b ∷ c ∷ bs) = if b == 34 then 34 ∷ unquoted bs else b ∷ unquoted (c ∷ bs)

abbrev pub Found : Type 0
Found = Option (Shape × ℕ)

abbrev pub name_at : List ℕ → Found
name_at bytes = Some (name (take (prefix_len is_name_byte bytes) bytes), prefix_len is_name_byte bytes)

-- decimal digits
abbrev pub whole_at : List ℕ → Found
whole_at bytes = Some (whole (number_of 10 (take (numeral_length 10 bytes) bytes)), numeral_length 10 bytes)

-- the digits of a base behind its letter and `'`
abbrev pub digits_at : ℕ → List ℕ → Found
digits_at base bytes = Some (whole (number_of base (take (numeral_length base bytes) bytes)), suc (suc (numeral_length base bytes)))

-- a letter: a literal of a base, or a name
abbrev pub based_at : Option ℕ → List ℕ → Found
based_at None bytes = name_at bytes
based_at (Some base) (b ∷ c ∷ bs) = if c == 39 && nat_lt 0 (numeral_length base bs) then digits_at base bs else name_at (b ∷ c ∷ bs)
based_at (Some base) bytes = name_at bytes

abbrev pub begins_with : ℕ → List ℕ → Bool
begins_with b [] = false
begins_with b (c ∷ cs) = c == b

-- behind a `'`
abbrev pub character_at : List ℕ → Found
character_at (b ∷ c ∷ bs) =
    if c == 39 then
    (if b == 39 then (if begins_with 39 bs then Some (character 39, 4) else None)
    else (if b == 10 then None else Some (character b, 3)))
    else None
character_at bytes = None

-- behind a `"`
abbrev pub quoted_at : List ℕ → Option ℕ → Found
quoted_at bytes None = None
quoted_at bytes (Some n) = Some (text (unquoted (take (n - 1) bytes)), suc n)

-- behind `/*`
abbrev pub comment_at : List ℕ → Option ℕ → Found
comment_at bytes None = Some (unclosed, suc (suc (length bytes)))
comment_at bytes (Some n) = Some (comment, suc (suc n))

-- a sign of one byte, or of two where the second stands behind it
abbrev pub one_or_two : Sign → Sign → ℕ → List ℕ → Found
one_or_two one two second bs = if begins_with second bs then Some (sign two, 2) else Some (sign one, 1)

abbrev pub sign_at : ℕ → List ℕ → Found
sign_at b bs =
    if b == 40 then Some (sign signs.Open, 1)
    else (if b == 41 then Some (sign signs.Close, 1)
    else (if b == 91 then Some (sign signs.OpenBracket, 1)
    else (if b == 93 then Some (sign signs.CloseBracket, 1)
    else (if b == 44 then Some (sign signs.Comma, 1)
    else (if b == 59 then Some (sign signs.Semicolon, 1)
    else (if b == 58 then one_or_two signs.Colon signs.Becomes 61 bs
    else (if b == 46 then Some (sign signs.Dot, 1)
    else (if b == 43 then Some (sign signs.Plus, 1)
    else (if b == 45 then Some (sign signs.Minus, 1)
    else (if b == 42 then Some (sign signs.Times, 1)
    else (if b == 47 then one_or_two signs.Divide signs.NotEqual 61 bs
    else (if b == 61 then Some (sign signs.Equal, 1)
    else (if b == 60 then one_or_two signs.Less signs.LessOrEqual 61 bs
    else (if b == 62 then one_or_two signs.Greater signs.GreaterOrEqual 61 bs
    else None))))))))))))))

-- the longest shape at the front, and how many bytes it has
unfoldable pub shape_at : List ℕ → Found
shape_at [] = None
shape_at (b ∷ bs) =
    if is_separator b then Some (separator, 1)
    else (if is_letter b then based_at (base_of b) (b ∷ bs)
    else (if is_decimal b then whole_at (b ∷ bs)
    else (if b == 39 then character_at bs
    else (if b == 34 then quoted_at bs (text_length bs)
    else (if b == 45 && begins_with 45 bs then Some (comment, suc (suc (prefix_len is_in_line (drop 1 bs))))
    else (if b == 47 && begins_with 42 bs then comment_at (drop 1 bs) (closing_length (drop 1 bs))
    else sign_at b bs))))))

abbrev pub limited : Found → Option (Piece × ℕ)
limited None = None
limited (Some f) = option_map (λ piece. (piece, f.1)) (piece_of f.0)

-- the piece at the front, and how many bytes it has
abbrev pub piece_at : List ℕ → Option (Piece × ℕ)
piece_at bytes = limited (shape_at bytes)
