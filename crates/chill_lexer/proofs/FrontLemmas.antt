-- What is computed at the front of a text, by its first bytes.
use Rattle.std.proofs.Common.{◌≡◌, ◌≢◌, inl, inr, ℕ, suc, ◌+◌, ◌<◌, ◌≤◌, ◌^◌, true, false, eqb, ltb, fold, List, [], ◌∷◌, length, take, drop, get_or, Option, Some, None, IfSome, refl, sym, ap, subst, ◌∙◌, arith, add-zero}
use Rattle.std.specs.List.{prefix_len, list_all}
use Rattle.std.proofs.lemmas.List.{length-drop, length-take-le, length-append}
use Rattle.std.proofs.lemmas.List.Sums.{prefix_len-le-length}
use Rattle.std.proofs.lemmas.Bool.Decides.{nat_tests}
use Rattle.chill_base.specs.declared.pos.Pos.{Pos}
use Rattle.rules_model.specs.TokensShapes.{Piece, token, whole, number_of, with_digit, is_name_byte, is_separator, is_letter, is_decimal, is_in_line, digit_of, base_of, between}
use Rattle.rules_model.specs.TokensCut.{behind, behind_all}
use Rattle.rules_model.specs.TokensReading.{is_digit, more_length, numeral_length, closing_length, text_length, based_at, whole_at, character_at, quoted_at, comment_at, sign_at, shape_at, limited, piece_at}
use Rattle.rules_model.proofs.TokensRuns.{letter_first, decimal_first, list_all-prefix, ClosingAt, closing_sound}
use Rattle.chill_tree.specs.declared.token.Token.{Token}
use Rattle.chill_tree.specs.declared.token.TokenKind.{TokenKind}
use Rattle.chill_tree.specs.declared.token.TokenKind.TheVariants as kinds
use Rattle.chill_lexer.proofs.RunLemmas.{numeral_parts, lone_digit}
use Rattle.chill_lexer.specs.Front.{IsFront, IsAlong, of_token, starts, goes_on}
use Rattle.chill_lexer.specs.Runs.{IsPut, begins_numeral, begins_other}

pub piece_empty : (text : List ℕ) → length text < 1 → piece_at text ≡ None
unfolding shape_at
piece_empty [] h = refl
piece_empty (b ∷ bs) h = absurd (omega arith)

pub piece_separator : (text : List ℕ) → 1 ≤ length text → is_separator (get_or text 0 0) ≡ true → piece_at text ≡ Some (between, 1)
unfolding shape_at
piece_separator [] h e = absurd (omega arith)
piece_separator (b ∷ bs) h e = rw e refl

pub starts_second : (a b : ℕ) (text : List ℕ) → starts a b text ≡ true → text ≡ a ∷ b ∷ drop 2 text
starts_second a b [] e = absurd cc
starts_second a b (c ∷ []) e = absurd (grind (arith, nat_tests))
starts_second a b (c ∷ d ∷ bs) e =
    let first : c ≡ a = grind (arith, nat_tests) in let second : d ≡ b = grind (arith, nat_tests) in rw (first, second) refl

pub piece_line : (text : List ℕ) → starts 45 45 text ≡ true → piece_at text ≡ Some (between, suc (suc (prefix_len is_in_line (drop 2 text))))
unfolding shape_at
piece_line text e =
    subst (λ (xs : List ℕ). piece_at xs ≡ Some (between, suc (suc (prefix_len is_in_line (drop 2 text))))) (sym (starts_second 45 45 text e)) refl

pub piece_comment : (text : List ℕ) → starts 47 42 text ≡ true → piece_at text ≡ limited (comment_at (drop 2 text) (closing_length (drop 2 text)))
unfolding shape_at
piece_comment text e =
    subst (λ (xs : List ℕ). piece_at xs ≡ limited (comment_at (drop 2 text) (closing_length (drop 2 text)))) (sym (starts_second 47 42 text e)) refl

pub piece_word : (text : List ℕ) → 1 ≤ length text → is_letter (get_or text 0 0) ≡ true → limited (based_at (base_of (get_or text 0 0)) text) ≡ piece_at text
unfolding shape_at
piece_word [] h e = absurd (omega arith)
piece_word (b ∷ bs) h e = rw (letter_first b e, e) refl

pub piece_whole : (text : List ℕ) → 1 ≤ length text → is_decimal (get_or text 0 0) ≡ true → limited (whole_at text) ≡ piece_at text
unfolding shape_at
piece_whole [] h e = absurd (omega arith)
piece_whole (b ∷ bs) h e = let d : digit_of b < 10 = grind (arith, nat_tests) in let first = decimal_first b d in rw (first.0, first.1, first.2) refl

pub decimal_begins : (text : List ℕ) → 1 ≤ length text → is_decimal (get_or text 0 0) ≡ true → begins_numeral 10 text ≡ true
decimal_begins [] h e = absurd (omega arith)
decimal_begins (b ∷ bs) h e = grind (arith, nat_tests)

pub piece_character : (text : List ℕ) → 1 ≤ length text → get_or text 0 0 ≡ 39 → limited (character_at (drop 1 text)) ≡ piece_at text
unfolding shape_at
piece_character [] h e = absurd (omega arith)
piece_character (b ∷ bs) h e = let same : b ≡ 39 = e in rw same refl

pub piece_text : (text : List ℕ) → 1 ≤ length text → get_or text 0 0 ≡ 34 → limited (quoted_at (drop 1 text) (text_length (drop 1 text))) ≡ piece_at text
unfolding shape_at
piece_text [] h e = absurd (omega arith)
piece_text (b ∷ bs) h e = let same : b ≡ 34 = e in rw same refl

pub piece_sign : (text : List ℕ) → 1 ≤ length text → is_separator (get_or text 0 0) ≡ false → is_letter (get_or text 0 0) ≡ false → is_decimal (get_or text 0 0) ≡ false
    → get_or text 0 0 ≢ 39 → get_or text 0 0 ≢ 34 → starts 45 45 text ≡ false → starts 47 42 text ≡ false → limited (sign_at (get_or text 0 0) (drop 1 text)) ≡ piece_at text
unfolding shape_at
piece_sign [] h separator letter decimal mark quote line comment = absurd (omega arith)
piece_sign (b ∷ bs) h separator letter decimal mark quote line comment =
    let no_mark : eqb b 39 ≡ false = grind (arith, nat_tests) in let no_quote : eqb b 34 ≡ false = grind (arith, nat_tests) in
    rw (separator, letter, decimal, no_mark, no_quote, line, comment) refl

-- the place behind bytes of one line
pub behind_all-line : (at : Pos) (bs : List ℕ) → list_all is_in_line bs ≡ true → behind_all at bs ≡ record { line = at.line; column = at.column + length bs }
behind_all-line at [] e = λ i. record { line = at.line; column = sym (add-zero at.column) i }
behind_all-line at (b ∷ bs) e =
    let here : eqb b 10 ≡ false = grind (arith, nat_tests) in
    let rest : list_all is_in_line bs ≡ true = grind (arith, nat_tests) in
    rw here (behind_all-line (record { line = at.line; column = at.column + 1 }) bs rest ∙ ap (λ (n : ℕ). record { line = at.line; column = n }) (omega arith))

starts_length : (a b : ℕ) (text : List ℕ) → starts a b text ≡ true → 2 ≤ length text
starts_length a b text e = let h = ap length (starts_second a b text e) in omega arith

-- a comment up to the end of the line
pub line_within : (text : List ℕ) → starts 45 45 text ≡ true → 2 + prefix_len is_in_line (drop 2 text) ≤ length text
line_within text e =
    let h = starts_length 45 45 text e in let k = prefix_len-le-length is_in_line (drop 2 text) in let l = length-drop 2 text in omega arith

pub line_place : (at : Pos) (text : List ℕ) (n : ℕ) → starts 45 45 text ≡ true → n ≡ prefix_len is_in_line (drop 2 text)
    → record { line = at.line; column = at.column + (2 + n) } ≡ behind_all at (take (2 + n) text)
line_place at text n e is =
    let bytes : take (2 + n) text ≡ 45 ∷ 45 ∷ take n (drop 2 text) =
    (λ i. take (two_more n i) (starts_second 45 45 text e i)) in
    let passes : list_all is_in_line (take n (drop 2 text)) ≡ true =
    ap (λ (k : ℕ). list_all is_in_line (take k (drop 2 text))) is ∙ list_all-prefix is_in_line (drop 2 text) in
    let h = starts_length 45 45 text e in let k = prefix_len-le-length is_in_line (drop 2 text) in
    let size = length-take-le n (drop 2 text) (omega arith) in
    sym (ap (behind_all at) bytes ∙ behind_all-line at (45 ∷ 45 ∷ take n (drop 2 text)) passes ∙ ap (λ (m : ℕ). record { line = at.line; column = m }) (omega arith))
  where
    two_more : (k : ℕ) → 2 + k ≡ suc (suc k)
    two_more k = omega arith

-- a comment up to its `*/`
pub comment_found : (text : List ℕ) (n : ℕ) → starts 47 42 text ≡ true → closing_length (drop 2 text) ≡ Some n → piece_at text ≡ Some (between, n + 2)
comment_found text n e found =
    piece_comment text e ∙ ap (λ (o : Option ℕ). limited (comment_at (drop 2 text) o)) found ∙ ap (λ (k : ℕ). Some (between, k)) (omega arith)

pub comment_unclosed : (text : List ℕ) → starts 47 42 text ≡ true → closing_length (drop 2 text) ≡ None → piece_at text ≡ None
comment_unclosed text e none = piece_comment text e ∙ ap (λ (o : Option ℕ). limited (comment_at (drop 2 text) o)) none

pub comment_within : (text : List ℕ) (n : ℕ) → starts 47 42 text ≡ true → closing_length (drop 2 text) ≡ Some n → n + 2 ≤ length text
comment_within text n e found =
    let closing : ClosingAt (drop 2 text) (Some n) = subst (ClosingAt (drop 2 text)) found (closing_sound (drop 2 text)) in
    let h = starts_length 47 42 text e in
    omega (arith, closing.3, ap length closing.2, length-append closing.0 (42 ∷ 47 ∷ closing.1), length-drop 2 text)

pub comment_place : (at : Pos) (text : List ℕ) (n : ℕ) → starts 47 42 text ≡ true
    → behind_all (record { line = at.line; column = at.column + 2 }) (take n (drop 2 text)) ≡ behind_all at (take (n + 2) text)
comment_place at text n e =
    let bytes : take (n + 2) text ≡ 47 ∷ 42 ∷ take n (drop 2 text) = (λ i. take (two_more n i) (starts_second 47 42 text e i)) in
    sym (ap (behind_all at) bytes ∙ ap (λ (m : ℕ). behind_all (record { line = at.line; column = m }) (take n (drop 2 text))) (omega arith))
  where
    two_more : (k : ℕ) → k + 2 ≡ suc (suc k)
    two_more k = omega arith

-- the place behind one byte
pub one_place : (at : Pos) (text : List ℕ) → 1 ≤ length text → behind at (get_or text 0 0) ≡ behind_all at (take 1 text)
one_place at [] h = absurd (omega arith)
one_place at (b ∷ bs) h = refl

-- a token that was put, or none
pub front_put : (at : Pos) (text : List ℕ) (old new : List Token) (length : Option ℕ) → IsPut at (piece_at text) old new length
    → IsFront at text old new (of_token length)
front_put at text old new None put = put
front_put at text old new (Some n) put = put

-- a sign that stands alone
pub lone_piece : (text : List ℕ) (kind : TokenKind) (n : ℕ) → 2 ≤ length text → goes_on (get_or text 1 0) ≡ false → begins_other (get_or text 0 0) ≡ false
    → limited (sign_at (get_or text 0 0) []) ≡ Some (token kind, n) → piece_at text ≡ Some (token kind, n)
lone_piece [] kind n h ends apart is = absurd (omega arith)
lone_piece (b ∷ []) kind n h ends apart is = absurd (omega arith)
lone_piece (b ∷ c ∷ bs) kind n h ends apart is =
    let no_equal : eqb c 61 ≡ false = grind (arith, nat_tests) in
    let no_dash : eqb c 45 ≡ false = grind (arith, nat_tests) in
    let no_star : eqb c 42 ≡ false = grind (arith, nat_tests) in
    let separator : is_separator b ≡ false = grind (arith, nat_tests) in
    let letter : is_letter b ≡ false = grind (arith, nat_tests) in
    let decimal : is_decimal b ≡ false = grind (arith, nat_tests) in
    let mark : b ≢ 39 = λ e. grind (arith, nat_tests) in
    let quote : b ≢ 34 = λ e. grind (arith, nat_tests) in
    let line : starts 45 45 (b ∷ c ∷ bs) ≡ false = grind (arith, nat_tests) in
    let comment : starts 47 42 (b ∷ c ∷ bs) ≡ false = grind (arith, nat_tests) in
    sym (piece_sign (b ∷ c ∷ bs) (omega arith) separator letter decimal mark quote line comment) ∙ ap limited (alone b c bs no_equal) ∙ is
  where
    alone : (b c : ℕ) (bs : List ℕ) → eqb c 61 ≡ false → sign_at b (c ∷ bs) ≡ sign_at b []
    alone b c bs e = rw e refl

-- a blank
pub blank_along : (at : Pos) (text : List ℕ) (old : List Token) → 1 ≤ length text → get_or text 0 0 ≡ 32 → IsAlong at text old old 1
blank_along at [] old some is = absurd (omega arith)
blank_along at (b ∷ bs) old some is =
    let separator : is_separator b ≡ true = grind (arith, nat_tests) in
    let in_line : is_in_line b ≡ true = grind (arith, nat_tests) in
    inr (piece_separator (b ∷ bs) some separator, sym (behind_all-line at (b ∷ []) (rw in_line refl)), refl)

-- a name that was read
pub name_along : (at : Pos) (text : List ℕ) (old new : List Token) (found : Option ℕ) (read : Option (Piece × ℕ)) → read ≡ piece_at text
    → IfSome found (λ n. IsPut at read old new (Some n)) → IfSome found (λ n. IsAlong at text old new n)
name_along at text old new None read same h = h
name_along at text old new (Some n) read same h = inl (subst (λ (o : Option (Piece × ℕ)). IsPut at o old new (Some n)) same h)

-- a digit that stands alone
pub digit_piece : (text : List ℕ) → 2 ≤ length text → is_decimal (get_or text 0 0) ≡ true → is_name_byte (get_or text 1 0) ≡ false
    → piece_at text ≡ Some (token (kinds.Whole (digit_of (get_or text 0 0))), 1)
digit_piece [] h decimal ends = absurd (omega arith)
digit_piece (b ∷ []) h decimal ends = absurd (omega arith)
digit_piece (b ∷ c ∷ bs) h decimal ends =
    let no_digit : is_digit 10 c ≡ false = grind (arith, nat_tests) in
    let no_mark : eqb c 95 ≡ false = grind (arith, nat_tests) in
    let small : ltb (digit_of b) (2 ^ 64) ≡ true = grind (arith, nat_tests) in
    let parts = numeral_parts 10 (b ∷ c ∷ bs) (omega arith) (decimal_begins (b ∷ c ∷ bs) (omega arith) decimal) in
    let none : more_length 10 (c ∷ bs) ≡ 0 = lone_digit c bs no_digit no_mark in
    let size : numeral_length 10 (b ∷ c ∷ bs) ≡ 1 = omega (arith, parts.0) in
    let number : number_of 10 (take (numeral_length 10 (b ∷ c ∷ bs)) (b ∷ c ∷ bs)) ≡ digit_of b =
    parts.1 ∙ ap (λ (n : ℕ). fold (with_digit 10) (digit_of b) (take n (c ∷ bs))) none in
    sym (piece_whole (b ∷ c ∷ bs) (omega arith) decimal) ∙ (λ i. limited (Some (whole (number i), size i))) ∙ counted (digit_of b) small
  where
    counted : (n : ℕ) → ltb n (2 ^ 64) ≡ true → limited (Some (whole n, 1)) ≡ Some (token (kinds.Whole n), 1)
    counted n e = rw e refl
