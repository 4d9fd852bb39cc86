-- The pieces so far, and one more.
use Rattle.std.proofs.Common.{◌≡◌, ◌≢◌, inl, inr, ℕ, ◌+◌, ◌<◌, ◌≤◌, Bool, true, false, cond, eqb, List, [], ◌∷◌, ◌++◌, length, take, drop, get_or, Some, None, refl, sym, ap, subst, ◌∙◌, arith, append_assoc}
use Rattle.std.specs.List.{list_all}
use Rattle.std.proofs.lemmas.List.{length-drop, take-append-drop, length-take-le, append-nil}
use Rattle.std.proofs.lemmas.Bool.Decides.{nat_tests}
use Rattle.chill_base.specs.declared.pos.Pos.{Pos}
use Rattle.chill_tree.specs.declared.token.Token.{Token}
use Rattle.chill_tree.specs.declared.token.TokenKind.{TokenKind}
use Rattle.chill_tree.specs.declared.token.Sign.{Sign}
use Rattle.chill_tree.specs.declared.token.Sign.TheVariants as signs
use Rattle.chill_tree.specs.Spelling.{sign_spelling}
use Rattle.rules_model.specs.TokensShapes.{is_separator, is_letter, is_name_byte, is_in_line, base_of, IsNumeral, digit, more, apart, quoted, Shape, Spells, a_separator, a_line, a_comment, an_unclosed, a_name, a_whole, a_based, a_character, an_apostrophe, a_text, a_sign, Piece, between, token, piece_of}
use Rattle.rules_model.specs.TokensCut.{behind, behind_all, first_place, IsPieceAt, Cut, joined, ArePieces, own_token, tokens_among, AreTokensOf, IsBadAt}
use Rattle.rules_model.specs.TokensReading.{piece_at}
use Rattle.rules_model.proofs.TokensLaws.{piece_begins, piece_none}
use Rattle.chill_lexer.specs.declared.front.Front.{Front}
use Rattle.chill_lexer.specs.Front.{IsFront, IsAlong}
use Rattle.chill_lexer.proofs.RunLemmas.{behind-within}
use Rattle.chill_lexer.proofs.FrontLemmas.{behind_all-line, piece_separator}

pub behind_all-append : (at : Pos) (xs ys : List ℕ) → behind_all at (xs ++ ys) ≡ behind_all (behind_all at xs) ys
behind_all-append at [] ys = refl
behind_all-append at (x ∷ xs) ys = behind_all-append (behind at x) xs ys

pub behind_all-within : (at : Pos) (xs : List ℕ) → ((behind_all at xs).line ≤ at.line + length xs) × ((behind_all at xs).column ≤ at.column + length xs)
behind_all-within at [] = (omega arith, omega arith)
behind_all-within at (x ∷ xs) =
    let h = behind_all-within (behind at x) xs in let k = behind-within at x in (omega arith, omega arith)

-- one piece more
joined-push : (cuts : List Cut) (cut : Cut) → joined (cuts ++ cut ∷ []) ≡ joined cuts ++ cut.bytes
joined-push [] cut = append-nil cut.bytes
joined-push (c ∷ cs) cut = ap (λ (xs : List ℕ). c.bytes ++ xs) (joined-push cs cut) ∙ sym (append_assoc c.bytes (joined cs) cut.bytes)

tokens_among-push : (at : Pos) (cuts : List Cut) (cut : Cut) → tokens_among at (cuts ++ cut ∷ []) ≡ tokens_among at cuts ++ own_token (behind_all at (joined cuts)) cut.piece
tokens_among-push at [] cut = append-nil (own_token at cut.piece)
tokens_among-push at (c ∷ cs) cut =
    ap (λ (ts : List Token). own_token at c.piece ++ ts)
    (tokens_among-push (behind_all at c.bytes) cs cut
    ∙ ap (λ (p : Pos). tokens_among (behind_all at c.bytes) cs ++ own_token p cut.piece) (sym (behind_all-append at c.bytes (joined cs))))
    ∙ sym (append_assoc (own_token at c.piece) (tokens_among (behind_all at c.bytes) cs) (own_token (behind_all at (c.bytes ++ joined cs)) cut.piece))

pieces-push : (cuts : List Cut) (cut : Cut) (rest : List ℕ) → ArePieces cuts (cut.bytes ++ rest) → IsPieceAt cut.piece cut.bytes rest → ArePieces (cuts ++ cut ∷ []) rest
pieces-push [] cut rest pieces at = (at, tt)
pieces-push (c ∷ cs) cut rest pieces at = (
  subst (IsPieceAt c.piece c.bytes) (sym (append_assoc (joined cs) cut.bytes rest) ∙ ap (λ (xs : List ℕ). xs ++ rest) (sym (joined-push cs cut))) pieces.0,
  pieces-push cs cut rest pieces.1 at,
)

-- what has been read of a text
pub record IsSoFar (text : List ℕ) (tokens : List Token) (at : Pos) (rest : List ℕ) : Type 0 where
  pub cuts : List Cut
  pub whole : text ≡ joined cuts ++ rest
  pub pieces : ArePieces cuts rest
  pub are : tokens ≡ tokens_among first_place cuts
  pub place : at ≡ behind_all first_place (joined cuts)

pub nothing_yet : (text : List ℕ) → IsSoFar text [] first_place text
nothing_yet text = record { cuts = []; whole = refl; pieces = tt; are = refl; place = refl }

-- one piece further
further : (text rest : List ℕ) (tokens : List Token) (at : Pos) (piece : Piece) (n : ℕ) → IsSoFar text tokens at rest → piece_at rest ≡ Some (piece, n)
    → IsSoFar text (tokens ++ own_token at piece) (behind_all at (take n rest)) (drop n rest)
further text rest tokens at piece n far e =
    let begins = piece_begins rest piece n e in
    let cut : Cut = record { bytes = take n rest; piece = piece } in
    let split : take n rest ++ drop n rest ≡ rest = take-append-drop n rest in
    record {
      cuts = far.cuts ++ cut ∷ [];
      whole = far.whole ∙ ap (λ (xs : List ℕ). joined far.cuts ++ xs) (sym split) ∙ sym (append_assoc (joined far.cuts) (take n rest) (drop n rest))
          ∙ ap (λ (xs : List ℕ). xs ++ drop n rest) (sym (joined-push far.cuts cut));
      pieces = pieces-push far.cuts cut (drop n rest) (subst (ArePieces far.cuts) (sym split) far.pieces) begins.0;
      are = (λ i. far.are i ++ own_token (far.place i) piece) ∙ sym (tokens_among-push first_place far.cuts cut);
      place = ap (λ (p : Pos). behind_all p (take n rest)) far.place ∙ sym (behind_all-append first_place (joined far.cuts) (take n rest))
          ∙ ap (behind_all first_place) (sym (joined-push far.cuts cut));
    }

pub further_between : (text rest : List ℕ) (tokens new : List Token) (at : Pos) (n : ℕ) (next : Pos) → IsSoFar text tokens at rest → piece_at rest ≡ Some (between, n)
    → new ≡ tokens → next ≡ behind_all at (take n rest) → IsSoFar text new next (drop n rest)
further_between text rest tokens new at n next far e is_new place =
    subst (λ (p : Pos). IsSoFar text new p (drop n rest)) (sym place)
    (subst (λ (ts : List Token). IsSoFar text ts (behind_all at (take n rest)) (drop n rest)) (append-nil tokens ∙ sym is_new) (further text rest tokens at between n far e))

-- a token's bytes stand on one line
numeral_line : (base : ℕ) (bs : List ℕ) → base ≤ 16 → IsNumeral base bs → list_all is_in_line bs ≡ true
numeral_line base bs small (digit {b = b} d) = let h : is_in_line b ≡ true = grind (arith, nat_tests) in rw h refl
numeral_line base bs small (more {b = b} {bs = rest} d numeral) = let h : is_in_line b ≡ true = grind (arith, nat_tests) in rw h (numeral_line base rest small numeral)
numeral_line base bs small (apart {b = b} {bs = rest} d numeral) = let h : is_in_line b ≡ true = grind (arith, nat_tests) in rw h (numeral_line base rest small numeral)

names_line : (bs : List ℕ) → list_all is_name_byte bs ≡ true → list_all is_in_line bs ≡ true
names_line [] e = refl
names_line (b ∷ bs) e =
    let here : is_name_byte b ≡ true = grind (arith, nat_tests) in let rest : list_all is_name_byte bs ≡ true = grind (arith, nat_tests) in
    let h : is_in_line b ≡ true = grind (arith, nat_tests) in rw h (names_line bs rest)

list_all-append : (xs ys : List ℕ) → list_all is_in_line xs ≡ true → list_all is_in_line ys ≡ true → list_all is_in_line (xs ++ ys) ≡ true
list_all-append [] ys e f = f
list_all-append (x ∷ xs) ys e f =
    let here : is_in_line x ≡ true = grind (arith, nat_tests) in let rest : list_all is_in_line xs ≡ true = grind (arith, nat_tests) in rw here (list_all-append xs ys rest f)

quoted_line : (bs : List ℕ) → list_all is_in_line bs ≡ true → list_all is_in_line (quoted bs) ≡ true
quoted_line [] e = refl
quoted_line (b ∷ bs) e = by_quote (eqb b 34) (grind (arith, nat_tests)) (quoted_line bs (grind (arith, nat_tests)))
  where
    by_quote : (t : Bool) → is_in_line b ≡ true → list_all is_in_line (quoted bs) ≡ true → list_all is_in_line (cond t (34 ∷ 34 ∷ quoted bs) (b ∷ quoted bs)) ≡ true
    by_quote true here rest = rest
    by_quote false here rest = rw here rest

sign_line : (s : Sign) → list_all is_in_line (sign_spelling s) ≡ true
sign_line signs.Open = refl
sign_line signs.Close = refl
sign_line signs.OpenBracket = refl
sign_line signs.CloseBracket = refl
sign_line signs.Comma = refl
sign_line signs.Semicolon = refl
sign_line signs.Colon = refl
sign_line signs.Becomes = refl
sign_line signs.Dot = refl
sign_line signs.Plus = refl
sign_line signs.Minus = refl
sign_line signs.Times = refl
sign_line signs.Divide = refl
sign_line signs.Equal = refl
sign_line signs.NotEqual = refl
sign_line signs.Less = refl
sign_line signs.LessOrEqual = refl
sign_line signs.Greater = refl
sign_line signs.GreaterOrEqual = refl

base_small : (b base : ℕ) → base_of b ≡ Some base → (base ≤ 16) × (is_in_line b ≡ true)
base_small b base e = (grind (arith, nat_tests), grind (arith, nat_tests))

letter_line : (b : ℕ) → is_letter b ≡ true → is_in_line b ≡ true
letter_line b e = grind (arith, nat_tests)

token_line : (s : Shape) (front : List ℕ) (kind : TokenKind) → Spells s front → piece_of s ≡ Some (token kind) → list_all is_in_line front ≡ true
token_line s front kind (a_separator e) is = absurd cc
token_line s front kind (a_line e) is = absurd cc
token_line s front kind (a_comment bs lacks) is = absurd cc
token_line s front kind (an_unclosed lacks) is = absurd cc
token_line s front kind (a_name {b = b} {bs = bs} letter others) is = rw (letter_line b letter) (names_line bs others)
token_line s front kind (a_whole {bs = bs} numeral) is = numeral_line 10 bs (omega arith) numeral
token_line s front kind (a_based {b = b} {base = base} {bs = bs} based numeral) is =
    let h = base_small b base based in rw h.1 (numeral_line base bs h.0 numeral)
token_line s front kind (a_character {b = b} in_line other) is = rw in_line refl
token_line s front kind an_apostrophe is = refl
token_line s front kind (a_text {value = value} e) is = list_all-append (quoted value) (34 ∷ []) (quoted_line value e) refl
token_line s front kind (a_sign {s = s'}) is = sign_line s'

pub further_token : (text rest : List ℕ) (tokens new : List Token) (at : Pos) (n : ℕ) (next : Pos) (kind : TokenKind) → IsSoFar text tokens at rest → piece_at rest ≡ Some (token kind, n)
    → new ≡ tokens ++ record { at = at; kind = kind } ∷ [] → next ≡ record { line = at.line; column = at.column + n } → IsSoFar text new next (drop n rest)
further_token text rest tokens new at n next kind far e is_new is_next =
    let begins = piece_begins rest (token kind) n e in
    let line = token_line begins.0.shape (take n rest) kind begins.0.longest.spells begins.0.is in
    let size = length-take-le n rest begins.1 in
    let place : next ≡ behind_all at (take n rest) =
    is_next ∙ ap (λ (m : ℕ). record { line = at.line; column = m }) (omega arith) ∙ sym (behind_all-line at (take n rest) line) in
    subst (λ (p : Pos). IsSoFar text new p (drop n rest)) (sym place)
    (subst (λ (ts : List Token). IsSoFar text ts (behind_all at (take n rest)) (drop n rest)) (sym is_new) (further text rest tokens at (token kind) n far e))

-- the text is read
pub all_read : (text rest : List ℕ) (tokens : List Token) (at : Pos) → IsSoFar text tokens at rest → rest ≡ [] → AreTokensOf text tokens
all_read text rest tokens at far e = record {
  cuts = far.cuts;
  whole = far.whole ∙ ap (λ (xs : List ℕ). joined far.cuts ++ xs) e ∙ append-nil (joined far.cuts);
  pieces = subst (ArePieces far.cuts) e far.pieces;
  are = far.are;
}

-- nothing begins
pub read_to_bad : (text rest : List ℕ) (tokens : List Token) (at : Pos) → IsSoFar text tokens at rest → rest ≢ [] → piece_at rest ≡ None → IsBadAt text at
read_to_bad text rest tokens at far some none = record {
  cuts = far.cuts;
  bad = rest;
  whole = far.whole;
  pieces = far.pieces;
  some = some;
  none = piece_none rest none;
  place = far.place;
}

-- how far a place can be
pub piece_size : (rest : List ℕ) (piece : Piece) (n : ℕ) → piece_at rest ≡ Some (piece, n) → (n ≤ length rest) × (0 < n)
piece_size rest piece n e = let begins = piece_begins rest piece n e in (begins.1, begins.2)

-- the place behind a piece
pub piece_place : (at next : Pos) (rest : List ℕ) (n limit : ℕ) → n ≤ length rest → next ≡ behind_all at (take n rest)
    → at.line + length rest ≤ limit → at.column + length rest ≤ limit → (next.line + length (drop n rest) ≤ limit) × (next.column + length (drop n rest) ≤ limit)
piece_place at next rest n limit within place line column =
    let h = behind_all-within at (take n rest) in let size = length-take-le n rest within in let left = length-drop n rest in
    let is_line = ap (λ (p : Pos). p.line) place in let is_column = ap (λ (p : Pos). p.column) place in
    (omega arith, omega arith)

pub not_empty : (rest : List ℕ) (r : Bool) → r ≡ eqb (length rest) 0 → r ≡ false → rest ≢ []
not_empty [] r test is e = cc
not_empty (b ∷ bs) r test is e = cc

-- the place behind a token
pub token_place : (at next : Pos) (left n size limit : ℕ) → left + n ≡ size → next ≡ record { line = at.line; column = at.column + n }
    → at.line + size ≤ limit → at.column + size ≤ limit → (next.line + left ≤ limit) × (next.column + left ≤ limit)
token_place at next left n size limit within place line column =
    let is_line = ap (λ (p : Pos). p.line) place in let is_column = ap (λ (p : Pos). p.column) place in (omega arith, omega arith)

-- what was found, where room was made before
pub front_of : (at : Pos) (rest : List ℕ) (roomy old new : List Token) (found front : Front) → roomy ≡ old → found ≡ front
    → IsFront at rest roomy new found → IsFront at rest old new front
front_of at rest roomy old new found front same is h =
    subst (λ (ts : List Token). IsFront at rest ts new front) same (subst (IsFront at rest roomy new) is h)

-- a piece within a line
pub further_along : (text rest : List ℕ) (tokens new : List Token) (at : Pos) (n : ℕ) (next : Pos) → IsSoFar text tokens at rest → IsAlong at rest tokens new n
    → next ≡ record { line = at.line; column = at.column + n } → IsSoFar text new next (drop n rest)
further_along text rest tokens new at n next far (inl put) is_next = further_token text rest tokens new at n next put.0 far put.1 put.2 is_next
further_along text rest tokens new at n next far (inr blank) is_next = further_between text rest tokens new at n next far blank.0 blank.2 (is_next ∙ blank.1)

pub along_size : (at : Pos) (rest : List ℕ) (old new : List Token) (n : ℕ) → IsAlong at rest old new n → (n ≤ length rest) × (0 < n)
along_size at rest old new n (inl put) = piece_size rest (token put.0) n put.1
along_size at rest old new n (inr blank) = piece_size rest between n blank.0

-- where room was made before
pub along_of : (at : Pos) (rest : List ℕ) (roomy old new : List Token) (n : ℕ) → roomy ≡ old → IsAlong at rest roomy new n → IsAlong at rest old new n
along_of at rest roomy old new n same h = subst (λ (ts : List Token). IsAlong at rest ts new n) same h

-- a line feed
pub further_line : (text rest left : List ℕ) (tokens new : List Token) (at next : Pos) (limit : ℕ) → IsSoFar text tokens at rest → get_or rest 0 0 ≡ 10
    → new ≡ tokens → next ≡ record { line = at.line + 1; column = 1 } → left ≡ drop 1 rest → at.line + length rest ≤ limit → at.column + length rest ≤ limit
    → IsSoFar text new next left × (next.line + length left ≤ limit) × (next.column + length left ≤ limit)
further_line text [] left tokens new at next limit far is is_new is_next is_left line column = absurd cc
further_line text (b ∷ bs) left tokens new at next limit far is is_new is_next is_left line column =
    let feed : b ≡ 10 = is in
    let separator : is_separator b ≡ true = grind (arith, nat_tests) in
    let here : eqb b 10 ≡ true = grind (arith, nat_tests) in
    let place : behind at b ≡ record { line = at.line + 1; column = 1 } = rw here refl in
    let is_line = ap (λ (p : Pos). p.line) is_next in let is_column = ap (λ (p : Pos). p.column) is_next in
    let size = ap length is_left in
    let one = piece_separator (b ∷ bs) (omega arith) separator in (
      subst (IsSoFar text new next) (sym is_left) (further_between text (b ∷ bs) tokens new at 1 next far one is_new (is_next ∙ sym place)),
      omega (arith, length-drop 1 (b ∷ bs)),
      omega (arith, length-drop 1 (b ∷ bs)),
    )
