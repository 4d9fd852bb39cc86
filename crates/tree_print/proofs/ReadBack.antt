-- A canonical text is cut into the tokens that it was written from.
use Rattle.std.proofs.Common.{◌≡◌, ℕ, ◌<◌, ◌^◌, Bool, true, false, cond, leb, ltb, List, [], ◌∷◌, ◌++◌, length, take, Option, Some, None, option_map, refl, sym, ap, subst, ◌∙◌, arith}
use Rattle.std.proofs.lemmas.List.{take_at, drop_at, append-nil}
use Rattle.std.proofs.lemmas.Bool.Decides.{nat_tests}
use Rattle.std.specs.List.{list_all, AllByRecursion}
use Rattle.chill_base.specs.declared.pos.Pos.{Pos}
use Rattle.chill_tree.specs.declared.token.Word.{Word}
use Rattle.chill_tree.specs.declared.token.Sign.TheVariants as signs
use Rattle.chill_tree.specs.declared.token.Token.{Token}
use Rattle.chill_tree.specs.declared.token.TokenKind.{TokenKind}
use Rattle.chill_tree.specs.declared.token.TokenKind.TheVariants as kinds
use Rattle.chill_tree.specs.Spelling.{word_of}
use Rattle.rules_model.specs.Marks.{is_sign}
use Rattle.rules_model.specs.TreeTokens.{Kinds}
use Rattle.rules_model.specs.TokensShapes.{is_letter, is_name_byte, is_in_line, number_of, Shape, name, whole, character, text, sign, Spells, a_separator, a_line, a_comment, an_unclosed, a_name, a_whole, a_based, a_character, an_apostrophe, a_text, a_sign, Piece, between, token, named, piece_of}
use Rattle.rules_model.specs.TokensCut.{behind_all, first_place, IsPieceAt, Cut, joined, ArePieces, own_token, tokens_among}
use Rattle.rules_model.specs.TokensReading.{limited, shape_at, piece_at}
use Rattle.rules_model.proofs.TokensLaws.{piece_begins, one_list}
use Rattle.tree_print.specs.Canonical.{token_kinds, kind_text, blank_before, gap_behind, canonical_text}
use Rattle.tree_print.specs.ReadBack.{ReadBackLaw, WrittenAgainLaw}
use Rattle.tree_print.proofs.ReadBackNames.{BeginsApart, blank_apart, feed_apart, name_shape, name_piece, word_shape, word_piece}
use Rattle.tree_print.proofs.ReadBackLiterals.{whole_shape, character_shape, apostrophe_shape, text_shape, sign_shape}

-- the token is found at the front, as it is written
abbrev IsFound : TokenKind → List ℕ → Type 0
IsFound kind left = piece_at (kind_text kind ++ left) ≡ Some (token kind, length (kind_text kind))

found_as : (s : Shape) (other kind : TokenKind) (left : List ℕ) → shape_at (kind_text other ++ left) ≡ Some (s, length (kind_text other)) → piece_of s ≡ Some (token kind) → other ≡ kind → IsFound kind left
found_as s other kind left shape is same =
    let here = subst (λ (k : TokenKind). shape_at (kind_text k ++ left) ≡ Some (s, length (kind_text k))) same shape in
    ap limited here ∙ ap (option_map {U = Piece × ℕ} (λ p. (p, length (kind_text kind)))) is

name_found : (kind : TokenKind) (b : ℕ) (bs left : List ℕ) → is_letter b ≡ true → list_all is_name_byte bs ≡ true → BeginsApart left
    → (t : Bool) → leb (length (b ∷ bs)) 64 ≡ t → (o : Option Word) → word_of (b ∷ bs) ≡ o → cond t (Some (token (named (b ∷ bs) o))) None ≡ Some (token kind) → IsFound kind left
name_found kind b bs left letter others ends true short (Some w) is_word is =
    let same : kinds.Word w ≡ kind = cc in
    found_as (name _) (kinds.Word w) kind left (word_shape w left ends) (word_piece w ∙ is) same
name_found kind b bs left letter others ends true short None no_word is =
    let same : kinds.Name (b ∷ bs) ≡ kind = cc in
    found_as (name (b ∷ bs)) (kinds.Name (b ∷ bs)) kind left (name_shape b bs left letter others ends)
    (name_piece (b ∷ bs) (leb (length (b ∷ bs)) 64) (word_of (b ∷ bs)) None short no_word ∙ is) same
name_found kind b bs left letter others ends false short o is_word is = absurd cc

whole_found : (kind : TokenKind) (n : ℕ) (left : List ℕ) → BeginsApart left → (t : Bool) → ltb n (2 ^ 64) ≡ t → cond t (Some (token (kinds.Whole n))) None ≡ Some (token kind) → IsFound kind left
whole_found kind n left ends true below is =
    let low : n < 2 ^ 64 = grind (arith, nat_tests) in
    let same : kinds.Whole n ≡ kind = cc in
    found_as (whole n) (kinds.Whole n) kind left (whole_shape n left low ends) (rw below is) same
whole_found kind n left ends false above is = absurd cc

text_found : (kind : TokenKind) (value left : List ℕ) → list_all is_in_line value ≡ true → BeginsApart left
    → (t : Bool) → leb (length value) 256 ≡ t → cond t (Some (token (kinds.Text value))) None ≡ Some (token kind) → IsFound kind left
text_found kind value left in_line ends true short is =
    let same : kinds.Text value ≡ kind = cc in
    found_as (text value) (kinds.Text value) kind left (text_shape value left in_line ends) (rw short is) same
text_found kind value left in_line ends false long is = absurd cc

-- what some bytes are a token of is found as it is written
kind_found : (kind : TokenKind) (s : Shape) (front left : List ℕ) → Spells s front → piece_of s ≡ Some (token kind) → BeginsApart left → IsFound kind left
kind_found kind s front left (a_separator e) is ends = absurd cc
kind_found kind s front left (a_line e) is ends = absurd cc
kind_found kind s front left (a_comment bs lacks) is ends = absurd cc
kind_found kind s front left (an_unclosed lacks) is ends = absurd cc
kind_found kind s front left (a_name {b = b} {bs = bs} letter others) is ends =
    name_found kind b bs left letter others ends (leb (length (b ∷ bs)) 64) refl (word_of (b ∷ bs)) refl is
kind_found kind s front left (a_whole {bs = bs} numeral) is ends = whole_found kind (number_of 10 bs) left ends (ltb (number_of 10 bs) (2 ^ 64)) refl is
kind_found kind s front left (a_based {b = b} {base = base} {bs = bs} based numeral) is ends =
    whole_found kind (number_of base bs) left ends (ltb (number_of base bs) (2 ^ 64)) refl is
kind_found kind s front left (a_character {b = b} in_line other) is ends =
    let same : kinds.Char b ≡ kind = cc in found_as (character b) (kinds.Char b) kind left (character_shape b left in_line other) is same
kind_found kind s front left an_apostrophe is ends =
    let same : kinds.Char 39 ≡ kind = cc in found_as (character 39) (kinds.Char 39) kind left (apostrophe_shape left) is same
kind_found kind s front left (a_text {value = value} e) is ends = text_found kind value left e ends (leb (length value) 256) refl is
kind_found kind s front left (a_sign {s = r}) is ends =
    let same : kinds.Sign r ≡ kind = cc in found_as (sign r) (kinds.Sign r) kind left (sign_shape r left ends) is same

-- some bytes are this token
record HasSpelling (kind : TokenKind) : Type 0 where
  shape : Shape
  front : List ℕ
  spells : Spells shape front
  is : piece_of shape ≡ Some (token kind)

-- the tokens of a text are spelled
own_spelled : (at : Pos) (piece : Piece) (front rest : List ℕ) (tokens : List Token) → IsPieceAt piece front rest → AllByRecursion HasSpelling (token_kinds tokens) → AllByRecursion HasSpelling (token_kinds (own_token at piece ++ tokens))
own_spelled at between front rest tokens begins others = others
own_spelled at (token kind) front rest tokens begins others =
    let first : HasSpelling kind = record { shape = begins.shape; front = front; spells = begins.longest.spells; is = begins.is } in (first, others)

all_spelled : (at : Pos) (cuts : List Cut) (rest : List ℕ) → ArePieces cuts rest → AllByRecursion HasSpelling (token_kinds (tokens_among at cuts))
all_spelled at [] rest pieces = tt
all_spelled at (cut ∷ cuts) rest pieces =
    own_spelled at cut.piece cut.bytes (joined cuts ++ rest) (tokens_among (behind_all at cut.bytes) cuts) pieces.0 (all_spelled (behind_all at cut.bytes) cuts rest pieces.1)

-- a whole text is cut into tokens of these kinds
record IsCutAs (bytes : List ℕ) (ks : Kinds) : Type 0 where
  cuts : List Cut
  whole : bytes ≡ joined cuts
  pieces : ArePieces cuts []
  same : (at : Pos) → token_kinds (tokens_among at cuts) ≡ ks

piece_before : (piece : Piece) (front bytes : List ℕ) → piece_at (front ++ bytes) ≡ Some (piece, length front) → IsPieceAt piece front bytes
piece_before piece front bytes e =
    let begins = piece_begins (front ++ bytes) piece (length front) e in
    subst (λ (xs : List ℕ). IsPieceAt piece xs bytes) (take_at front bytes (length front) refl)
    (subst (λ (xs : List ℕ). IsPieceAt piece (take (length front) (front ++ bytes)) xs) (drop_at front bytes (length front) refl) begins.0)

pieces_before : (piece : Piece) (front bytes : List ℕ) (cuts : List Cut) → piece_at (front ++ bytes) ≡ Some (piece, length front) → bytes ≡ joined cuts → IsPieceAt piece front (joined cuts ++ [])
pieces_before piece front bytes cuts e is_joined = subst (IsPieceAt piece front) (is_joined ∙ sym (append-nil (joined cuts))) (piece_before piece front bytes e)

-- a token more, and a separator more, before the rest
token_before : (kind : TokenKind) (front bytes : List ℕ) (ks : Kinds) → piece_at (front ++ bytes) ≡ Some (token kind, length front) → IsCutAs bytes ks → IsCutAs (front ++ bytes) (kind ∷ ks)
token_before kind front bytes ks e after = let rest = after.same in record {
  cuts = record { bytes = front; piece = token kind } ∷ after.cuts;
  whole = ap (λ (xs : List ℕ). front ++ xs) after.whole;
  pieces = (pieces_before (token kind) front bytes after.cuts e after.whole, after.pieces);
  same = λ at. ap (λ (xs : Kinds). kind ∷ xs) (rest (behind_all at front));
}

gap_before : (front bytes : List ℕ) (ks : Kinds) → piece_at (front ++ bytes) ≡ Some (between, length front) → IsCutAs bytes ks → IsCutAs (front ++ bytes) ks
gap_before front bytes ks e after = let rest = after.same in record {
  cuts = record { bytes = front; piece = between } ∷ after.cuts;
  whole = ap (λ (xs : List ℕ). front ++ xs) after.whole;
  pieces = (pieces_before between front bytes after.cuts e after.whole, after.pieces);
  same = λ at. rest (behind_all at front);
}

blank_found : (bytes : List ℕ) → piece_at (32 ∷ bytes) ≡ Some (between, 1)
unfolding shape_at
blank_found bytes = refl

feed_found : (bytes : List ℕ) → piece_at (10 ∷ bytes) ≡ Some (between, 1)
unfolding shape_at
feed_found bytes = refl

-- what stands between two tokens, before the rest
gap_cut : (t : Bool) (ks : Kinds) → IsCutAs (canonical_text ks) ks → IsCutAs (cond t (10 ∷ []) (blank_before ks) ++ canonical_text ks) ks × BeginsApart (cond t (10 ∷ []) (blank_before ks) ++ canonical_text ks)
gap_cut true ks after = (gap_before (10 ∷ []) (canonical_text ks) ks (feed_found (canonical_text ks)) after, feed_apart)
gap_cut false [] after = (after, tt)
gap_cut false (k ∷ ks) after = (gap_before (32 ∷ []) (canonical_text (k ∷ ks)) (k ∷ ks) (blank_found (canonical_text (k ∷ ks))) after, blank_apart)

canonical_cut : (ks : Kinds) → AllByRecursion HasSpelling ks → IsCutAs (canonical_text ks) ks
canonical_cut [] spelled = record { cuts = []; whole = refl; pieces = tt; same = λ at. refl }
canonical_cut (k ∷ ks) spelled =
    let first : HasSpelling k = spelled.0 in
    let gap = gap_cut (is_sign signs.Semicolon k) ks (canonical_cut ks spelled.1) in
    token_before k (kind_text k) (gap_behind k ks ++ canonical_text ks) ks (kind_found k first.shape first.front (gap_behind k ks ++ canonical_text ks) first.spells first.is gap.1) gap.0

pub read_back : ReadBackLaw
read_back bytes tokens are =
    let spelled = subst (λ (ts : List Token). AllByRecursion HasSpelling (token_kinds ts)) (sym are.are) (all_spelled first_place are.cuts [] are.pieces) in
    let cut = canonical_cut (token_kinds tokens) spelled in
    let same = cut.same in
    record {
      tokens = tokens_among first_place cut.cuts;
      read = record { cuts = cut.cuts; whole = cut.whole; pieces = cut.pieces; are = refl };
      same = same first_place;
    }

pub written_again : WrittenAgainLaw
written_again bytes tokens others are read =
    let back = read_back bytes tokens are in
    let same = back.same in
    ap (λ (ts : List Token). canonical_text (token_kinds ts)) (one_list (canonical_text (token_kinds tokens)) others back.tokens read back.read) ∙ ap canonical_text same
