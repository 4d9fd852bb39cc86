-- Each text has one reading: its tokens, or the first place where no piece begins.
use Rattle.std.proofs.Common.{◌≡◌, ℕ, zero, suc, ◌<◌, ◌≤◌, List, [], ◌∷◌, ◌++◌, length, take, drop, Option, Some, None, option_map, refl, sym, ap, subst, ◌∙◌, ◌⊎◌, inl, inr, arith, append_assoc}
use Rattle.std.proofs.lemmas.List.{take_at, drop_at, take-append-drop, length-drop, append-nil}
use Rattle.chill_base.specs.declared.pos.Pos.{Pos}
use Rattle.chill_tree.specs.declared.token.Token.{Token}
use Rattle.rules_model.specs.TokensShapes.{Shape, Piece, piece_of}
use Rattle.rules_model.specs.TokensCut.{behind_all, first_place, IsPieceAt, Cut, joined, ArePieces, tokens_among, AreTokensOf, BeginsNone, IsBadAt}
use Rattle.rules_model.specs.TokensReading.{Found, shape_at, limited, piece_at}
use Rattle.rules_model.proofs.TokensExact.{longest_at, longest_found, found_within}

-- a piece at the front is found there
pub piece_found : (piece : Piece) (front rest : List ℕ) → IsPieceAt piece front rest → piece_at (front ++ rest) ≡ Some (piece, length front)
piece_found piece front rest at = ap limited (longest_found at.shape front rest at.longest) ∙ ap (option_map {U = Piece × ℕ} (λ p. (p, length front))) at.is

-- at most one piece begins at a place
pub one_piece : (p q : Piece) (front rest longer less : List ℕ) → IsPieceAt p front rest → IsPieceAt q longer less → longer ++ less ≡ front ++ rest
    → (longer ≡ front) × (less ≡ rest) × (q ≡ p)
one_piece p q front rest longer less at other same =
    let found : Some (q, length longer) ≡ Some (p, length front) = sym (piece_found q longer less other) ∙ ap piece_at same ∙ piece_found p front rest at in
    let is_piece : q ≡ p = ap (λ o. piece_in q o) found in
    let is_length : length longer ≡ length front = ap (λ o. length_in o) found in
    let is_front : longer ≡ front = sym (take_at longer less (length longer) refl) ∙ (λ i. take (is_length i) (same i)) ∙ take_at front rest (length front) refl in
    let is_rest : less ≡ rest = sym (drop_at longer less (length longer) refl) ∙ (λ i. drop (is_length i) (same i)) ∙ drop_at front rest (length front) refl in
    (is_front, is_rest, is_piece)
  where
    piece_in : Piece → Option (Piece × ℕ) → Piece
    piece_in d None = d
    piece_in d (Some f) = f.0

    length_in : Option (Piece × ℕ) → ℕ
    length_in None = 0
    length_in (Some f) = f.1

-- what is found is a piece
limited_is : (o : Found) (piece : Piece) (n : ℕ) → limited o ≡ Some (piece, n) → (s : Shape) × (o ≡ Some (s, n)) × (piece_of s ≡ Some piece)
limited_is None piece n e = absurd cc
limited_is (Some f) piece n e = limited_piece (piece_of f.0) refl e
  where
    limited_piece : (o : Option Piece) → piece_of f.0 ≡ o → option_map {U = Piece × ℕ} (λ p. (p, f.1)) o ≡ Some (piece, n) → (s : Shape) × (Some f ≡ Some (s, n)) × (piece_of s ≡ Some piece)
    limited_piece None is e = absurd cc
    limited_piece (Some p) is e =
        let pair : ◌≡◌ {A = Piece × ℕ} (p, f.1) (piece, n) = cc in
        let same : p ≡ piece = ap (λ (x : Piece × ℕ). x.0) pair in let same_length : f.1 ≡ n = ap (λ (x : Piece × ℕ). x.1) pair in
        (f.0, (λ i. Some (f.0, same_length i)), is ∙ ap Some same)

pub piece_begins : (bytes : List ℕ) (piece : Piece) (n : ℕ) → piece_at bytes ≡ Some (piece, n) → IsPieceAt piece (take n bytes) (drop n bytes) × (n ≤ length bytes) × (0 < n)
piece_begins bytes piece n e =
    let h = limited_is (shape_at bytes) piece n e in
    let within = found_within bytes h.0 n h.1 in
    (record { shape = h.0; longest = longest_at bytes h.0 n h.1; is = h.2 }, within.0, within.1)

none_some : {X : Type 0} {x : X} → Some x ≡ None → ⊥
none_some e = cc

-- where nothing is found no piece begins
pub piece_none : (bytes : List ℕ) → piece_at bytes ≡ None → BeginsNone bytes
piece_none bytes e piece front rest same at = none_some (sym (piece_found piece front rest at) ∙ ap piece_at same ∙ e)

-- no piece begins at the end
pub none_at_end : BeginsNone []
unfolding shape_at
none_at_end = piece_none [] refl

-- two cuts up to where no piece begins are one
pub one_cut : (cs ds : List Cut) (rest less : List ℕ) → joined cs ++ rest ≡ joined ds ++ less → ArePieces cs rest → ArePieces ds less → BeginsNone rest → BeginsNone less
    → (cs ≡ ds) × (rest ≡ less)
one_cut [] [] rest less same cut other none none_less = (refl, same)
one_cut [] (d ∷ ds) rest less same cut other none none_less =
    absurd (none d.piece d.bytes (joined ds ++ less) (sym (append_assoc d.bytes (joined ds) less) ∙ sym same) other.0)
one_cut (c ∷ cs) [] rest less same cut other none none_less =
    absurd (none_less c.piece c.bytes (joined cs ++ rest) (sym (append_assoc c.bytes (joined cs) rest) ∙ same) cut.0)
one_cut (c ∷ cs) (d ∷ ds) rest less same cut other none none_less =
    let first = one_piece d.piece c.piece d.bytes (joined ds ++ less) c.bytes (joined cs ++ rest) other.0 cut.0
    (sym (append_assoc c.bytes (joined cs) rest) ∙ same ∙ append_assoc d.bytes (joined ds) less) in
    let others = one_cut cs ds rest less first.1 cut.1 other.1 none none_less in
    let head : c ≡ d = λ i. record { bytes = first.0 i; piece = first.2 i } in
    ((λ i. head i ∷ others.0 i), others.1)

-- how far a text is cut
pub record Cutting (bytes : List ℕ) : Type 0 where
  pub cuts : List Cut
  pub bad : List ℕ
  pub whole : bytes ≡ joined cuts ++ bad
  pub pieces : ArePieces cuts bad
  pub none : BeginsNone bad

cut_piece : (bytes : List ℕ) (piece : Piece) (n : ℕ) → piece_at bytes ≡ Some (piece, n) → Cutting (drop n bytes) → Cutting bytes
cut_piece bytes piece n e next =
    let begins = piece_begins bytes piece n e in
    record {
      cuts = record { bytes = take n bytes; piece = piece } ∷ next.cuts;
      bad = next.bad;
      whole = sym (take-append-drop n bytes) ∙ ap (λ (xs : List ℕ). take n bytes ++ xs) next.whole ∙ sym (append_assoc (take n bytes) (joined next.cuts) next.bad);
      pieces = (subst (IsPieceAt piece (take n bytes)) next.whole begins.0, next.pieces);
      none = next.none;
    }

cutting_by : (n : ℕ) (bytes : List ℕ) → length bytes ≤ suc n → (o : Option (Piece × ℕ)) → piece_at bytes ≡ o → ((xs : List ℕ) → length xs ≤ n → Cutting xs) → Cutting bytes
cutting_by n bytes h None e next = record { cuts = []; bad = bytes; whole = refl; pieces = tt; none = piece_none bytes e }
cutting_by n bytes h (Some f) e next =
    let begins = piece_begins bytes f.0 f.1 e in
    cut_piece bytes f.0 f.1 e (next (drop f.1 bytes) (simp length-drop (omega arith)))

cutting : (n : ℕ) (bytes : List ℕ) → length bytes ≤ n → Cutting bytes
cutting zero [] h = record { cuts = []; bad = []; whole = refl; pieces = tt; none = none_at_end }
cutting zero (b ∷ bs) h = absurd (omega arith)
cutting (suc n) bytes h = cutting_by n bytes h (piece_at bytes) refl (cutting n)

-- each text is cut up to where no piece begins
pub cut_of : (text : List ℕ) → Cutting text
cut_of text = cutting (length text) text (omega arith)

-- a text's tokens are one list
pub one_list : (text : List ℕ) (tokens others : List Token) → AreTokensOf text tokens → AreTokensOf text others → tokens ≡ others
one_list text tokens others a b =
    let cuts = one_cut a.cuts b.cuts [] [] (append-nil (joined a.cuts) ∙ sym a.whole ∙ b.whole ∙ sym (append-nil (joined b.cuts))) a.pieces b.pieces none_at_end none_at_end in
    a.are ∙ ap (tokens_among first_place) cuts.0 ∙ sym b.are

-- the first place where no piece begins is one
pub one_place : (text : List ℕ) (at other : Pos) → IsBadAt text at → IsBadAt text other → at ≡ other
one_place text at other a b =
    let cuts = one_cut a.cuts b.cuts a.bad b.bad (sym a.whole ∙ b.whole) a.pieces b.pieces a.none b.none in
    a.place ∙ ap (λ (cs : List Cut). behind_all first_place (joined cs)) cuts.0 ∙ sym b.place

-- no text has both
pub not_both : (text : List ℕ) (tokens : List Token) (at : Pos) → AreTokensOf text tokens → IsBadAt text at → ⊥
not_both text tokens at a b =
    let cuts = one_cut a.cuts b.cuts [] b.bad (append-nil (joined a.cuts) ∙ sym a.whole ∙ b.whole) a.pieces b.pieces none_at_end b.none in
    b.some (sym cuts.1)

-- each text has one of both
pub some_reading : (text : List ℕ) → ((tokens : List Token) × AreTokensOf text tokens) ⊎ ((at : Pos) × IsBadAt text at)
some_reading text = by_rest (cut_of text).cuts (cut_of text).bad (cut_of text).whole (cut_of text).pieces (cut_of text).none
  where
    by_rest : (cuts : List Cut) (bad : List ℕ) → text ≡ joined cuts ++ bad → ArePieces cuts bad → BeginsNone bad → ((tokens : List Token) × AreTokensOf text tokens) ⊎ ((at : Pos) × IsBadAt text at)
    by_rest cuts [] whole pieces none = inl (tokens_among first_place cuts, record { cuts = cuts; whole = whole ∙ append-nil (joined cuts); pieces = pieces; are = refl })
    by_rest cuts (b ∷ bs) whole pieces none = inr (behind_all first_place (joined cuts), record { cuts = cuts; bad = b ∷ bs; whole = whole; pieces = pieces; some = (λ e. absurd cc); none = none; place = refl })
