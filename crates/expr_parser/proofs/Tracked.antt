-- Two lists of tokens that agree as far as levels of nesting are left, read with as many levels or with more: what
-- is read is the same, unless levels were wanting.
use Rattle.std.proofs.Common.{◌≡◌, ℕ, zero, suc, ◌≤◌, Bool, true, false, cond, List, [], ◌∷◌, length, Option, Some, None, Result, Ok, Err, refl, sym, ap, ◌∙◌, subst, arith, length-append}
use Rattle.chill_base.specs.declared.pos.Pos.{Pos}
use Rattle.chill_tree.specs.declared.token.Sign.{Sign}
use Rattle.chill_tree.specs.declared.token.Sign.TheVariants as signs
use Rattle.chill_tree.specs.declared.token.Word.{Word}
use Rattle.chill_tree.specs.declared.token.Token.{Token}
use Rattle.chill_tree.specs.declared.token.TokenKind.{TokenKind}
use Rattle.chill_tree.specs.declared.token.TokenKind.TheVariants as kinds
use Rattle.rules_model.specs.declared.extent.Extent.{Extent}
use Rattle.rules_model.specs.declared.extent.Extent.TheVariants as extents
use Rattle.rules_model.specs.Marks.{Toks, tok, is_sign, is_word, begins, begins_with}
use Rattle.rules_model.specs.Nesting.{room_after}
use Rattle.rules_model.specs.Reading.{Fault, Deep, Absent, Read, Piece, ◌>>=◌, settle, chosen, sign_at, word_at, name_of, name_at, repeat, push, another_at, listed_at}
use Rattle.expr_parser.proofs.Marked.{is_sign_true, is_word_true}
use Rattle.expr_parser.proofs.Taken.{Told, taken}

-- which tokens are alike where n levels are left
-- (b is read with n levels, a with as many or more)

-- tokens that are alike end together, or begin with the same token, and go on alike where a level is left behind it
pub data Front (L : ℕ → Toks → Toks → Type 0) (n : ℕ) : Toks → Toks → Type 0 where
  at_end : Front L n [] []
  at_token : {t : Token} {b a : Toks} → ((k : ℕ) → room_after t.kind n ≡ suc k → L (suc k) b a) → Front L n (t ∷ b) (t ∷ a)

abbrev pub Looks : (ℕ → Toks → Toks → Type 0) → Type 0
Looks L = (n : ℕ) (b a : Toks) → L n b a → Front L n b a

-- what was read of the two
pub data Tracks {A : Type 0} (L : ℕ → Toks → Toks → Type 0) (n : ℕ) : Result (A × Toks) Fault → Result (A × Toks) Fault → Type 0 where
  runs_out : {p : Pos} {r : Result (A × Toks) Fault} → Tracks L n (Err (Deep p)) r
  both_missing : {o u : Option Pos} → Tracks L n (Err (Absent o)) (Err (Absent u))
  both_read : {x : A} {b a : Toks} → L n b a → Tracks L n (Ok (x, b)) (Ok (x, a))

pub data TracksPiece {A : Type 0} (L : ℕ → Toks → Toks → Type 0) (n : ℕ) : Result (Option (A × Toks)) Fault → Result (Option (A × Toks)) Fault → Type 0 where
  piece_out : {p : Pos} {r : Result (Option (A × Toks)) Fault} → TracksPiece L n (Err (Deep p)) r
  pieces_missing : {o u : Option Pos} → TracksPiece L n (Err (Absent o)) (Err (Absent u))
  no_pieces : TracksPiece L n (Ok None) (Ok None)
  two_pieces : {x : A} {b a : Toks} → L n b a → TracksPiece L n (Ok (Some (x, b))) (Ok (Some (x, a)))

pub tracks_then : {A B : Type 0} {n k : ℕ} (L : ℕ → Toks → Toks → Type 0) (f g : A × Toks → Result (B × Toks) Fault) → ((x : A) (b a : Toks) → L n b a → Tracks L k (f (x, b)) (g (x, a))) → {s r : Result (A × Toks) Fault} → Tracks L n s r → Tracks L k (s >>= f) (r >>= g)
tracks_then L f g next runs_out = runs_out
tracks_then L f g next both_missing = both_missing
tracks_then L f g next (both_read {x = x} {b = b} {a = a} l) = next x b a l

pub tracks_settled : {A P : Type 0} {n : ℕ} (extent : Extent) (L : ℕ → Toks → Toks → Type 0) (g : A → P) {s r : Result (A × Toks) Fault} → Tracks L n s r → TracksPiece L n (settle extent s None (λ a. Ok (Some (g a.0, a.1)))) (settle extent r None (λ a. Ok (Some (g a.0, a.1))))
tracks_settled extent L g runs_out = piece_out
tracks_settled extents.Longest L g both_missing = no_pieces
tracks_settled extents.Whole L g both_missing = pieces_missing
tracks_settled extent L g (both_read l) = two_pieces l

-- ---- fronts

pub same_begins : {L : ℕ → Toks → Toks → Type 0} {n : ℕ} {b a : Toks} (s : Sign) → Front L n b a → begins s b ≡ begins s a
same_begins s at_end = refl
same_begins s (at_token f) = refl

pub same_word : {L : ℕ → Toks → Toks → Type 0} {n : ℕ} {b a : Toks} (w : Word) → Front L n b a → begins_with w b ≡ begins_with w a
same_word w at_end = refl
same_word w (at_token f) = refl

pub tracks_sign : {L : ℕ → Toks → Toks → Type 0} (s : Sign) (n k : ℕ) → room_after (kinds.Sign s) n ≡ suc k → {b a : Toks} → Front L n b a → Tracks L (suc k) (sign_at s b) (sign_at s a)
unfolding sign_at
tracks_sign s n k h at_end = both_missing
tracks_sign {L} s n k h (at_token {t = t} {b = b} {a = a} f) = go (is_sign s t.kind) refl
  where
    go : (c : Bool) → is_sign s t.kind ≡ c → Tracks L (suc k) (cond c (Ok (t.at, b)) (Err (Absent (Some t.at)))) (cond c (Ok (t.at, a)) (Err (Absent (Some t.at))))
    go false e = both_missing
    go true e = both_read (f k (ap (λ z. room_after z n) (is_sign_true s t.kind e) ∙ h))

pub tracks_word : {L : ℕ → Toks → Toks → Type 0} (w : Word) (n k : ℕ) → room_after (kinds.Word w) n ≡ suc k → {b a : Toks} → Front L n b a → Tracks L (suc k) (word_at w b) (word_at w a)
unfolding word_at
tracks_word w n k h at_end = both_missing
tracks_word {L} w n k h (at_token {t = t} {b = b} {a = a} f) = go (is_word w t.kind) refl
  where
    go : (c : Bool) → is_word w t.kind ≡ c → Tracks L (suc k) (cond c (Ok (t.at, b)) (Err (Absent (Some t.at)))) (cond c (Ok (t.at, a)) (Err (Absent (Some t.at))))
    go false e = both_missing
    go true e = both_read (f k (ap (λ z. room_after z n) (is_word_true w t.kind e) ∙ h))

-- an opening sign where no level is left behind it
pub tracks_full : {B : Type 0} {L : ℕ → Toks → Toks → Type 0} {n k : ℕ} (s : Sign) (f g : Pos × Toks → Result (B × Toks) Fault) → ((p : Pos) (m : Toks) → f (p, m) ≡ Err (Deep p)) → {b a : Toks} → Front L n b a → Tracks L k (sign_at s b >>= f) (sign_at s a >>= g)
unfolding sign_at
tracks_full s f g deep at_end = both_missing
tracks_full {B} {L} {n} {k} s f g deep (at_token {t = t} {b = b} {a = a} h) = go (is_sign s t.kind)
  where
    go : (c : Bool) → Tracks L k (cond c (Ok (t.at, b)) (Err (Absent (Some t.at))) >>= f) (cond c (Ok (t.at, a)) (Err (Absent (Some t.at))) >>= g)
    go false = both_missing
    go true = subst (λ (r : Result (B × Toks) Fault). Tracks L k r (g (t.at, a))) (sym (deep t.at b)) runs_out

kind_name : {L : ℕ → Toks → Toks → Type 0} (n : ℕ) (at : Pos) (k : TokenKind) (b a : Toks) → ((j : ℕ) → room_after k (suc n) ≡ suc j → L (suc j) b a) → Tracks L (suc n) (name_of (tok at k) b) (name_of (tok at k) a)
kind_name n at (kinds.Name s) b a f = both_read (f n refl)
kind_name n at (kinds.Word w) b a f = both_missing
kind_name n at (kinds.Whole w) b a f = both_missing
kind_name n at (kinds.Char w) b a f = both_missing
kind_name n at (kinds.Text w) b a f = both_missing
kind_name n at (kinds.Sign w) b a f = both_missing

pub tracks_name : {L : ℕ → Toks → Toks → Type 0} (n : ℕ) {b a : Toks} → Front L (suc n) b a → Tracks L (suc n) (name_at b) (name_at a)
unfolding name_at
tracks_name n at_end = both_missing
tracks_name n (at_token {t = t} {b = b} {a = a} f) = kind_name n t.at t.kind b a f

-- ---- loops

pub tracks_loop : {S P : Type 0} (L : ℕ → Toks → Toks → Type 0) (n : ℕ) (piece other : Toks → Piece P) (grow : S → P → S) → ((b a : Toks) → L n b a → TracksPiece L n (piece b) (other a)) → (k : ℕ) (s : S) (b a : Toks) → L n b a → Tracks L n (repeat piece grow k s b) (repeat other grow k s a)
unfolding repeat
tracks_loop L n piece other grow one zero s b a l = both_read l
tracks_loop {S} {P} L n piece other grow one (suc k) s b a l = go (λ x c d m. tracks_loop L n piece other grow one k (grow s x) c d m) (one b a l)
  where
    go : ((x : P) (c d : Toks) → L n c d → Tracks L n (repeat piece grow k (grow s x) c) (repeat other grow k (grow s x) d)) → {p q : Piece P} → TracksPiece L n p q → Tracks L n (p >>= λ o. chosen o (Ok (s, b)) (λ x. repeat piece grow k (grow s x.0) x.1)) (q >>= λ o. chosen o (Ok (s, a)) (λ x. repeat other grow k (grow s x.0) x.1))
    go again piece_out = runs_out
    go again pieces_missing = both_missing
    go again no_pieces = both_read l
    go again (two_pieces {x = x} {b = c} {a = d} m) = again x c d m

-- a list, whose loop is bounded by the tokens
module _ {X : Type 0} (L : ℕ → Toks → Toks → Type 0) (look : Looks L) (n i j : ℕ) (read other : Toks → Read X) (IsR IsO : X → Toks → Toks → Type 0)
    (told_read : (t : Toks) → Told i i IsR t (read t)) (told_other : (t : Toks) → Told j j IsO t (other t)) (one : (b a : Toks) → L (suc n) b a → Tracks L (suc n) (read b) (other a)) where
  no_more : (r : Toks → Read X) (k : ℕ) (xs : List X) → repeat (another_at r) push k xs [] ≡ Ok (xs, [])
  unfolding repeat another_at
  no_more r zero xs = refl
  no_more r (suc k) xs = refl

  ended : (k m : ℕ) (xs : List X) → L (suc n) [] [] → Tracks L (suc n) (repeat (another_at read) push k xs []) (repeat (another_at other) push m xs [])
  ended k m xs l = rw (no_more read k xs, no_more other m xs) (both_read l)

  abbrev Next : ℕ → ℕ → List X → Toks → Toks → Type 0
  Next k m xs b a = (x : X) (c d : Toks) → length c ≤ length b → length d ≤ length a → L (suc n) c d → Tracks L (suc n) (repeat (another_at read) push k (push xs x) c) (repeat (another_at other) push m (push xs x) d)

  abbrev goes_on : (Toks → Read X) → ℕ → List X → Toks → Option (X × Toks) → Read (List X)
  goes_on r k xs t o = chosen o (Ok (xs, t)) (λ x. repeat (another_at r) push k (push xs x.0) x.1)

  item : (k m : ℕ) (xs : List X) (t u b a : Toks) → Next k m xs b a → {p q : Read X} → Tracks L (suc n) p q → Told i i IsR b p → Told j j IsO a q → Tracks L (suc n) ((p >>= λ x. Ok (Some x)) >>= goes_on read k xs t) ((q >>= λ x. Ok (Some x)) >>= goes_on other m xs u)
  item k m xs t u b a again runs_out h g = runs_out
  item k m xs t u b a again both_missing h g = both_missing
  item k m xs t u b a again (both_read {x = x} {b = c} {a = d} l) (taken T) (taken U) = again x c d (omega (arith, ap length T.here, length-append T.used c)) (omega (arith, ap length U.here, length-append U.used d)) l

  abbrev one_sign : Token → Bool → Toks → Read Pos
  one_sign t v rest = cond v (Ok (t.at, rest)) (Err (Absent (Some t.at)))

  one_more : (k m : ℕ) (xs : List X) (t : Token) (b a : Toks) (v : Bool) → is_sign signs.Comma t.kind ≡ v → L (suc n) (t ∷ b) (t ∷ a) → ((r : ℕ) → room_after t.kind (suc n) ≡ suc r → L (suc r) b a) → Next k m xs b a
      → Tracks L (suc n) (cond v (one_sign t v b >>= λ c. read c.1 >>= λ x. Ok (Some x)) (Ok None) >>= goes_on read k xs (t ∷ b)) (cond v (one_sign t v a >>= λ c. other c.1 >>= λ x. Ok (Some x)) (Ok None) >>= goes_on other m xs (t ∷ a))
  one_more k m xs t b a false e l f again = both_read l
  one_more k m xs t b a true e l f again =
      let behind : L (suc n) b a = f n (ap (λ z. room_after z (suc n)) (is_sign_true signs.Comma t.kind e)) in
      item k m xs (t ∷ b) (t ∷ a) b a again (one b a behind) (told_read b) (told_other a)

  others : (k m : ℕ) (xs : List X) {b a : Toks} → length b ≤ k → length a ≤ m → L (suc n) b a → Front L (suc n) b a → Tracks L (suc n) (repeat (another_at read) push k xs b) (repeat (another_at other) push m xs a)
  unfolding repeat another_at sign_at
  others k m xs kb ma l at_end = ended k m xs l
  others zero m xs kb ma l (at_token f) = absurd (omega (arith, kb))
  others (suc k) zero xs kb ma l (at_token f) = absurd (omega (arith, ma))
  others (suc k) (suc m) xs kb ma l (at_token {t = t} {b = b} {a = a} f) =
      one_more k m xs t b a (is_sign signs.Comma t.kind) refl l f (λ x c d cb da q. others k m (push xs x) (omega (arith, kb, cb)) (omega (arith, ma, da)) q (look (suc n) c d q))

  first_item : (b a : Toks) → {p q : Read X} → Tracks L (suc n) p q → Told i i IsR b p → Told j j IsO a q → Tracks L (suc n) (p >>= λ x. repeat (another_at read) push (length b) (x.0 ∷ []) x.1) (q >>= λ x. repeat (another_at other) push (length a) (x.0 ∷ []) x.1)
  first_item b a runs_out h g = runs_out
  first_item b a both_missing h g = both_missing
  first_item b a (both_read {x = x} {b = c} {a = d} l) (taken T) (taken U) = others (length b) (length a) (x ∷ []) (omega (arith, ap length T.here, length-append T.used c)) (omega (arith, ap length U.here, length-append U.used d)) l (look (suc n) c d l)

  pub tracks_listed : (b a : Toks) → L (suc n) b a → Tracks L (suc n) (listed_at read b) (listed_at other a)
  unfolding listed_at
  tracks_listed b a l = first_item b a (one b a l) (told_read b) (told_other a)
