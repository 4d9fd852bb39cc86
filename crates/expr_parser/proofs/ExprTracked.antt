-- Expressions in tokens that are alike, read with as many levels of nesting or with more.
use Rattle.std.proofs.Common.{◌≡◌, ℕ, zero, suc, ◌≤◌, Bool, true, false, cond, ◌&&◌, List, [], ◌∷◌, Option, Some, None, Ok, Err, refl, ap, ◌∙◌, arith}
use Rattle.chill_base.specs.declared.pos.Pos.{Pos}
use Rattle.chill_tree.specs.declared.token.Word.TheVariants as words
use Rattle.chill_tree.specs.declared.token.Sign.{Sign}
use Rattle.chill_tree.specs.declared.token.Sign.TheVariants as signs
use Rattle.chill_tree.specs.declared.token.Token.{Token}
use Rattle.chill_tree.specs.declared.token.TokenKind.{TokenKind}
use Rattle.chill_tree.specs.declared.token.TokenKind.TheVariants as kinds
use Rattle.chill_tree.specs.declared.tree.name.Name.{Name}
use Rattle.chill_tree.specs.declared.tree.expr.Operator.{Operator}
use Rattle.chill_tree.specs.declared.tree.expr.Prefix.TheVariants as prefixes
use Rattle.chill_tree.specs.ExprTree.{ExprTree, paren, tuple, uniform, name, prefixed, RangeTree, alone, between, range_nodes}
use Rattle.rules_model.specs.declared.extent.Extent.{Extent}
use Rattle.rules_model.specs.declared.extent.Extent.TheVariants as extents
use Rattle.rules_model.specs.Marks.{Toks, tok, sign, is_sign, begins, begins_with, operator_of}
use Rattle.rules_model.specs.ExprGrammar.{tuple_place, IsRange, IsRanked}
use Rattle.rules_model.specs.Nesting.{room_after}
use Rattle.rules_model.specs.Reading.{Deep, Read, ◌>>=◌, settle, chosen, sign_at, word_at, listed_at}
use Rattle.rules_model.specs.ExprReading.{args_at, field_at, Args, Field, with_part, part_at, parts_at, paren_at, range_at, begins_uniform, uniform_at, ranges_at, tuple_at, begun_at, operand_at, prefixed_at, ranked_operator, operator_at, turn_at, with_turn, ranked_at, expr_at}
use Rattle.rules_model.proofs.ExprStops.{operator_marks}
use Rattle.expr_parser.proofs.Marked.{is_sign_true}
use Rattle.expr_parser.proofs.ExprTaken.{told_expr, told_inner, range_told, ranked_is}
use Rattle.expr_parser.proofs.Tracked.{Front, at_end, at_token, Looks, Tracks, runs_out, both_missing, both_read, TracksPiece, no_pieces, tracks_then, tracks_settled, same_begins, same_word, tracks_sign, tracks_word, tracks_full, tracks_name, tracks_loop, tracks_listed}

-- an opening parenthesis where no level is left behind it
deep_expr : (at q : Pos) (m : Toks) → expr_at 1 at (sign q signs.Open ∷ m) ≡ Err (Deep q)
unfolding expr_at ranked_at prefixed_at operand_at paren_at sign_at
deep_expr at q m = refl

deep_ranges : (at q : Pos) (m : Toks) → ranges_at (expr_at 1) at (sign q signs.Open ∷ m) ≡ Err (Deep q)
unfolding ranges_at listed_at range_at
deep_ranges at q m = rw (deep_expr at q m) refl

deep_uniform : (mode : Option Name) (at q : Pos) (m : Toks) → uniform_at 1 (expr_at 1) mode at (sign q signs.Open ∷ m) ≡ Err (Deep q)
unfolding uniform_at sign_at
deep_uniform mode at q m = refl

abbrev a_tuple : Option Name → Pos → List RangeTree → ExprTree
a_tuple mode at rs = tuple (tuple_place mode at) mode at (range_nodes rs)

-- a tuple behind its bracket
abbrev inside_tuple : ℕ → Option Name → Pos → Toks → Read ExprTree
inside_tuple n mode at toks = cond (begins_uniform toks) (uniform_at n (expr_at n) mode at toks) (ranges_at (expr_at n) at toks >>= λ rs. Ok (a_tuple mode at rs.0, rs.1))

deep_inside : (mode : Option Name) (at q : Pos) (m : Toks) → inside_tuple 1 mode at (sign q signs.Open ∷ m) ≡ Err (Deep q)
deep_inside mode at q m = go (begins signs.Times m)
  where
    go : (v : Bool) → cond v (uniform_at 1 (expr_at 1) mode at (sign q signs.Open ∷ m)) (ranges_at (expr_at 1) at (sign q signs.Open ∷ m) >>= λ rs. Ok (a_tuple mode at rs.0, rs.1)) ≡ Err (Deep q)
    go true = deep_uniform mode at q m
    go false = rw (deep_ranges at q m) refl

module _ (L : ℕ → Toks → Toks → Type 0) (look : Looks L) where
  -- what is read behind opening tokens, with n levels and with m
  abbrev pub Twin : ℕ → ℕ → Type 0
  Twin zero m = Unit {0}
  Twin (suc n) zero = ⊥
  Twin (suc n) (suc m) = (p : Pos) (b a : Toks) → L (suc n) b a → Tracks L (suc n) (expr_at (suc n) p b) (expr_at (suc m) p a)

  close : {B : Type 0} (s : Sign) (n k : ℕ) → room_after (kinds.Sign s) n ≡ suc k → (y : B) (b a : Toks) → L n b a → Tracks L (suc k) (sign_at s b >>= λ c. Ok (y, c.1)) (sign_at s a >>= λ c. Ok (y, c.1))
  close s n k h y b a l = tracks_then L _ _ (λ p c d m. both_read m) (tracks_sign s n k h (look n b a l))

  args_inside : (n m : ℕ) → Twin (suc n) (suc m) → (p : Pos) (b a : Toks) → L (suc n) b a → Tracks L (suc (suc n)) (cond (begins signs.Close b) (sign_at signs.Close b >>= λ c. Ok ([], c.1)) (listed_at (expr_at (suc n) p) b >>= λ es. sign_at signs.Close es.1 >>= λ c. Ok (es.0, c.1))) (cond (begins signs.Close a) (sign_at signs.Close a >>= λ c. Ok ([], c.1)) (listed_at (expr_at (suc m) p) a >>= λ es. sign_at signs.Close es.1 >>= λ c. Ok (es.0, c.1)))
  args_inside n m twin p b a l = rw (same_begins signs.Close (look (suc n) b a l)) (go (begins signs.Close a))
    where
      go : (v : Bool) → Tracks L (suc (suc n)) (cond v (sign_at signs.Close b >>= λ c. Ok ([], c.1)) (listed_at (expr_at (suc n) p) b >>= λ es. sign_at signs.Close es.1 >>= λ c. Ok (es.0, c.1))) (cond v (sign_at signs.Close a >>= λ c. Ok ([], c.1)) (listed_at (expr_at (suc m) p) a >>= λ es. sign_at signs.Close es.1 >>= λ c. Ok (es.0, c.1)))
      go true = close signs.Close (suc n) (suc n) refl [] b a l
      go false =
          tracks_then L _ _ (λ es c d q. close signs.Close (suc n) (suc n) refl es c d q)
          (tracks_listed L look n (suc n) (suc m) (expr_at (suc n) p) (expr_at (suc m) p) (IsRanked 5) (IsRanked 5) (told_expr n p) (told_expr m p) (twin p) b a l)

  tracks_args : (n m : ℕ) → Twin n m → (b a : Toks) → L (suc n) b a → Tracks L (suc n) (args_at n (expr_at n) b) (args_at m (expr_at m) a)
  unfolding args_at
  tracks_args zero m twin b a l = tracks_full signs.Open _ _ (λ p rest. refl) (look 1 b a l)
  tracks_args (suc n) zero twin b a l = absurd twin
  tracks_args (suc n) (suc m) twin b a l = tracks_then L _ _ (λ p c d q. args_inside n m twin p c d q) (tracks_sign signs.Open (suc (suc n)) n refl (look (suc (suc n)) b a l))

  tracks_field : (n : ℕ) (b a : Toks) → L (suc n) b a → Tracks L (suc n) (field_at b) (field_at a)
  unfolding field_at
  tracks_field n b a l = tracks_then L _ _ (λ p c d q. tracks_name n (look (suc n) c d q)) (tracks_sign signs.Dot (suc n) n refl (look (suc n) b a l))

  tracks_part : (extent : Extent) (n m : ℕ) → Twin n m → (b a : Toks) → L (suc n) b a → TracksPiece L (suc n) (part_at extent n (expr_at n) b) (part_at extent m (expr_at m) a)
  unfolding part_at
  tracks_part extent n m twin b a l = rw (same_begins signs.Open (look (suc n) b a l), same_begins signs.Dot (look (suc n) b a l)) (go (begins signs.Open a) (begins signs.Dot a))
    where
      go : (v w : Bool) → TracksPiece L (suc n) (cond v (settle extent (args_at n (expr_at n) b) None (λ a. Ok (Some (Args a.0, a.1)))) (cond w (settle extent (field_at b) None (λ f. Ok (Some (Field f.0, f.1)))) (Ok None))) (cond v (settle extent (args_at m (expr_at m) a) None (λ a. Ok (Some (Args a.0, a.1)))) (cond w (settle extent (field_at a) None (λ f. Ok (Some (Field f.0, f.1)))) (Ok None)))
      go true w = tracks_settled extent L Args (tracks_args n m twin b a l)
      go false true = tracks_settled extent L Field (tracks_field n b a l)
      go false false = no_pieces

  tracks_parts : (extent : Extent) (n m : ℕ) → Twin n m → (e : ExprTree) (b a : Toks) → L (suc n) b a → Tracks L (suc n) (parts_at extent n (expr_at n) e b) (parts_at extent m (expr_at m) e a)
  tracks_parts extent n m twin e b a l = tracks_loop L (suc n) (part_at extent n (expr_at n)) (part_at extent m (expr_at m)) with_part (tracks_part extent n m twin) 32 e b a l

  -- ---- tuples

  tracks_range : (n m : ℕ) → Twin (suc n) (suc m) → (p : Pos) (b a : Toks) → L (suc n) b a → Tracks L (suc n) (range_at (expr_at (suc n) p) b) (range_at (expr_at (suc m) p) a)
  unfolding range_at
  tracks_range n m twin p b a l = tracks_then L _ _ second (twin p b a l)
    where
      go : (e : ExprTree) (c d : Toks) → L (suc n) c d → (v : Bool) → Tracks L (suc n) (cond v (sign_at signs.Colon c >>= λ q. expr_at (suc n) p q.1 >>= λ f. Ok (between e f.0, f.1)) (Ok (alone e, c))) (cond v (sign_at signs.Colon d >>= λ q. expr_at (suc m) p q.1 >>= λ f. Ok (between e f.0, f.1)) (Ok (alone e, d)))
      go e c d q false = both_read q
      go e c d q true = tracks_then L _ _ (λ o f g r. tracks_then L _ _ (λ x h i s. both_read s) (twin p f g r)) (tracks_sign signs.Colon (suc n) n refl (look (suc n) c d q))

      second : (e : ExprTree) (c d : Toks) → L (suc n) c d → Tracks L (suc n) (cond (begins signs.Colon c) (sign_at signs.Colon c >>= λ q. expr_at (suc n) p q.1 >>= λ f. Ok (between e f.0, f.1)) (Ok (alone e, c))) (cond (begins signs.Colon d) (sign_at signs.Colon d >>= λ q. expr_at (suc m) p q.1 >>= λ f. Ok (between e f.0, f.1)) (Ok (alone e, d)))
      second e c d q = rw (same_begins signs.Colon (look (suc n) c d q)) (go e c d q (begins signs.Colon d))

  tracks_ranges : (n m : ℕ) → Twin (suc n) (suc m) → (p : Pos) (b a : Toks) → L (suc n) b a → Tracks L (suc (suc n)) (ranges_at (expr_at (suc n)) p b) (ranges_at (expr_at (suc m)) p a)
  unfolding ranges_at
  tracks_ranges n m twin p b a l = rw (same_begins signs.CloseBracket (look (suc n) b a l)) (go (begins signs.CloseBracket a))
    where
      go : (v : Bool) → Tracks L (suc (suc n)) (cond v (sign_at signs.CloseBracket b >>= λ c. Ok ([], c.1)) (listed_at (range_at (expr_at (suc n) p)) b >>= λ rs. sign_at signs.CloseBracket rs.1 >>= λ c. Ok (rs.0, c.1))) (cond v (sign_at signs.CloseBracket a >>= λ c. Ok ([], c.1)) (listed_at (range_at (expr_at (suc m) p)) a >>= λ rs. sign_at signs.CloseBracket rs.1 >>= λ c. Ok (rs.0, c.1)))
      go true = close signs.CloseBracket (suc n) (suc n) refl [] b a l
      go false =
          tracks_then L _ _ (λ rs c d q. close signs.CloseBracket (suc n) (suc n) refl rs c d q)
          (tracks_listed L look n (suc n) (suc m) (range_at (expr_at (suc n) p)) (range_at (expr_at (suc m) p)) IsRange IsRange (range_told n (told_inner (suc n)) p) (range_told m (told_inner (suc m)) p) (tracks_range n m twin p) b a l)

  tracks_uniform : (n m : ℕ) → n ≤ m → Twin (suc n) (suc m) → (mode : Option Name) (at : Pos) (b a : Toks) → L (suc n) b a → Tracks L (suc (suc n)) (uniform_at (suc n) (expr_at (suc n)) mode at b) (uniform_at (suc m) (expr_at (suc m)) mode at a)
  unfolding uniform_at
  tracks_uniform zero m le twin mode at b a l = tracks_full signs.Open _ _ (λ p rest. refl) (look 1 b a l)
  tracks_uniform (suc n) zero le twin mode at b a l = absurd (omega (arith, le))
  tracks_uniform (suc n) (suc m) le twin mode at b a l =
      tracks_then L _ _ (λ p c d q.
      tracks_then L _ _ (λ p c d q.
      tracks_then L _ _ (λ p c d q.
      tracks_then L _ _ (λ p c d q.
      tracks_then L _ _ (λ e c d q. close signs.CloseBracket (suc (suc n)) (suc (suc n)) refl (uniform (tuple_place mode at) mode at e) c d q) (twin at c d q))
      (tracks_sign signs.Colon (suc (suc n)) (suc n) refl (look (suc (suc n)) c d q)))
      (tracks_sign signs.Close (suc n) (suc n) refl (look (suc n) c d q)))
      (tracks_sign signs.Times (suc n) n refl (look (suc n) c d q)))
      (tracks_sign signs.Open (suc (suc n)) n refl (look (suc (suc n)) b a l))

  two_same : (n : ℕ) {b a : Toks} → Front L (suc (suc n)) b a → begins_uniform b ≡ begins_uniform a
  two_same n at_end = refl
  two_same n (at_token {t = t} {b = b} {a = a} f) = go (is_sign signs.Open t.kind) refl
    where
      go : (v : Bool) → is_sign signs.Open t.kind ≡ v → (v && begins signs.Times b) ≡ (v && begins signs.Times a)
      go false e = refl
      go true e = same_begins signs.Times (look (suc n) b a (f n (ap (λ k. room_after k (suc (suc n))) (is_sign_true signs.Open t.kind e))))

  by_ranges : (n m : ℕ) → Twin (suc n) (suc m) → (mode : Option Name) (at : Pos) (b a : Toks) → L (suc n) b a → Tracks L (suc (suc n)) (ranges_at (expr_at (suc n)) at b >>= λ rs. Ok (a_tuple mode at rs.0, rs.1)) (ranges_at (expr_at (suc m)) at a >>= λ rs. Ok (a_tuple mode at rs.0, rs.1))
  by_ranges n m twin mode at b a l = tracks_then L _ _ (λ rs c d q. both_read q) (tracks_ranges n m twin at b a l)

  -- a parenthesis may be the token at which levels are wanting: what is behind it is not alike then
  at_limit : (m : ℕ) → Twin 1 (suc m) → (mode : Option Name) (at : Pos) (b a : Toks) → L 1 b a → Front L 1 b a → Tracks L 2 (inside_tuple 1 mode at b) (inside_tuple (suc m) mode at a)
  at_limit m twin mode at b a l at_end = by_ranges 0 m twin mode at [] [] l
  at_limit m twin mode at b a l (at_token {t = t} {b = c} {a = d} f) = go (is_sign signs.Open t.kind) refl
    where
      go : (v : Bool) → is_sign signs.Open t.kind ≡ v → Tracks L 2 (inside_tuple 1 mode at (t ∷ c)) (inside_tuple (suc m) mode at (t ∷ d))
      go false e = rw (e) (by_ranges 0 m twin mode at (t ∷ c) (t ∷ d) l)
      go true e =
          let same : t ≡ sign t.at signs.Open = ap (tok t.at) (is_sign_true signs.Open t.kind e) in
          let deep : inside_tuple 1 mode at (t ∷ c) ≡ Err (Deep t.at) = ap (λ (x : Token). inside_tuple 1 mode at (x ∷ c)) same ∙ deep_inside mode at t.at c in
          rw deep runs_out

  inside : (n m : ℕ) → n ≤ m → Twin (suc n) (suc m) → (mode : Option Name) (at : Pos) (b a : Toks) → L (suc n) b a → Tracks L (suc (suc n)) (inside_tuple (suc n) mode at b) (inside_tuple (suc m) mode at a)
  inside zero m le twin mode at b a l = at_limit m twin mode at b a l (look 1 b a l)
  inside (suc n) m le twin mode at b a l = rw (two_same n (look (suc (suc n)) b a l)) (go (begins_uniform a))
    where
      go : (v : Bool) → Tracks L (suc (suc (suc n))) (cond v (uniform_at (suc (suc n)) (expr_at (suc (suc n))) mode at b) (ranges_at (expr_at (suc (suc n))) at b >>= λ rs. Ok (a_tuple mode at rs.0, rs.1))) (cond v (uniform_at (suc m) (expr_at (suc m)) mode at a) (ranges_at (expr_at (suc m)) at a >>= λ rs. Ok (a_tuple mode at rs.0, rs.1)))
      go true = tracks_uniform (suc n) m le twin mode at b a l
      go false = by_ranges (suc n) m twin mode at b a l

  tracks_tuple : (n m : ℕ) → n ≤ m → Twin n m → (mode : Option Name) (b a : Toks) → L (suc n) b a → Tracks L (suc n) (tuple_at n (expr_at n) mode b) (tuple_at m (expr_at m) mode a)
  unfolding tuple_at
  tracks_tuple zero m le twin mode b a l = tracks_full signs.OpenBracket _ _ (λ p rest. refl) (look 1 b a l)
  tracks_tuple (suc n) zero le twin mode b a l = absurd twin
  tracks_tuple (suc n) (suc m) le twin mode b a l = tracks_then L _ _ (λ at c d q. inside n m (omega (arith, le)) twin mode at c d q) (tracks_sign signs.OpenBracket (suc (suc n)) n refl (look (suc (suc n)) b a l))

  -- ---- operands

  alone_or : (extent : Extent) (n : ℕ) (x : Name) (b a : Toks) → L (suc n) b a → {s r : Read ExprTree} → Tracks L (suc n) s r → Tracks L (suc n) (settle extent s (name x, b) (λ e. Ok e)) (settle extent r (name x, a) (λ e. Ok e))
  alone_or extent n x b a l runs_out = runs_out
  alone_or extents.Longest n x b a l both_missing = both_read l
  alone_or extents.Whole n x b a l both_missing = both_missing
  alone_or extent n x b a l (both_read q) = both_read q

  tracks_begun : (extent : Extent) (n m : ℕ) → n ≤ m → Twin n m → (x : Name) (b a : Toks) → L (suc n) b a → Tracks L (suc n) (begun_at extent n (expr_at n) x b) (begun_at extent m (expr_at m) x a)
  unfolding begun_at
  tracks_begun extent n m le twin x b a l = rw (same_begins signs.OpenBracket (look (suc n) b a l)) (go (begins signs.OpenBracket a))
    where
      go : (v : Bool) → Tracks L (suc n) (cond v (settle extent (tuple_at n (expr_at n) (Some x) b) (name x, b) (λ e. Ok e)) (parts_at extent n (expr_at n) (name x) b)) (cond v (settle extent (tuple_at m (expr_at m) (Some x) a) (name x, a) (λ e. Ok e)) (parts_at extent m (expr_at m) (name x) a))
      go true = alone_or extent n x b a l (tracks_tuple n m le twin (Some x) b a l)
      go false = tracks_parts extent n m twin (name x) b a l

  tracks_paren : (n m : ℕ) → Twin n m → (b a : Toks) → L (suc n) b a → Tracks L (suc n) (paren_at (expr_at n) b) (paren_at (expr_at m) a)
  unfolding paren_at expr_at
  tracks_paren zero m twin b a l = tracks_full signs.Open _ _ (λ p rest. refl) (look 1 b a l)
  tracks_paren (suc n) zero twin b a l = absurd twin
  tracks_paren (suc n) (suc m) twin b a l =
      tracks_then L _ _ (λ p c d q. tracks_then L _ _ (λ e f g r. close signs.Close (suc n) (suc n) refl (paren p e) f g r) (twin p c d q)) (tracks_sign signs.Open (suc (suc n)) n refl (look (suc (suc n)) b a l))

  of_kind : (extent : Extent) (n m : ℕ) → n ≤ m → Twin n m → (at : Pos) (k : TokenKind) (b a : Toks) → L (suc n) (tok at k ∷ b) (tok at k ∷ a) → ((j : ℕ) → room_after k (suc n) ≡ suc j → L (suc j) b a) → Tracks L (suc n) (operand_at extent n (expr_at n) (tok at k ∷ b)) (operand_at extent m (expr_at m) (tok at k ∷ a))
  unfolding operand_at
  of_kind extent n m le twin at (kinds.Whole v) b a l f = both_read (f n refl)
  of_kind extent n m le twin at (kinds.Char v) b a l f = both_read (f n refl)
  of_kind extent n m le twin at (kinds.Text v) b a l f = both_read (f n refl)
  of_kind extent n m le twin at (kinds.Name s) b a l f = tracks_begun extent n m le twin (record { at = at; text = s }) b a (f n refl)
  of_kind extent n m le twin at (kinds.Word words.This) b a l f = both_read (f n refl)
  of_kind extent n m le twin at (kinds.Word words.Receive) b a l f = tracks_then L _ _ (λ x c d q. both_read q) (tracks_name n (look (suc n) b a (f n refl)))
  of_kind extent n m le twin at (kinds.Word words.Start) b a l f =
      tracks_then L _ _ (λ x c d q. tracks_then L _ _ (λ es g h r. both_read r) (tracks_args n m twin c d q)) (tracks_name n (look (suc n) b a (f n refl)))
  of_kind extent n m le twin at (kinds.Word _) b a l f = both_missing
  of_kind extent n m le twin at (kinds.Sign signs.Open) b a l f = tracks_paren n m twin (sign at signs.Open ∷ b) (sign at signs.Open ∷ a) l
  of_kind extent n m le twin at (kinds.Sign signs.OpenBracket) b a l f = tracks_tuple n m le twin None (sign at signs.OpenBracket ∷ b) (sign at signs.OpenBracket ∷ a) l
  of_kind extent n m le twin at (kinds.Sign _) b a l f = both_missing

  at_front : (extent : Extent) (n m : ℕ) → n ≤ m → Twin n m → {b a : Toks} → L (suc n) b a → Front L (suc n) b a → Tracks L (suc n) (operand_at extent n (expr_at n) b) (operand_at extent m (expr_at m) a)
  unfolding operand_at
  at_front extent n m le twin l at_end = both_missing
  at_front extent n m le twin l (at_token {t = t} {b = b} {a = a} f) = of_kind extent n m le twin t.at t.kind b a l f

  tracks_operand : (extent : Extent) (n m : ℕ) → n ≤ m → Twin n m → (b a : Toks) → L (suc n) b a → Tracks L (suc n) (operand_at extent n (expr_at n) b) (operand_at extent m (expr_at m) a)
  tracks_operand extent n m le twin b a l = at_front extent n m le twin l (look (suc n) b a l)

  -- ---- operators

  tracks_prefixed : (extent : Extent) (n m : ℕ) → n ≤ m → Twin n m → (b a : Toks) → L (suc n) b a → Tracks L (suc n) (prefixed_at extent n (expr_at n) b) (prefixed_at extent m (expr_at m) a)
  unfolding prefixed_at
  tracks_prefixed extent n m le twin b a l = rw (same_begins signs.Minus (look (suc n) b a l), same_word words.Not (look (suc n) b a l)) (go (begins signs.Minus a) (begins_with words.Not a))
    where
      go : (v w : Bool) → Tracks L (suc n) (cond v (sign_at signs.Minus b >>= λ p. operand_at extent n (expr_at n) p.1 >>= λ e. Ok (prefixed p.0 prefixes.Minus e.0, e.1)) (cond w (word_at words.Not b >>= λ p. operand_at extent n (expr_at n) p.1 >>= λ e. Ok (prefixed p.0 prefixes.Not e.0, e.1)) (operand_at extent n (expr_at n) b))) (cond v (sign_at signs.Minus a >>= λ p. operand_at extent m (expr_at m) p.1 >>= λ e. Ok (prefixed p.0 prefixes.Minus e.0, e.1)) (cond w (word_at words.Not a >>= λ p. operand_at extent m (expr_at m) p.1 >>= λ e. Ok (prefixed p.0 prefixes.Not e.0, e.1)) (operand_at extent m (expr_at m) a)))
      go true w = tracks_then L _ _ (λ p c d q. tracks_then L _ _ (λ e f g r. both_read r) (tracks_operand extent n m le twin c d q)) (tracks_sign signs.Minus (suc n) n refl (look (suc n) b a l))
      go false true = tracks_then L _ _ (λ p c d q. tracks_then L _ _ (λ e f g r. both_read r) (tracks_operand extent n m le twin c d q)) (tracks_word words.Not (suc n) n refl (look (suc n) b a l))
      go false false = tracks_operand extent n m le twin b a l

  abbrev Ranks : Extent → ℕ → ℕ → ℕ → Type 0
  Ranks extent n m r = (b a : Toks) → L (suc n) b a → Tracks L (suc n) (ranked_at extent n (expr_at n) r b) (ranked_at extent m (expr_at m) r a)

  turn_front : (extent : Extent) (n m r : ℕ) → Ranks extent n m r → {b a : Toks} → Front L (suc n) b a → TracksPiece L (suc n) (turn_at extent (ranked_at extent n (expr_at n) r) (suc r) b) (turn_at extent (ranked_at extent m (expr_at m) r) (suc r) a)
  unfolding turn_at operator_at
  turn_front extent n m r next at_end = no_pieces
  turn_front extent n m r next (at_token {t = t} {b = b} {a = a} f) = go (ranked_operator (suc r) (operator_of t.kind)) refl
    where
      go : (o : Option Operator) → ranked_operator (suc r) (operator_of t.kind) ≡ o → TracksPiece {A = (Pos × Operator) × ExprTree} L (suc n) (chosen (chosen {B = Option ((Pos × Operator) × Toks)} o None (λ o. Some ((t.at, o), b))) (Ok None) (λ o. settle extent (ranked_at extent n (expr_at n) r o.1) None (λ e. Ok (Some ((o.0, e.0), e.1))))) (chosen (chosen {B = Option ((Pos × Operator) × Toks)} o None (λ o. Some ((t.at, o), a))) (Ok None) (λ o. settle extent (ranked_at extent m (expr_at m) r o.1) None (λ e. Ok (Some ((o.0, e.0), e.1)))))
      go None e = no_pieces
      go (Some o) e =
          let flat = (operator_marks t.kind o (ranked_is (suc r) (operator_of t.kind) o e).0).room (suc n) in
          tracks_settled extent L (λ (x : ExprTree). ((t.at, o), x)) (next b a (f n flat))

  tracks_ranked : (extent : Extent) (n m : ℕ) → n ≤ m → Twin n m → (r : ℕ) → Ranks extent n m r
  unfolding ranked_at
  tracks_ranked extent n m le twin zero b a l = tracks_prefixed extent n m le twin b a l
  tracks_ranked extent n m le twin (suc r) b a l =
      tracks_then L _ _ (λ e c d q. tracks_loop L (suc n) (turn_at extent (ranked_at extent n (expr_at n) r) (suc r)) (turn_at extent (ranked_at extent m (expr_at m) r) (suc r)) with_turn (λ f g h. turn_front extent n m r (tracks_ranked extent n m le twin r) (look (suc n) f g h)) 32 e c d q)
      (tracks_ranked extent n m le twin r b a l)

  tracks_twin : (n m : ℕ) → n ≤ m → Twin n m
  unfolding expr_at
  tracks_twin zero m le = tt
  tracks_twin (suc n) zero le = absurd (omega (arith, le))
  tracks_twin (suc n) (suc m) le = λ p b a l. tracks_ranked extents.Whole n m (omega (arith, le)) (tracks_twin n m (omega (arith, le))) 5 b a l

  pub tracks_value : (extent : Extent) (n m : ℕ) → n ≤ m → (b a : Toks) → L (suc n) b a → Tracks L (suc n) (ranked_at extent n (expr_at n) 5 b) (ranked_at extent m (expr_at m) 5 a)
  tracks_value extent n m le b a l = tracks_ranked extent n m le (tracks_twin n m le) 5 b a l
