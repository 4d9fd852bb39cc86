-- Levels that are left behind a token, against the nesting there.
use Rattle.std.proofs.Common.{◌≡◌, ℕ, zero, suc, ◌+◌, ◌<◌, Bool, true, false, cond, [], ◌∷◌, take, length, slice_get, Some, None, refl, sym, ap, ◌∙◌, arith, pos, ◌+ℤ◌, ◌-ℤ◌}
use Rattle.std.specs.Prelude.{count_by}
use Rattle.std.proofs.lemmas.List.Sums.{sum_by-cons}
use Rattle.chill_base.specs.declared.pos.Pos.{Pos}
use Rattle.chill_tree.specs.declared.token.Token.{Token}
use Rattle.chill_tree.specs.declared.token.TokenKind.{TokenKind}
use Rattle.rules_model.specs.Marks.{Toks}
use Rattle.rules_model.specs.Nesting.{opens, closes, nesting_at, less, room_after, deep_or, first_deep}
use Rattle.chill_parser.specs.Nested.{ReachesFirst, NeverReaches}
use lib.IntN.{+ℤ-neg_ℤ_cancel, -ℤ-+ℤ_cancel}

-- how many of the first k + 1 tokens open, and how many close
abbrev opened : Toks → ℕ → ℕ
opened toks k = count_by (λ t. opens t.kind) (take (suc k) toks)

abbrev closed : Toks → ℕ → ℕ
closed toks k = count_by (λ t. closes t.kind) (take (suc k) toks)

abbrev Counts : ℕ → Toks → ℕ → Type 0
Counts n toks k = opened toks k ≡ n + closed toks k

pos_is : (a b : ℕ) → pos a ≡ pos b → a ≡ b
pos_is a b e = cc

counted : (n : ℕ) (toks : Toks) (k : ℕ) → nesting_at toks k ≡ pos n → Counts n toks k
counted n toks k e =
    pos_is (opened toks k) (n + closed toks k) (sym (-ℤ-+ℤ_cancel (pos (opened toks k)) (pos (closed toks k))) ∙ ap (λ z. z +ℤ pos (closed toks k)) e)

nested : (n : ℕ) (toks : Toks) (k : ℕ) → Counts n toks k → nesting_at toks k ≡ pos n
nested n toks k e = ap (λ x. pos x -ℤ pos (closed toks k)) e ∙ +ℤ-neg_ℤ_cancel (pos n) (pos (closed toks k))

-- no token both opens and closes
disjoint : (k : TokenKind) → opens k ≡ true → closes k ≡ false
disjoint k h = grind arith

-- one token more in front: the counts of a longer list, where `m` levels are left behind that token and `n` before it
module _ (t : Token) (ts : Toks) where
  along : (f : TokenKind → Bool) (k : ℕ) → count_by (λ u. f u.kind) (take (suc (suc k)) (t ∷ ts)) ≡ cond (f t.kind) 1 0 + count_by (λ u. f u.kind) (take (suc k) ts)
  along f k = sum_by-cons (λ u. cond (f u.kind) 1 0) t (take (suc k) ts)

  alone : (f : TokenKind → Bool) → count_by (λ u. f u.kind) (take 1 (t ∷ ts)) ≡ cond (f t.kind) 1 0 + 0
  alone f = sum_by-cons (λ u. cond (f u.kind) 1 0) t []

  further : (n m k : ℕ) → n + cond (closes t.kind) 1 0 ≡ m + cond (opens t.kind) 1 0 → Counts m ts k → Counts n (t ∷ ts) (suc k)
  further n m k e c = let o = along opens k in let d = along closes k in omega (arith, o, d, e, c)

  back : (n m k : ℕ) → n + cond (closes t.kind) 1 0 ≡ m + cond (opens t.kind) 1 0 → Counts n (t ∷ ts) (suc k) → Counts m ts k
  back n m k e c = let o = along opens k in let d = along closes k in omega (arith, o, d, e, c)

  not_yet : (n m : ℕ) → n + cond (closes t.kind) 1 0 ≡ m + cond (opens t.kind) 1 0 → 0 < m → Counts n (t ∷ ts) 0 → ⊥
  not_yet n m e lt c = let o = alone opens in let d = alone closes in omega (arith, o, d, e, c)

  now : (n : ℕ) → n + cond (closes t.kind) 1 0 ≡ 0 + cond (opens t.kind) 1 0 → Counts n (t ∷ ts) 0
  now n e = let o = alone opens in let d = alone closes in omega (arith, o, d, e)

  room : (n : ℕ) → 0 < n → n + cond (closes t.kind) 1 0 ≡ room_after t.kind n + cond (opens t.kind) 1 0
  room n lt = by_kind (opens t.kind) (closes t.kind) refl refl n lt
    where
      by_kind : (o c : Bool) → opens t.kind ≡ o → closes t.kind ≡ c → (n : ℕ) → 0 < n → n + cond c 1 0 ≡ cond o (less n) (cond c (suc n) n) + cond o 1 0
      by_kind o c h g zero lt = absurd (omega arith)
      by_kind true true h g (suc n) lt = absurd (two h g)
        where
          two : opens t.kind ≡ true → closes t.kind ≡ true → ⊥
          two h g = let d = disjoint t.kind h in cc
      by_kind true false h g (suc n) lt = omega arith
      by_kind false true h g (suc n) lt = omega arith
      by_kind false false h g (suc n) lt = omega arith

-- where the first token is at which no level is left
record First (n : ℕ) (toks : Toks) (p : Pos) : Type 0 where
  k : ℕ
  token : Token
  here : slice_get toks k ≡ Some token
  place : token.at ≡ p
  counts : Counts n toks k
  before : (j : ℕ) → j < k → Counts n toks j → ⊥

first : (n : ℕ) (toks : Toks) (p : Pos) → 0 < n → first_deep n toks ≡ Some p → First n toks p
first n [] p lt h = absurd cc
first n (t ∷ ts) p lt h = at_room (λ m. first m ts p) (room_after t.kind n) (room t ts n lt) h
  where
    at_room : ((m : ℕ) → 0 < m → first_deep m ts ≡ Some p → First m ts p) → (m : ℕ) → n + cond (closes t.kind) 1 0 ≡ m + cond (opens t.kind) 1 0 → deep_or m t.at (first_deep m ts) ≡ Some p → First n (t ∷ ts) p
    at_room more zero e h = record { k = 0; token = t; here = refl; place = some_is t.at p h; counts = now t ts n e; before = λ j lt c. absurd (omega arith) }
      where
        some_is : (q r : Pos) → Some q ≡ Some r → q ≡ r
        some_is q r e = cc
    at_room more (suc m) e h = longer (more (suc m) (omega arith) h)
      where
        longer : First (suc m) ts p → First n (t ∷ ts) p
        longer f = record { k = suc f.k; token = f.token; here = f.here; place = f.place; counts = further t ts n (suc m) f.k e f.counts; before = earlier }
          where
            earlier : (j : ℕ) → j < suc f.k → Counts n (t ∷ ts) j → ⊥
            earlier zero lt c = not_yet t ts n (suc m) e (omega arith) c
            earlier (suc j) lt c = f.before j (omega arith) (back t ts n (suc m) j e c)

pub reaches_first : (toks : Toks) (p : Pos) → first_deep 65 toks ≡ Some p → ReachesFirst 65 toks p
reaches_first toks p h = told (first 65 toks p (omega arith) h)
  where
    told : First 65 toks p → ReachesFirst 65 toks p
    told f = record { k = f.k; token = f.token; here = f.here; place = f.place; reached = nested 65 toks f.k f.counts; before = λ j lt e. f.before j lt (counted 65 toks j e) }

none : (n : ℕ) (toks : Toks) → 0 < n → first_deep n toks ≡ None → (k : ℕ) → k < length toks → Counts n toks k → ⊥
none n [] lt h k short c = omega arith
none n (t ∷ ts) lt h k short c = at_room (λ m. none m ts) (room_after t.kind n) (room t ts n lt) h k short c
  where
    at_room : ((m : ℕ) → 0 < m → first_deep m ts ≡ None → (k : ℕ) → k < length ts → Counts m ts k → ⊥) → (m : ℕ) → n + cond (closes t.kind) 1 0 ≡ m + cond (opens t.kind) 1 0 → deep_or m t.at (first_deep m ts) ≡ None → (k : ℕ) → k < suc (length ts) → Counts n (t ∷ ts) k → ⊥
    at_room more zero e h k short c = cc
    at_room more (suc m) e h zero short c = not_yet t ts n (suc m) e (omega arith) c
    at_room more (suc m) e h (suc k) short c = more (suc m) (omega arith) h k (omega arith) (back t ts n (suc m) k e c)

pub never_reaches : (toks : Toks) → first_deep 65 toks ≡ None → NeverReaches 65 toks
never_reaches toks h k short e = none 65 toks (omega arith) h k short (counted 65 toks k e)
