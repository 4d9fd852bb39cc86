-- Spans of members, number by number.
use Rattle.std.proofs.Common.{◌≡◌, ℕ, zero, suc, ◌+◌, ◌-◌, ◌<◌, ◌-ℤ◌, List, [], ◌∷◌, ◌++◌, ℤ, pos, int_le, length, get_or, set, take, drop, refl, ap, sym, ◌∙◌, arith}
use Rattle.std.specs.Prelude.{◌&&◌}
use Rattle.std.proofs.lemmas.Int.{ints}
use Rattle.scalar_operators.specs.Powersets.{powerset_where, span_of, union}
use Rattle.scalar_operators.specs.Members.{by_pairs, span_in, union_of}
use Rattle.constant_values.specs.Sets.{AreAsOne}

lower_from : (a : ℤ) (k : ℕ) → int_le (a -ℤ pos 32) (pos k) ≡ int_le a (pos (k + 32))
lower_from a k = grind (arith, ints)

lower_to : (a : ℤ) (k : ℕ) → int_le (pos k) (a -ℤ pos 32) ≡ int_le (pos (k + 32)) a
lower_to a k = grind (arith, ints)

-- offsets that are as one are so for the next number
next_as_one : (a b : ℤ) → AreAsOne a b → AreAsOne (a -ℤ pos 32) (b -ℤ pos 32)
next_as_one a b s = record {
  from = λ k. lower_from a k ∙ s.from (k + 32) ∙ sym (lower_from b k);
  to = λ k. lower_to a k ∙ s.to (k + 32) ∙ sym (lower_to b k);
}

same_spans : (n : ℕ) (a b c d : ℤ) → AreAsOne a b → AreAsOne c d → span_in n a c ≡ span_in n b d
same_spans zero a b c d s t = refl
same_spans (suc n) a b c d s t = λ i. powerset_where (λ k. s.from k i && t.to k i) ∷ same_spans n (a -ℤ pos 32) (b -ℤ pos 32) (c -ℤ pos 32) (d -ℤ pos 32) (next_as_one a b s) (next_as_one c d t) i

-- the number at an index takes the members of its span, and those behind it theirs
span_from : (xs : List ℤ) (i n : ℕ) (low high lower upper v d : ℤ) → i < length xs → AreAsOne lower (low -ℤ pos 32) → AreAsOne upper (high -ℤ pos 32) → v ≡ union (get_or xs i d) (span_of low high)
    → take i xs ++ union_of (drop i xs) (span_in (suc n) low high) ≡ take (suc i) (set xs i v) ++ union_of (drop (suc i) (set xs i v)) (span_in n lower upper)
span_from [] i n low high lower upper v d here s t e = absurd (omega (arith, here))
span_from (x ∷ xs) zero n low high lower upper v d here s t e =
    λ j. sym e j ∷ union_of xs (sym (same_spans n lower (low -ℤ pos 32) upper (high -ℤ pos 32) s t) j)
span_from (x ∷ xs) (suc i) n low high lower upper v d here s t e = ap (λ (l : List ℤ). x ∷ l) (span_from xs i n low high lower upper v d (omega (arith, here)) s t e)

pub span_more : (xs : List ℤ) (i count : ℕ) (low high lower upper v d : ℤ) → i < length xs → AreAsOne lower (low -ℤ pos 32) → AreAsOne upper (high -ℤ pos 32) → v ≡ union (get_or xs i d) (span_of low high) → count ≡ length xs
    → take i xs ++ union_of (drop i xs) (span_in (length xs - i) low high) ≡ take (i + 1) (set xs i v) ++ union_of (drop (i + 1) (set xs i v)) (span_in (count - (i + 1)) lower upper)
span_more xs i count low high lower upper v d here s t e c =
    let many : length xs - i ≡ suc (count - (i + 1)) = omega (arith, here, c) in
    let next : suc i ≡ i + 1 = omega arith in
    ap (λ (n : ℕ). take i xs ++ union_of (drop i xs) (span_in n low high)) many ∙ span_from xs i (count - (i + 1)) low high lower upper v d here s t e
    ∙ ap (λ (j : ℕ). take j (set xs i v) ++ union_of (drop j (set xs i v)) (span_in (count - (i + 1)) lower upper)) next
