-- The numbers by which a loop counts: where a limit stands for its end.
use Rattle.std.proofs.Common.{◌≡◌, if◌then◌else◌, Bool, true, false, not, ◌&&◌, ◌||◌, ℤ, pos, ◌+ℤ◌, ◌-ℤ◌, int_le, int_lt, refl, sym, ap, ◌∙◌, arith}
use Rattle.std.proofs.lemmas.Int.{ints}
use Rattle.scalar_operators.specs.Numbers.{is_int, least_int, greatest_int, comes_before}
use Rattle.source_meaning.specs.Operators.{one}
use Rattle.source_meaning.specs.StatementMeaning.{passes_end, next_value}
use Rattle.code_laws.proofs.Values.{both_true}
use Rattle.code_laws.proofs.BetweenRuns.{both_yes}

-- a step from 1 on
pub record IsStep (by : ℤ) : Type 0 where
  pub low : int_le (pos 1) by ≡ true
  pub high : int_le by greatest_int ≡ true

-- whether control goes from one number to a later one, on the way
abbrev pub goes_before : Bool → ℤ → ℤ → Bool
goes_before false a b = comes_before (one a) (one b)
goes_before true a b = comes_before (one b) (one a)

pub before_is : (a b : ℤ) → comes_before (one a) (one b) ≡ not (int_le b a)
before_is a b = by_order (int_le b a) refl
  where
    by_order : (t : Bool) → int_le b a ≡ t → (int_lt a b || (int_le a b && false)) ≡ not t
    by_order true is = grind (arith, ints, is)
    by_order false is = grind (arith, ints, is)

-- a step back
abbrev pub back_value : Bool → ℤ → ℤ → ℤ
back_value false value step = value -ℤ step
back_value true value step = value +ℤ step

-- the last value of INT on the way back
abbrev pub extreme : Bool → ℤ
extreme down = if down then greatest_int else least_int

-- the end whose limit is that value
abbrev pub nearest : Bool → ℤ → ℤ
nearest down by = next_value down (extreme down) (by -ℤ pos 1)

abbrev pub nearer : Bool → ℤ → ℤ → ℤ
nearer down by end = if goes_before down end (nearest down by) then nearest down by else end

abbrev pub limit : Bool → ℤ → ℤ → ℤ
limit down by end = back_value down (nearer down by end) (by -ℤ pos 1)

-- from a value before the limit there is another one that doesn't pass the end
abbrev pub StandsFor : Bool → ℤ → ℤ → ℤ → Type 0
StandsFor down by end stop = (value : ℤ) → is_int value ≡ true → goes_before down value stop ≡ not (passes_end down (next_value down value by) end)

-- the end does so with a step of 1
pub end_stands : (down : Bool) (end : ℤ) → StandsFor down (pos 1) end end
end_stands false end value inside = before_is value end ∙ by_order (int_le end value) refl
  where
    by_order : (t : Bool) → int_le end value ≡ t → not t ≡ not (not (int_le (value +ℤ pos 1) end))
    by_order true is = grind (arith, ints, is)
    by_order false is = grind (arith, ints, is)
end_stands true end value inside = before_is end value ∙ by_order (int_le value end) refl
  where
    by_order : (t : Bool) → int_le value end ≡ t → not t ≡ not (not (int_le end (value -ℤ pos 1)))
    by_order true is = grind (arith, ints, is)
    by_order false is = grind (arith, ints, is)

no_longer : (t : Bool) → not t ≡ true → t ≡ false
no_longer true e = absurd (let no : ⊥ = cc in no)
no_longer false e = refl

still : (t : Bool) → not t ≡ false → t ≡ true
still true e = refl
still false e = absurd (let no : ⊥ = cc in no)

-- so does the limit
pub limit_stands : (down : Bool) (by end : ℤ) → IsStep by → StandsFor down by end (limit down by end)
limit_stands false by end step value inside = before_is value (limit false by end) ∙ by_nearer (goes_before false end n) refl
  where
    n : ℤ
    n = nearest false by

    low : int_le least_int value ≡ true
    low = (both_true (int_le least_int value) (int_le value greatest_int) inside).0

    by_nearer : (t : Bool) → comes_before (one end) (one n) ≡ t → not (int_le ((if t then n else end) -ℤ (by -ℤ pos 1)) value) ≡ not (not (int_le (value +ℤ by) end))
    by_nearer true is =
        let far : int_le n end ≡ false = no_longer (int_le n end) (sym (before_is end n) ∙ is) in
        let a : int_le (n -ℤ (by -ℤ pos 1)) value ≡ true = grind (arith, ints, low) in
        let b : int_le (value +ℤ by) end ≡ false = grind (arith, ints, low, far) in
        ap not (a ∙ ap not (sym b))
    by_nearer false is = by_end (int_le (value +ℤ by) end) refl
      where
        by_end : (u : Bool) → int_le (value +ℤ by) end ≡ u → not (int_le (end -ℤ (by -ℤ pos 1)) value) ≡ not (not u)
        by_end true e = let a : int_le (end -ℤ (by -ℤ pos 1)) value ≡ false = grind (arith, ints, e) in ap not a
        by_end false e = let a : int_le (end -ℤ (by -ℤ pos 1)) value ≡ true = grind (arith, ints, e) in ap not a
limit_stands true by end step value inside = before_is (limit true by end) value ∙ by_nearer (goes_before true end n) refl
  where
    n : ℤ
    n = nearest true by

    high : int_le value greatest_int ≡ true
    high = (both_true (int_le least_int value) (int_le value greatest_int) inside).1

    by_nearer : (t : Bool) → comes_before (one n) (one end) ≡ t → not (int_le value ((if t then n else end) +ℤ (by -ℤ pos 1))) ≡ not (not (int_le end (value -ℤ by)))
    by_nearer true is =
        let far : int_le end n ≡ false = no_longer (int_le end n) (sym (before_is n end) ∙ is) in
        let a : int_le value (n +ℤ (by -ℤ pos 1)) ≡ true = grind (arith, ints, high) in
        let b : int_le end (value -ℤ by) ≡ false = grind (arith, ints, high, far) in
        ap not (a ∙ ap not (sym b))
    by_nearer false is = by_end (int_le end (value -ℤ by)) refl
      where
        by_end : (u : Bool) → int_le end (value -ℤ by) ≡ u → not (int_le value (end +ℤ (by -ℤ pos 1))) ≡ not (not u)
        by_end true e = let a : int_le value (end +ℤ (by -ℤ pos 1)) ≡ false = grind (arith, ints, e) in ap not a
        by_end false e = let a : int_le value (end +ℤ (by -ℤ pos 1)) ≡ true = grind (arith, ints, e) in ap not a

-- ---- all these numbers lie in INT

pub rest_int : (by : ℤ) → IsStep by → is_int (by -ℤ pos 1) ≡ true
rest_int by step =
    let l = step.low in
    let h = step.high in
    both_yes (int_le least_int (by -ℤ pos 1)) (int_le (by -ℤ pos 1) greatest_int) (grind (arith, ints, l)) (grind (arith, ints, h))

pub nearest_int : (down : Bool) (by : ℤ) → IsStep by → is_int (nearest down by) ≡ true
nearest_int false by step =
    let l = step.low in
    let h = step.high in
    both_yes (int_le least_int (nearest false by)) (int_le (nearest false by) greatest_int) (grind (arith, ints, l)) (grind (arith, ints, h))
nearest_int true by step =
    let l = step.low in
    let h = step.high in
    both_yes (int_le least_int (nearest true by)) (int_le (nearest true by) greatest_int) (grind (arith, ints, h)) (grind (arith, ints, l))

pub limit_int : (down : Bool) (by end : ℤ) → IsStep by → is_int end ≡ true → is_int (limit down by end) ≡ true
limit_int false by end step inside = by_nearer (comes_before (one end) (one (nearest false by))) refl
  where
    by_nearer : (t : Bool) → comes_before (one end) (one (nearest false by)) ≡ t → is_int ((if t then nearest false by else end) -ℤ (by -ℤ pos 1)) ≡ true
    by_nearer true is =
        let x : ℤ = nearest false by -ℤ (by -ℤ pos 1) in
        both_yes (int_le least_int x) (int_le x greatest_int) (grind (arith, ints)) (grind (arith, ints))
    by_nearer false is =
        let l = step.low in
        let h = (both_true (int_le least_int end) (int_le end greatest_int) inside).1 in
        let near : int_le (nearest false by) end ≡ true = still (int_le (nearest false by) end) (sym (before_is end (nearest false by)) ∙ is) in
        let x : ℤ = end -ℤ (by -ℤ pos 1) in
        both_yes (int_le least_int x) (int_le x greatest_int) (grind (arith, ints, near)) (grind (arith, ints, l, h))
limit_int true by end step inside = by_nearer (comes_before (one (nearest true by)) (one end)) refl
  where
    by_nearer : (t : Bool) → comes_before (one (nearest true by)) (one end) ≡ t → is_int ((if t then nearest true by else end) +ℤ (by -ℤ pos 1)) ≡ true
    by_nearer true is =
        let x : ℤ = nearest true by +ℤ (by -ℤ pos 1) in
        both_yes (int_le least_int x) (int_le x greatest_int) (grind (arith, ints)) (grind (arith, ints))
    by_nearer false is =
        let l = step.low in
        let h = (both_true (int_le least_int end) (int_le end greatest_int) inside).0 in
        let near : int_le end (nearest true by) ≡ true = still (int_le end (nearest true by)) (sym (before_is (nearest true by) end) ∙ is) in
        let x : ℤ = end +ℤ (by -ℤ pos 1) in
        both_yes (int_le least_int x) (int_le x greatest_int) (grind (arith, ints, l, h)) (grind (arith, ints, near))

-- a value that doesn't pass the end
pub value_int : (down : Bool) (value by end : ℤ) → IsStep by → is_int value ≡ true → is_int end ≡ true → passes_end down (next_value down value by) end ≡ false → is_int (next_value down value by) ≡ true
value_int false value by end step inside inside_end on =
    let l = step.low in
    let a = (both_true (int_le least_int value) (int_le value greatest_int) inside).0 in
    let b = (both_true (int_le least_int end) (int_le end greatest_int) inside_end).1 in
    let c : int_le (value +ℤ by) end ≡ true = still (int_le (value +ℤ by) end) on in
    let x : ℤ = value +ℤ by in
    both_yes (int_le least_int x) (int_le x greatest_int) (grind (arith, ints, l, a)) (grind (arith, ints, b, c))
value_int true value by end step inside inside_end on =
    let l = step.low in
    let a = (both_true (int_le least_int value) (int_le value greatest_int) inside).1 in
    let b = (both_true (int_le least_int end) (int_le end greatest_int) inside_end).0 in
    let c : int_le end (value -ℤ by) ≡ true = still (int_le end (value -ℤ by)) on in
    let x : ℤ = value -ℤ by in
    both_yes (int_le least_int x) (int_le x greatest_int) (grind (arith, ints, b, c)) (grind (arith, ints, l, a))
