-- The copies of a value, turn by turn.
use Rattle.std.proofs.Common.{◌≡◌, ℕ, zero, suc, ◌+◌, ◌-◌, ◌*◌, ◌<◌, ◌≤◌, min, List, [], ◌∷◌, ◌++◌, ℤ, length, refl, sym, ap, ◌∙◌, Bool, true, false, nat_lt, ◌&&◌, rules, arith, inl, inr, subst, get_or, drop, add-one, drop-cons, pos, length-append, if◌then◌else◌}
use Rattle.std.proofs.lemmas.Bool.{cases_lt}
use Rattle.code_types.specs.declared.instr.Instr.{Instr}
use Rattle.code_types.specs.declared.instr.Instr.TheVariants as i
use Rattle.code_types.specs.declared.code.Code.{Code}
use Rattle.code_scheme.specs.Pieces.{capped, copies_from, copies_code, run_code, run_ended, run_behind, are_same, scalars_from}
use Rattle.code_scheme.proofs.Lemmas.{copies_on, copies_over, copies_length, capped_run, scalars_step}
use Rattle.expr_gen.specs.Putting.{Appends}
use Rattle.expr_gen.proofs.Appending.{and_then, resized, StillTo, step, done, finish}
use Rattle.std.proofs.lemmas.List.{at_drop_all}
use Rattle.expr_gen.specs.Copies.{copied, turn_code, turn_size, next_there}

-- what is still to be copied before a turn, of which there are 32
unfoldable pub copies_left : ℕ → ℕ → ℕ → ℕ → List Instr
copies_left turn there elements n = copies_from (32 - turn) there elements n

pub all_left : (elements n : ℕ) → copies_left 0 1 elements n ≡ copied elements n
unfolding copies_left copied
all_left elements n = refl

pub copied_is : (elements n : ℕ) → copied elements n ≡ copies_code elements n
unfolding copied
copied_is elements n = refl

added : (size one new k l all : ℕ) → k ≡ one + l → new ≡ size + one → size + k ≡ all → new + l ≡ all
added size one new k l all e g p = omega arith

none_left : (size k all : ℕ) → k ≡ 0 → size + k ≡ all → size ≡ all
none_left size k all e p = omega arith

-- a turn, and what is left behind it
pub turn_on : (turn there elements n : ℕ) → turn < 32 → copies_left turn there elements n ≡ turn_code there elements n ++ copies_left (turn + 1) (next_there there elements) elements n
unfolding copies_left
turn_on turn there elements n p = elim (cases_lt there elements) [
  | inl q ↦ (let h : nat_lt there elements ≡ true = search rules in rw h (copies_on turn there elements n p q))
  | inr q ↦ (let h : nat_lt there elements ≡ false = search rules in rw h (copies_over (32 - turn) there elements n q ∙ sym (copies_over (32 - (turn + 1)) there elements n q)))
]

next_is : (n : ℕ) → suc n ≡ 1 + n
next_is n = omega arith

none_more : (n : ℕ) → n ≡ 0 + n
none_more n = omega arith

sized : (b : Bool) (x : Instr) (xs : List Instr) → length ((if b then x ∷ [] else []) ++ xs) ≡ (if b then 1 else 0) + length xs
sized true x xs = next_is (length xs)
sized false x xs = none_more (length xs)

pub turn_length : (turn there elements : ℕ) → turn < 32 → length (copies_left turn there elements 0) ≡ turn_size there elements + length (copies_left (turn + 1) (next_there there elements) elements 0)
turn_length turn there elements p = ap (λ (is : List Instr). length is) (turn_on turn there elements 0 p) ∙ sized (nat_lt there elements) (i.Copy (min there (elements - there) * 0)) (copies_left (turn + 1) (next_there there elements) elements 0)

no_turn : (turn there elements n : ℕ) → 32 ≤ turn → copies_left turn there elements n ≡ []
unfolding copies_left
no_turn turn there elements n p =
    let none : 32 - turn ≡ 0 = omega arith in
    ap (λ (k : ℕ). copies_from k there elements n) none

pub turn_step : {a : ℕ → List Instr} {m : ℕ} (turn there next elements n : ℕ) {x y z : Code} → turn < 32 → next ≡ next_there there elements
    → StillTo a m (λ at. copies_left turn there elements n) (length (copies_left turn there elements 0)) x y
    → Appends (turn_code there elements n) (turn_size there elements) y z
    → StillTo a m (λ at. copies_left (turn + 1) next elements n) (length (copies_left (turn + 1) next elements 0)) x z
turn_step {a} {m} turn there next elements n {x} {y} {z} h e p q =
    subst (λ (j : ℕ). StillTo a m (λ at. copies_left (turn + 1) j elements n) (length (copies_left (turn + 1) j elements 0)) x z) (sym e)
    (step (λ at. copies_left (turn + 1) (next_there there elements) elements n) (length (copies_left (turn + 1) (next_there there elements) elements 0))
    (turn_on turn there elements n h) (turn_length turn there elements h) p q)

pub turns_done : (turn there elements n : ℕ) {x y : Code} → 32 ≤ turn
    → StillTo (λ at. copies_left 0 1 elements n) (length (copies_left 0 1 elements 0)) (λ at. copies_left turn there elements n) (length (copies_left turn there elements 0)) x y
    → Appends (copied elements n) (length (copied elements 0)) x y
turns_done turn there elements n {x} {y} h p =
    let all : Appends (copies_left 0 1 elements n) (length (copies_left 0 1 elements 0)) x y =
    done p (no_turn turn there elements n h) (ap (λ (is : List Instr). length is) (no_turn turn there elements 0 h)) in
    subst (λ (is : List Instr). Appends is (length (copied elements 0)) x y) (all_left elements n)
    (resized (ap (λ (is : List Instr). length is) (all_left elements 0)) all)

turn_or_none : (b : Bool) → (if b then 1 else 0) ≤ 1
turn_or_none true = omega arith
turn_or_none false = omega arith

pub one_turn : (there elements : ℕ) → turn_size there elements ≤ 1
one_turn there elements = turn_or_none (nat_lt there elements)

pub turn_counted : (turn there next elements size one new all : ℕ) → turn < 32 → next ≡ next_there there elements → one ≡ turn_size there elements → new ≡ size + one
    → size + length (copies_left turn there elements 0) ≡ all → new + length (copies_left (turn + 1) next elements 0) ≡ all
turn_counted turn there next elements size one new all h e f g p =
    let len : length (copies_left turn there elements 0) ≡ one + length (copies_left (turn + 1) next elements 0) =
    turn_length turn there elements h ∙ rw (e, f) refl in
    added size one new _ _ all len g p

pub turns_counted : (turn there elements size : ℕ) → 32 ≤ turn → size + length (copies_left turn there elements 0) ≡ length (copies_left 0 1 elements 0) → size ≡ length (copied elements 0)
turns_counted turn there elements size h p =
    none_left size _ _ (ap (λ (is : List Instr). length is) (no_turn turn there elements 0 h)) p ∙ ap (λ (is : List Instr). length is) (all_left elements 0)

-- how many they are doesn't go by the scalars of the value
pub as_many : (turn there elements n m : ℕ) → length (copies_left turn there elements n) ≡ length (copies_left turn there elements m)
unfolding copies_left
as_many turn there elements n m = copies_length (32 - turn) there elements n m

-- a scalar so many times
pub run_is : (x : ℤ) (n : ℕ) → run_code x (suc n) ≡ i.Push x ∷ copied (suc n) 1
unfolding copied
run_is x n = refl

pub same_length : (elements n m : ℕ) → length (copied elements n) ≡ length (copied elements m)
same_length elements n m =
    ap (λ (xs : List Instr). length xs) (sym (all_left elements n)) ∙ as_many 0 1 elements n m ∙ ap (λ (xs : List Instr). length xs) (all_left elements m)

-- there are at most as many as turns
at_most : (k t e n : ℕ) → length (copies_from k t e n) ≤ k
at_most zero t e n = omega arith
at_most (suc k) t e n = elim (cases_lt t e) [
  | inl p ↦ (let h : nat_lt t e ≡ true = search rules in rw h (omega (arith, at_most k (t + min t (e - t)) e n)))
  | inr p ↦ (let h : nat_lt t e ≡ false = search rules in rw h (omega arith))
]

pub few_copies : (elements n : ℕ) → length (copied elements n) ≤ 32
unfolding copied
few_copies elements n = at_most 32 1 elements n

-- ---- a scalar so many times

pub run_length : (x : ℤ) (n : ℕ) → 0 < n → length (run_code x n) ≡ 1 + length (copied n 0)
run_length x zero p = absurd (omega (arith, p))
run_length x (suc n) p = ap (λ (is : List Instr). length is) (run_is x n) ∙ ap suc (same_length (suc n) 1 0) ∙ next_is (length (copied (suc n) 0))

pub run_made : (s : ℤ) (n : ℕ) {x y z : Code} → 0 < n → Appends (i.Push s ∷ []) 1 x y → Appends (copied n 1) (length (copied n 0)) y z → Appends (run_code s n) (length (run_code s n)) x z
run_made s zero h p q = absurd (omega (arith, h))
run_made s (suc n) {x} {y} {z} h p q =
    let all : Appends (i.Push s ∷ copied (suc n) 1) (1 + length (copied (suc n) 0)) x z = and_then p q in
    subst (λ (is : List Instr). Appends is (length (run_code s (suc n))) x z) (sym (run_is s n)) (resized (sym (run_length s (suc n) h)) all)

-- a number of 32 bits stands for a greater one: how many instructions a run has stays the same

lt_capped : (n : ℕ) → nat_lt 0 (capped n) ≡ nat_lt 0 n
lt_capped zero = refl
lt_capped (suc n) =
    let h : 0 < capped (suc n) = omega arith in
    let k : nat_lt 0 (capped (suc n)) ≡ true = search (rules, h) in
    let h2 : 0 < suc n = omega arith in
    let k2 : nat_lt 0 (suc n) ≡ true = search (rules, h2) in
    k ∙ sym k2

next_capped : (b : Bool) (n : ℕ) → capped (if b then suc (capped n) else 1) ≡ capped (if b then suc n else 1)
next_capped true n = omega arith
next_capped false n = refl

pub behind_capped : (x : ℤ) (n : ℕ) (y : ℤ) → capped (run_behind x (capped n) y) ≡ capped (run_behind x n y)
behind_capped x n y = ap (λ (b : Bool). capped (if (b && are_same x y) then suc (capped n) else 1)) (lt_capped n) ∙ next_capped (nat_lt 0 n && are_same x y) n

run_or_none : (b : Bool) (x : ℤ) (n : ℕ) → length (if b then [] else run_code x (capped n)) ≡ length (if b then [] else run_code x n)
run_or_none true x n = refl
run_or_none false x n = capped_run x x n

pub ended_capped : (x : ℤ) (n : ℕ) (y : ℤ) → length (run_ended x (capped n) y) ≡ length (run_ended x n y)
ended_capped x n y = ap (λ (b : Bool). length (if (b && are_same x y) then [] else run_code x (capped n))) (lt_capped n) ∙ run_or_none (nat_lt 0 n && are_same x y) x n

pub run_capped : (x : ℤ) (n : ℕ) → length (run_code x (capped n)) ≡ length (run_code x n)
run_capped x n = capped_run x x n

-- ---- scalars in order

pub scalars_length : (x : ℤ) (n : ℕ) (y : ℤ) (ys : List ℤ) → length (scalars_from x n (y ∷ ys)) ≡ length (run_ended x n y) + length (scalars_from y (run_behind x n y) ys)
scalars_length x n y ys = ap (λ (is : List Instr). length is) (scalars_step x n y ys) ∙ length-append (run_ended x n y) (scalars_from y (run_behind x n y) ys)

number_at : (xs : List ℤ) (k : ℕ) (y : ℤ) → k < length xs → y ≡ get_or xs k (pos 0) → drop k xs ≡ y ∷ drop (k + 1) xs
number_at xs k y h e = rw (add-one, drop-cons xs k (pos 0) h, ← e) refl

pub scalars_turn : {a : ℕ → List Instr} {m : ℕ} (xs : List ℤ) (k : ℕ) (y s s' : ℤ) (n n' : ℕ) {c d e : Code} → k < length xs → y ≡ get_or xs k (pos 0) → s' ≡ y → n' ≡ run_behind s n y
    → StillTo a m (λ at. scalars_from s n (drop k xs)) (length (scalars_from s n (drop k xs))) c d
    → Appends (run_ended s n y) (length (run_ended s n y)) d e
    → StillTo a m (λ at. scalars_from s' n' (drop (k + 1) xs)) (length (scalars_from s' n' (drop (k + 1) xs))) c e
scalars_turn {a} {m} xs k y s s' n n' {c} {d} {e} h i f g p q =
    let rest = drop (k + 1) xs in
    let there : StillTo a m (λ at. scalars_from s n (y ∷ rest)) (length (scalars_from s n (y ∷ rest))) c d =
    subst (λ (ys : List ℤ). StillTo a m (λ at. scalars_from s n ys) (length (scalars_from s n ys)) c d) (number_at xs k y h i) p in
    let all : StillTo a m (λ at. scalars_from y (run_behind s n y) rest) (length (scalars_from y (run_behind s n y) rest)) c e =
    step (λ at. scalars_from y (run_behind s n y) rest) (length (scalars_from y (run_behind s n y) rest)) (scalars_step s n y rest) (scalars_length s n y rest) there q in
    rw (f, g) all

pub scalars_done : {a : ℕ → List Instr} {m : ℕ} (xs : List ℤ) (k : ℕ) (s : ℤ) (n : ℕ) {c d e : Code} → length xs ≤ k
    → StillTo a m (λ at. scalars_from s n (drop k xs)) (length (scalars_from s n (drop k xs))) c d
    → Appends (run_code s n) (length (run_code s n)) d e → Appends (a (length c.instrs)) m c e
scalars_done {a} {m} xs k s n {c} {d} h p q =
    finish (subst (λ (ys : List ℤ). StillTo a m (λ at. scalars_from s n ys) (length (scalars_from s n ys)) c d) (at_drop_all (λ (ys : List ℤ). ys) xs k h) p) q

-- how many they are, where numbers are held in 32 bits

sum_on : (size one new k l all : ℕ) → k ≡ one + l → new ≡ capped (size + one) → capped (size + k) ≡ all → capped (new + l) ≡ all
sum_on size one new k l all e g p = omega arith

pub size_turn : (xs : List ℤ) (k : ℕ) (y s s' : ℤ) (whole n ended size new all : ℕ) → k < length xs → y ≡ get_or xs k (pos 0) → s' ≡ y → n ≡ capped whole
    → ended ≡ length (run_ended s n y) → new ≡ capped (size + ended)
    → capped (size + length (scalars_from s whole (drop k xs))) ≡ all → capped (new + length (scalars_from s' (run_behind s whole y) (drop (k + 1) xs))) ≡ all
size_turn xs k y s s' whole n ended size new all h i f g o w p =
    let rest = drop (k + 1) xs in
    let same : ended ≡ length (run_ended s whole y) = o ∙ ap (λ (j : ℕ). length (run_ended s j y)) g ∙ ended_capped s whole y in
    let len : length (scalars_from s whole (drop k xs)) ≡ ended + length (scalars_from s' (run_behind s whole y) rest) =
    ap (λ (ys : List ℤ). length (scalars_from s whole ys)) (number_at xs k y h i) ∙ scalars_length s whole y rest ∙ rw (f, same) refl in
    sum_on size ended new _ _ all len w p

pub count_turn : (s : ℤ) (whole n : ℕ) (y : ℤ) (n' : ℕ) → n ≡ capped whole → n' ≡ capped (run_behind s n y) → n' ≡ capped (run_behind s whole y)
count_turn s whole n y n' g e = e ∙ ap (λ (j : ℕ). capped (run_behind s j y)) g ∙ behind_capped s whole y

pub size_done : (xs : List ℤ) (k : ℕ) (s : ℤ) (whole n run size all : ℕ) → length xs ≤ k → n ≡ capped whole → run ≡ length (run_code s n)
    → capped (size + length (scalars_from s whole (drop k xs))) ≡ all → capped (size + run) ≡ all
size_done xs k s whole n run size all h g o p =
    let same : run ≡ length (run_code s whole) = o ∙ ap (λ (j : ℕ). length (run_code s j)) g ∙ run_capped s whole in
    rw same (ap (λ (ys : List ℤ). capped (size + length (scalars_from s whole ys))) (sym (at_drop_all (λ (ys : List ℤ). ys) xs k h)) ∙ p)
