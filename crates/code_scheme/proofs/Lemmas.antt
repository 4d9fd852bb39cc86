-- Steps of the recursions of the scheme.
use Rattle.std.proofs.Common.{◌≡◌, ℕ, zero, suc, ◌+◌, ◌-◌, ◌*◌, ◌<◌, ◌≤◌, ◌^◌, min, Bool, true, false, nat_lt, List, [], ◌∷◌, ◌++◌, ℤ, pos, length, refl, sym, ap, ◌∙◌, arith, rules, inl, inr, ◌⊎◌, append_assoc, length-append, ◌&&◌, if◌then◌else◌}
use Rattle.std.specs.Prelude.{int_le}
use Rattle.std.proofs.lemmas.Bool.{cases_lt}
use Rattle.std.proofs.lemmas.Int.{ints}
use Rattle.std.proofs.Math.Nat.{mul-le-mul}
use Rattle.code_types.specs.declared.instr.Instr.{Instr}
use Rattle.code_types.specs.declared.instr.Instr.TheVariants as i
use Rattle.program_trees.specs.ExprTree.{PartNodes, no_parts, field, element}
use Rattle.code_scheme.specs.Pieces.{capped, capped_number, fitted, copies_from, copies_code, run_code, are_same, run_ended, run_behind, scalars_from, member_code, has_index}
use Rattle.code_scheme.specs.ExprSizes.{indices_size}

-- ---- copies

pub copies_on : (j t e n : ℕ) → j < 32 → t < e → copies_from (32 - j) t e n ≡ i.Copy (min t (e - t) * n) ∷ copies_from (32 - (j + 1)) (t + min t (e - t)) e n
copies_on j t e n p q =
    let h : nat_lt t e ≡ true = search rules in
    let k : 32 - j ≡ suc (32 - (j + 1)) = omega arith in
    ap (λ m. copies_from m t e n) k ∙ rw h refl

pub copies_over : (k t e n : ℕ) → e ≤ t → copies_from k t e n ≡ []
copies_over zero t e n p = refl
copies_over (suc k) t e n p =
    let h : nat_lt t e ≡ false = search rules in
    rw h refl

pub copies_length : (k t e n m : ℕ) → length (copies_from k t e n) ≡ length (copies_from k t e m)
copies_length zero t e n m = refl
copies_length (suc k) t e n m = elim (cases_lt t e) [
  | inl p ↦ (let h : nat_lt t e ≡ true = search rules in rw h (ap suc (copies_length k (t + min t (e - t)) e n m)))
  | inr p ↦ ap (λ (xs : List Instr). length xs) (copies_over (suc k) t e n p) ∙ sym (ap (λ (xs : List Instr). length xs) (copies_over (suc k) t e m p))
]

-- a value is copied as often as it may be, where so many are wanting
all_copies : (k t e n : ℕ) → 1 ≤ t → t * 2 ^ k ≤ e → length (copies_from k t e n) ≡ k
all_copies zero t e n p q = refl
all_copies (suc k) t e n p q =
    let one : 1 ≤ 2 ^ k = search rules in
    let twice : 2 ^ suc k ≡ 2 * 2 ^ k = grind arith in
    let both : t * 2 ^ suc k ≡ (t + t) * 2 ^ k = rw twice (grind arith) in
    let up : (t + t) * 1 ≤ (t + t) * 2 ^ k = mul-le-mul (omega arith) one in
    let less : t + t ≤ e = omega (arith, up, both) in
    let h : nat_lt t e ≡ true = search (rules, less) in
    let m : min t (e - t) ≡ t = omega (arith, less) in
    rw (h, m) (ap suc (all_copies k (t + t) e n (omega arith) (omega (arith, both))))

-- more than 4,294,967,295 of a value take as many copies as these
pub capped_copies : (n m : ℕ) → length (copies_code (capped n) m) ≡ length (copies_code n m)
capped_copies n m = elim (cases_lt n 4294967296) [
  | inl p ↦ (let h : capped n ≡ n = omega arith in rw h refl)
  | inr p ↦ (let h : capped n ≡ 4294967295 = omega arith in rw h (copies_length 32 1 4294967295 m 0 ∙ sym (all_copies 32 1 n m (omega arith) (omega (arith, p)))))
]

pub capped_run : (x y : ℤ) (n : ℕ) → length (run_code x (capped n)) ≡ length (run_code y n)
capped_run x y zero = refl
capped_run x y (suc n) =
    let h : capped (suc n) ≡ suc (capped (suc n) - 1) = omega arith in
    ap (λ k. length (run_code x k)) h ∙ (ap suc (ap (λ k. length (copies_code k 1)) (sym h) ∙ capped_copies (suc n) 1))

-- ---- scalars

same_is : (x y : ℤ) → are_same x y ≡ true → x ≡ y
same_is x y p = grind (arith, ints)

second_of : (a b : Bool) → (a && b) ≡ true → b ≡ true
second_of true b p = p
second_of false b p = cc

step_by : (b : Bool) (x : ℤ) (n : ℕ) (y : ℤ) (ys : List ℤ) → (b ≡ true → x ≡ y)
    → (if b then scalars_from x (suc n) ys else run_code x n ++ scalars_from y 1 ys) ≡ (if b then [] else run_code x n) ++ scalars_from y (if b then suc n else 1) ys
step_by true x n y ys f = ap (λ (z : ℤ). scalars_from z (suc n) ys) (f refl)
step_by false x n y ys f = refl

pub scalars_step : (x : ℤ) (n : ℕ) (y : ℤ) (ys : List ℤ) → scalars_from x n (y ∷ ys) ≡ run_ended x n y ++ scalars_from y (run_behind x n y) ys
scalars_step x n y ys = step_by (nat_lt 0 n && are_same x y) x n y ys (λ p. same_is x y (second_of (nat_lt 0 n) (are_same x y) p))

-- ---- parts without an index

pub no_index-size : (b : Bool) (ps : PartNodes) → has_index ps ≡ false → indices_size b ps ≡ 0
no_index-size b no_parts p = refl
no_index-size b (field first count ps) p = no_index-size b ps p
no_index-size b (element e bounds count ps) p = cc

two_behind : (n : ℕ) → length (member_code (pos (suc n))) ≡ 2
two_behind n =
    let h : are_same (pos (suc n)) (pos 0) ≡ false = grind (arith, ints) in
    rw h refl

pub member_capped : (n : ℕ) → length (member_code (pos (capped n))) ≡ length (member_code (pos n))
member_capped zero = refl
member_capped (suc n) =
    let k : capped (suc n) ≡ suc (capped (suc n) - 1) = omega arith in
    ap (λ (m : ℕ). length (member_code (pos m))) k ∙ (two_behind (capped (suc n) - 1) ∙ sym (two_behind n))

-- ---- as many scalars as are asked for

pub fitted_length : (n : ℕ) (xs : List ℤ) → length (fitted n xs) ≡ n
fitted_length zero xs = refl
fitted_length (suc n) [] = ap suc (fitted_length n [])
fitted_length (suc n) (x ∷ xs) = ap suc (fitted_length n xs)

-- where there are so many, they are those
pub fitted_all : (n : ℕ) (xs : List ℤ) → length xs ≡ n → fitted n xs ≡ xs
fitted_all zero [] e = refl
fitted_all zero (x ∷ xs) e = absurd (let no : ⊥ = cc in no)
fitted_all (suc n) [] e = absurd (let no : ⊥ = cc in no)
fitted_all (suc n) (x ∷ xs) e = ap (λ (ys : List ℤ). x ∷ ys) (fitted_all n xs (omega (arith, e)))

-- a number that fits is held as it is
pub capped_as : (x : ℤ) → int_le x (pos 9223372036854775807) ≡ true → capped_number x ≡ x
capped_as x e = rw e refl
