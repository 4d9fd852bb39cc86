-- Words with some bits replaced.
use Rattle.std.proofs.Common.{◌≡◌, ℕ, suc, ◌+◌, ◌-◌, ◌*◌, ◌/◌, ◌%◌, ◌^◌, ◌<◌, ◌≤◌, sym, ap, ◌∙◌, arith}
use Rattle.std.proofs.Math.Nat.{mul-le-mul_right}
use Rattle.std.proofs.lemmas.Nat.{pow_pos, pow-add, shr-shr, mod-pow-add, field_of, div-mul-add, mod-mul-add, div_below}
use Rattle.std.specs.Int.{bit_at}
use Rattle.layout_map.specs.Words.{field_in, put_field}

regroup : (h f l a b c : ℕ) → c ≡ a * b → h * c + f * a + l ≡ (h * b + f) * a + l
regroup h f l a b c e = rw e (omega arith)

split : (w s n f : ℕ) → put_field w s n f ≡ (w / 2 ^ (s + n) * 2 ^ n + f) * 2 ^ s + w % 2 ^ s
split w s n f = regroup (w / 2 ^ (s + n)) f (w % 2 ^ s) (2 ^ s) (2 ^ n) (2 ^ (s + n)) (pow-add 2 s n)

low_below : (w s : ℕ) → w % 2 ^ s < 2 ^ s
low_below w s = omega (arith, pow_pos s)

-- the field that was put is there
pub put-field : (w s n f : ℕ) → f < 2 ^ n → field_in (put_field w s n f) s n ≡ f
put-field w s n f h =
    ap (λ (x : ℕ). x / 2 ^ s % 2 ^ n) (split w s n f)
    ∙ ap (λ (x : ℕ). x % 2 ^ n) (div-mul-add (w / 2 ^ (s + n) * 2 ^ n + f) (2 ^ s) (w % 2 ^ s) (low_below w s))
    ∙ mod-mul-add (w / 2 ^ (s + n)) (2 ^ n) f h

-- the bits below are as before
pub put-low : (w s n f : ℕ) → put_field w s n f % 2 ^ s ≡ w % 2 ^ s
put-low w s n f =
    ap (λ (x : ℕ). x % 2 ^ s) (split w s n f) ∙ mod-mul-add (w / 2 ^ (s + n) * 2 ^ n + f) (2 ^ s) (w % 2 ^ s) (low_below w s)

below : (w s n f : ℕ) → f < 2 ^ n → f * 2 ^ s + w % 2 ^ s < 2 ^ (s + n)
below w s n f h =
    let e : 2 ^ (s + n) ≡ 2 ^ s * 2 ^ n = pow-add 2 s n in
    let p : suc f * 2 ^ s ≤ 2 ^ n * 2 ^ s = mul-le-mul_right (2 ^ s) (omega arith) in
    let q : w % 2 ^ s < 2 ^ s = low_below w s in
    rw e (omega (arith, p, q))

-- the bits above are as before
pub put-high : (w s n f : ℕ) → f < 2 ^ n → put_field w s n f / 2 ^ (s + n) ≡ w / 2 ^ (s + n)
put-high w s n f h =
    let e : put_field w s n f ≡ w / 2 ^ (s + n) * 2 ^ (s + n) + (f * 2 ^ s + w % 2 ^ s) = omega arith in
    ap (λ (x : ℕ). x / 2 ^ (s + n)) e ∙ div-mul-add (w / 2 ^ (s + n)) (2 ^ (s + n)) (f * 2 ^ s + w % 2 ^ s) (below w s n f h)

low_bit : (y j : ℕ) → y % 2 ^ (j + 1) % 2 ≡ y % 2
low_bit y j =
    let e : y % 2 ^ (j + 1) ≡ (y / 2 ^ 1 % 2 ^ j) * 2 ^ 1 + y % 2 ^ 1 = mod-pow-add y j 1 in omega (arith, e)

-- a bit below s is one of the lowest s
bit_below : (x j k : ℕ) → bit_at (x % 2 ^ (j + 1 + k)) k ≡ bit_at x k
bit_below x j k = ap (λ (y : ℕ). y % 2) (field_of x (j + 1) k) ∙ low_bit (x / 2 ^ k) j

bit_in_low : (x s k : ℕ) → k < s → bit_at (x % 2 ^ s) k ≡ bit_at x k
bit_in_low x s k h =
    let e : s ≡ (s - (k + 1)) + 1 + k = omega arith in
    ap (λ (t : ℕ). bit_at (x % 2 ^ t) k) e ∙ bit_below x (s - (k + 1)) k

bit_above : (x y t j : ℕ) → x / 2 ^ t ≡ y / 2 ^ t → bit_at x (t + j) ≡ bit_at y (t + j)
bit_above x y t j e =
    ap (λ (z : ℕ). z % 2) (sym (shr-shr x t j) ∙ ap (λ (z : ℕ). z / 2 ^ j) e ∙ shr-shr y t j)

-- a bit below the field stays
pub bit-below_field : (w s n f k : ℕ) → k < s → bit_at (put_field w s n f) k ≡ bit_at w k
bit-below_field w s n f k h =
    sym (bit_in_low (put_field w s n f) s k h) ∙ ap (λ (x : ℕ). bit_at x k) (put-low w s n f) ∙ bit_in_low w s k h

-- a bit above the field stays
pub bit-above_field : (w s n f k : ℕ) → f < 2 ^ n → s + n ≤ k → bit_at (put_field w s n f) k ≡ bit_at w k
bit-above_field w s n f k h p =
    let e : k ≡ s + n + (k - (s + n)) = omega arith in
    ap (λ (t : ℕ). bit_at (put_field w s n f) t) e ∙ bit_above (put_field w s n f) w (s + n) (k - (s + n)) (put-high w s n f h) ∙ ap (λ (t : ℕ). bit_at w t) (sym e)

-- the word still has 32 bits
pub put_fits : (w s n f : ℕ) → w < 2 ^ 32 → s + n ≤ 32 → f < 2 ^ n → put_field w s n f < 2 ^ 32
put_fits w s n f hw hs hf =
    let t : ℕ = 32 - (s + n) in
    let e : 2 ^ 32 ≡ 2 ^ t * 2 ^ (s + n) = ap (λ (x : ℕ). 2 ^ x) (let q : 32 ≡ t + (s + n) = omega arith in q) ∙ pow-add 2 t (s + n) in
    let below_top : w / 2 ^ (s + n) < 2 ^ t = div_below w (2 ^ (s + n)) (2 ^ t) (pow_pos (s + n)) (rw (← e) hw) in
    let rows : suc (w / 2 ^ (s + n)) * 2 ^ (s + n) ≤ 2 ^ t * 2 ^ (s + n) = mul-le-mul_right (2 ^ (s + n)) (omega arith) in
    let rest : f * 2 ^ s + w % 2 ^ s < 2 ^ (s + n) = below w s n f hf in
    rw e (omega (arith, rows, rest))
