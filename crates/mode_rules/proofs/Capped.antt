-- Counts that stop at 65,537.
use Rattle.std.proofs.Common.{◌≡◌, ℕ, zero, suc, ◌+◌, ◌*◌, ◌<◌, ◌≤◌, ◌⊎◌, inl, inr, min, arith, refl, sym, ◌∙◌}
use Rattle.std.proofs.Math.Nat.{mul-le-mul, mul_comm}
use Rattle.std.proofs.lemmas.Bool.{cases_lt}
use Rattle.modes.proofs.ModeViews.{mode_built}

-- factors of which one is at the limit and the other isn't 0
at_limit : (m n : ℕ) → 65537 ≤ m → 1 ≤ n → 65537 ≤ m * n
at_limit m n p q = let h : 65537 * 1 ≤ m * n = mul-le-mul p q in omega (arith, h)

small : (a : ℕ) → a ≤ 65537 → min a 65537 ≡ a
small a h = omega arith

large : (a : ℕ) → 65537 ≤ a → min a 65537 ≡ 65537
large a h = omega arith

both_small : (a b : ℕ) → a ≤ 65537 → b ≤ 65537 → min (min a 65537 * min b 65537) 65537 ≡ min (a * b) 65537
both_small a b p q = rw (small a p, small b q) refl

large_left : (a b : ℕ) → 65537 ≤ a → min (min a 65537 * min b 65537) 65537 ≡ min (a * b) 65537
large_left a zero p = rw (large a p) (grind arith)
large_left a (suc b) p =
    let h : 65537 ≤ min a 65537 * min (suc b) 65537 = at_limit _ _ (omega arith) (omega arith) in
    let k : 65537 ≤ a * suc b = at_limit a (suc b) p (omega arith) in
    large _ h ∙ sym (large _ k)

large_right : (a b : ℕ) → a ≤ 65537 → 65537 ≤ b → min (min a 65537 * min b 65537) 65537 ≡ min (a * b) 65537
large_right zero b p q = grind arith
large_right (suc a) b p q =
    let h : 65537 ≤ min b 65537 * min (suc a) 65537 = at_limit _ _ (omega arith) (omega arith) in
    let k : 65537 ≤ b * suc a = at_limit b (suc a) q (omega arith) in
    let h' : 65537 ≤ min (suc a) 65537 * min b 65537 = rw (mul_comm (min (suc a) 65537) (min b 65537)) h in
    let k' : 65537 ≤ suc a * b = rw (mul_comm (suc a) b) k in
    large _ h' ∙ sym (large _ k')

-- a product of factors that stop at a limit comes to the limit where the product does
pub cap-product : (a b : ℕ) → min (min a 65537 * min b 65537) 65537 ≡ min (a * b) 65537
cap-product a b = elim (cases_lt a 65537) [
  | inl p ↦ elim (cases_lt b 65537) [
    | inl q ↦ both_small a b (omega arith) (omega arith)
    | inr q ↦ large_right a b (omega arith) q
  ]
  | inr p ↦ large_left a b p
]

pub ruleset counted = (mode_built, cap-product)
