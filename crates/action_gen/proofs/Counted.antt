-- Constants that are steps.
use Rattle.std.proofs.Common.{◌≡◌, ℕ, ◌≤◌, Bool, true, false, ◌&&◌, ℤ, pos, negsuc, int_le, Option, Some, None, refl, ap, arith, inl, inr, if◌then◌else◌}
use Rattle.std.proofs.lemmas.Bool.{cases_lt}
use Rattle.std.specs.Prelude.{unsigned_abs}
use Rattle.std.specs.Int.{FitsUnsignedBits}
use Rattle.std.proofs.lemmas.Int.{ints}
use Rattle.scalar_operators.specs.Numbers.{greatest_int}
use Rattle.code_scheme.specs.StatementLoops.{where_step}

pub number_is : (x : ℤ) (n : ℕ) → FitsUnsignedBits 32 x → n ≡ unsigned_abs x → pos n ≡ x
number_is (pos m) n fits e = ap pos e
number_is (negsuc m) n fits e = absurd fits

none_where : {A : Type 0} (a b : Bool) (x : A) → b ≡ false → None ≡ (if a && b then Some x else None)
none_where true b x e = rw e refl
none_where false b x e = refl

pub no_step : (x : ℤ) → (FitsUnsignedBits 32 x → ⊥) → None ≡ where_step x
no_step (pos m) none = elim (cases_lt m 4294967296) [
  | inl p ↦ absurd (none p)
  | inr q ↦ (let far : int_le (pos m) greatest_int ≡ false = grind (arith, ints, q) in none_where (int_le (pos 1) (pos m)) (int_le (pos m) greatest_int) (pos m) far)
]
no_step (negsuc m) none = refl
