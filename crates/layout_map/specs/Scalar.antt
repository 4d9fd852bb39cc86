-- How many bits a scalar needs.
use Rattle.std.specs.Prelude.{ℕ, suc, ◌-◌, max, ℤ, pos, negsuc, int_lt, Bool, true, false, ◌&&◌, nat_le, if◌then◌else◌, Option, Some, None}
use Rattle.std.specs.Int.{leading_zeros, w64}
use Rattle.modes.specs.declared.mode.Bounds.{Bounds}
use Rattle.modes.specs.ModeTree.{ModeTree, int, boolean, char, instance, set_of, range, powerset, read, named}
use Rattle.modes.specs.Bounds.{bounds_of, natural_of, values_of}
use Rattle.layout_map.specs.declared.scalar.Scalar.{Scalar}

-- the binary digits of a number below 2 ^ 64, 0 for 0: the least k with the number below 2 ^ k
abbrev pub digits_of : ℕ → ℕ
digits_of n = 64 - leading_zeros w64 n

-- how far a number is below -1, and 0 for others
abbrev pub beyond_of : ℤ → ℕ
beyond_of (pos n) = 0
beyond_of (negsuc n) = n

-- From 0 or more to u the least k >= 1 with 2 ^ k > u; from below 0 the least k with -(2 ^ (k - 1)) at most the lower
-- and 2 ^ (k - 1) above the upper bound.
abbrev pub range_scalar : ℤ → ℤ → Scalar
range_scalar l h =
    if int_lt l (pos 0)
    then record { width = suc (digits_of (max (beyond_of l) (natural_of h))); signed = true }
    else record { width = max 1 (digits_of (natural_of h)); signed = false }

-- of n elements the least k >= 1 with 2 ^ k >= n
abbrev pub set_scalar : ℕ → Scalar
set_scalar n = record { width = max 1 (digits_of (n - 1)); signed = false }

-- a bit for each of at most 32 members
abbrev pub powerset_scalar : ℕ → Option Scalar
powerset_scalar n = if nat_le 1 n && nat_le n 32 then Some (record { width = n; signed = false }) else None

abbrev pub scalar_if : Option Bounds → Scalar → Option Scalar
scalar_if None s = None
scalar_if (Some b) s = Some s

-- the bits of a mode that is one scalar
abbrev pub scalar_of : ModeTree → Option Scalar
scalar_of int = Some (record { width = 32; signed = true })
scalar_of boolean = Some (record { width = 1; signed = false })
scalar_of char = Some (record { width = 8; signed = false })
scalar_of instance = Some (record { width = 32; signed = false })
scalar_of (set_of d n) = Some (set_scalar n)
scalar_of (range p l h) = scalar_if (bounds_of p) (range_scalar l h)
scalar_of (powerset m) = powerset_scalar (values_of m)
scalar_of (read m) = scalar_of m
scalar_of (named d n m) = scalar_of m
scalar_of _ = None

-- whether the scalar is held in two's complement
abbrev pub is_signed : Option Scalar → Bool
is_signed None = false
is_signed (Some s) = s.signed
