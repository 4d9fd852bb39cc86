-- The values of discrete modes.
use Rattle.std.specs.Prelude.{ℕ, suc, min, ℤ, pos, negsuc, ◌+ℤ◌, ◌-ℤ◌, neg_ℤ, Option, Some, None}
use Rattle.modes.specs.declared.mode.Bounds.{Bounds}
use Rattle.modes.specs.ModeTree.{ModeTree, int, boolean, char, instance, set_of, range, powerset, chars, array, structure, event, buffer, read, named}

-- the bounds that are written, where the parent is discrete
abbrev pub bounds_in : Option Bounds → ℤ → ℤ → Option Bounds
bounds_in None l h = None
bounds_in (Some b) l h = Some (record { low = l; high = h })

-- the least and the greatest value of a discrete mode
abbrev pub bounds_of : ModeTree → Option Bounds
bounds_of int = Some (record { low = neg_ℤ (pos 2147483648); high = pos 2147483647 })
bounds_of boolean = Some (record { low = pos 0; high = pos 1 })
bounds_of char = Some (record { low = pos 0; high = pos 255 })
bounds_of (set_of d n) = Some (record { low = pos 0; high = pos n -ℤ pos 1 })
bounds_of (range p l h) = bounds_in (bounds_of p) l h
bounds_of (read m) = bounds_of m
bounds_of (named d n m) = bounds_of m
bounds_of _ = None

-- a number that isn't below 0, and 0 for others
abbrev pub natural_of : ℤ → ℕ
natural_of (pos n) = n
natural_of (negsuc n) = 0

-- how many numbers there are from one to another; 2 ^ 64, which no text needs, is held as 2 ^ 64 - 1
abbrev pub count_between : ℤ → ℤ → ℕ
count_between low high = min (natural_of (high -ℤ low +ℤ pos 1)) 18446744073709551615

abbrev pub count_within : Option Bounds → ℕ
count_within None = 0
count_within (Some b) = count_between b.low b.high

-- how many values a discrete mode has
abbrev pub values_of : ModeTree → ℕ
values_of m = count_within (bounds_of m)
