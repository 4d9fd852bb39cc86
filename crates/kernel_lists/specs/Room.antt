-- The room of a vector.
use Rattle.std.specs.Prelude.{ℕ, ◌-◌, vec_len, vec_capacity}
use Rattle.std.specs.declared.vec.Vec.{Vec}

-- how many more items a vector takes with no memory
abbrev pub spare : {T A : Type 0} → Vec T A → ℕ
spare v = vec_capacity v - vec_len v
