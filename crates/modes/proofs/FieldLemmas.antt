-- Fields as lists and as nodes.
use Rattle.std.proofs.Common.{◌≡◌, ℕ, zero, suc, ◌+◌, ◌<◌, ◌≤◌, List, [], ◌∷◌, length, nat_lt, Bool, true, false, refl, arith}
use Rattle.modes.specs.declared.mode.Field.{Field}
use Rattle.modes.specs.ModeTree.{field_nodes, field_trees}
use Rattle.modes.specs.Language.{is_filled}

-- there is a field where there are more than none
pub filled : (xs : List Field) → is_filled (field_nodes (field_trees xs)) ≡ nat_lt 0 (length xs)
filled [] = refl
filled (x ∷ xs) = grind arith
