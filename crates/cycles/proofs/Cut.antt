-- The marks of the nodes of groups, without those of the own nodes.
use Rattle.std.proofs.Common.{◌≡◌, ℕ, ◌+◌, ◌<◌, ◌≤◌, ◌↔◌, Bool, true, false, List, ◌⊎◌, inl, inr, arith, sym, ◌∙◌, length, take}
use Rattle.std.proofs.lemmas.Bool.{cases_lt}
use Rattle.std.proofs.lemmas.List.{get_or-take, length-take, get_or_past}
use Rattle.cycles.specs.Depends.{Depends, IsSet}
use Rattle.cycles.specs.declared.group.Group.{Group}
use Rattle.cycles.specs.Groups.{edges_of}
use Rattle.cycles.specs.Stars.{stars, LieBelow}
use Rattle.cycles.proofs.Between.{goes_through, comes_back, only_below}

-- no mark behind the cut tells anything
reached_low : (base : ℕ) (marks : List Bool) (v : ℕ) → IsSet (take base marks) v → v < base
reached_low base marks v r = at_side (cases_lt v base)
  where
    at_side : (v < base) ⊎ (base ≤ v) → v < base
    at_side (inl h) = h
    at_side (inr h) = let cut = length-take base marks in let wrong : false ≡ true = sym (get_or_past (take base marks) v false (omega (arith, cut, h))) ∙ r in absurd cc

pub cut_exact : (base : ℕ) (gs : List Group) (marks : List Bool) → LieBelow base gs → ((v : ℕ) → v < base + length gs → IsSet marks v ↔ Depends (stars base gs) v v) → (v : ℕ) → IsSet (take base marks) v ↔ Depends (edges_of gs) v v
cut_exact base gs marks low exact v = (
  (λ r. let h = reached_low base marks v r in comes_back base gs low v v h h ((exact v (omega (arith, h))).0 (sym (get_or-take base marks v false h) ∙ r))),
  (λ d. let h = only_below base gs low v v d in get_or-take base marks v false h ∙ (exact v (omega (arith, h))).1 (goes_through base gs low v v d)),
)
