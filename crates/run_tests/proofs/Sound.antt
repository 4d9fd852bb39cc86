-- Facts without locations and signals are sound.
use Rattle.std.proofs.Common.{◌≡◌, ◌≤◌, [], ap, ◌∙◌, sym, subst, List, Option, Some, ℕ, length, slice_get}
use Rattle.std.specs.Prelude.{All, IfSome, ◌<◌}
use Rattle.std.proofs.lemmas.List.Elements.{All-nil}
use Rattle.chill_base.specs.declared.layout.Bits.{Bits}
use Rattle.kernel_base.specs.declared.facts.Facts.{Facts}
use Rattle.kernel_base.specs.declared.value.Value.{Value}
use Rattle.kernel_base.specs.Facts.{IsLaidOut, IsSound}

nothing_laid : (values : List Value) (location : ℕ) (value : Value) (layout : List Bits) → values ≡ [] → slice_get values location ≡ Some value → IsLaidOut value layout
nothing_laid values location value layout none at = absurd (let there : slice_get [] location ≡ Some value = subst (λ (vs : List Value). slice_get vs location ≡ Some value) none at in let f : ⊥ = cc in f)

abbrev IsProcessOf : ℕ → Option ℕ → Type 0
IsProcessOf processes to = IfSome to (λ process. process < processes)

pub nothing_sound : (facts : Facts) → facts.store ≡ [] → facts.layouts ≡ [] → facts.signals ≡ [] → 1 ≤ facts.units → facts.units ≤ 10000000 → IsSound facts
nothing_sound facts store layouts signals least greatest = record {
  locations = ap length layouts ∙ sym (ap length store);
  laid_out = λ location value layout v l. nothing_laid facts.store location value layout store v;
  signals = subst (λ (xs : List (Option ℕ)). All (IsProcessOf facts.processes) xs) (sym signals) (All-nil (IsProcessOf facts.processes));
  least_budget = least;
  greatest_budget = greatest;
}
