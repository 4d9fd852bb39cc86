-- The machine whose turn it is.
use Rattle.std.proofs.Common.{◌≡◌, ◌<◌, ℕ, zero, suc, List, [], ◌∷◌, refl, subst, Option, Some, None, slice_get, length, arith}
use Rattle.std.specs.Prelude.{IfSome, IsSomeAnd, slice_index_or}
use Rattle.machine_steps.specs.Views.{state_of}
use Rattle.code_machine.specs.Running.{IsUp}
use Rattle.serial_run.specs.declared.runner.Runner.{Runner}

abbrev pub IsUpAt : List Runner → ℕ → Type 0
IsUpAt runners k = IsSomeAnd (slice_get runners k) (λ r. IsUp (state_of r.machine).mode)

pub turn_at : (runners : List Runner) (found : Option ℕ) (k : ℕ) → found ≡ Some k → IfSome found (λ n. IsUpAt runners n) → IsUpAt runners k
turn_at runners None k is h = absurd (let f : ⊥ = cc in f)
turn_at runners (Some n) k is h = let e : n ≡ k = cc in subst (λ (m : ℕ). IsUpAt runners m) e h

pub is_there : (runners : List Runner) (k : ℕ) (d : Runner) → IsUpAt runners k → slice_get runners k ≡ Some (slice_index_or runners k d)
is_there [] k d h = absurd h
is_there (r ∷ runners) zero d h = refl
is_there (r ∷ runners) (suc k) d h = is_there runners k d h

pub is_up : (runners : List Runner) (k : ℕ) (d : Runner) → IsUpAt runners k → IsUp (state_of (slice_index_or runners k d).machine).mode
is_up [] k d h = absurd h
is_up (r ∷ runners) zero d h = h
is_up (r ∷ runners) (suc k) d h = is_up runners k d h
