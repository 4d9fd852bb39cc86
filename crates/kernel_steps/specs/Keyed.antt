-- Items that belong to instances, in the order in which they came, and the phases that tell of them.
use Rattle.std.specs.Prelude.{◌≡◌, ℕ, List, slice_get, Some}
use Rattle.std.specs.Option.{option_and_then}
use Rattle.std.specs.declared.option.Option.{Option}
use Rattle.world_model.specs.declared.world.Phase.{Phase}
use Rattle.kernel_lists.specs.Once.{entry_of}

-- The items are those that the phases tell, each once.
pub record Mirrors {X : Type 0} (key : X → ℕ) (tell : ℕ → Phase → Option X) (xs : List X) (phases : List Phase) : Type 0 where
  pub each : (who : ℕ) → entry_of key xs who ≡ option_and_then (tell who) (slice_get phases who)
  pub once : (k : ℕ) (x : X) → slice_get xs k ≡ Some x → entry_of key xs (key x) ≡ Some x

-- What is listed of each is what its phase tells.
abbrev pub AreTold : {X : Type 0} → (ℕ → Phase → Option X) → (ℕ → Option X) → List Phase → Type 0
AreTold tell listed phases = (who : ℕ) → listed who ≡ option_and_then (tell who) (slice_get phases who)
