-- A refill where the buffer isn't of length 0, and a wait for anything but a region.
use Rattle.std.proofs.Common.{◌≡◌, ℕ, zero, suc, refl, Some}
use Rattle.world_model.specs.declared.world.World.{World}
use Rattle.world_model.specs.declared.waiting.Offer.{Offer}
use Rattle.world_model.specs.World.{refilled_buffer, with_stored}

pub filled_some : (w : World) (n : ℕ) (o : Offer) → (n ≡ 0 → ⊥) → refilled_buffer w (Some n) o ≡ with_stored w o.buffer o.value
filled_some w zero o apart = absurd (apart refl)
filled_some w (suc n) o apart = refl
