-- The receipt of a value, told of one buffer, and the priorities of the values that are offered.
use Rattle.std.specs.Prelude.{◌≡◌, ℕ, ◌==◌, ◌≤◌, List, ℤ, if◌then◌else◌, Some, None}
use Rattle.std.specs.declared.option.Option.{Option}
use Rattle.kernel_base.specs.declared.facts.Facts.{Facts}
use Rattle.kernel_base.specs.declared.request.Alternative.{Alternative}
use Rattle.world_model.specs.declared.world.StoredValue.{StoredValue}
use Rattle.world_model.specs.declared.world.World.{World}
use Rattle.world_model.specs.declared.waiting.Offer.{Offer}
use Rattle.world_model.specs.Lists.{number_for}
use Rattle.world_model.specs.Waiting.{offer}
use Rattle.world_model.specs.World.{buffer_length}
use Rattle.world_model.specs.Allowed.{IsOffered, IsStored, IsCandidate, IsRefill}

-- the priority of an offer to the buffer
abbrev pub priority_to : ℕ → Option Offer → Option ℕ
priority_to buffer None = None
priority_to buffer (Some o) = if o.buffer == buffer then Some o.value.priority else None

-- the priority of the value that p offers to the buffer
abbrev pub offered_priority : World → ℕ → ℕ → Option ℕ
offered_priority w buffer p = priority_to buffer (offer w p)

-- no value that is offered to the buffer has a higher priority
abbrev pub NoOfferAbove : World → ℕ → ℕ → Type 0
NoOfferAbove w buffer priority = (other : StoredValue) → IsOffered w buffer other → other.priority ≤ priority

-- no value that lies in the buffer has a higher priority
abbrev pub NoStoredAbove : World → ℕ → ℕ → Type 0
NoStoredAbove w buffer priority = (other : StoredValue) → IsStored w buffer other → other.priority ≤ priority

-- no value lies in the buffer
abbrev pub NothingStored : World → ℕ → Type 0
NothingStored w buffer = (value : StoredValue) → IsStored w buffer value → ⊥

-- no value may be received from the buffer
abbrev pub NoCandidate : Facts → World → ℕ → Type 0
NoCandidate facts w buffer = (value : StoredValue) → IsCandidate facts w buffer value → ⊥

-- no value that may be received from the buffer has a higher priority
abbrev pub NoCandidateAbove : Facts → World → ℕ → ℕ → Type 0
NoCandidateAbove facts w priority buffer = (other : StoredValue) → IsCandidate facts w buffer other → other.priority ≤ priority

-- no value that may be received from a listed buffer has a higher priority
abbrev pub NoValueAbove : Facts → World → List Alternative → ℕ → Type 0
NoValueAbove facts w buffers priority = (b n : ℕ) (other : StoredValue) → number_for buffers b ≡ Some n → IsCandidate facts w b other → other.priority ≤ priority

-- the value of a sender, with its send number and scalars
abbrev pub value_of : ℕ → List ℤ → ℕ → ℕ → StoredValue
value_of send scalars by priority = record { send = send; sender = by; scalars = scalars; priority = priority }

-- The value is this one, and none that may be received from the listed buffers has a higher priority.
pub record MayTake (facts : Facts) (w : World) (buffers : List Alternative) (send : ℕ) (scalars : List ℤ) (by : ℕ) (value : StoredValue) : Type 0 where
  pub is : value ≡ value_of send scalars by value.priority
  pub highest : NoValueAbove facts w buffers value.priority

-- the offer is of this value, to the buffer
pub record Offers (buffer : ℕ) (value : StoredValue) (made : Option Offer) : Type 0 where
  pub back : Option ℕ
  pub is : made ≡ Some (record { buffer = buffer; value = value; back = back })

-- The value is offered to the buffer, and none that may be received from the listed ones has a higher priority.
pub record HasHighestOffered (facts : Facts) (w : World) (buffers : List Alternative) (buffer send : ℕ) (scalars : List ℤ) (by : ℕ) : Type 0 where
  pub priority : ℕ
  pub offered : IsOffered w buffer (value_of send scalars by priority)
  pub highest : NoValueAbove facts w buffers priority

-- The value lies in the buffer, and none that may be received from the listed ones has a higher priority.
pub record HasHighestStored (facts : Facts) (w : World) (buffers : List Alternative) (buffer send : ℕ) (scalars : List ℤ) (by : ℕ) : Type 0 where
  pub priority : ℕ
  pub stored : IsStored w buffer (value_of send scalars by priority)
  pub highest : NoValueAbove facts w buffers priority

-- The value may be received from the buffer, and none that may be received from the listed ones has a higher priority.
pub record HasHighest (facts : Facts) (w : World) (buffers : List Alternative) (buffer send : ℕ) (scalars : List ℤ) (by : ℕ) : Type 0 where
  pub priority : ℕ
  pub candidate : IsCandidate facts w buffer (value_of send scalars by priority)
  pub highest : NoValueAbove facts w buffers priority

-- The buffer is listed by the alternative, the value is taken from it, and its refill is right.
pub record TakesFrom (facts : Facts) (w : World) (buffers : List Alternative) (alternative send : ℕ) (scalars : List ℤ) (by : ℕ) (refill : Option ℕ) (buffer : ℕ) : Type 0 where
  pub listed : number_for buffers buffer ≡ Some alternative
  pub has : HasHighest facts w buffers buffer send scalars by
  pub refills : IsRefill (buffer_length facts buffer) w buffer by refill
