-- How values and signals stand, where they may be chosen.
use Rattle.std.specs.Prelude.{◌≡◌, ℕ, ◌==◌, ◌&&◌, Bool, true, false, List, ◌∷◌, slice_get, slice_index_or, if◌then◌else◌, Some, None, is_some}
use Rattle.std.specs.Option.{option_map}
use Rattle.std.specs.declared.option.Option.{Option}
use Rattle.kernel_base.specs.declared.request.Alternative.{Alternative}
use Rattle.world_model.specs.Lists.{number_for}
use Rattle.kernel_lists.specs.declared.best.Rank.{Rank}
use Rattle.kernel_lists.specs.Once.{entry_of}
use Rattle.wait_queues.specs.declared.waiters.Waiter.{Waiter}
use Rattle.buffers_signals.specs.declared.messages.Held.{Held}
use Rattle.buffers_signals.specs.declared.receiving.Source.{Source}
use Rattle.buffers_signals.specs.declared.receiving.Source.TheVariants.{Stored, Offered, Nowhere}
use Rattle.value_queues.specs.Queues.{rank_of, values_in, first_rank}
use Rattle.world_model.specs.declared.world.StoredValue.{StoredValue}
use Rattle.buffers_signals.specs.Arrivals.{rank_in, senders_at}
use Rattle.buffers_signals.specs.Lists.{sender_of}
use Rattle.buffers_signals.specs.Buffers.{SeenBuffers, IsChoice, NoCandidate}

-- of a buffer of length 0
abbrev pub is_zero : Option ℕ → Bool
is_zero None = false
is_zero (Some length) = length == 0

abbrev pub is_unbuffered : List (Option ℕ) → ℕ → Bool
is_unbuffered lengths buffer = is_zero (slice_index_or lengths buffer None)

abbrev pub is_listed : List Alternative → ℕ → Bool
is_listed buffers buffer = is_some (number_for buffers buffer)

-- the value that goes first of those whose senders wait on a buffer
abbrev pub offered_rank : List Held → ℕ → Option Rank
offered_rank senders buffer = option_map rank_in (slice_get (senders_at buffer senders) 0)

-- the value that is received first from a buffer
abbrev pub front_rank : List (Option ℕ) → List (List StoredValue) → List Held → ℕ → Option Rank
front_rank lengths stored senders buffer = if is_unbuffered lengths buffer then offered_rank senders buffer else first_rank (values_in stored buffer)

-- the choice is the first value of the buffer that stands at this place of the list
pub record IsFrontAt (b : SeenBuffers) (buffers : List Alternative) (place : ℕ) : Type 0 where
  pub listed : Alternative
  pub at : slice_get buffers place ≡ Some listed
  pub value : StoredValue
  pub rest : List StoredValue
  pub first : values_in b.stored listed.thing ≡ value ∷ rest
  pub choice : IsChoice b buffers (record { buffer = listed.thing; value = value })
  pub length : is_unbuffered b.lengths listed.thing ≡ false

-- the choice is offered by the sender that waits first on the buffer that stands at this place of the list
pub record IsOfferAt (b : SeenBuffers) (buffers : List Alternative) (place : ℕ) : Type 0 where
  pub listed : Alternative
  pub at : slice_get buffers place ≡ Some listed
  pub first : Waiter
  pub stands : slice_get (senders_at listed.thing b.senders) 0 ≡ Some first
  pub held : Held
  pub found : entry_of sender_of b.senders first.who ≡ Some held
  pub choice : IsChoice b buffers held
  pub length : is_unbuffered b.lengths held.buffer ≡ true

-- where the choice stands, if there is one
abbrev pub IsSource : SeenBuffers → List Alternative → Source → Type 0
IsSource b buffers (Stored place) = IsFrontAt b buffers place
IsSource b buffers (Offered place) = IsOfferAt b buffers place
IsSource b buffers Nowhere = NoCandidate b buffers
