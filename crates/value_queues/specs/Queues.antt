-- The values of the buffers, each buffer's in the order in which they are received.
use Rattle.std.specs.Prelude.{◌≡◌, ℕ, ◌+◌, ◌≤◌, ◌==◌, List, [], ◌∷◌, length, map, slice_get, slice_set, slice_index_or, if◌then◌else◌, Some, None, IsTrue, IsFalse}
use Rattle.std.specs.List.{count_by, sum_by}
use Rattle.std.specs.declared.option.Option.{Option}
use Rattle.world_model.specs.declared.world.StoredValue.{StoredValue}
use Rattle.world_model.specs.World as worlds
use Rattle.kernel_lists.specs.declared.best.Rank.{Rank}
use Rattle.kernel_lists.specs.Best.{precedes_in}

-- a value goes by its priority, and among equals by its send number
abbrev pub rank_of : StoredValue → Rank
rank_of value = record { priority = value.priority; arrival = value.send }

-- no value goes before one that stands in front of it
abbrev pub AreInOrder : List StoredValue → Type 0
AreInOrder [] = Unit {0}
AreInOrder (value ∷ values) = ((k : ℕ) (other : StoredValue) → slice_get values k ≡ Some other → IsFalse (precedes_in (rank_of other) (rank_of value))) × AreInOrder values

-- with one more value, in front of the first that it goes before
abbrev pub placed : StoredValue → List StoredValue → List StoredValue
placed value [] = value ∷ []
placed value (other ∷ values) = if precedes_in (rank_of value) (rank_of other) then value ∷ other ∷ values else other ∷ placed value values

-- a value of this rank goes before all from this place on, and not before the one in front of the place
pub record IsPlaceFor (rank : Rank) (values : List StoredValue) (place : ℕ) : Type 0 where
  pub within : place ≤ length values
  pub behind : (k : ℕ) (other : StoredValue) → place ≤ k → slice_get values k ≡ Some other → IsTrue (precedes_in rank (rank_of other))
  pub front : (k : ℕ) (other : StoredValue) → k + 1 ≡ place → slice_get values k ≡ Some other → IsFalse (precedes_in rank (rank_of other))

-- the values of a buffer
abbrev pub values_in : List (List StoredValue) → ℕ → List StoredValue
values_in stored buffer = slice_index_or stored buffer []

-- one more value in a buffer
abbrev pub with_placed : List (List StoredValue) → ℕ → StoredValue → List (List StoredValue)
with_placed stored buffer value = slice_set stored buffer (placed value (values_in stored buffer))

-- the value stood first in its buffer, and is taken out
pub record TakesFirst (old new : List (List StoredValue)) (buffer : ℕ) (value : StoredValue) : Type 0 where
  pub rest : List StoredValue
  pub was : values_in old buffer ≡ value ∷ rest
  pub new_is : new ≡ slice_set old buffer rest

-- all values but the one of this send number
abbrev pub stored_but : ℕ → List (List StoredValue) → List (List StoredValue)
stored_but send stored = map (worlds.values_but send) stored

-- the rank of the first value, if there is one
abbrev pub first_rank : List StoredValue → Option Rank
first_rank [] = None
first_rank (value ∷ values) = Some (rank_of value)

-- how often a send number stands in the buffers
abbrev pub times_in : ℕ → List StoredValue → ℕ
times_in send values = count_by (λ value. value.send == send) values

abbrev pub times_stored : ℕ → List (List StoredValue) → ℕ
times_stored send stored = sum_by (times_in send) stored

-- the values of each buffer, and for how many more there is room in each
pub record SeenQueues : Type 0 where
  pub values : List (List StoredValue)
  pub room : ℕ
