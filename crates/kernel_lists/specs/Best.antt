-- The best of a list, by priority and then by arrival.
use Rattle.std.specs.Prelude.{◌≡◌, ℕ, ◌<◌, ◌==◌, ◌&&◌, ◌||◌, nat_lt, Bool, List, slice_get, if◌then◌else◌, Some, None, IsTrue, IsFalse}
use Rattle.std.specs.declared.option.Option.{Option}
use Rattle.kernel_lists.specs.declared.best.Rank.{Rank}
use Rattle.kernel_lists.specs.declared.best.Best.{Best}

-- the first goes before the second: it has the higher priority, or the same one and came earlier
abbrev pub precedes_in : Rank → Rank → Bool
precedes_in rank other = nat_lt other.priority rank.priority || (rank.priority == other.priority && nat_lt rank.arrival other.arrival)

-- the better of what was found and what stands at a place, if that may be chosen
abbrev pub better_of : Option Best → ℕ → Option Rank → Option Best
better_of found place None = found
better_of None place (Some rank) = Some (record { place = place; rank = rank })
better_of (Some best) place (Some rank) = if precedes_in rank best.rank then Some (record { place = place; rank = rank }) else Some best

-- It may be chosen, nothing else goes before it, and it stands before its equals. Those may be chosen that have a rank.
pub record IsBest {X : Type 0} (rank : X → Option Rank) (xs : List X) (best : Best) : Type 0 where
  pub item : X
  pub at : slice_get xs best.place ≡ Some item
  pub ranked : rank item ≡ Some best.rank
  pub highest : (k : ℕ) (other : X) (r : Rank) → slice_get xs k ≡ Some other → rank other ≡ Some r → IsFalse (precedes_in r best.rank)
  pub first : (k : ℕ) (other : X) (r : Rank) → k < best.place → slice_get xs k ≡ Some other → rank other ≡ Some r → IsTrue (precedes_in best.rank r)

-- nothing may be chosen
abbrev pub NoneRanked : {X : Type 0} → (X → Option Rank) → List X → Type 0
NoneRanked {X} rank xs = (k : ℕ) (other : X) → slice_get xs k ≡ Some other → rank other ≡ None

-- the best of the first n
pub record IsBestBelow {X : Type 0} (rank : X → Option Rank) (xs : List X) (n : ℕ) (best : Best) : Type 0 where
  pub below : best.place < n
  pub item : X
  pub at : slice_get xs best.place ≡ Some item
  pub ranked : rank item ≡ Some best.rank
  pub highest : (k : ℕ) → k < n → (other : X) (r : Rank) → slice_get xs k ≡ Some other → rank other ≡ Some r → IsFalse (precedes_in r best.rank)
  pub first : (k : ℕ) → k < best.place → (other : X) (r : Rank) → slice_get xs k ≡ Some other → rank other ≡ Some r → IsTrue (precedes_in best.rank r)

-- what was found among the first n
abbrev pub BestBelow : {X : Type 0} → (X → Option Rank) → List X → ℕ → Option Best → Type 0
BestBelow {X} rank xs n None = (k : ℕ) → k < n → (other : X) → slice_get xs k ≡ Some other → rank other ≡ None
BestBelow rank xs n (Some best) = IsBestBelow rank xs n best
