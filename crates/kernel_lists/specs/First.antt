-- The first item of a list that passes a test.
use Rattle.std.specs.Prelude.{◌≡◌, ℕ, Bool, List, slice_get, Some}
use Rattle.std.specs.List.{find}

-- it stands at this place
pub record IsFirst {X : Type 0} (test : X → Bool) (xs : List X) (place : ℕ) : Type 0 where
  pub item : X
  pub at : slice_get xs place ≡ Some item
  pub found : find test xs ≡ Some item
