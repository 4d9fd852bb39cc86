-- Value trees, and their flat scalars.
use Rattle.std.specs.Prelude.{ℕ, zero, suc, ◌+◌, ◌*◌, Bool, true, false, ◌&&◌, ◌||◌, not, ℤ, pos, List, [], ◌∷◌, ◌++◌, take, drop, length, if◌then◌else◌, int_le}
use Rattle.modes.specs.Scalars.{numbers_of}
use Rattle.checks_model.specs.Alike.{same_int}

mutual
  pub data ValueTree : Type 0 where
    -- a discrete value, or an instance
    number : ℤ → ValueTree
    -- a powerset: of each member of its mode in order, whether it is there
    members : List Bool → ValueTree
    -- the parts of an array, a structure or a text
    parts : ValueNodes → ValueTree

  pub data ValueNodes : Type 0 where
    no_values : ValueNodes
    more_values : ValueTree → ValueNodes → ValueNodes

abbrev pub value_nodes : List ValueTree → ValueNodes
value_nodes [] = no_values
value_nodes (v ∷ vs) = more_values v (value_nodes vs)

-- ---- flat scalars

-- the number whose bits tell of members, the first being the lowest
abbrev pub bits_of : List Bool → ℕ
bits_of [] = 0
bits_of (b ∷ bs) = (if b then 1 else 0) + 2 * bits_of bs

-- so many numbers, each of 32 members
abbrev pub numbers_from : ℕ → List Bool → List ℤ
numbers_from zero bs = []
numbers_from (suc k) bs = pos (bits_of (take 32 bs)) ∷ numbers_from k (drop 32 bs)

abbrev mutual
  -- the flat scalars of a value
  pub scalars_in : ValueTree → List ℤ
  scalars_in (number n) = n ∷ []
  scalars_in (members bs) = numbers_from (numbers_of (length bs)) bs
  scalars_in (parts vs) = scalars_in_each vs

  pub scalars_in_each : ValueNodes → List ℤ
  scalars_in_each no_values = []
  scalars_in_each (more_values v vs) = scalars_in v ++ scalars_in_each vs

-- ---- equality and order

abbrev pub same_members : List Bool → List Bool → Bool
same_members [] [] = true
same_members (true ∷ as') (b ∷ bs) = b && same_members as' bs
same_members (false ∷ as') (b ∷ bs) = not b && same_members as' bs
same_members _ _ = false

-- each member of the one is a member of the other
abbrev pub included : List Bool → List Bool → Bool
included [] bs = true
included (a ∷ as') [] = not a && included as' []
included (a ∷ as') (b ∷ bs) = (not a || b) && included as' bs

abbrev mutual
  pub same_value : ValueTree → ValueTree → Bool
  same_value (number a) (number b) = same_int a b
  same_value (members as') (members bs) = same_members as' bs
  same_value (parts vs) (parts ws) = same_values vs ws
  same_value _ _ = false

  pub same_values : ValueNodes → ValueNodes → Bool
  same_values no_values no_values = true
  same_values (more_values v vs) (more_values w ws) = same_value v w && same_values vs ws
  same_values _ _ = false

-- texts, character by character
abbrev pub text_is_less : ValueNodes → ValueNodes → Bool
text_is_less no_values no_values = false
text_is_less no_values (more_values w ws) = true
text_is_less (more_values v vs) no_values = false
text_is_less (more_values (number a) vs) (more_values (number b) ws) = (int_le a b && not (int_le b a)) || (same_int a b && text_is_less vs ws)
text_is_less (more_values v vs) (more_values w ws) = false

-- `<` of numbers and texts; of powersets, inclusion of another set
abbrev pub is_less : ValueTree → ValueTree → Bool
is_less (number a) (number b) = int_le a b && not (int_le b a)
is_less (members as') (members bs) = included as' bs && not (same_members as' bs)
is_less (parts vs) (parts ws) = text_is_less vs ws
is_less _ _ = false
