-- The value of a class that has these scalars. Where they are those of a value of the class, it is that value.
use Rattle.std.specs.Prelude.{◌≡◌, ℕ, zero, suc, ◌+◌, ◌*◌, Bool, List, [], ◌∷◌, map, take, drop, Option, Some, None, ℤ, pos, IsTrue}
use Rattle.modes.specs.ModeTree.{ModeTree, int, boolean, char, instance, set_of, range, powerset, chars, array, structure, event, buffer, read, named, FieldNodes, no_fields, more_fields, ClassTree, value, derived, null, nothing}
use Rattle.modes.specs.Bounds.{values_of}
use Rattle.modes.specs.Scalars.{numbers_of}
use Rattle.scalar_operators.specs.Powersets.{numbers_up}
use Rattle.scalar_operators.specs.Members.{has_member_at}
use Rattle.checks_model.specs.ValueTrees.{ValueTree, ValueNodes, number, members, parts, no_values, more_values, value_nodes, scalars_in}
use Rattle.constant_values.specs.Fits.{fits_class}

abbrev pub first_number : List ℤ → ValueTree
first_number [] = number (pos 0)
first_number (n ∷ ns) = number n

-- so many members, by the numbers that tell of them
abbrev pub members_in : ℕ → List ℤ → List Bool
members_in count flat = map (λ k. has_member_at k flat) (numbers_up 0 count)

-- so many values, each of so many scalars
abbrev pub values_in : (List ℤ → ValueTree) → ℕ → ℕ → List ℤ → ValueNodes
values_in f size zero flat = no_values
values_in f size (suc count) flat = more_values (f (take size flat)) (values_in f size count (drop size flat))

abbrev mutual
  -- how many scalars a value of a mode has; of a range those of its parent
  pub scalars_within : ModeTree → ℕ
  scalars_within int = 1
  scalars_within boolean = 1
  scalars_within char = 1
  scalars_within instance = 1
  scalars_within (set_of d n) = 1
  scalars_within (range p l h) = scalars_within p
  scalars_within (powerset m) = numbers_of (values_of m)
  scalars_within (chars n) = n
  scalars_within (array i e how) = values_of i * scalars_within e
  scalars_within (structure fs p) = scalars_within_fields fs
  scalars_within (event l) = 0
  scalars_within (buffer l e) = 0
  scalars_within (read m) = scalars_within m
  scalars_within (named d n m) = scalars_within m

  pub scalars_within_fields : FieldNodes → ℕ
  scalars_within_fields no_fields = 0
  scalars_within_fields (more_fields n m at fs) = scalars_within m + scalars_within_fields fs

abbrev mutual
  -- the value of a mode
  pub value_in : ModeTree → List ℤ → ValueTree
  value_in int flat = first_number flat
  value_in boolean flat = first_number flat
  value_in char flat = first_number flat
  value_in instance flat = first_number flat
  value_in (set_of d n) flat = first_number flat
  value_in (range p l h) flat = value_in p flat
  value_in (powerset m) flat = members (members_in (values_of m) flat)
  value_in (chars n) flat = parts (value_nodes (map number flat))
  value_in (array i e how) flat = parts (values_in (value_in e) (scalars_within e) (values_of i) flat)
  value_in (structure fs p) flat = parts (values_in_fields fs flat)
  value_in (event l) flat = first_number flat
  value_in (buffer l e) flat = first_number flat
  value_in (read m) flat = value_in m flat
  value_in (named d n m) flat = value_in m flat

  pub values_in_fields : FieldNodes → List ℤ → ValueNodes
  values_in_fields no_fields flat = no_values
  values_in_fields (more_fields n m at fs) flat = more_values (value_in m (take (scalars_within m) flat)) (values_in_fields fs (drop (scalars_within m) flat))

abbrev pub value_of_class : ClassTree → List ℤ → ValueTree
value_of_class (value m) flat = value_in m flat
value_of_class (derived m) flat = value_in m flat
value_of_class null flat = first_number flat
value_of_class nothing flat = first_number flat

-- the value of what has a class and scalars
abbrev pub value_known : Option ClassTree → Option (List ℤ) → Option ValueTree
value_known (Some c) (Some flat) = Some (value_of_class c flat)
value_known _ _ = None

-- a value of a class is what its scalars are read as
abbrev pub ReadLaw : Type 0
ReadLaw = (c : ClassTree) (v : ValueTree) → IsTrue (fits_class c v) → value_of_class c (scalars_in v) ≡ v
