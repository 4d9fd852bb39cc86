-- Which values are values of a mode, and of a class: by how they are built and how many parts they have. Whether a number lies
-- in its mode's bounds is asked elsewhere.
use Rattle.std.specs.Prelude.{ℕ, suc, Bool, true, false, ◌&&◌, ◌||◌, ◌==◌, nat_le, length, Option, Some, None, option_and_then}
use Rattle.modes.specs.ModeTree.{ModeTree, char, ClassTree, value, derived, null, nothing}
use Rattle.modes.specs.Form.{FormTree, form_of, of_powerset, of_chars, of_array, of_structure}
use Rattle.modes.specs.Bounds.{values_of}
use Rattle.checks_model.specs.Alike.{is_discrete, is_instance, of_form}
use Rattle.checks_model.specs.ValueTrees.{ValueTree, ValueNodes, number, members, parts, no_values, more_values}
use Rattle.checks_model.specs.Classes.{count_fields, part_mode}

abbrev pub count_values : ValueNodes → ℕ
count_values no_values = 0
count_values (more_values v vs) = suc (count_values vs)

-- ---- forms

abbrev pub takes_number : FormTree → Bool
takes_number f = is_discrete f || is_instance f

-- at most as many members as INT has values
abbrev pub few_members : ℕ → Bool
few_members count = nat_le count 4294967296

abbrev pub takes_members : ℕ → FormTree → Bool
takes_members count (of_powerset m) = (count == values_of m) && few_members count
takes_members count _ = false

abbrev pub takes_parts : ℕ → FormTree → Bool
takes_parts count (of_chars n) = count == n
takes_parts count (of_array i e how) = count == values_of i
takes_parts count (of_structure fs p) = count == count_fields fs
takes_parts count _ = false

abbrev pub part_of_form : ℕ → FormTree → Option ModeTree
part_of_form k (of_chars n) = Some char
part_of_form k f = part_mode k f

-- the mode of part k of a value of a mode
abbrev pub part_of_mode : ℕ → Option ModeTree → Option ModeTree
part_of_mode k m = option_and_then (λ m. part_of_form k (form_of m)) m

-- ---- values

abbrev mutual
  -- the value is one of the mode
  pub fits : Option ModeTree → ValueTree → Bool
  fits m (number n) = of_form takes_number m
  fits m (members bs) = of_form (takes_members (length bs)) m
  fits m (parts vs) = of_form (takes_parts (count_values vs)) m && fit_each m 0 vs

  -- each of the values is one of its part of the mode
  pub fit_each : Option ModeTree → ℕ → ValueNodes → Bool
  fit_each m k no_values = true
  fit_each m k (more_values v vs) = fits (part_of_mode k m) v && fit_each m (suc k) vs

abbrev pub is_number : ValueTree → Bool
is_number (number n) = true
is_number _ = false

-- the value is one of the class
abbrev pub fits_class : ClassTree → ValueTree → Bool
fits_class (value m) v = fits (Some m) v
fits_class (derived m) v = fits (Some m) v
fits_class null v = is_number v
fits_class nothing v = false

-- where the value is known, so is the class, and it is one of the class
abbrev pub fit_together : Option ClassTree → Option ValueTree → Bool
fit_together c None = true
fit_together None (Some v) = false
fit_together (Some c) (Some v) = fits_class c v
