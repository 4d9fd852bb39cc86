-- What is known of a place that is written, and of its numbers, one by one.
use Rattle.std.specs.Prelude.{Bool, true, false, ◌||◌, codes, List, Option, Some, None, is_some, option_map, option_and_then, if◌then◌else◌, ℤ}
use Rattle.chill_tree.specs.declared.tree.mode.PlaceForm.{PlaceForm}
use Rattle.chill_tree.specs.ExprTree.{ExprTree}
use Rattle.chill_tree.specs.ModeTree as written
use Rattle.modes.specs.ModeTree.{ModeTree, PlaceTree, place_tree, SpreadTree}
use Rattle.chill_base.specs.declared.pos.Pos.{Pos}
use Rattle.diagnostics.specs.declared.diagnostic.Diagnostic.{Diagnostic}
use Rattle.diagnostics.specs.declared.rule.Rule.TheVariants as rules
use Rattle.names_model.specs.NameRules.{tell}
use Rattle.checks_model.specs.Told.{told_if}
use Rattle.checks_model.specs.Ground.{Ground}
use Rattle.checks_model.specs.WrittenModes.{is_no_int, needed_number, held, last_bit, place_there, place_has_no_int, step_from, holds_of_three, is_impossible_spread}
use Rattle.written_modes.specs.declared.places.Placed.{Placed}
use Rattle.written_modes.specs.declared.places.Placed.TheVariants as placed
use Rattle.written_modes.specs.declared.places.PlaceNumber.{PlaceNumber}
use Rattle.written_modes.specs.declared.places.PlaceNumber.TheVariants as numbers

-- ---- a number

pub data NumberSeen : Type 0 where
  a_number : ℤ → NumberSeen
  no_int : NumberSeen
  unknown : NumberSeen

abbrev pub number_tree : PlaceNumber → NumberSeen
number_tree (numbers.Number n) = a_number n
number_tree numbers.Misfit = no_int
number_tree numbers.Broken = unknown

abbrev pub number_if : Option ℤ → NumberSeen
number_if None = unknown
number_if (Some n) = a_number n

abbrev pub number_seen : Ground → ExprTree → NumberSeen
number_seen g e = if is_no_int g e then no_int else number_if (needed_number g e)

abbrev pub isnt_int : NumberSeen → Bool
isnt_int (a_number n) = false
isnt_int no_int = true
isnt_int unknown = false

-- ---- a place

-- whether it is written, whether a number of it isn't of INT, and where it is
pub record PlaceSeen : Type 0 where
  pub is_written : Bool
  pub has_no_int : Bool
  pub place : Option PlaceTree

abbrev pub placed_tree : Placed → PlaceSeen
placed_tree placed.Free = record { is_written = false; has_no_int = false; place = None }
placed_tree (placed.At b) = record { is_written = true; has_no_int = false; place = Some (place_tree b) }
placed_tree placed.Misfit = record { is_written = true; has_no_int = true; place = None }
placed_tree placed.Broken = record { is_written = true; has_no_int = false; place = None }

abbrev pub place_seen : Ground → Option written.PlaceTree → PlaceSeen
place_seen g p = record { is_written = is_some p; has_no_int = place_has_no_int g p; place = option_and_then (place_there g) p }

-- a place of its numbers
abbrev pub place_by : PlaceForm → NumberSeen → NumberSeen → NumberSeen → PlaceSeen
place_by form (a_number w) (a_number s) (a_number b) =
    record { is_written = true; has_no_int = false; place = Some (record { word = held w; start = held s; end = held (last_bit form s b) }) }
place_by form w s b = record { is_written = true; has_no_int = isnt_int w || (isnt_int s || isnt_int b); place = None }

-- the place that a field is held with
abbrev pub held_by : PlaceSeen → Option (Option PlaceTree)
held_by p = if p.is_written then option_map Some p.place else Some None

-- ---- elements from step to step

abbrev pub step_misfits_by : PlaceSeen → NumberSeen → Bool
step_misfits_by p d = p.has_no_int || isnt_int d

abbrev pub number_there : NumberSeen → Option ℤ
number_there (a_number n) = Some n
number_there no_int = None
number_there unknown = None

-- a step of what is known of its place and its distance
abbrev pub step_by : PlaceSeen → NumberSeen → Option SpreadTree
step_by p d = if step_misfits_by p d then None else step_from p.place (number_there d)

-- ---- M14 of an array

abbrev pub spread_misfits : Option ModeTree → Option ModeTree → Option SpreadTree → Bool
spread_misfits i e s = holds_of_three is_impossible_spread i e s

abbrev pub told_step : Pos → Bool → Option ModeTree → Option ModeTree → Option SpreadTree → List Diagnostic
told_step at misfits i e s = told_if (misfits || spread_misfits i e s) (tell at rules.M14 (codes "element"))
