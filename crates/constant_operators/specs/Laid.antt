-- Modes whose scalars have a place: no place in them is impossible, and no two fields share a bit.
use Rattle.std.specs.Prelude.{ℕ, Bool, true, false, ◌&&◌, not, length, Option, Some, None, is_ok, if◌then◌else◌}
use Rattle.modes.specs.ModeTree.{ModeTree, int, boolean, char, instance, set_of, range, powerset, chars, array, structure, event, buffer, read, named, FieldNodes, no_fields, more_fields, SpreadTree, words, packed, step}
use Rattle.modes.specs.Bounds.{values_of}
use Rattle.layout_map.specs.Place.{is_possible_step}
use Rattle.layout_map.specs.Numbered.{are_mixed, is_misplaced}
use Rattle.layout_map.specs.Overlap.{ats_of, placed_overlap}
use Rattle.layout_map.specs.Spots.{is_placed}

abbrev pub step_is_laid : ℕ → ModeTree → SpreadTree → Bool
step_is_laid n e words = true
step_is_laid n e packed = true
step_is_laid n e (step p d) = is_possible_step n e p d

-- no two of the fields share a bit
abbrev pub are_apart : FieldNodes → Bool
are_apart fs = if is_placed fs then is_ok (placed_overlap (ats_of fs) 0) else true

abbrev mutual
  pub is_laid : ModeTree → Bool
  is_laid int = true
  is_laid boolean = true
  is_laid char = true
  is_laid instance = true
  is_laid (set_of d n) = true
  is_laid (range p l h) = is_laid p
  is_laid (powerset m) = true
  is_laid (chars n) = true
  is_laid (array i e how) = step_is_laid (values_of i) e how && is_laid e
  is_laid (structure fs p) = are_apart fs && fields_are_laid fs (are_mixed fs)
  is_laid (event l) = true
  is_laid (buffer l e) = true
  is_laid (read m) = is_laid m
  is_laid (named d n m) = is_laid m

  pub fields_are_laid : FieldNodes → Bool → Bool
  fields_are_laid no_fields mixed = true
  fields_are_laid (more_fields name m at fs) mixed = not (is_misplaced m at mixed) && (is_laid m && fields_are_laid fs mixed)
