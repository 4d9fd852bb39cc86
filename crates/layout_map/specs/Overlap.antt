-- The first field that shares a bit with an earlier one.
use Rattle.std.specs.Prelude.{ℕ, zero, suc, ◌+◌, min, Bool, false, List, [], ◌∷◌, length, slice_index_or, Option, Some, None, if◌then◌else◌, Ok, Err}
use Rattle.std.specs.declared.result.Result.{Result}
use Rattle.modes.specs.ModeTree.{ModeTree, int, boolean, char, instance, set_of, range, powerset, chars, array, structure, event, buffer, read, named, FieldNodes, no_fields, more_fields, PlaceTree, SpreadTree, words, packed, step}
use Rattle.layout_map.specs.declared.overlap.Shared.{Shared}
use Rattle.layout_map.specs.Place.{shares}
use Rattle.layout_map.specs.Numbered.{next_number, and_then}
use Rattle.layout_map.specs.Spots.{is_placed}

-- both are places, and some bit belongs to both
abbrev pub share : Option PlaceTree → Option PlaceTree → Bool
share None b = false
share (Some p) None = false
share (Some p) (Some q) = shares p q

-- the number so many behind another
abbrev pub moved : ℕ → ℕ → ℕ
moved number by = min (number + by) 4294967295

-- the places of the fields
abbrev pub ats_of : FieldNodes → List (Option PlaceTree)
ats_of no_fields = []
ats_of (more_fields name m at fs) = at ∷ ats_of fs

abbrev pub at_number : List (Option PlaceTree) → ℕ → Option PlaceTree
at_number ats i = slice_index_or ats i None

-- of so many places from number i on the first that shares a bit with this one
abbrev pub sharing_from : ℕ → ℕ → Option PlaceTree → List (Option PlaceTree) → Option ℕ
sharing_from zero i at ats = None
sharing_from (suc n) i at ats = if share (at_number ats i) at then Some i else sharing_from n (suc i) at ats

abbrev pub found : ℕ → ℕ → Option ℕ → Result ℕ Shared → Result ℕ Shared
found number j None rest = rest
found number j (Some i) rest = Err (record { first = moved number i; second = moved number j })

-- of so many places from number j on the first that shares a bit with an earlier one
abbrev pub second_from : ℕ → ℕ → ℕ → List (Option PlaceTree) → Result ℕ Shared
second_from zero j number ats = Ok (moved number (length ats))
second_from (suc n) j number ats = found number j (sharing_from j 0 (at_number ats j) ats) (second_from n (suc j) number ats)

-- the number behind those of fields with places, or the first two that share a bit
abbrev pub placed_overlap : List (Option PlaceTree) → ℕ → Result ℕ Shared
placed_overlap ats number = second_from (length ats) 0 number ats

-- an array with STEP has a number of its own
abbrev pub number_within : SpreadTree → ℕ → ℕ
number_within words number = number
number_within packed number = number
number_within (step p d) number = next_number number

abbrev mutual
  -- the number behind those of the mode, of which the first is given; or the first two fields that share a bit
  pub first_overlap : ModeTree → ℕ → Result ℕ Shared
  first_overlap (array i e how) number = first_overlap e (number_within how number)
  first_overlap (structure fs p) number = if is_placed fs then placed_overlap (ats_of fs) number else fields_overlap fs number
  first_overlap (read m) number = first_overlap m number
  first_overlap (named d n m) number = first_overlap m number
  first_overlap int number = Ok number
  first_overlap boolean number = Ok number
  first_overlap char number = Ok number
  first_overlap instance number = Ok number
  first_overlap (set_of d n) number = Ok number
  first_overlap (range p l h) number = Ok number
  first_overlap (powerset m) number = Ok number
  first_overlap (chars n) number = Ok number
  first_overlap (event l) number = Ok number
  first_overlap (buffer l e) number = Ok number

  pub fields_overlap : FieldNodes → ℕ → Result ℕ Shared
  fields_overlap no_fields number = Ok number
  fields_overlap (more_fields name m at fs) number = and_then (first_overlap m (next_number number)) (fields_overlap fs)

-- the number behind those of a field, or the first two fields in it that share a bit
abbrev pub field_overlap : ModeTree → ℕ → Result ℕ Shared
field_overlap m number = first_overlap m (next_number number)
