-- The fields, and the arrays with STEP, of a mode in the order of the text: the first that has an impossible place, and the
-- first that shares a bit with an earlier one. Numbers rise by one; one past 4,294,967,295, which no text comes to, is
-- held as that.
use Rattle.std.specs.Prelude.{ℕ, ◌+◌, min, Bool, true, false, ◌&&◌, ◌||◌, not, Option, Some, None, is_some, if◌then◌else◌, Ok, Err}
use Rattle.std.specs.declared.result.Result.{Result}
use Rattle.modes.specs.ModeTree.{ModeTree, int, boolean, char, instance, set_of, range, powerset, chars, array, structure, event, buffer, read, named, FieldNodes, no_fields, more_fields, PlaceTree, SpreadTree, words, packed, step}
use Rattle.modes.specs.Bounds.{values_of}
use Rattle.layout_map.specs.Place.{is_possible, is_possible_step}

abbrev pub next_number : ℕ → ℕ
next_number n = min (n + 1) 4294967295

abbrev pub some_placed : FieldNodes → Bool
some_placed no_fields = false
some_placed (more_fields name m at fs) = is_some at || some_placed fs

abbrev pub all_placed : FieldNodes → Bool
all_placed no_fields = true
all_placed (more_fields name m at fs) = is_some at && all_placed fs

-- some fields have a place and others don't
abbrev pub are_mixed : FieldNodes → Bool
are_mixed fs = some_placed fs && not (all_placed fs)

-- what comes next, unless one is found
abbrev pub and_then : {E : Type 0} → Result ℕ E → (ℕ → Result ℕ E) → Result ℕ E
and_then (Ok n) f = f n
and_then (Err e) f = Err e

-- the field has a place that is impossible
abbrev pub is_misplaced : ModeTree → Option PlaceTree → Bool → Bool
is_misplaced m None mixed = false
is_misplaced m (Some p) mixed = mixed || not (is_possible m p)

-- the number behind an array's, or the array's where its STEP is impossible
abbrev pub array_impossible : ℕ → ModeTree → SpreadTree → ℕ → Result ℕ ℕ
array_impossible n e words number = Ok number
array_impossible n e packed number = Ok number
array_impossible n e (step p d) number = if is_possible_step n e p d then Ok (next_number number) else Err number

abbrev mutual
  -- the number behind those of the mode, of which the first is given; or the first whose place is impossible
  pub first_impossible : ModeTree → ℕ → Result ℕ ℕ
  first_impossible (array i e how) number = and_then (array_impossible (values_of i) e how number) (first_impossible e)
  first_impossible (structure fs p) number = fields_impossible fs (are_mixed fs) number
  first_impossible (read m) number = first_impossible m number
  first_impossible (named d n m) number = first_impossible m number
  first_impossible int number = Ok number
  first_impossible boolean number = Ok number
  first_impossible char number = Ok number
  first_impossible instance number = Ok number
  first_impossible (set_of d n) number = Ok number
  first_impossible (range p l h) number = Ok number
  first_impossible (powerset m) number = Ok number
  first_impossible (chars n) number = Ok number
  first_impossible (event l) number = Ok number
  first_impossible (buffer l e) number = Ok number

  pub fields_impossible : FieldNodes → Bool → ℕ → Result ℕ ℕ
  fields_impossible no_fields mixed number = Ok number
  fields_impossible (more_fields name m at fs) mixed number =
      and_then (if is_misplaced m at mixed then Err number else first_impossible m (next_number number)) (fields_impossible fs mixed)

-- the number behind those of a field, or the first whose place is impossible
abbrev pub field_impossible : ModeTree → Option PlaceTree → Bool → ℕ → Result ℕ ℕ
field_impossible m at mixed number = if is_misplaced m at mixed then Err number else first_impossible m (next_number number)
