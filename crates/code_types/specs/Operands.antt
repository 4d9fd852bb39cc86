-- How operands are read off the stack.
use Rattle.std.specs.Prelude.{ℕ, suc, ◌+◌, ◌-◌, nat_le, List, [], ◌∷◌, ℤ, pos, nat_abs, int_le, length, map, take, drop, Some, None}
use Rattle.std.specs.List.{list_all}
use Rattle.std.specs.declared.option.Option.{Option}
use Rattle.kernel_base.specs.declared.request.Alternative.{Alternative}
use Rattle.scalar_operators.specs.Numbers.{is_number, is_between, where_true}
use Rattle.code_types.specs.State.{Slot}

-- so many topmost numbers, and what lies below them
abbrev pub topmost : ℕ → List ℤ → List ℤ
topmost n stack = drop (length stack - n) stack

abbrev pub below_topmost : ℕ → List ℤ → List ℤ
below_topmost n stack = take (length stack - n) stack

-- a part of a list: so many from one on, where it has as many
abbrev pub part_of : {A : Type 0} → List A → ℕ → ℕ → Option (List A)
part_of xs first count = where_true (nat_le (first + count) (length xs)) (take count (drop first xs))

-- a number that isn't negative
abbrev pub offset_of : ℤ → Option ℕ
offset_of z = where_true (int_le (pos 0) z) (nat_abs z)

-- a number of 32 bits without sign
abbrev pub number_in : ℤ → Option ℕ
number_in z = where_true (is_number z) (nat_abs z)

abbrev pub with_first : {A : Type 0} → Option A → Option (List A) → Option (List A)
with_first (Some x) (Some xs) = Some (x ∷ xs)
with_first (Some x) None = None
with_first None xs = None

abbrev pub alternative_in : Option ℕ → Option ℕ → Option Alternative
alternative_in (Some thing) (Some number) = Some (record { thing = thing; number = number })
alternative_in (Some thing) None = None
alternative_in None number = None

-- the alternatives that pairs of a thing and a number tell; none where a number doesn't fit, or one is left over
abbrev pub pairs_of : List ℤ → Option (List Alternative)
pairs_of [] = Some []
pairs_of (thing ∷ []) = None
pairs_of (thing ∷ number ∷ rest) = with_first (alternative_in (number_in thing) (number_in number)) (pairs_of rest)

-- what triples of a thing, a local and a count tell: the things and the slots
pub record Triples : Type 0 where
  pub things : List Alternative
  pub slots : List Slot

-- a slot that lies in a frame of so many locals
abbrev pub slot_in : ℕ → Option ℕ → Option ℕ → Option Slot
slot_in locals (Some local) (Some count) = where_true (nat_le (local + count) locals) (record { local = local; count = count })
slot_in locals (Some local) None = None
slot_in locals None count = None

abbrev pub with_triple : ℕ → Option ℕ → Option Slot → Option Triples → Option Triples
with_triple number (Some thing) (Some slot) (Some rest) = Some (record { things = record { thing = thing; number = number } ∷ rest.things; slots = slot ∷ rest.slots })
with_triple number (Some thing) (Some slot) None = None
with_triple number (Some thing) None rest = None
with_triple number None slot rest = None

-- The triples, whose alternatives are numbered from one on; none where a thing's number doesn't fit, a slot lies outside
-- the locals, or a number is left over.
abbrev pub triples_of : ℕ → ℕ → List ℤ → Option Triples
triples_of locals number [] = Some (record { things = []; slots = [] })
triples_of locals number (thing ∷ []) = None
triples_of locals number (thing ∷ local ∷ []) = None
triples_of locals number (thing ∷ local ∷ count ∷ rest) = with_triple number (number_in thing) (slot_in locals (offset_of local) (offset_of count)) (triples_of locals (suc number) rest)

-- the numbers as bytes, where each is one
abbrev pub bytes_of : List ℤ → Option (List ℕ)
bytes_of numbers = where_true (list_all (is_between (pos 0) (pos 255)) numbers) (map nat_abs numbers)
