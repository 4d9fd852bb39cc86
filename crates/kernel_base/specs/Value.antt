-- The flat scalars of a value.
use Rattle.std.specs.Prelude.{ℕ, suc, zero, ◌+◌, ◌*◌, ◌/◌, ◌%◌, ◌^◌, ◌==◌, if◌then◌else◌, List, [], ◌∷◌, ℤ, pos, sum_by}
use Rattle.std.specs.List.{flat_map}
use Rattle.kernel_base.specs.declared.value.Value.{Value, Value-F, fold-Value}
use Rattle.kernel_base.specs.declared.value.Value.TheOpen as layer
use Rattle.kernel_base.specs.declared.value.ScalarKind.{ScalarKind}
use Rattle.kernel_base.specs.declared.value.ScalarKind.TheVariants.{Plain, Powerset}

-- lists, one after another
abbrev pub joined : {A : Type 0} → List (List A) → List A
joined = flat_map (λ xs. xs)

-- how many numbers tell the members of a powerset whose member mode has so many values
abbrev pub count_of_numbers : ℕ → ℕ
count_of_numbers size = (size + 31) / 32

-- number j of a powerset: its bit k tells the member at offset 32 * j + k
abbrev pub number_of : List ℕ → ℕ → ℕ
number_of offsets j = sum_by (λ offset. if offset / 32 == j then 2 ^ (offset % 32) else 0) offsets

-- so many numbers of a powerset, from number j on
abbrev pub numbers_from : List ℕ → ℕ → ℕ → List ℤ
numbers_from offsets j zero = []
numbers_from offsets j (suc count) = pos (number_of offsets j) ∷ numbers_from offsets (suc j) count

abbrev pub scalars_in : Value-F (List ℤ) → List ℤ
scalars_in (layer.Number number) = number ∷ []
scalars_in (layer.Members size offsets) = numbers_from offsets 0 (count_of_numbers size)
scalars_in (layer.Parts parts) = joined parts

-- A discrete value is one scalar, a powerset of m members as many as m / 32 rounded up; a text, an array or a structure
-- has those of its parts in order.
unfoldable pub scalars_of : Value → List ℤ
scalars_of = fold-Value (List ℤ) scalars_in

-- the kinds of so many numbers of a powerset, from number j on
abbrev pub kinds_from : ℕ → ℕ → ℕ → List ScalarKind
kinds_from size j zero = []
kinds_from size j (suc count) = Powerset size (32 * j) ∷ kinds_from size (suc j) count

abbrev pub kinds_in : Value-F (List ScalarKind) → List ScalarKind
kinds_in (layer.Number number) = Plain ∷ []
kinds_in (layer.Members size offsets) = kinds_from size 0 (count_of_numbers size)
kinds_in (layer.Parts parts) = joined parts

-- what each scalar of a value is, in the order of its scalars
unfoldable pub kinds_of : Value → List ScalarKind
kinds_of = fold-Value (List ScalarKind) kinds_in

abbrev pub powersets_in : Value-F (List (ℕ × List ℕ)) → List (ℕ × List ℕ)
powersets_in (layer.Number number) = []
powersets_in (layer.Members size offsets) = (size, offsets) ∷ []
powersets_in (layer.Parts parts) = joined parts

-- the powersets in a value: how many values the member mode has, and the offsets of the members
unfoldable pub powersets_of : Value → List (ℕ × List ℕ)
powersets_of = fold-Value (List (ℕ × List ℕ)) powersets_in
