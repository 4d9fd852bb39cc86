-- Words on lists.
use Rattle.std.specs.Prelude.{ℕ, ◌+◌, ◌==◌, not, List, [], ◌∷◌, ◌++◌, ℤ, length, take, drop, if◌then◌else◌, Some, None}
use Rattle.std.specs.List.{filter}
use Rattle.std.specs.declared.option.Option.{Option}
use Rattle.kernel_base.specs.declared.request.Alternative.{Alternative}

-- the last item
abbrev pub last_of : List ℕ → Option ℕ
last_of [] = None
last_of (x ∷ []) = Some x
last_of (x ∷ y ∷ xs) = last_of (y ∷ xs)

-- all but the items that are this number
abbrev pub without : ℕ → List ℕ → List ℕ
without x xs = filter (λ y. not (y == x)) xs

-- the number of the first alternative that lists this thing
abbrev pub number_for : List Alternative → ℕ → Option ℕ
number_for [] thing = None
number_for (a ∷ alternatives) thing = if a.thing == thing then Some a.number else number_for alternatives thing

-- so many scalars from number `first` on
abbrev pub scalars_at : List ℤ → ℕ → ℕ → List ℤ
scalars_at scalars first count = take count (drop first scalars)

-- these scalars in place of those from number `first` on
abbrev pub with_scalars : List ℤ → ℕ → List ℤ → List ℤ
with_scalars scalars first new = take first scalars ++ new ++ drop (first + length new) scalars
