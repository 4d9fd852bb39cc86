-- Powersets as values have them: a list of numbers, each of which tells 32 members. Bit k of number j tells the member at
-- offset 32 * j + k. Two powersets of one mode have lists of one length.
use Rattle.std.specs.Prelude.{ℕ, zero, suc, ◌+◌, ◌-◌, nat_lt, Bool, true, false, ◌&&◌, List, [], ◌∷◌, ◌++◌, ℤ, pos, negsuc, ◌-ℤ◌, map, replicate, if◌then◌else◌}
use Rattle.scalar_operators.specs.Powersets.{members_each, members_of, has_member, complement_in, union, intersection, symmetric_difference, difference, is_included, span_of}

-- a powerset of so many numbers without members
abbrev pub no_members : ℕ → List ℤ
no_members n = replicate n (pos 0)

-- an operator on the numbers of two powersets, pair by pair
abbrev pub by_pairs : (ℤ → ℤ → ℤ) → List ℤ → List ℤ → List ℤ
by_pairs f [] ys = []
by_pairs f (x ∷ xs) [] = []
by_pairs f (x ∷ xs) (y ∷ ys) = f x y ∷ by_pairs f xs ys

abbrev pub union_of : List ℤ → List ℤ → List ℤ
union_of = by_pairs union

abbrev pub intersection_of : List ℤ → List ℤ → List ℤ
intersection_of = by_pairs intersection

-- the members of one of the two alone
abbrev pub symmetric_difference_of : List ℤ → List ℤ → List ℤ
symmetric_difference_of = by_pairs symmetric_difference

-- the members of the first that the second hasn't
abbrev pub difference_of : List ℤ → List ℤ → List ℤ
difference_of = by_pairs difference

-- the members that a powerset of so many hasn't
abbrev pub complement_of : ℕ → List ℤ → List ℤ
complement_of count [] = []
complement_of count (x ∷ xs) = complement_in count x ∷ complement_of (count - members_each) xs

-- each member of the first is one of the second
abbrev pub is_subset : List ℤ → List ℤ → Bool
is_subset [] ys = true
is_subset (x ∷ xs) [] = false
is_subset (x ∷ xs) (y ∷ ys) = is_included x y && is_subset xs ys

-- there is a member at the offset
abbrev pub has_member_at : ℕ → List ℤ → Bool
has_member_at k [] = false
has_member_at k (x ∷ xs) = if nat_lt k members_each then has_member x k else has_member_at (k - members_each) xs

-- the number is the offset of a member
abbrev pub has_offset_of : ℤ → List ℤ → Bool
has_offset_of (pos k) xs = has_member_at k xs
has_offset_of (negsuc n) xs = false

-- the offsets of the members, rising, where the first number tells those from an offset on
abbrev pub offsets_from : ℕ → List ℤ → List ℕ
offsets_from first [] = []
offsets_from first (x ∷ xs) = map (λ k. first + k) (members_of x) ++ offsets_from (first + members_each) xs

abbrev pub offsets_of : List ℤ → List ℕ
offsets_of = offsets_from 0

-- the powerset of so many numbers with the members at the offsets from the first to the second
abbrev pub span_in : ℕ → ℤ → ℤ → List ℤ
span_in zero a b = []
span_in (suc n) a b = span_of a b ∷ span_in n (a -ℤ pos members_each) (b -ℤ pos members_each)
