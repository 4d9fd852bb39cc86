-- Powersets of at most 32 members, as the low 32 bits of a number: bit k tells the member at offset k.
use Rattle.std.specs.Prelude.{ℕ, zero, suc, ◌-◌, ◌%◌, ◌^◌, ◌==◌, nat_lt, Bool, false, not, ◌&&◌, ◌||◌, List, [], ◌∷◌, ℤ, pos, negsuc, int_le, sum_by, if◌then◌else◌, Some, None}
use Rattle.std.specs.Int.{bit_at}
use Rattle.std.specs.List.{filter, list_all}
use Rattle.std.specs.declared.option.Option.{Option}

-- how many members one number tells
abbrev pub members_each : ℕ
members_each = 32

-- the low bits of a number in two's complement, one for each of these members
abbrev pub low_word : ℤ → ℕ
low_word (pos n) = n % 2 ^ members_each
low_word (negsuc n) = 2 ^ members_each - 1 - n % 2 ^ members_each

-- the numbers from one on, so many
abbrev pub numbers_up : ℕ → ℕ → List ℕ
numbers_up k zero = []
numbers_up k (suc count) = k ∷ numbers_up (suc k) count

-- the offsets that a powerset may have
abbrev pub offsets : List ℕ
offsets = numbers_up 0 members_each

-- there is a member at the offset
abbrev pub has_member : ℤ → ℕ → Bool
has_member set k = bit_at (low_word set) k == 1

-- the offsets of the members, rising
abbrev pub members_of : ℤ → List ℕ
members_of set = filter (has_member set) offsets

-- the powerset of the offsets that pass the test
abbrev pub powerset_where : (ℕ → Bool) → ℤ
powerset_where test = pos (sum_by (λ k. if test k then 2 ^ k else 0) offsets)

-- the members that a powerset of so many hasn't
abbrev pub complement_in : ℕ → ℤ → ℤ
complement_in count set = powerset_where (λ k. nat_lt k count && not (has_member set k))

abbrev pub intersection : ℤ → ℤ → ℤ
intersection a b = powerset_where (λ k. has_member a k && has_member b k)

abbrev pub union : ℤ → ℤ → ℤ
union a b = powerset_where (λ k. has_member a k || has_member b k)

-- the members of one of the two alone
abbrev pub symmetric_difference : ℤ → ℤ → ℤ
symmetric_difference a b = powerset_where (λ k. (has_member a k && not (has_member b k)) || (has_member b k && not (has_member a k)))

-- the members of the first that the second hasn't
abbrev pub difference : ℤ → ℤ → ℤ
difference a b = powerset_where (λ k. has_member a k && not (has_member b k))

-- each member of the first is one of the second
abbrev pub is_included : ℤ → ℤ → Bool
is_included a b = list_all (has_member b) (members_of a)

-- the number is the offset of a member
abbrev pub has_offset : ℤ → ℤ → Bool
has_offset (pos k) set = nat_lt k members_each && has_member set k
has_offset (negsuc n) set = false

-- the powerset of the offsets from the first number to the second
abbrev pub span_of : ℤ → ℤ → ℤ
span_of a b = powerset_where (λ k. int_le a (pos k) && int_le (pos k) b)

abbrev pub first_of_list : List ℕ → Option ℕ
first_of_list [] = None
first_of_list (k ∷ ks) = Some k

abbrev pub last_of_list : List ℕ → Option ℕ
last_of_list [] = None
last_of_list (k ∷ []) = Some k
last_of_list (k ∷ j ∷ ks) = last_of_list (j ∷ ks)
