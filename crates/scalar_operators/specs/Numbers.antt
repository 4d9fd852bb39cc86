-- Numbers: those that INT and the fields of a request hold, truth values, arithmetic and comparison.
use Rattle.std.specs.Prelude.{ℕ, zero, suc, ◌+◌, ◌-◌, ◌^◌, Bool, true, false, ◌&&◌, ◌||◌, List, [], ◌∷◌, ℤ, pos, negsuc, neg_ℤ, int_le, int_lt, int_div, int_rem, nat_abs, decimal, if◌then◌else◌, Some, None}
use Rattle.std.specs.Int.{int_rem_euclid}
use Rattle.std.specs.declared.option.Option.{Option}

-- from the first bound to the second
abbrev pub is_between : ℤ → ℤ → ℤ → Bool
is_between low high z = int_le low z && int_le z high

-- the least and the greatest value of INT
abbrev pub least_int : ℤ
least_int = neg_ℤ (pos 2147483648)

abbrev pub greatest_int : ℤ
greatest_int = pos 2147483647

-- a value of INT
abbrev pub is_int : ℤ → Bool
is_int = is_between least_int greatest_int

-- a number of the stack: 64 bits with sign
abbrev pub is_scalar : ℤ → Bool
is_scalar = is_between (neg_ℤ (pos (2 ^ 63))) (pos (2 ^ 63 - 1))

-- a number of a thing, an instance or a place: 32 bits without sign
abbrev pub is_number : ℤ → Bool
is_number = is_between (pos 0) (pos (2 ^ 32 - 1))

-- a byte
abbrev pub is_byte : ℤ → Bool
is_byte = is_between (pos 0) (pos 255)

-- a number, where the first fact holds
abbrev pub where_true : {A : Type 0} → Bool → A → Option A
where_true b x = if b then Some x else None

-- 1 for true and 0 for false
abbrev pub truth_number : Bool → ℤ
truth_number true = pos 1
truth_number false = pos 0

-- each number but 0 counts as true
abbrev pub truth_of : ℤ → Bool
truth_of (pos zero) = false
truth_of (pos (suc n)) = true
truth_of (negsuc n) = true

-- a result in INT, or OVERFLOW
abbrev pub int_result : ℤ → Option ℤ
int_result z = where_true (is_int z) z

-- the quotient, which truncates towards zero; none by zero
abbrev pub quotient : ℤ → ℤ → Option ℤ
quotient x y = if truth_of y then int_result (int_div x y) else None

-- what the quotient leaves, with the sign of the dividend; none by zero
abbrev pub remainder : ℤ → ℤ → Option ℤ
remainder x y = if truth_of y then int_result (int_rem x y) else None

-- from 0 to the divisor less 1; none by a number below 1
abbrev pub modulus : ℤ → ℤ → Option ℤ
modulus x y = if int_le (pos 1) y then int_result (int_rem_euclid x y) else None

-- the magnitude
abbrev pub magnitude : ℤ → ℤ
magnitude z = pos (nat_abs z)

-- two lists of numbers are equal
abbrev pub same_numbers : List ℤ → List ℤ → Bool
same_numbers [] [] = true
same_numbers [] (y ∷ ys) = false
same_numbers (x ∷ xs) [] = false
same_numbers (x ∷ xs) (y ∷ ys) = (int_le x y && int_le y x) && same_numbers xs ys

-- the first list comes before the second: at the first numbers that differ it has the less
abbrev pub comes_before : List ℤ → List ℤ → Bool
comes_before [] [] = false
comes_before [] (y ∷ ys) = true
comes_before (x ∷ xs) [] = false
comes_before (x ∷ xs) (y ∷ ys) = int_lt x y || (int_le x y && comes_before xs ys)

-- a number in decimal digits, with `-` before a negative one
abbrev pub decimal_text : ℤ → List ℕ
decimal_text (pos n) = decimal n
decimal_text (negsuc n) = 45 ∷ decimal (suc n)
