-- What GET_INT reads.
use Rattle.std.specs.Prelude.{ℕ, ◌+◌, ◌-◌, ◌*◌, ◌==◌, nat_le, Bool, not, ◌&&◌, ◌||◌, List, [], ◌∷◌, ℤ, pos, neg_ℤ, int_le, drop, if◌then◌else◌, Some, None}
use Rattle.std.specs.List.{list_all, take_while, prefix_len}
use Rattle.std.specs.Option.{option_map}
use Rattle.std.specs.declared.option.Option.{Option}
use Rattle.kernel_base.specs.declared.answer.Answer.{Answer}
use Rattle.kernel_base.specs.declared.answer.Answer.TheVariants.{Value, Fail}
use Rattle.kernel_base.specs.declared.ends.Exc.TheVariants.{Rangefail, Empty}

-- a blank, a tab, a line feed or a carriage return
abbrev pub is_separator : ℕ → Bool
is_separator byte = byte == 32 || byte == 9 || byte == 10 || byte == 13

abbrev pub is_digit : ℕ → Bool
is_digit byte = nat_le 48 byte && nat_le byte 57

-- the value of decimal digits behind a number that was read
abbrev pub value_from : ℕ → List ℕ → ℕ
value_from read [] = read
value_from read (digit ∷ digits) = value_from (10 * read + (digit - 48)) digits

-- the number that one or more digits tell
abbrev pub digits_value : List ℕ → Option ℕ
digits_value [] = None
digits_value (digit ∷ digits) = if list_all is_digit (digit ∷ digits) then Some (value_from 0 (digit ∷ digits)) else None

-- the number of an optional sign and one or more digits
abbrev pub signed_value : List ℕ → Option ℤ
signed_value [] = None
signed_value (byte ∷ bytes) =
    if byte == 43 then option_map pos (digits_value bytes) else
    if byte == 45 then option_map (λ n. neg_ℤ (pos n)) (digits_value bytes) else
    option_map pos (digits_value (byte ∷ bytes))

-- a value of INT, or RANGEFAIL
abbrev pub answer_for : Option ℤ → Answer
answer_for None = Fail Rangefail
answer_for (Some number) =
    if int_le (neg_ℤ (pos 2147483648)) number && int_le number (pos 2147483647) then Value (number ∷ []) else Fail Rangefail

-- the input behind the separators that come first
abbrev pub behind_separators : List ℕ → List ℕ
behind_separators input = drop (prefix_len is_separator input) input

abbrev pub get_answer_at : List ℕ → Answer
get_answer_at [] = Fail Empty
get_answer_at (byte ∷ bytes) = answer_for (signed_value (take_while (λ b. not (is_separator b)) (byte ∷ bytes)))

-- EMPTY where only separators are left, else the number that the bytes up to the next one are, or RANGEFAIL
abbrev pub get_answer : List ℕ → Answer
get_answer input = get_answer_at (behind_separators input)

-- the input that is left: what was looked at is taken
abbrev pub input_behind : List ℕ → List ℕ
input_behind input = let rest = behind_separators input in drop (prefix_len (λ b. not (is_separator b)) rest) rest
