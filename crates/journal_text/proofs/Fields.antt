-- What is written of a field is read again, whatever stands behind it.
use Rattle.std.proofs.Common.{◌≡◌, ℕ, zero, suc, ◌+◌, ◌-◌, ◌*◌, ◌/◌, ◌%◌, ◌^◌, ◌<◌, ◌≤◌, Bool, true, false, not, eqb, List, [], ◌∷◌, ◌++◌, length, Option, Some, None, refl, sym, ap, ◌∙◌, arith, ℤ, pos, negsuc, neg_ℤ}
use Rattle.std.specs.Prelude.{codes, IfSome, slice_index}
use Rattle.std.specs.Str.{bytes_eq}
use Rattle.std.specs.Fmt.{decimal}
use Rattle.std.specs.List.{prefix_len, list_all, flat_map, AllByRecursion}
use Rattle.std.proofs.lemmas.Bool.{le-leb, ne_eqb, and_parts}
use Rattle.std.proofs.lemmas.Int.{ints}
use Rattle.std.proofs.lemmas.List.{take_at, drop_at, length-append}
use Rattle.std.proofs.lemmas.Fmt.{decimal_by_steps}
use Rattle.hex.specs.Hex.{IsBytes, decode_of, lower_digits, encode_with, encode_lower}
use Rattle.hex.proofs.HexLemmas.{decode_of-encode_lower}
use Rattle.kernel_base.specs.declared.ends.Exc.{Exc}
use Rattle.kernel_base.specs.declared.ends.Exc.TheVariants.{Overflow, Rangefail, Empty, Assertfail, Delayfail, Spacefail, Extinct, User}
use Rattle.world_model.specs.Input.{is_separator}
use Rattle.world_model.specs.Ranges.{IsNumber, IsScalar, IsExcInRange}
use Rattle.code_types.specs.Exceptions as numbers
use Rattle.journal_text.specs.Journal.{number_text, scalar_text, optional_text, flag_text, hex_digit, byte_text, bytes_text, exception_text}
use Rattle.journal_text.specs.Reading.{Front, ◌>>=◌, word_and_rest, word_at, next_value, digits_from, value_of, number_of, negative_of, scalar_of, field_at, number_at, scalar_at, flag_of, flag_at, optional_of, optional_at, exception_with, exception_of, exception_at, ok_of, hex_of, bytes_of, bytes_at}

-- ---- words

abbrev pub in_word : ℕ → Bool
in_word b = not (is_separator b)

-- no separator stands in it
abbrev pub IsWord : List ℕ → Type 0
IsWord [] = Unit {0}
IsWord (b ∷ bs) = (in_word b ≡ true) × IsWord bs

-- a word that is spelled out
pub spelled : (w : List ℕ) → list_all (λ b. not (is_separator b)) w ≡ true → IsWord w
spelled [] h = tt
spelled (b ∷ bs) h =
    let parts = and_parts (not (is_separator b)) (list_all (λ c. not (is_separator c)) bs) h in
    (parts.0, spelled bs parts.1)

-- a word ends before these bytes
pub record Stops (rest : List ℕ) : Type 0 where
  pub none : prefix_len (λ b. not (is_separator b)) rest ≡ 0

-- bytes that a text may have
pub record IsSmall (bytes : List ℕ) : Type 0 where
  pub few : length bytes < 2 ^ 32

-- this text is read as this value
pub record Reads {A : Type 0} (read : List ℕ → Front A) (text : List ℕ) (x : A) : Type 0 where
  pub again : (rest : List ℕ) → Stops rest → IsSmall (text ++ rest) → read (text ++ rest) ≡ Some (x, rest)

-- a word ends before this text
pub record Begins (text : List ℕ) : Type 0 where
  pub stops : (rest : List ℕ) → Stops rest → Stops (text ++ rest)

pub begins_blank : (tail : List ℕ) → Begins (32 ∷ tail)
begins_blank tail = record { stops = λ rest s. record { none = refl } }

pub begins_none : Begins []
begins_none = record { stops = λ rest s. s }

pub small_behind : (a b : List ℕ) → IsSmall (a ++ b) → IsSmall b
small_behind a b h = record { few = omega (arith, length-append a b, h.few) }

word_len : (w rest : List ℕ) → IsWord w → Stops rest → prefix_len (λ b. not (is_separator b)) (w ++ rest) ≡ length w
word_len [] rest h s = s.none
word_len (b ∷ w) rest h s = rw h.0 (omega (arith, word_len w rest h.1 s))

pub word_split : (w rest : List ℕ) → IsWord w → Stops rest → word_and_rest (w ++ rest) ≡ (w, rest)
word_split w rest h s =
    rw (word_len w rest h s, take_at w rest (length w) refl, drop_at w rest (length w) refl) refl

pub word_again : (w rest : List ℕ) → IsWord w → Stops rest → word_at (32 ∷ (w ++ rest)) ≡ Some (w, rest)
unfolding word_at
word_again w rest h s = ap (λ (p : List ℕ × List ℕ). Some p) (word_split w rest h s)

pub field_reads : {A : Type 0} (read : List ℕ → Option A) (w : List ℕ) (x : A) → IsWord w → read w ≡ Some x → Reads (field_at read) (32 ∷ w) x
field_reads read w x h e = record { again = λ rest s small. rw (word_again w rest h s, e) refl }

-- ---- numbers

IsWord-append : (a b : List ℕ) → IsWord a → IsWord b → IsWord (a ++ b)
IsWord-append [] b h k = k
IsWord-append (c ∷ a) b h k = (h.0, IsWord-append a b h.1 k)

not_equal : (d b : ℕ) → b < 48 → eqb (48 + d) b ≡ false
not_equal d b small = ne_eqb (48 + d) b (λ e. omega (arith, e))

digit_in_word : (d : ℕ) → in_word (48 + d) ≡ true
digit_in_word d = rw (not_equal d 32 (omega arith), not_equal d 9 (omega arith), not_equal d 10 (omega arith), not_equal d 13 (omega arith)) refl

-- it begins with a digit
abbrev StartsDigit : List ℕ → Type 0
StartsDigit [] = ⊥
StartsDigit (b ∷ bs) = 48 ≤ b

starts-append : (a b : List ℕ) → StartsDigit a → StartsDigit (a ++ b)
starts-append [] b h = absurd h
starts-append (c ∷ a) b h = h

decimal_word : (n : ℕ) → n < 2 ^ 64 → IsWord (decimal n)
decimal_word = decimal_by_steps (λ n ds. IsWord ds)
    (λ n small. (digit_in_word n, tt))
    (λ n ds big h. IsWord-append ds ((48 + n % 10) ∷ []) h (digit_in_word (n % 10), tt))

decimal_starts : (n : ℕ) → n < 2 ^ 64 → StartsDigit (decimal n)
decimal_starts = decimal_by_steps (λ n ds. StartsDigit ds)
    (λ n small. omega arith)
    (λ n ds big h. starts-append ds ((48 + n % 10) ∷ []) h)

next_again : (most read d : ℕ) → d < 10 → 10 * read + d ≤ most → next_value most read (48 + d) ≡ Some (10 * read + d)
next_again most read d small le =
    let e : (48 + d) - 48 ≡ d = omega arith in
    rw (le-leb 48 (48 + d) (omega arith), le-leb (48 + d) 57 (omega arith), e, le-leb (10 * read + d) most le) refl

bind_same : (o : Option ℕ) (f g : ℕ → Option ℕ) (h : ℕ → Option ℕ) → ((m : ℕ) → f m ≡ (g m >>= h)) → (o >>= f) ≡ ((o >>= g) >>= h)
bind_same None f g h e = refl
bind_same (Some m) f g h e = e m

bind_some : (o : Option ℕ) → (o >>= λ m. Some m) ≡ o
bind_some None = refl
bind_some (Some m) = refl

digits-append : (most read : ℕ) (ds : List ℕ) (d : ℕ) → digits_from most read (ds ++ d ∷ []) ≡ (digits_from most read ds >>= λ m. next_value most m d)
digits-append most read [] d = bind_some (next_value most read d)
digits-append most read (b ∷ ds) d =
    bind_same (next_value most read b) (λ m. digits_from most m (ds ++ d ∷ [])) (λ m. digits_from most m ds) (λ m. next_value most m d) (λ m. digits-append most m ds d)

abbrev IsValueOf : ℕ → List ℕ → Type 0
IsValueOf n ds = (most : ℕ) → n ≤ most → digits_from most 0 ds ≡ Some n

one_digit : (n : ℕ) → n < 10 → IsValueOf n ((48 + n) ∷ [])
one_digit n small most le =
    let is : 10 * 0 + n ≡ n = omega arith in
    bind_some (next_value most 0 (48 + n)) ∙ next_again most 0 n small (omega arith) ∙ ap (λ (m : ℕ). Some m) is

more_digits : (n : ℕ) (ds : List ℕ) → 10 ≤ n → IsValueOf (n / 10) ds → IsValueOf n (ds ++ ((48 + n % 10) ∷ []))
more_digits n ds big h most le =
    let is : 10 * (n / 10) + n % 10 ≡ n = omega arith in
    digits-append most 0 ds (48 + n % 10)
    ∙ ap (λ (o : Option ℕ). o >>= λ m. next_value most m (48 + n % 10)) (h most (omega arith))
    ∙ next_again most (n / 10) (n % 10) (omega arith) (omega arith)
    ∙ ap (λ (m : ℕ). Some m) is

value_again : (most n : ℕ) → n < 2 ^ 64 → n ≤ most → value_of most (decimal n) ≡ Some n
unfolding value_of
value_again most n small le = decimal_by_steps IsValueOf one_digit more_digits n small most le

number_value : (n : ℕ) → n < 2 ^ 32 → number_of (decimal n) ≡ Some n
unfolding number_of
number_value n small = rw (value_again 4294967295 n (omega arith) (omega arith), le-leb n 4294967295 (omega arith)) refl

pub number_reads : (n : ℕ) → n < 2 ^ 32 → Reads number_at (number_text n) n
unfolding number_at
number_reads n small = field_reads number_of (decimal n) n (decimal_word n (omega arith)) (number_value n small)

-- ---- scalars

scalar_of-positive : (w : List ℕ) (n : ℕ) → StartsDigit w → n ≤ 9223372036854775807 → value_of 9223372036854775807 w ≡ Some n → scalar_of w ≡ Some (pos n)
unfolding scalar_of
scalar_of-positive [] n h le e = absurd h
scalar_of-positive (b ∷ bs) n h le e =
    rw (ne_eqb b 45 (λ q. omega (arith, q, h)), e, le-leb n 9223372036854775807 le) refl

negative_again : (m : ℕ) → 1 ≤ m → m ≤ 9223372036854775808 → negative_of m ≡ Some (neg_ℤ (pos m))
negative_again m low high = rw (le-leb 1 m low, le-leb m 9223372036854775808 high) refl

scalar_of-negative : (n : ℕ) → suc n ≤ 9223372036854775808 → scalar_of (45 ∷ decimal (suc n)) ≡ Some (negsuc n)
unfolding scalar_of
scalar_of-negative n le =
    ap (λ (o : Option ℕ). o >>= negative_of) (value_again 9223372036854775808 (suc n) (omega arith) le) ∙ negative_again (suc n) (omega arith) le

pub scalar_reads : (z : ℤ) → IsScalar z → Reads scalar_at (scalar_text z) z
unfolding scalar_at
scalar_reads (pos n) fits =
    let high : n ≤ 9223372036854775807 = omega (arith, ints, fits.1) in
    field_reads scalar_of (decimal n) (pos n) (decimal_word n (omega arith)) (scalar_of-positive (decimal n) n (decimal_starts n (omega arith)) high (value_again 9223372036854775807 n (omega arith) high))
scalar_reads (negsuc n) fits =
    let high : suc n ≤ 9223372036854775808 = omega (arith, ints, fits.0) in
    field_reads scalar_of (45 ∷ decimal (suc n)) (negsuc n) (refl, decimal_word (suc n) (omega arith)) (scalar_of-negative n high)

-- ---- flags, optional numbers, exceptions

pub flag_reads : (flag : Bool) → Reads flag_at (flag_text flag) flag
unfolding flag_at flag_of
flag_reads false = field_reads flag_of (48 ∷ []) false (refl, tt) refl
flag_reads true = field_reads flag_of (49 ∷ []) true (refl, tt) refl

no_dash : (w : List ℕ) → StartsDigit w → bytes_eq w (codes "-") ≡ false
no_dash [] h = absurd h
no_dash (b ∷ bs) h = rw (ne_eqb b 45 (λ q. omega (arith, q, h))) refl

pub optional_reads : (number : Option ℕ) → IfSome number IsNumber → Reads optional_at (optional_text number) number
unfolding optional_at optional_of
optional_reads None fits = field_reads optional_of (45 ∷ []) None (refl, tt) refl
optional_reads (Some n) fits =
    field_reads optional_of (decimal n) (Some n) (decimal_word n (omega (arith, fits))) (rw (no_dash (decimal n) (decimal_starts n (omega (arith, fits))), number_value n fits) refl)

user_again : (k : ℕ) → numbers.exception_of (7 + k) ≡ User k
user_again k =
    let e : 7 + k ≡ suc (suc (suc (suc (suc (suc (suc k)))))) = omega arith in
    ap numbers.exception_of e

exception_again : (x : Exc) → IsExcInRange x → exception_with (numbers.exception_number x) ≡ Some x
exception_again Overflow fits = refl
exception_again Rangefail fits = refl
exception_again Empty fits = refl
exception_again Assertfail fits = refl
exception_again Delayfail fits = refl
exception_again Spacefail fits = refl
exception_again Extinct fits = refl
exception_again (User k) fits = rw (le-leb (7 + k) 4294967302 (omega (arith, fits))) (ap (λ (x : Exc). Some x) (user_again k))

exception_small : (x : Exc) → IsExcInRange x → numbers.exception_number x ≤ 4294967302
exception_small Overflow fits = omega arith
exception_small Rangefail fits = omega arith
exception_small Empty fits = omega arith
exception_small Assertfail fits = omega arith
exception_small Delayfail fits = omega arith
exception_small Spacefail fits = omega arith
exception_small Extinct fits = omega arith
exception_small (User k) fits = omega (arith, fits)

exception_value : (x : Exc) → IsExcInRange x → exception_of (decimal (numbers.exception_number x)) ≡ Some x
unfolding exception_of
exception_value x fits =
    rw (value_again 4294967302 (numbers.exception_number x) (omega (arith, exception_small x fits)) (exception_small x fits)) (exception_again x fits)

pub exception_reads : (x : Exc) → IsExcInRange x → Reads exception_at (exception_text x) x
unfolding exception_at
exception_reads x fits =
    field_reads exception_of (decimal (numbers.exception_number x)) x (decimal_word (numbers.exception_number x) (omega (arith, exception_small x fits))) (exception_value x fits)

-- ---- bytes

hex_again : (d : ℕ) → d < 16 → (slice_index lower_digits d ≡ hex_digit d) × (in_word (hex_digit d) ≡ true) × (eqb (hex_digit d) 45 ≡ false)
hex_again zero h = (refl, refl, refl)
hex_again (suc zero) h = (refl, refl, refl)
hex_again (suc (suc zero)) h = (refl, refl, refl)
hex_again (suc (suc (suc zero))) h = (refl, refl, refl)
hex_again (suc (suc (suc (suc zero)))) h = (refl, refl, refl)
hex_again (suc (suc (suc (suc (suc zero))))) h = (refl, refl, refl)
hex_again (suc (suc (suc (suc (suc (suc zero)))))) h = (refl, refl, refl)
hex_again (suc (suc (suc (suc (suc (suc (suc zero))))))) h = (refl, refl, refl)
hex_again (suc (suc (suc (suc (suc (suc (suc (suc zero)))))))) h = (refl, refl, refl)
hex_again (suc (suc (suc (suc (suc (suc (suc (suc (suc zero))))))))) h = (refl, refl, refl)
hex_again (suc (suc (suc (suc (suc (suc (suc (suc (suc (suc zero)))))))))) h = (refl, refl, refl)
hex_again (suc (suc (suc (suc (suc (suc (suc (suc (suc (suc (suc zero))))))))))) h = (refl, refl, refl)
hex_again (suc (suc (suc (suc (suc (suc (suc (suc (suc (suc (suc (suc zero)))))))))))) h = (refl, refl, refl)
hex_again (suc (suc (suc (suc (suc (suc (suc (suc (suc (suc (suc (suc (suc zero))))))))))))) h = (refl, refl, refl)
hex_again (suc (suc (suc (suc (suc (suc (suc (suc (suc (suc (suc (suc (suc (suc zero)))))))))))))) h = (refl, refl, refl)
hex_again (suc (suc (suc (suc (suc (suc (suc (suc (suc (suc (suc (suc (suc (suc (suc zero))))))))))))))) h = (refl, refl, refl)
hex_again (suc (suc (suc (suc (suc (suc (suc (suc (suc (suc (suc (suc (suc (suc (suc (suc d)))))))))))))))) h = absurd (omega arith)

abbrev AreBytes : List ℕ → Type 0
AreBytes = AllByRecursion (λ byte. byte < 256)

two_more : (a b c d : ℕ) (xs ys : List ℕ) → a ≡ b → c ≡ d → xs ≡ ys → a ∷ c ∷ xs ≡ b ∷ d ∷ ys
two_more a b c d xs ys p q r = cc

digits_encoded : (bs : List ℕ) → AreBytes bs → encode_lower bs ≡ flat_map byte_text bs
unfolding encode_with
digits_encoded [] fits = refl
digits_encoded (b ∷ bs) fits =
    two_more (slice_index lower_digits (b / 16)) (hex_digit (b / 16)) (slice_index lower_digits (b % 16)) (hex_digit (b % 16)) (encode_lower bs) (flat_map byte_text bs)
    ((hex_again (b / 16) (omega (arith, fits.0))).0) ((hex_again (b % 16) (omega arith)).0) (digits_encoded bs fits.1)

bytes_at_each : (bs : List ℕ) → AreBytes bs → IsBytes bs
bytes_at_each [] fits i = omega arith
bytes_at_each (b ∷ bs) fits zero = fits.0
bytes_at_each (b ∷ bs) fits (suc i) = bytes_at_each bs fits.1 i

digits_again : (bs : List ℕ) → AreBytes bs → hex_of (flat_map byte_text bs) ≡ Some bs
unfolding hex_of
digits_again bs fits = ap (λ (word : List ℕ). ok_of (decode_of word)) (sym (digits_encoded bs fits)) ∙ ap ok_of (decode_of-encode_lower bs (bytes_at_each bs fits))

digits_word : (bs : List ℕ) → AreBytes bs → IsWord (flat_map byte_text bs)
digits_word [] fits = tt
digits_word (b ∷ bs) fits =
    ((hex_again (b / 16) (omega (arith, fits.0))).1, ((hex_again (b % 16) (omega arith)).1, digits_word bs fits.1))

bytes_value : (b : ℕ) (bs : List ℕ) → AreBytes (b ∷ bs) → bytes_of (flat_map byte_text (b ∷ bs)) ≡ Some (b ∷ bs)
bytes_value b bs fits = rw ((hex_again (b / 16) (omega (arith, fits.0))).2) (digits_again (b ∷ bs) fits)

pub bytes_reads : (bs : List ℕ) → AllByRecursion (λ byte. byte < 256) bs → Reads bytes_at (bytes_text bs) bs
unfolding bytes_at
bytes_reads [] fits = field_reads bytes_of (45 ∷ []) [] (refl, tt) refl
bytes_reads (b ∷ bs) fits = field_reads bytes_of (flat_map byte_text (b ∷ bs)) (b ∷ bs) (digits_word (b ∷ bs) fits) (bytes_value b bs fits)
