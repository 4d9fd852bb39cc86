-- Literals and signs as they are written, where they end at a blank, at a line feed or with the text.
use Rattle.std.proofs.Common.{◌≡◌, ◌≢◌, ℕ, suc, ◌+◌, ◌-◌, ◌*◌, ◌/◌, ◌%◌, ◌^◌, ◌<◌, ◌≤◌, Bool, true, false, cond, eqb, List, [], ◌∷◌, ◌++◌, length, take, Some, option_map, refl, sym, ap, subst, ◌∙◌, arith, append_assoc, length-append}
use Rattle.std.proofs.lemmas.List.{take_at}
use Rattle.std.proofs.lemmas.List.Folds.{list_all-append}
use Rattle.std.proofs.lemmas.List.Sums.{fold-append}
use Rattle.std.proofs.lemmas.Nat.{div-add-mod'}
use Rattle.std.proofs.lemmas.Bool.Decides.{nat_tests}
use Rattle.std.proofs.lemmas.Fmt.{decimal_by_steps}
use Rattle.std.specs.Fmt.{decimal}
use Rattle.std.specs.List.{list_all}
use Rattle.chill_tree.specs.declared.token.Sign.{Sign}
use Rattle.chill_tree.specs.declared.token.Sign.TheVariants as signs
use Rattle.chill_tree.specs.declared.token.TokenKind.TheVariants as kinds
use Rattle.chill_tree.specs.Spelling.{sign_spelling}
use Rattle.rules_model.specs.TokensShapes.{is_decimal, is_in_line, digit_of, with_digit, number_of, quoted, whole, character, text, sign}
use Rattle.rules_model.specs.TokensReading.{is_digit, more_length, numeral_length, text_length, unquoted, begins_with, quoted_at, whole_at, shape_at}
use Rattle.rules_model.proofs.TokensRuns.{decimal_first, digit_below, text_next, unquoted-quoted}
use Rattle.tree_print.specs.Canonical.{kind_text}
use Rattle.tree_print.proofs.ReadBackNames.{IsApart, BeginsApart, both_true}

-- digits
decimal_is_digit : (b : ℕ) → is_decimal b ≡ true → is_digit 10 b ≡ true
decimal_is_digit b e = grind (arith, nat_tests)

more_digit : (b : ℕ) (bs : List ℕ) → is_digit 10 b ≡ true → more_length 10 (b ∷ bs) ≡ suc (more_length 10 bs)
more_digit b [] e = rw e refl
more_digit b (c ∷ cs) e = rw e refl

more_stops : (left : List ℕ) → BeginsApart left → more_length 10 left ≡ 0
more_stops [] ends = refl
more_stops (b ∷ []) ends = let apart : IsApart b = ends in let digit = apart.digit in rw digit refl
more_stops (b ∷ c ∷ cs) ends = let apart : IsApart b = ends in let digit = apart.digit in let underline = apart.underline in rw (digit, underline) refl

more_exact : (xs left : List ℕ) → list_all is_decimal xs ≡ true → BeginsApart left → more_length 10 (xs ++ left) ≡ length xs
more_exact [] left e ends = more_stops left ends
more_exact (x ∷ xs) left e ends =
    let parts = both_true (is_decimal x) (list_all is_decimal xs) e in
    more_digit x (xs ++ left) (decimal_is_digit x parts.0) ∙ ap suc (more_exact xs left parts.1 ends)

numeral_exact : (x : ℕ) (xs left : List ℕ) → is_digit 10 x ≡ true → list_all is_decimal xs ≡ true → BeginsApart left → numeral_length 10 (x ∷ (xs ++ left)) ≡ suc (length xs)
numeral_exact x xs left first others ends = rw first (ap suc (more_exact xs left others ends))

numeral_shape : (x : ℕ) (xs left : List ℕ) → list_all is_decimal (x ∷ xs) ≡ true → BeginsApart left → shape_at (x ∷ (xs ++ left)) ≡ Some (whole (number_of 10 (x ∷ xs)), suc (length xs))
unfolding shape_at
numeral_shape x xs left e ends =
    let parts = both_true (is_decimal x) (list_all is_decimal xs) e in
    let digit = decimal_is_digit x parts.0 in
    let d = decimal_first x (digit_below 10 x digit) in
    let size = numeral_exact x xs left digit parts.1 ends in
    let front : take (numeral_length 10 (x ∷ (xs ++ left))) (x ∷ (xs ++ left)) ≡ x ∷ xs = ap (λ (n : ℕ). take n (x ∷ (xs ++ left))) size ∙ take_at (x ∷ xs) left (suc (length xs)) refl in
    let first : shape_at (x ∷ (xs ++ left)) ≡ whole_at (x ∷ (xs ++ left)) = rw (d.0, d.1, d.2) refl in
    let found : whole_at (x ∷ (xs ++ left)) ≡ Some (whole (number_of 10 (x ∷ xs)), suc (length xs)) = λ i. Some (whole (number_of 10 (front i)), size i) in
    first ∙ found

-- decimal digits of a number
record IsDecimal (n : ℕ) (ds : List ℕ) : Type 0 where
  digits : list_all is_decimal ds ≡ true
  number : number_of 10 ds ≡ n
  some : 0 < length ds

digit_decimal : (d : ℕ) → d < 10 → is_decimal (48 + d) ≡ true
digit_decimal d h = grind (arith, nat_tests)

digit_value : (d : ℕ) → d < 10 → digit_of (48 + d) ≡ d
digit_value d h = grind (arith, nat_tests)

digit_counted : (m d : ℕ) → d < 10 → with_digit 10 m (48 + d) ≡ m * 10 + d
digit_counted m d h =
    let plain : eqb (48 + d) 95 ≡ false = grind (arith, nat_tests) in rw plain (ap (λ (k : ℕ). m * 10 + k) (digit_value d h))

one_digit : (n : ℕ) → n < 10 → IsDecimal n ((48 + n) ∷ [])
one_digit n h = record {
  digits = let here = digit_decimal n h in rw here refl;
  number = digit_counted 0 n h ∙ omega arith;
  some = omega arith;
}

more_digits : (n : ℕ) (ds : List ℕ) → 10 ≤ n → IsDecimal (n / 10) ds → IsDecimal n (ds ++ ((48 + n % 10) ∷ []))
more_digits n ds h before =
    let low : n % 10 < 10 = omega arith in
    let here = digit_decimal (n % 10) low in
    let digits = before.digits in
    record {
      digits = list_all-append is_decimal ds ((48 + n % 10) ∷ []) ∙ rw (digits, here) refl;
      number = fold-append (with_digit 10) 0 ds ((48 + n % 10) ∷ []) ∙ digit_counted (number_of 10 ds) (n % 10) low ∙ ap (λ (k : ℕ). k * 10 + n % 10) before.number ∙ div-add-mod' n 10;
      some = simp length-append (omega arith);
    }

written : (n : ℕ) (ds left : List ℕ) → IsDecimal n ds → BeginsApart left → shape_at (ds ++ left) ≡ Some (whole n, length ds)
written n [] left h ends = let some : 0 < 0 = h.some in absurd (omega arith)
written n (x ∷ xs) left h ends =
    let number = h.number in
    let same : Some (whole (number_of 10 (x ∷ xs)), suc (length xs)) ≡ Some (whole n, suc (length xs)) = λ i. Some (whole (number i), suc (length xs)) in
    numeral_shape x xs left h.digits ends ∙ same

-- a whole literal as it is written
pub whole_shape : (n : ℕ) (left : List ℕ) → n < 2 ^ 64 → BeginsApart left → shape_at (decimal n ++ left) ≡ Some (whole n, length (decimal n))
whole_shape n left h ends = written n (decimal n) left (decimal_by_steps IsDecimal one_digit more_digits n h) ends

-- a character literal as it is written
plain_shape : (b : ℕ) (left : List ℕ) → eqb b 39 ≡ false → eqb b 10 ≡ false → shape_at (39 ∷ b ∷ 39 ∷ left) ≡ Some (character b, 3)
unfolding shape_at
plain_shape b left plain same_line = rw (plain, same_line) refl

plain_text : (b : ℕ) → eqb b 39 ≡ false → kind_text (kinds.Char b) ≡ 39 ∷ b ∷ 39 ∷ []
plain_text b plain = rw plain refl

pub character_shape : (b : ℕ) (left : List ℕ) → is_in_line b ≡ true → b ≢ 39 → shape_at (kind_text (kinds.Char b) ++ left) ≡ Some (character b, length (kind_text (kinds.Char b)))
character_shape b left in_line other =
    let plain : eqb b 39 ≡ false = grind (arith, nat_tests) in let same_line : eqb b 10 ≡ false = grind (arith, nat_tests) in
    subst (λ (xs : List ℕ). shape_at (xs ++ left) ≡ Some (character b, length xs)) (sym (plain_text b plain)) (plain_shape b left plain same_line)

pub apostrophe_shape : (left : List ℕ) → shape_at (kind_text (kinds.Char 39) ++ left) ≡ Some (character 39, length (kind_text (kinds.Char 39)))
unfolding shape_at
apostrophe_shape left = refl

-- a text literal as it is written
text_exact : (value left : List ℕ) → list_all is_in_line value ≡ true → BeginsApart left → text_length (quoted value ++ 34 ∷ left) ≡ Some (suc (length (quoted value)))
text_exact [] [] e ends = refl
text_exact [] (c ∷ cs) e ends = let apart : IsApart c = ends in let quote = apart.quote in rw quote refl
text_exact (b ∷ bs) left e ends = text_step (eqb b 34) refl (text_exact bs left (both_true (is_in_line b) (list_all is_in_line bs) e).1 ends)
  where
    in_line : eqb b 10 ≡ false
    in_line = grind (arith, nat_tests)

    text_step : (t : Bool) → eqb b 34 ≡ t → text_length (quoted bs ++ 34 ∷ left) ≡ Some (suc (length (quoted bs)))
        → text_length (cond t (34 ∷ 34 ∷ quoted bs) (b ∷ quoted bs) ++ 34 ∷ left) ≡ Some (suc (length (cond t (34 ∷ 34 ∷ quoted bs) (b ∷ quoted bs))))
    text_step true is h = rw h refl
    text_step false is h = text_next b (quoted bs ++ 34 ∷ left) in_line is ∙ ap (option_map suc) h

value_back : (value left : List ℕ) → quoted_at (quoted value ++ 34 ∷ left) (Some (suc (length (quoted value)))) ≡ Some (text value, suc (suc (length (quoted value))))
value_back value left =
    let front : take (suc (length (quoted value)) - 1) (quoted value ++ 34 ∷ left) ≡ quoted value = take_at (quoted value) (34 ∷ left) (suc (length (quoted value)) - 1) (omega arith) in
    let same : unquoted (take (suc (length (quoted value)) - 1) (quoted value ++ 34 ∷ left)) ≡ value = ap unquoted front ∙ unquoted-quoted value in
    λ i. Some (text (same i), suc (suc (length (quoted value))))

quoted_shape : (value left : List ℕ) → list_all is_in_line value ≡ true → BeginsApart left → shape_at (34 ∷ (quoted value ++ 34 ∷ left)) ≡ Some (text value, suc (suc (length (quoted value))))
unfolding shape_at
quoted_shape value left e ends = ap (quoted_at (quoted value ++ 34 ∷ left)) (text_exact value left e ends) ∙ value_back value left

pub text_shape : (value left : List ℕ) → list_all is_in_line value ≡ true → BeginsApart left → shape_at (kind_text (kinds.Text value) ++ left) ≡ Some (text value, length (kind_text (kinds.Text value)))
text_shape value left e ends =
    let size : suc (suc (length (quoted value))) ≡ suc (length (quoted value ++ 34 ∷ [])) = simp length-append (omega arith) in
    let joined : 34 ∷ ((quoted value ++ 34 ∷ []) ++ left) ≡ 34 ∷ (quoted value ++ 34 ∷ left) = ap (λ (xs : List ℕ). 34 ∷ xs) (append_assoc (quoted value) (34 ∷ []) left) in
    let last : Some (text value, suc (suc (length (quoted value)))) ≡ Some (text value, suc (length (quoted value ++ 34 ∷ []))) = λ i. Some (text value, size i) in
    ap shape_at joined ∙ quoted_shape value left e ends ∙ last

-- a sign, where none that is longer begins
no_second : (b : ℕ) (left : List ℕ) → ((c : ℕ) → IsApart c → eqb c b ≡ false) → BeginsApart left → begins_with b left ≡ false
no_second b [] other ends = refl
no_second b (c ∷ cs) other ends = other c ends

pub sign_shape : (s : Sign) (left : List ℕ) → BeginsApart left → shape_at (sign_spelling s ++ left) ≡ Some (sign s, length (sign_spelling s))
unfolding shape_at
sign_shape s left ends = by_sign s (no_second 61 left (λ c apart. apart.equal) ends) (no_second 45 left (λ c apart. apart.minus) ends) (no_second 42 left (λ c apart. apart.times) ends)
  where
    by_sign : (r : Sign) → begins_with 61 left ≡ false → begins_with 45 left ≡ false → begins_with 42 left ≡ false → shape_at (sign_spelling r ++ left) ≡ Some (sign r, length (sign_spelling r))
    by_sign signs.Open equal minus times = refl
    by_sign signs.Close equal minus times = refl
    by_sign signs.OpenBracket equal minus times = refl
    by_sign signs.CloseBracket equal minus times = refl
    by_sign signs.Comma equal minus times = refl
    by_sign signs.Semicolon equal minus times = refl
    by_sign signs.Colon equal minus times = rw equal refl
    by_sign signs.Becomes equal minus times = refl
    by_sign signs.Dot equal minus times = refl
    by_sign signs.Plus equal minus times = refl
    by_sign signs.Minus equal minus times = rw minus refl
    by_sign signs.Times equal minus times = refl
    by_sign signs.Divide equal minus times = rw (times, equal) refl
    by_sign signs.Equal equal minus times = refl
    by_sign signs.NotEqual equal minus times = refl
    by_sign signs.Less equal minus times = rw equal refl
    by_sign signs.LessOrEqual equal minus times = refl
    by_sign signs.Greater equal minus times = rw equal refl
    by_sign signs.GreaterOrEqual equal minus times = refl
