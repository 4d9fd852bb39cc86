-- What is computed at the front of a text is its longest shape.
use Rattle.std.proofs.Common.{◌≡◌, ◌≢◌, ℕ, zero, suc, ◌-◌, ◌<◌, ◌≤◌, Bool, true, false, ◌&&◌, cond, eqb, ltb, List, [], ◌∷◌, ◌++◌, length, take, drop, Option, Some, None, lit≤, refl, sym, ap, subst, ◌∙◌, inl, inr, arith, one-add, append_assoc, length-append}
use Rattle.std.proofs.lemmas.List.Sums.{prefix_len-le-length}
use Rattle.std.proofs.lemmas.List.{take_all, take_at, take-append-drop, length-take-le, append-nil}
use Rattle.std.proofs.lemmas.Bool.Decides.{nat_tests}
use Rattle.std.specs.List.{list_all, prefix_len}
use Rattle.chill_tree.specs.declared.token.Sign.{Sign}
use Rattle.chill_tree.specs.declared.token.Sign.TheVariants as signs
use Rattle.chill_tree.specs.Spelling.{sign_spelling}
use Rattle.rules_model.specs.TokensShapes.{is_separator, is_letter, is_decimal, is_name_byte, is_in_line, digit_of, base_of, IsNumeral, number_of, quoted, Shape, comment, unclosed, name, whole, character, text, sign, Spells, a_separator, a_line, a_comment, an_unclosed, a_name, a_whole, a_based, a_character, an_apostrophe, a_text, a_sign, IsLongest}
use Rattle.rules_model.specs.TokensReading.{Found, numeral_length, closing_length, text_length, unquoted, name_at, whole_at, digits_at, based_at, begins_with, character_at, quoted_at, comment_at, one_or_two, sign_at, shape_at}
use Rattle.rules_model.proofs.TokensRuns.{split, Covers, covers, letter_first, decimal_first, base_first, prefix_len-run, list_all-prefix, name_covers, is_digit-true, numeral_head, numeral_covers, numeral_sound, numeral_length-le, closing_covers, Beyond, closing_beyond, ClosingAt, closing_sound, AtLeast, unquoted-quoted, text_covers, TextAt, text_sound}

-- a name, or a literal of a base that is longer
based_covers : (o : Option ℕ) (b : ℕ) (bs left : List ℕ) → list_all is_name_byte (b ∷ bs) ≡ true → Covers (name (b ∷ bs)) (b ∷ bs) (based_at o (b ∷ (bs ++ left)))
based_covers None b bs left e = name_covers (b ∷ bs) left e
based_covers (Some base) b [] [] e = name_covers (b ∷ []) [] e
based_covers (Some base) b [] (c ∷ cs) e =
    split (Covers (name (b ∷ [])) (b ∷ [])) (eqb c 39 && ltb 0 (numeral_length base cs)) (digits_at base cs) (name_at (b ∷ c ∷ cs))
    (λ _. inl (omega arith)) (λ _. name_covers (b ∷ []) (c ∷ cs) e)
based_covers (Some base) b (c ∷ bs) left e =
    let other : eqb c 39 ≡ false = grind (arith, nat_tests) in
    rw other (name_covers (b ∷ c ∷ bs) left e)

unclosed_covers : (bs left : List ℕ) (o : Option ℕ) → Beyond (length bs) o → Covers unclosed (47 ∷ 42 ∷ bs) (comment_at (bs ++ left) o)
unclosed_covers bs [] None h = inr (refl, ap (λ (xs : List ℕ). suc (suc (length xs))) (append-nil bs))
unclosed_covers bs (c ∷ cs) None h = inl (simp length-append (omega arith))
unclosed_covers bs left (Some n) h = let i : length bs < n = h in inl (omega arith)

quoted_covers : (value left : List ℕ) (o : Option ℕ) → AtLeast (suc (length (quoted value))) o → Covers (text value) (34 ∷ (quoted value ++ 34 ∷ [])) (quoted_at (quoted value ++ 34 ∷ left) o)
quoted_covers value left None h = absurd h
quoted_covers value left (Some n) h =
    let i : suc (length (quoted value)) ≤ n = h in
    let found = covers (λ xs. text (unquoted xs)) (34 ∷ (quoted value ++ 34 ∷ [])) (quoted value) (34 ∷ left) 2 (n - 1) (suc n) (simp length-append (omega arith)) (omega arith) (omega arith) in
    subst (λ (v : List ℕ). Covers (text v) (34 ∷ (quoted value ++ 34 ∷ [])) (quoted_at (quoted value ++ 34 ∷ left) (Some n))) (unquoted-quoted value) found

-- a sign of one byte, or a longer one
one_covers : (one two : Sign) (second : ℕ) (front left : List ℕ) → length front ≡ 1 → Covers (sign one) front (one_or_two one two second left)
one_covers one two second front left h =
    split (Covers (sign one) front) (begins_with second left) (Some (sign two, 2)) (Some (sign one, 1)) (λ _. inl (omega arith)) (λ _. inr (refl, omega arith))

comment_longer : (s : Shape) (front bytes : List ℕ) (o : Option ℕ) → length front ≡ 1 → Covers s front (comment_at bytes o)
comment_longer s front bytes None h = inl (omega arith)
comment_longer s front bytes (Some n) h = inl (omega arith)

sign_covers : (s : Sign) (left : List ℕ) → Covers (sign s) (sign_spelling s) (shape_at (sign_spelling s ++ left))
unfolding shape_at
sign_covers signs.Open left = inr (refl, refl)
sign_covers signs.Close left = inr (refl, refl)
sign_covers signs.OpenBracket left = inr (refl, refl)
sign_covers signs.CloseBracket left = inr (refl, refl)
sign_covers signs.Comma left = inr (refl, refl)
sign_covers signs.Semicolon left = inr (refl, refl)
sign_covers signs.Colon left = one_covers signs.Colon signs.Becomes 61 (58 ∷ []) left refl
sign_covers signs.Becomes left = inr (refl, refl)
sign_covers signs.Dot left = inr (refl, refl)
sign_covers signs.Plus left = inr (refl, refl)
sign_covers signs.Minus left =
    split (Covers (sign signs.Minus) (45 ∷ [])) (begins_with 45 left) (Some (comment, suc (suc (prefix_len is_in_line (drop 1 left))))) (Some (sign signs.Minus, 1)) (λ _. inl (omega arith)) (λ _. inr (refl, refl))
sign_covers signs.Times left = inr (refl, refl)
sign_covers signs.Divide left =
    split (Covers (sign signs.Divide) (47 ∷ [])) (begins_with 42 left) (comment_at (drop 1 left) (closing_length (drop 1 left))) (one_or_two signs.Divide signs.NotEqual 61 left)
    (λ _. comment_longer (sign signs.Divide) (47 ∷ []) (drop 1 left) (closing_length (drop 1 left)) refl) (λ _. one_covers signs.Divide signs.NotEqual 61 (47 ∷ []) left refl)
sign_covers signs.Equal left = inr (refl, refl)
sign_covers signs.NotEqual left = inr (refl, refl)
sign_covers signs.Less left = one_covers signs.Less signs.LessOrEqual 61 (60 ∷ []) left refl
sign_covers signs.LessOrEqual left = inr (refl, refl)
sign_covers signs.Greater left = one_covers signs.Greater signs.GreaterOrEqual 61 (62 ∷ []) left refl
sign_covers signs.GreaterOrEqual left = inr (refl, refl)

whole_covers : (bs left : List ℕ) → IsNumeral 10 bs → Covers (whole (number_of 10 bs)) bs (shape_at (bs ++ left))
unfolding shape_at
whole_covers bs left numeral =
    let h = numeral_head 10 bs numeral in
    let d = decimal_first h.0 h.3 in
    let first : shape_at (h.0 ∷ (h.1 ++ left)) ≡ whole_at (h.0 ∷ (h.1 ++ left)) = rw (d.0, d.1, d.2) refl in
    let found : shape_at (bs ++ left) ≡ whole_at (bs ++ left) = subst (λ (xs : List ℕ). shape_at (xs ++ left) ≡ whole_at (xs ++ left)) (sym h.2) first in
    rw found (covers (λ xs. whole (number_of 10 xs)) bs bs left 0 (numeral_length 10 (bs ++ left)) (numeral_length 10 (bs ++ left)) (omega arith) (omega arith) (numeral_covers 10 bs left (lit≤ tt) numeral))

based_literal : (base b : ℕ) (bs : List ℕ) → 0 < numeral_length base bs → based_at (Some base) (b ∷ 39 ∷ bs) ≡ digits_at base bs
based_literal base b bs h = let e : ltb 0 (numeral_length base bs) ≡ true = grind (arith, nat_tests) in rw e refl

digits_covers : (base b : ℕ) (bs left : List ℕ) → base_of b ≡ Some base → IsNumeral base bs → Covers (whole (number_of base bs)) (b ∷ 39 ∷ bs) (shape_at (b ∷ 39 ∷ (bs ++ left)))
unfolding shape_at
digits_covers base b bs left is numeral =
    let first = base_first b base is in
    let h = numeral_covers base bs left first.2 numeral in
    let head = numeral_head base bs numeral in
    let some : 0 < numeral_length base (bs ++ left) = omega (arith, ap length head.2) in
    rw (first.0, first.1, is, based_literal base b (bs ++ left) some)
    (covers (λ xs. whole (number_of base xs)) (b ∷ 39 ∷ bs) bs left 2 (numeral_length base (bs ++ left)) (suc (suc (numeral_length base (bs ++ left)))) (omega arith) (omega arith) h)

-- each shape at the front is covered by what is found there
pub complete : (s : Shape) (front left : List ℕ) → Spells s front → Covers s front (shape_at (front ++ left))
unfolding shape_at
complete s front left (a_separator e) = rw e (inr (refl, refl))
complete s front left (a_line {bs = bs} e) =
    covers (λ _. comment) (45 ∷ 45 ∷ bs) bs left 2 (prefix_len is_in_line (bs ++ left)) (suc (suc (prefix_len is_in_line (bs ++ left)))) (omega arith) (omega arith) (prefix_len-run is_in_line bs left e)
complete s front left (a_comment bs lacks) =
    rw (append_assoc bs (42 ∷ 47 ∷ []) left, closing_covers bs left lacks) (inr (refl, simp length-append (omega arith)))
complete s front left (an_unclosed {bs = bs} lacks) = unclosed_covers bs left (closing_length (bs ++ left)) (closing_beyond bs left lacks)
complete s front left (a_name {b = b} {bs = bs} letter others) =
    rw (letter_first b letter, letter) (based_covers (base_of b) b bs left (rw (letter) others))
complete s front left (a_whole {bs = bs} numeral) = whole_covers bs left numeral
complete s front left (a_based {b = b} {base = base} {bs = bs} is numeral) = digits_covers base b bs left is numeral
complete s front left (a_character {b = b} in_line other) =
    let plain : eqb b 39 ≡ false = grind (arith, nat_tests) in let same_line : eqb b 10 ≡ false = grind (arith, nat_tests) in
    rw (plain, same_line) (inr (refl, refl))
complete s front left an_apostrophe = inr (refl, refl)
complete s front left (a_text {value = value} e) =
    rw (append_assoc (quoted value) (34 ∷ []) left) (quoted_covers value left (text_length (quoted value ++ 34 ∷ left)) (text_covers value left e))
complete s front left (a_sign {s = s'}) = sign_covers s' left

-- what is found is a shape of the first bytes
abbrev SoundAt : List ℕ → Found → Type 0
SoundAt bytes None = Unit {0}
SoundAt bytes (Some f) = Spells f.0 (take f.1 bytes) × (f.1 ≤ length bytes)

name_sound : (b : ℕ) (bs : List ℕ) → is_letter b ≡ true → SoundAt (b ∷ bs) (name_at (b ∷ bs))
name_sound b bs letter =
    let h = prefix_len-le-length is_name_byte bs in
    rw (letter, one-add) (a_name letter (list_all-prefix is_name_byte bs), omega arith)

based_sound : (o : Option ℕ) (b : ℕ) (bs : List ℕ) → base_of b ≡ o → is_letter b ≡ true → SoundAt (b ∷ bs) (based_at o (b ∷ bs))
based_sound None b bs is letter = name_sound b bs letter
based_sound (Some base) b [] is letter = name_sound b [] letter
based_sound (Some base) b (c ∷ bs) is letter =
    split (SoundAt (b ∷ c ∷ bs)) (eqb c 39 && ltb 0 (numeral_length base bs)) (digits_at base bs) (name_at (b ∷ c ∷ bs))
    (λ both. let mark : c ≡ 39 = grind (arith, nat_tests) in let some : 0 < numeral_length base bs = grind (arith, nat_tests) in
    let h = numeral_length-le base bs in
    (rw mark (a_based is (numeral_sound base bs some)), omega arith))
    (λ _. name_sound b (c ∷ bs) letter)

whole_sound : (b : ℕ) (bs : List ℕ) → is_decimal b ≡ true → SoundAt (b ∷ bs) (whole_at (b ∷ bs))
whole_sound b bs decimal =
    let d : digit_of b < 10 = grind (arith, nat_tests) in
    let e = is_digit-true 10 b d in
    let some : 0 < numeral_length 10 (b ∷ bs) = rw e (omega arith) in
    (a_whole (numeral_sound 10 (b ∷ bs) some), numeral_length-le 10 (b ∷ bs))

character_sound : (bs : List ℕ) → SoundAt (39 ∷ bs) (character_at bs)
character_sound [] = tt
character_sound (b ∷ []) = tt
character_sound (b ∷ c ∷ bs) = at_mark (eqb c 39) refl (eqb b 39) refl (eqb b 10) refl bs
  where
    four : (xs : List ℕ) → b ≡ 39 → c ≡ 39 → SoundAt (39 ∷ b ∷ c ∷ xs) (cond (begins_with 39 xs) (Some (character 39, 4)) None)
    four [] is_b is_c = tt
    four (d ∷ ds) is_b is_c = split (SoundAt (39 ∷ b ∷ c ∷ d ∷ ds)) (eqb d 39) (Some (character 39, 4)) None
        (λ e. let is_d : d ≡ 39 = grind (arith, nat_tests) in (rw (is_b, is_c, is_d) an_apostrophe, omega arith)) (λ _. tt)

    at_mark : (t : Bool) → eqb c 39 ≡ t → (u : Bool) → eqb b 39 ≡ u → (v : Bool) → eqb b 10 ≡ v → (xs : List ℕ)
        → SoundAt (39 ∷ b ∷ c ∷ xs) (cond t (cond u (cond (begins_with 39 xs) (Some (character 39, 4)) None) (cond v None (Some (character b, 3)))) None)
    at_mark false is_c u is_b v in_line xs = tt
    at_mark true is_c true is_b v in_line xs = four xs (grind (arith, nat_tests)) (grind (arith, nat_tests))
    at_mark true is_c false is_b true in_line xs = tt
    at_mark true is_c false is_b false in_line xs =
        let mark : c ≡ 39 = grind (arith, nat_tests) in let other : b ≢ 39 = grind (arith, nat_tests) in let passes : is_in_line b ≡ true = grind (arith, nat_tests) in
        (rw mark (a_character passes other), omega arith)

quoted_sound : (bs : List ℕ) (o : Option ℕ) → TextAt bs o → SoundAt (34 ∷ bs) (quoted_at bs o)
quoted_sound bs None h = tt
quoted_sound bs (Some n) h =
    let value = h.0 in let left = h.1 in
    let front : take n bs ≡ quoted value ++ 34 ∷ [] =
    rw (h.2, sym (append_assoc (quoted value) (34 ∷ []) left)) (take_at (quoted value ++ 34 ∷ []) left n (simp length-append (omega arith))) in
    let inside : take (n - 1) bs ≡ quoted value = rw h.2 (take_at (quoted value) (34 ∷ left) (n - 1) (omega arith)) in
    let value_is : unquoted (take (n - 1) bs) ≡ value = ap unquoted inside ∙ unquoted-quoted value in
    (rw (front, value_is) (a_text h.4), omega (arith, ap length h.2, length-append (quoted value) (34 ∷ left)))

comment_sound : (bs : List ℕ) (o : Option ℕ) → ClosingAt bs o → SoundAt (47 ∷ 42 ∷ bs) (comment_at bs o)
comment_sound bs None h = (rw (take_all (length bs) bs (omega arith)) (an_unclosed h), omega arith)
comment_sound bs (Some n) h =
    let inside = h.0 in let left = h.1 in
    let front : take n bs ≡ inside ++ 42 ∷ 47 ∷ [] =
    rw (h.2, sym (append_assoc inside (42 ∷ 47 ∷ []) left)) (take_at (inside ++ 42 ∷ 47 ∷ []) left n (simp length-append (omega arith))) in
    (rw front (a_comment inside h.4), omega (arith, ap length h.2, length-append inside (42 ∷ 47 ∷ left)))

line_sound : (bs : List ℕ) → SoundAt (45 ∷ 45 ∷ bs) (Some (comment, suc (suc (prefix_len is_in_line bs))))
line_sound bs = let h = prefix_len-le-length is_in_line bs in (a_line (list_all-prefix is_in_line bs), omega arith)

one_sound : (s : Sign) (b k : ℕ) (bs : List ℕ) → sign_spelling s ≡ k ∷ [] → eqb b k ≡ true → SoundAt (b ∷ bs) (Some (sign s, 1))
one_sound s b k bs spelled e = let same : b ≡ k = grind (arith, nat_tests) in (rw (same, sym spelled) a_sign, omega arith)

two_sound : (one two : Sign) (b k second : ℕ) (bs : List ℕ) → sign_spelling one ≡ k ∷ [] → sign_spelling two ≡ k ∷ second ∷ [] → eqb b k ≡ true → SoundAt (b ∷ bs) (one_or_two one two second bs)
two_sound one two b k second [] spelled other e = one_sound one b k [] spelled e
two_sound one two b k second (c ∷ cs) spelled other e =
    split (SoundAt (b ∷ c ∷ cs)) (eqb c second) (Some (sign two, 2)) (Some (sign one, 1))
    (λ is. let same : b ≡ k = grind (arith, nat_tests) in let same_second : c ≡ second = grind (arith, nat_tests) in (rw (same, same_second, sym other) a_sign, omega arith))
    (λ _. one_sound one b k (c ∷ cs) spelled e)

sign_sound : (b : ℕ) (bs : List ℕ) → SoundAt (b ∷ bs) (sign_at b bs)
sign_sound b bs =
    split (SoundAt (b ∷ bs)) (eqb b 40) _ _ (one_sound signs.Open b 40 bs refl) (λ _.
    split (SoundAt (b ∷ bs)) (eqb b 41) _ _ (one_sound signs.Close b 41 bs refl) (λ _.
    split (SoundAt (b ∷ bs)) (eqb b 91) _ _ (one_sound signs.OpenBracket b 91 bs refl) (λ _.
    split (SoundAt (b ∷ bs)) (eqb b 93) _ _ (one_sound signs.CloseBracket b 93 bs refl) (λ _.
    split (SoundAt (b ∷ bs)) (eqb b 44) _ _ (one_sound signs.Comma b 44 bs refl) (λ _.
    split (SoundAt (b ∷ bs)) (eqb b 59) _ _ (one_sound signs.Semicolon b 59 bs refl) (λ _.
    split (SoundAt (b ∷ bs)) (eqb b 58) _ _ (two_sound signs.Colon signs.Becomes b 58 61 bs refl refl) (λ _.
    split (SoundAt (b ∷ bs)) (eqb b 46) _ _ (one_sound signs.Dot b 46 bs refl) (λ _.
    split (SoundAt (b ∷ bs)) (eqb b 43) _ _ (one_sound signs.Plus b 43 bs refl) (λ _.
    split (SoundAt (b ∷ bs)) (eqb b 45) _ _ (one_sound signs.Minus b 45 bs refl) (λ _.
    split (SoundAt (b ∷ bs)) (eqb b 42) _ _ (one_sound signs.Times b 42 bs refl) (λ _.
    split (SoundAt (b ∷ bs)) (eqb b 47) _ _ (two_sound signs.Divide signs.NotEqual b 47 61 bs refl refl) (λ _.
    split (SoundAt (b ∷ bs)) (eqb b 61) _ _ (one_sound signs.Equal b 61 bs refl) (λ _.
    split (SoundAt (b ∷ bs)) (eqb b 60) _ _ (two_sound signs.Less signs.LessOrEqual b 60 61 bs refl refl) (λ _.
    split (SoundAt (b ∷ bs)) (eqb b 62) _ _ (two_sound signs.Greater signs.GreaterOrEqual b 62 61 bs refl refl) (λ _. tt)))))))))))))))

-- behind a byte that another may follow
second_is : (k : ℕ) (bs : List ℕ) → begins_with k bs ≡ true → bs ≡ k ∷ drop 1 bs
second_is k [] e = absurd cc
second_is k (c ∷ cs) e = let same : c ≡ k = grind (arith, nat_tests) in rw same refl

line_behind : (b : ℕ) (bs : List ℕ) → b ≡ 45 → bs ≡ 45 ∷ drop 1 bs → SoundAt (b ∷ bs) (Some (comment, suc (suc (prefix_len is_in_line (drop 1 bs)))))
line_behind b bs same second =
    subst (λ (xs : List ℕ). SoundAt xs (Some (comment, suc (suc (prefix_len is_in_line (drop 1 bs)))))) (sym (ap (λ (x : ℕ). x ∷ bs) same ∙ ap (λ (xs : List ℕ). 45 ∷ xs) second)) (line_sound (drop 1 bs))

comment_behind : (b : ℕ) (bs : List ℕ) → b ≡ 47 → bs ≡ 42 ∷ drop 1 bs → SoundAt (b ∷ bs) (comment_at (drop 1 bs) (closing_length (drop 1 bs)))
comment_behind b bs same second =
    subst (λ (xs : List ℕ). SoundAt xs (comment_at (drop 1 bs) (closing_length (drop 1 bs)))) (sym (ap (λ (x : ℕ). x ∷ bs) same ∙ ap (λ (xs : List ℕ). 47 ∷ xs) second))
    (comment_sound (drop 1 bs) (closing_length (drop 1 bs)) (closing_sound (drop 1 bs)))

pub sound : (bytes : List ℕ) → SoundAt bytes (shape_at bytes)
unfolding shape_at
sound [] = tt
sound (b ∷ bs) =
    split (SoundAt (b ∷ bs)) (is_separator b) _ _ (λ e. (a_separator e, omega arith)) (λ _.
    split (SoundAt (b ∷ bs)) (is_letter b) _ _ (λ e. based_sound (base_of b) b bs refl e) (λ _.
    split (SoundAt (b ∷ bs)) (is_decimal b) _ _ (λ e. whole_sound b bs e) (λ _.
    split (SoundAt (b ∷ bs)) (eqb b 39) _ _ (λ e. let same : b ≡ 39 = grind (arith, nat_tests) in rw same (character_sound bs)) (λ _.
    split (SoundAt (b ∷ bs)) (eqb b 34) _ _ (λ e. let same : b ≡ 34 = grind (arith, nat_tests) in rw same (quoted_sound bs (text_length bs) (text_sound bs))) (λ _.
    split (SoundAt (b ∷ bs)) (eqb b 45 && begins_with 45 bs) _ _ (λ e. line_behind b bs (grind (arith, nat_tests)) (second_is 45 bs (grind (arith, nat_tests)))) (λ _.
    split (SoundAt (b ∷ bs)) (eqb b 47 && begins_with 42 bs) _ _ (λ e. comment_behind b bs (grind (arith, nat_tests)) (second_is 42 bs (grind (arith, nat_tests)))) (λ _.
    sign_sound b bs)))))))

-- what is found is the longest shape
pub longest_at : (bytes : List ℕ) (s : Shape) (n : ℕ) → shape_at bytes ≡ Some (s, n) → IsLongest s (take n bytes) (drop n bytes)
longest_at bytes s n e =
    let found : SoundAt bytes (Some (s, n)) = subst (SoundAt bytes) e (sound bytes) in
    record {
      spells = found.0;
      longest = λ other longer less spells is.
          let same : longer ++ less ≡ bytes = is ∙ take-append-drop n bytes in
          let covered : Covers other longer (Some (s, n)) = subst (Covers other longer) (ap shape_at same ∙ e) (complete other longer less spells) in
          let m = length-take-le n bytes found.1 in
          elim covered [ inl shorter ↦ omega arith | inr exact ↦ omega (arith, exact.1) ];
    }

found_is : (s : Shape) (front rest : List ℕ) → IsLongest s front rest → (o : Found) → Covers s front o → SoundAt (front ++ rest) o → o ≡ Some (s, length front)
found_is s front rest longest None covered found = absurd covered
found_is s front rest longest (Some f) (inr exact) found = ap Some (λ i. (exact.0 i, exact.1 i))
found_is s front rest longest (Some f) (inl shorter) found =
    let h = longest.longest f.0 (take f.1 (front ++ rest)) (drop f.1 (front ++ rest)) found.0 (take-append-drop f.1 (front ++ rest)) in
    absurd (omega (arith, length-take-le f.1 (front ++ rest) found.1))

-- the longest shape is found
pub longest_found : (s : Shape) (front rest : List ℕ) → IsLongest s front rest → shape_at (front ++ rest) ≡ Some (s, length front)
longest_found s front rest longest = found_is s front rest longest (shape_at (front ++ rest)) (complete s front rest longest.spells) (sound (front ++ rest))

no_empty : (s : Shape) → Spells s [] → ⊥
unfolding shape_at
no_empty s spells = complete s [] [] spells

-- a shape has a byte
spells_some : (s : Shape) (n : ℕ) (bytes : List ℕ) → Spells s (take n bytes) → 0 < n
spells_some s zero bytes spells = absurd (no_empty s spells)
spells_some s (suc n) bytes spells = omega arith

-- a shape that was found is within the bytes
pub found_within : (bytes : List ℕ) (s : Shape) (n : ℕ) → shape_at bytes ≡ Some (s, n) → (n ≤ length bytes) × (0 < n)
found_within bytes s n e =
    let found : SoundAt bytes (Some (s, n)) = subst (SoundAt bytes) e (sound bytes) in
    (found.1, spells_some s n bytes found.0)
