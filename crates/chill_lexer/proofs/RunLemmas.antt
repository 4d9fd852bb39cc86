-- The lexer's loops, byte by byte.
use Rattle.std.proofs.Common.{◌≡◌, ◌≢◌, ◌⊎◌, inl, inr, ℕ, zero, suc, ◌+◌, ◌*◌, ◌^◌, ◌<◌, ◌≤◌, Bool, true, false, ◌&&◌, cond, eqb, leb, ltb, List, [], ◌∷◌, ◌++◌, length, take, drop, get_or, Option, Some, None, option_map, unwrap_or, fold, SomeIff, refl, sym, ap, subst, ◌∙◌, arith, append_assoc, length-append}
use Rattle.std.specs.List.{prefix_len}
use Rattle.std.proofs.lemmas.List.{drop_more, take_more, drop_all, length-drop, length-take-le, get_or-drop, append-nil}
use Rattle.std.proofs.lemmas.Bool.Decides.{nat_tests}
use Rattle.std.proofs.lemmas.List.Sums.{fold_more, prefix_len-le-length}
use Rattle.chill_base.specs.declared.pos.Pos.{Pos}
use Rattle.chill_tree.specs.declared.token.TokenKind.{TokenKind}
use Rattle.chill_tree.specs.Spelling.{word_of}
use Rattle.rules_model.specs.TokensShapes.{digit_of, closes, with_digit, number_of, quoted, is_name_byte, name, named, token}
use Rattle.rules_model.specs.TokensCut.{behind, behind_all}
use Rattle.rules_model.specs.TokensReading.{Found, limited, is_digit, more_length, numeral_length, closing_length, text_length, unquoted, name_at, digits_at, based_at}
use Rattle.rules_model.proofs.TokensRuns.{text_next, underline_apart, more_length-le, TextAt, text_sound}
use Rattle.chill_lexer.specs.Runs.{is_apart, begins_numeral}

-- what is left begins with the byte there
pub drop_byte : (text : List ℕ) (i b : ℕ) → i < length text → get_or text i 0 ≡ b → drop i text ≡ b ∷ drop (i + 1) text
drop_byte text i b h e = drop_more text i 0 h ∙ ap (λ (x : ℕ). x ∷ drop (i + 1) text) e

more_digit : (base b : ℕ) (bs : List ℕ) → is_digit base b ≡ true → more_length base (b ∷ bs) ≡ suc (more_length base bs)
more_digit base b [] e = rw e refl
more_digit base b (c ∷ cs) e = rw e refl

more_apart : (base : ℕ) (bs : List ℕ) → base ≤ 16 → is_apart base bs ≡ true → more_length base bs ≡ suc (more_length base (drop 1 bs))
more_apart base [] small e = absurd cc
more_apart base (b ∷ []) small e = absurd cc
more_apart base (b ∷ c ∷ cs) small e =
    let mark : b ≡ 95 = grind (arith, nat_tests) in let next : is_digit base c ≡ true = grind (arith, nat_tests) in
    rw (mark, underline_apart base small, next, more_digit base c cs next) refl

more_none : (base b : ℕ) (bs : List ℕ) → is_digit base b ≡ false → is_apart base (b ∷ bs) ≡ false → more_length base (b ∷ bs) ≡ 0
more_none base b [] e apart = rw e refl
more_none base b (c ∷ cs) e apart = rw (e, apart) refl

-- one digit more of a numeral
pub numeral_digit : (base : ℕ) (text : List ℕ) (i : ℕ) → i < length text → digit_of (get_or text i 0) < base
    → i + more_length base (drop i text) ≡ more_length base text → (i + 1) + more_length base (drop (i + 1) text) ≡ more_length base text
numeral_digit base text i h digit so_far =
    let is : is_digit base (get_or text i 0) ≡ true = grind (arith, nat_tests) in
    let step = ap (more_length base) (drop_byte text i (get_or text i 0) h refl) ∙ more_digit base (get_or text i 0) (drop (i + 1) text) is in
    omega arith

-- a `_` between two digits
pub numeral_apart : (base : ℕ) (text : List ℕ) (i : ℕ) → base ≤ 16 → i < length text → is_apart base (drop i text) ≡ true
    → i + more_length base (drop i text) ≡ more_length base text → (i + 1) + more_length base (drop (i + 1) text) ≡ more_length base text
numeral_apart base text i small h apart so_far =
    let rest : drop 1 (drop i text) ≡ drop (i + 1) text = ap (drop 1) (drop_byte text i (get_or text i 0) h refl) in
    let step = more_apart base (drop i text) small apart ∙ ap (λ (xs : List ℕ). suc (more_length base xs)) rest in
    omega arith

is_apart-mark : (base : ℕ) (bs : List ℕ) → is_apart base bs ≡ true → get_or bs 0 0 ≡ 95
is_apart-mark base [] e = absurd cc
is_apart-mark base (b ∷ []) e = absurd cc
is_apart-mark base (b ∷ c ∷ cs) e = grind (arith, nat_tests)

pub apart_byte : (base : ℕ) (text : List ℕ) (i : ℕ) → i < length text → is_apart base (drop i text) ≡ true → get_or text i 0 ≡ 95
apart_byte base text i h apart = ap (λ (xs : List ℕ). get_or xs 0 0) (sym (drop_byte text i (get_or text i 0) h refl)) ∙ is_apart-mark base (drop i text) apart

-- the numeral ends
pub numeral_ends : (base : ℕ) (text : List ℕ) (i : ℕ) → i < length text → base ≤ digit_of (get_or text i 0) → is_apart base (drop i text) ≡ false
    → i + more_length base (drop i text) ≡ more_length base text → i ≡ more_length base text
numeral_ends base text i h no_digit apart so_far =
    let is : is_digit base (get_or text i 0) ≡ false = grind (arith, nat_tests) in
    let rest = drop_byte text i (get_or text i 0) h refl in
    let step = ap (more_length base) rest ∙ more_none base (get_or text i 0) (drop (i + 1) text) is (sym (ap (is_apart base) rest) ∙ apart) in
    omega arith

no_mark : (base b : ℕ) → base ≤ 16 → digit_of b < base → eqb b 95 ≡ false
no_mark base b small digit = grind (arith, nat_tests)

-- the number of a numeral with one digit more
pub number_digit : (base first : ℕ) (text : List ℕ) (i : ℕ) → base ≤ 16 → i < length text → digit_of (get_or text i 0) < base
    → fold (with_digit base) first (take (i + 1) text) ≡ fold (with_digit base) first (take i text) * base + digit_of (get_or text i 0)
number_digit base first text i small h digit =
    fold_more (with_digit base) first text i 0 h ∙ counted (get_or text i 0) (fold (with_digit base) first (take i text)) digit
  where
    counted : (b n : ℕ) → digit_of b < base → with_digit base n b ≡ n * base + digit_of b
    counted b n digit = rw (no_mark base b small digit) refl

-- and with a `_` more
pub number_apart : (base first : ℕ) (text : List ℕ) (i : ℕ) → i < length text → get_or text i 0 ≡ 95
    → fold (with_digit base) first (take (i + 1) text) ≡ fold (with_digit base) first (take i text)
number_apart base first text i h mark =
    fold_more (with_digit base) first text i 0 h ∙ ap (with_digit base (fold (with_digit base) first (take i text))) mark

-- the numeral ends with the text
pub numeral_at_end : (base : ℕ) (text : List ℕ) (i : ℕ) → length text ≤ i → i + more_length base (drop i text) ≡ more_length base text → i ≡ more_length base text
numeral_at_end base text i h so_far = let none = ap (more_length base) (drop_all i text h) in omega arith

-- what was found before, or what is found behind i bytes
abbrev pub found_behind : Option ℕ → ℕ → Option ℕ → Option ℕ
found_behind found i None = found
found_behind found i (Some n) = Some (i + n)

text_line : (bs : List ℕ) → text_length (10 ∷ bs) ≡ None
text_line [] = refl
text_line (c ∷ cs) = refl

text_closed : (bs : List ℕ) → (length bs ≡ 0) ⊎ (get_or bs 0 0 ≢ 34) → text_length (34 ∷ bs) ≡ Some 1
text_closed [] h = refl
text_closed (c ∷ cs) (inl none) = absurd (omega arith)
text_closed (c ∷ cs) (inr other) = let e : eqb c 34 ≡ false = grind (arith, nat_tests) in rw e refl

-- the line ends
pub text_at_line : (text : List ℕ) (i : ℕ) (found : Option ℕ) → i < length text → get_or text i 0 ≡ 10
    → text_length text ≡ found_behind found i (text_length (drop i text)) → found ≡ text_length text
text_at_line text i found h byte so_far =
    sym (so_far ∙ ap (λ (xs : List ℕ). found_behind found i (text_length xs)) (drop_byte text i 10 h byte) ∙ ap (found_behind found i) (text_line (drop (i + 1) text)))

-- a `"` with none behind it
pub text_at_end : (text : List ℕ) (i : ℕ) (found : Option ℕ) → i < length text → get_or text i 0 ≡ 34 → (i + 1 ≡ length text) ⊎ (get_or text (i + 1) 0 ≢ 34)
    → text_length text ≡ found_behind found i (text_length (drop i text)) → Some (i + 1) ≡ text_length text
text_at_end text i found h byte last so_far =
    let behind : (length (drop (i + 1) text) ≡ 0) ⊎ (get_or (drop (i + 1) text) 0 0 ≢ 34) =
    elim last [ inl e ↦ inl (simp length-drop (omega arith)) | inr other ↦ inr (λ e. other (sym (get_or-drop (i + 1) text 0 0 ∙ ap (λ (k : ℕ). get_or text k 0) (omega arith)) ∙ e)) ] in
    sym (so_far ∙ ap (λ (xs : List ℕ). found_behind found i (text_length xs)) (drop_byte text i 34 h byte) ∙ ap (found_behind found i) (text_closed (drop (i + 1) text) behind))

-- a `"` and another
pub text_at_two : (text : List ℕ) (i : ℕ) (found : Option ℕ) → i + 1 < length text → get_or text i 0 ≡ 34 → get_or text (i + 1) 0 ≡ 34
    → text_length text ≡ found_behind found i (text_length (drop i text)) → text_length text ≡ found_behind (Some (i + 1)) (i + 2) (text_length (drop (i + 2) text))
text_at_two text i found h byte next so_far =
    let rest : drop i text ≡ 34 ∷ 34 ∷ drop (i + 2) text =
    drop_byte text i 34 (omega arith) byte ∙ ap (λ (xs : List ℕ). 34 ∷ xs) (drop_byte text (i + 1) 34 h next ∙ ap (λ (k : ℕ). 34 ∷ drop k text) (omega arith)) in
    so_far ∙ ap (λ (xs : List ℕ). found_behind found i (text_length xs)) rest ∙ two_behind (text_length (drop (i + 2) text))
  where
    two_behind : (o : Option ℕ) → found_behind found i (Some (unwrap_or (option_map (λ n. suc (suc n)) o) 1)) ≡ found_behind (Some (i + 1)) (i + 2) o
    two_behind None = refl
    two_behind (Some n) = ap Some (omega arith)

-- any other byte
pub text_at_byte : (text : List ℕ) (i : ℕ) (found : Option ℕ) → i < length text → get_or text i 0 ≢ 10 → get_or text i 0 ≢ 34
    → text_length text ≡ found_behind found i (text_length (drop i text)) → text_length text ≡ found_behind found (i + 1) (text_length (drop (i + 1) text))
text_at_byte text i found h in_line plain so_far =
    let same_line : eqb (get_or text i 0) 10 ≡ false = grind (arith, nat_tests) in let no_quote : eqb (get_or text i 0) 34 ≡ false = grind (arith, nat_tests) in
    so_far ∙ ap (λ (xs : List ℕ). found_behind found i (text_length xs)) (drop_byte text i (get_or text i 0) h refl)
    ∙ ap (found_behind found i) (text_next (get_or text i 0) (drop (i + 1) text) same_line no_quote) ∙ one_behind (text_length (drop (i + 1) text))
  where
    one_behind : (o : Option ℕ) → found_behind found i (option_map suc o) ≡ found_behind found (i + 1) o
    one_behind None = refl
    one_behind (Some n) = ap Some (omega arith)

-- the text ends
pub text_at_all : (text : List ℕ) (i : ℕ) (found : Option ℕ) → length text ≤ i
    → text_length text ≡ found_behind found i (text_length (drop i text)) → found ≡ text_length text
text_at_all text i found h so_far = sym (so_far ∙ ap (λ (xs : List ℕ). found_behind found i (text_length xs)) (drop_all i text h))

-- what is found behind i bytes
abbrev pub closing_behind : ℕ → Option ℕ → Option ℕ
closing_behind i None = None
closing_behind i (Some n) = Some (i + n)

-- a `*/` stands here
pub closing_here : (text : List ℕ) (i : ℕ) → i + 1 < length text → get_or text i 0 ≡ 42 → get_or text (i + 1) 0 ≡ 47
    → closing_length text ≡ closing_behind i (closing_length (drop i text)) → Some (i + 2) ≡ closing_length text
closing_here text i h star slash so_far =
    let rest : drop i text ≡ 42 ∷ 47 ∷ drop ((i + 1) + 1) text =
    drop_byte text i 42 (omega arith) star ∙ ap (λ (xs : List ℕ). 42 ∷ xs) (drop_byte text (i + 1) 47 h slash) in
    sym (so_far ∙ ap (λ (xs : List ℕ). closing_behind i (closing_length xs)) rest)

-- none stands here
pub closing_on : (text : List ℕ) (i : ℕ) → i + 1 < length text → (get_or text i 0 ≢ 42) ⊎ (get_or text (i + 1) 0 ≢ 47)
    → closing_length text ≡ closing_behind i (closing_length (drop i text)) → closing_length text ≡ closing_behind (i + 1) (closing_length (drop (i + 1) text))
closing_on text i h other so_far =
    let second = drop_byte text (i + 1) (get_or text (i + 1) 0) h refl in
    let rest : drop i text ≡ get_or text i 0 ∷ drop (i + 1) text = drop_byte text i (get_or text i 0) (omega arith) refl in
    let none : closes (get_or text i 0 ∷ drop (i + 1) text) ≡ false =
    ap (λ (xs : List ℕ). closes (get_or text i 0 ∷ xs)) second ∙ no_closing (get_or text i 0) (get_or text (i + 1) 0) (drop ((i + 1) + 1) text) other in
    so_far ∙ ap (λ (xs : List ℕ). closing_behind i (closing_length xs)) rest
    ∙ ap (λ (t : Bool). closing_behind i (cond t (Some 2) (option_map suc (closing_length (drop (i + 1) text))))) none
    ∙ one_behind (closing_length (drop (i + 1) text))
  where
    no_closing : (a b : ℕ) (bs : List ℕ) → (a ≢ 42) ⊎ (b ≢ 47) → closes (a ∷ b ∷ bs) ≡ false
    no_closing a b bs (inl o) = grind (arith, nat_tests)
    no_closing a b bs (inr o) = grind (arith, nat_tests)

    one_behind : (o : Option ℕ) → closing_behind i (option_map suc o) ≡ closing_behind (i + 1) o
    one_behind None = refl
    one_behind (Some n) = ap Some (omega arith)

-- none stands in the text
pub closing_none : (text : List ℕ) (i : ℕ) → length text ≤ i + 1 → closing_length text ≡ closing_behind i (closing_length (drop i text)) → None ≡ closing_length text
closing_none text i h so_far = sym (so_far ∙ ap (closing_behind i) (no_two (drop i text) (simp length-drop (omega arith))))
  where
    no_two : (xs : List ℕ) → length xs ≤ 1 → closing_length xs ≡ None
    no_two [] short = refl
    no_two (b ∷ []) short = refl
    no_two (b ∷ c ∷ cs) short = absurd (omega arith)

-- the place behind some bytes and one more
behind_all-push : (at : Pos) (xs : List ℕ) (b : ℕ) → behind_all at (xs ++ b ∷ []) ≡ behind (behind_all at xs) b
behind_all-push at [] b = refl
behind_all-push at (x ∷ xs) b = behind_all-push (behind at x) xs b

pub behind_all-more : (at : Pos) (text : List ℕ) (i : ℕ) → i < length text → behind_all at (take (i + 1) text) ≡ behind (behind_all at (take i text)) (get_or text i 0)
behind_all-more at text i h = ap (behind_all at) (take_more text i 0 h) ∙ behind_all-push at (take i text) (get_or text i 0)

pub behind-within : (at : Pos) (b : ℕ) → ((behind at b).line ≤ at.line + 1) × ((behind at b).column ≤ at.column + 1)
behind-within at b = within (eqb b 10)
  where
    within : (t : Bool) → let p : Pos = cond t (record { line = at.line + 1; column = 1 }) (record { line = at.line; column = at.column + 1 }) in (p.line ≤ at.line + 1) × (p.column ≤ at.column + 1)
    within true = (omega arith, omega arith)
    within false = (omega arith, omega arith)

pub found_start : (o : Option ℕ) → o ≡ found_behind None 0 o
found_start None = refl
found_start (Some n) = ap Some (omega arith)

pub closing_start : (o : Option ℕ) → o ≡ closing_behind 0 o
closing_start None = refl
closing_start (Some n) = ap Some (omega arith)

-- the place behind a `*/`
pub behind_closing : (start at : Pos) (text : List ℕ) (i : ℕ) → i + 1 < length text → get_or text i 0 ≡ 42 → get_or text (i + 1) 0 ≡ 47
    → at ≡ behind_all start (take i text) → behind (behind at 42) 47 ≡ behind_all start (take (i + 2) text)
behind_closing start at text i h star slash place =
    let first : behind_all start (take (i + 1) text) ≡ behind at 42 =
    behind_all-more start text i (omega arith) ∙ (λ j. behind (sym place j) (star j)) in
    let second : behind_all start (take ((i + 1) + 1) text) ≡ behind (behind at 42) 47 =
    behind_all-more start text (i + 1) h ∙ (λ j. behind (first j) (slash j)) in
    sym second ∙ ap (λ (k : ℕ). behind_all start (take k text)) (omega arith)

-- what is left of a text's value, where the byte before was the first `"` of two, and where it wasn't
abbrev pub unquoted_behind : Bool → List ℕ → List ℕ
unquoted_behind true bs = unquoted (drop 1 bs)
unquoted_behind false bs = unquoted bs

pub unquoted_byte : (b : ℕ) (bs : List ℕ) → unquoted (b ∷ bs) ≡ b ∷ unquoted_behind (eqb b 34) bs
unquoted_byte b [] = by_test (eqb b 34)
  where
    by_test : (t : Bool) → b ∷ [] ≡ b ∷ unquoted_behind t []
    by_test true = refl
    by_test false = refl
unquoted_byte b (c ∷ cs) = by_test (eqb b 34) refl
  where
    by_test : (t : Bool) → eqb b 34 ≡ t → cond t (34 ∷ unquoted cs) (b ∷ unquoted (c ∷ cs)) ≡ b ∷ unquoted_behind t (c ∷ cs)
    by_test true is = let same : b ≡ 34 = grind (arith, nat_tests) in ap (λ (x : ℕ). x ∷ unquoted cs) (sym same)
    by_test false is = refl

-- a numeral is its first digit and what goes on behind it
pub numeral_parts : (base : ℕ) (text : List ℕ) → base ≤ 16 → begins_numeral base text ≡ true
    → (numeral_length base text ≡ suc (more_length base (drop 1 text)))
    × (number_of base (take (numeral_length base text) text) ≡ fold (with_digit base) (digit_of (get_or text 0 0)) (take (more_length base (drop 1 text)) (drop 1 text)))
numeral_parts base [] small begins = absurd cc
numeral_parts base (b ∷ bs) small begins =
    let digit : digit_of b < base = grind (arith, nat_tests) in
    let other : eqb b 95 ≡ false = no_mark base b small digit in
    let is : is_digit base b ≡ true = begins in
    rw is (refl, ap (λ (n : ℕ). fold (with_digit base) n (take (more_length base bs) bs)) (rw other (omega arith)))

-- the number of a numeral
abbrev pub IsNumber : Option (ℕ × ℕ) → ℕ → List ℕ → Type 0
IsNumber found base text = SomeIff found (number_of base (take (numeral_length base text) text) < 2 ^ 64) (number_of base (take (numeral_length base text) text), numeral_length base text)

pub numeral_found : (base first count : ℕ) (text rest : List ℕ) (value : Option ℕ) (n : ℕ) → base ≤ 16 → begins_numeral base text ≡ true → rest ≡ drop 1 text → first ≡ digit_of (get_or text 0 0)
    → count ≡ more_length base rest → SomeIff value (fold (with_digit base) first (take (more_length base rest) rest) < 2 ^ 64) (fold (with_digit base) first (take (more_length base rest) rest))
    → value ≡ Some n → IsNumber (Some (n, count + 1)) base text
numeral_found base first count text rest value n small begins is_rest is_first is_count number is =
    let parts = numeral_parts base text small begins in
    let known : SomeIff (Some n) (fold (with_digit base) first (take (more_length base rest) rest) < 2 ^ 64) (fold (with_digit base) first (take (more_length base rest) rest)) =
    subst (λ (o : Option ℕ). SomeIff o (fold (with_digit base) first (take (more_length base rest) rest) < 2 ^ 64) (fold (with_digit base) first (take (more_length base rest) rest))) is number in
    let same : number_of base (take (numeral_length base text) text) ≡ fold (with_digit base) first (take (more_length base rest) rest) =
    parts.1 ∙ (λ i. fold (with_digit base) (sym is_first i) (take (more_length base (sym is_rest i)) (sym is_rest i))) in
    let length_is : count + 1 ≡ numeral_length base text = omega (arith, ap (more_length base) is_rest, parts.0) in
    let value_is : n ≡ number_of base (take (numeral_length base text) text) = known.1 ∙ sym same in
    (rw same known.0, (λ i. (value_is i, length_is i)))

pub numeral_above : (base first count : ℕ) (text rest : List ℕ) (value : Option ℕ) → base ≤ 16 → begins_numeral base text ≡ true → rest ≡ drop 1 text → first ≡ digit_of (get_or text 0 0)
    → SomeIff value (fold (with_digit base) first (take (more_length base rest) rest) < 2 ^ 64) (fold (with_digit base) first (take (more_length base rest) rest))
    → value ≡ None → IsNumber None base text
numeral_above base first count text rest value small begins is_rest is_first number is =
    let parts = numeral_parts base text small begins in
    let known : SomeIff None (fold (with_digit base) first (take (more_length base rest) rest) < 2 ^ 64) (fold (with_digit base) first (take (more_length base rest) rest)) =
    subst (λ (o : Option ℕ). SomeIff o (fold (with_digit base) first (take (more_length base rest) rest) < 2 ^ 64) (fold (with_digit base) first (take (more_length base rest) rest))) is number in
    let same : number_of base (take (numeral_length base text) text) ≡ fold (with_digit base) first (take (more_length base rest) rest) =
    parts.1 ∙ (λ i. fold (with_digit base) (sym is_first i) (take (more_length base (sym is_rest i)) (sym is_rest i))) in
    rw same known

-- the second `"` of two
pub unquoted_skip : (value next text : List ℕ) (i : ℕ) (was now : Bool) → i < length text → was ≡ true → next ≡ value → now ≡ false
    → value ++ unquoted_behind was (drop i text) ≡ unquoted text → next ++ unquoted_behind now (drop (i + 1) text) ≡ unquoted text
unquoted_skip value next text i was now h is_was is_next is_now so_far =
    (λ j. is_next j ++ unquoted_behind (is_now j) (drop (i + 1) text))
    ∙ ap (λ (xs : List ℕ). value ++ unquoted (drop 1 xs)) (sym (drop_byte text i (get_or text i 0) h refl))
    ∙ ap (λ (t : Bool). value ++ unquoted_behind t (drop i text)) (sym is_was) ∙ so_far

-- a byte of the value
pub unquoted_take : (value next text : List ℕ) (i : ℕ) (was now : Bool) → i < length text → was ≡ false → next ≡ value ++ get_or text i 0 ∷ [] → now ≡ eqb (get_or text i 0) 34
    → value ++ unquoted_behind was (drop i text) ≡ unquoted text → next ++ unquoted_behind now (drop (i + 1) text) ≡ unquoted text
unquoted_take value next text i was now h is_was is_next is_now so_far =
    (λ j. is_next j ++ unquoted_behind (is_now j) (drop (i + 1) text))
    ∙ append_assoc value (get_or text i 0 ∷ []) (unquoted_behind (eqb (get_or text i 0) 34) (drop (i + 1) text))
    ∙ ap (λ (xs : List ℕ). value ++ xs) (sym (unquoted_byte (get_or text i 0) (drop (i + 1) text)) ∙ ap unquoted (sym (drop_byte text i (get_or text i 0) h refl)))
    ∙ ap (λ (t : Bool). value ++ unquoted_behind t (drop i text)) (sym is_was) ∙ so_far

-- nothing is left
pub unquoted_all : (value text : List ℕ) (i : ℕ) (was : Bool) → length text ≤ i → value ++ unquoted_behind was (drop i text) ≡ unquoted text → value ≡ unquoted text
unquoted_all value text i was h so_far =
    sym (append-nil value) ∙ ap (λ (xs : List ℕ). value ++ xs) (sym (ap (unquoted_behind was) (drop_all i text h) ∙ none_behind was)) ∙ so_far
  where
    none_behind : (t : Bool) → unquoted_behind t [] ≡ []
    none_behind true = refl
    none_behind false = refl

pub more_within : (base count : ℕ) (text rest : List ℕ) → rest ≡ drop 1 text → count ≡ more_length base rest → 1 ≤ length text → count + 1 ≤ length text
more_within base count text rest is_rest is_count some =
    let h = more_length-le base rest in let k = length-drop 1 text in omega (arith, ap length is_rest)

-- where a text closes
pub text_within : (text : List ℕ) (n : ℕ) → text_length text ≡ Some n → (1 ≤ n) × (n ≤ length text)
text_within text n e =
    let found : TextAt text (Some n) = subst (TextAt text) e (text_sound text) in
    (omega (arith, found.3), omega (arith, found.3, ap length found.2, length-append (quoted found.0) (34 ∷ found.1)))

-- no literal of a base begins
pub based_unmarked : (o : Option ℕ) (text : List ℕ) → get_or text 1 0 ≢ 39 → name_at text ≡ based_at o text
based_unmarked None text other = refl
based_unmarked (Some base) [] other = refl
based_unmarked (Some base) (b ∷ []) other = refl
based_unmarked (Some base) (b ∷ c ∷ bs) other = let e : eqb c 39 ≡ false = grind (arith, nat_tests) in rw e refl

unbased : (t u : Bool) (k : ℕ) (x y : Found) → t ≡ false → y ≡ cond (u && ltb 0 (cond t (suc k) 0)) x y
unbased true u k x y e = absurd cc
unbased false true k x y e = refl
unbased false false k x y e = refl

pub based_undigited : (base : ℕ) (text : List ℕ) → begins_numeral base (drop 2 text) ≡ false → name_at text ≡ based_at (Some base) text
based_undigited base [] none = refl
based_undigited base (b ∷ []) none = refl
based_undigited base (b ∷ c ∷ []) none = by_mark (eqb c 39)
  where
    by_mark : (t : Bool) → name_at (b ∷ c ∷ []) ≡ cond (t && false) (digits_at base []) (name_at (b ∷ c ∷ []))
    by_mark true = refl
    by_mark false = refl
based_undigited base (b ∷ c ∷ d ∷ bs) none =
    unbased (is_digit base d) (eqb c 39) (more_length base bs) (digits_at base (d ∷ bs)) (name_at (b ∷ c ∷ d ∷ bs)) none

based_by : (t u : Bool) (k : ℕ) (x y : Found) → t ≡ true → u ≡ true → x ≡ cond (u && ltb 0 (cond t (suc k) 0)) x y
based_by true true k x y e f = let some : ltb 0 (suc k) ≡ true = grind (arith, nat_tests) in rw some refl
based_by true false k x y e f = absurd cc
based_by false u k x y e f = absurd cc

-- a literal of a base begins
pub based_digited : (base : ℕ) (text : List ℕ) → get_or text 1 0 ≡ 39 → begins_numeral base (drop 2 text) ≡ true → digits_at base (drop 2 text) ≡ based_at (Some base) text
based_digited base [] mark some = absurd cc
based_digited base (b ∷ []) mark some = absurd cc
based_digited base (b ∷ c ∷ []) mark some = absurd cc
based_digited base (b ∷ c ∷ d ∷ bs) mark some =
    let e : eqb c 39 ≡ true = grind (arith, nat_tests) in
    based_by (is_digit base d) (eqb c 39) (more_length base bs) (digits_at base (d ∷ bs)) (name_at (b ∷ c ∷ d ∷ bs)) some e

-- where few go on, all do that go on in the whole list
prefix_short : (p : ℕ → Bool) (k : ℕ) (xs : List ℕ) → prefix_len p (take k xs) < k → prefix_len p (take k xs) ≡ prefix_len p xs
prefix_short p zero xs h = absurd (omega arith)
prefix_short p (suc k) [] h = refl
prefix_short p (suc k) (x ∷ xs) h = first (p x) (prefix_len p (take k xs)) (prefix_len p xs) (prefix_short p k xs) h
  where
    first : (b : Bool) (m n : ℕ) → (m < k → m ≡ n) → cond b (1 + m) 0 < suc k → cond b (1 + m) 0 ≡ cond b (1 + n) 0
    first true m n same h = ap (λ (i : ℕ). 1 + i) (same (omega arith))
    first false m n same h = refl

-- a short name, or a reserved word
pub short_name : (text bytes : List ℕ) (n k : ℕ) (kind : TokenKind) → bytes ≡ take k text → n ≡ prefix_len is_name_byte bytes → n < k → k ≤ 64
    → named (take n text) (word_of (take n text)) ≡ kind → limited (name_at text) ≡ Some (token kind, n)
short_name text bytes n k kind is_bytes is_length short small is =
    let in_front : n ≡ prefix_len is_name_byte (take k text) = is_length ∙ ap (prefix_len is_name_byte) is_bytes in
    let same : n ≡ prefix_len is_name_byte text = in_front ∙ prefix_short is_name_byte k text (omega arith) in
    subst (λ (m : ℕ). limited (Some (name (take m text), m)) ≡ Some (token kind, n)) same (named_so (omega (arith, length-take-le n text (omega (arith, prefix_len-le-length is_name_byte text)))))
  where
    named_so : length (take n text) ≤ 64 → limited (Some (name (take n text), n)) ≡ Some (token kind, n)
    named_so few = let e : leb (length (take n text)) 64 ≡ true = grind (arith, nat_tests) in rw e (ap (λ (t : TokenKind). Some (token t, n)) is)

-- no digit and no `_` goes on
pub lone_digit : (c : ℕ) (bs : List ℕ) → is_digit 10 c ≡ false → eqb c 95 ≡ false → more_length 10 (c ∷ bs) ≡ 0
lone_digit c bs digit mark = more_none 10 c bs digit (no_apart bs)
  where
    no_apart : (ds : List ℕ) → is_apart 10 (c ∷ ds) ≡ false
    no_apart [] = refl
    no_apart (d ∷ ds) = rw mark refl

-- a list of fourteen is its items one by one
pub fourteen : (xs : List ℕ) → length xs ≡ 14 → get_or xs 0 0 ∷ get_or xs 1 0 ∷ get_or xs 2 0 ∷ get_or xs 3 0 ∷ get_or xs 4 0 ∷ get_or xs 5 0 ∷ get_or xs 6 0 ∷ get_or xs 7 0 ∷ get_or xs 8 0 ∷ get_or xs 9 0 ∷ get_or xs 10 0 ∷ get_or xs 11 0 ∷ get_or xs 12 0 ∷ get_or xs 13 0 ∷ [] ≡ xs
fourteen ([]) size = absurd (omega arith)
fourteen (a ∷ []) size = absurd (omega arith)
fourteen (a ∷ b ∷ []) size = absurd (omega arith)
fourteen (a ∷ b ∷ c ∷ []) size = absurd (omega arith)
fourteen (a ∷ b ∷ c ∷ d ∷ []) size = absurd (omega arith)
fourteen (a ∷ b ∷ c ∷ d ∷ e ∷ []) size = absurd (omega arith)
fourteen (a ∷ b ∷ c ∷ d ∷ e ∷ f ∷ []) size = absurd (omega arith)
fourteen (a ∷ b ∷ c ∷ d ∷ e ∷ f ∷ g ∷ []) size = absurd (omega arith)
fourteen (a ∷ b ∷ c ∷ d ∷ e ∷ f ∷ g ∷ h ∷ []) size = absurd (omega arith)
fourteen (a ∷ b ∷ c ∷ d ∷ e ∷ f ∷ g ∷ h ∷ i ∷ []) size = absurd (omega arith)
fourteen (a ∷ b ∷ c ∷ d ∷ e ∷ f ∷ g ∷ h ∷ i ∷ j ∷ []) size = absurd (omega arith)
fourteen (a ∷ b ∷ c ∷ d ∷ e ∷ f ∷ g ∷ h ∷ i ∷ j ∷ k ∷ []) size = absurd (omega arith)
fourteen (a ∷ b ∷ c ∷ d ∷ e ∷ f ∷ g ∷ h ∷ i ∷ j ∷ k ∷ l ∷ []) size = absurd (omega arith)
fourteen (a ∷ b ∷ c ∷ d ∷ e ∷ f ∷ g ∷ h ∷ i ∷ j ∷ k ∷ l ∷ m ∷ []) size = absurd (omega arith)
fourteen (a ∷ b ∷ c ∷ d ∷ e ∷ f ∷ g ∷ h ∷ i ∷ j ∷ k ∷ l ∷ m ∷ n ∷ []) size = refl
fourteen (a ∷ b ∷ c ∷ d ∷ e ∷ f ∷ g ∷ h ∷ i ∷ j ∷ k ∷ l ∷ m ∷ n ∷ o ∷ rest) size = absurd (omega arith)
