-- Runs of bytes at the front of a text: names, numerals, comments and texts, as they are and as they are computed.
use Rattle.std.proofs.Common.{◌≡◌, ℕ, suc, ◌+◌, ◌<◌, ◌≤◌, Bool, true, false, ◌&&◌, cond, eqb, List, [], ◌∷◌, ◌++◌, length, take, Option, Some, None, option_map, unwrap_or, refl, sym, ap, subst, ◌∙◌, ◌⊎◌, inl, inr, arith, one-add}
use Rattle.std.proofs.lemmas.List.{take_at}
use Rattle.std.proofs.lemmas.Bool.Decides.{nat_tests}
use Rattle.std.specs.List.{list_all, prefix_len}
use Rattle.rules_model.specs.TokensShapes.{is_separator, is_letter, is_decimal, is_name_byte, is_in_line, digit_of, base_of, IsNumeral, digit, more, apart, closes, LacksClosing, quoted, Shape, name}
use Rattle.rules_model.specs.TokensReading.{Found, is_digit, more_length, numeral_length, closing_length, text_length, unquoted, name_at}

-- either branch
pub split : (P : Found → Type 0) (b : Bool) (x y : Found) → (b ≡ true → P x) → (b ≡ false → P y) → P (cond b x y)
split P true x y at_true at_false = at_true refl
split P false x y at_true at_false = at_false refl

-- what was found is as long as the shape at hand, or longer
abbrev pub Covers : Shape → List ℕ → Found → Type 0
Covers s front None = ⊥
Covers s front (Some f) = (length front < f.1) ⊎ ((f.0 ≡ s) × (f.1 ≡ length front))

pub at_or_above : (m n : ℕ) → m ≤ n → (m < n) ⊎ (n ≡ m)
at_or_above m n h = grind arith

-- a shape that its own bytes make, found with at least these
pub covers : (make : List ℕ → Shape) (front xs left : List ℕ) (before n count : ℕ) → length front ≡ before + length xs → count ≡ before + n → length xs ≤ n
    → Covers (make xs) front (Some (make (take n (xs ++ left)), count))
covers make front xs left before n count is_front is_count h =
    elim (at_or_above (length xs) n h) [
      | inl longer ↦ inl (omega arith)
      | inr same ↦ inr (ap make (take_at xs left n (sym same)), omega arith)
    ]

pub letter_first : (b : ℕ) → is_letter b ≡ true → is_separator b ≡ false
letter_first b e = grind (arith, nat_tests)

pub decimal_first : (b : ℕ) → digit_of b < 10 → (is_separator b ≡ false) × (is_letter b ≡ false) × (is_decimal b ≡ true)
decimal_first b h = (grind (arith, nat_tests), grind (arith, nat_tests), grind (arith, nat_tests))

pub base_first : (b base : ℕ) → base_of b ≡ Some base → (is_separator b ≡ false) × (is_letter b ≡ true) × (base ≤ 16)
base_first b base e = (grind (arith, nat_tests), grind (arith, nat_tests), grind (arith, nat_tests))

-- a run of bytes that pass, before anything
pub prefix_len-run : (p : ℕ → Bool) (xs left : List ℕ) → list_all p xs ≡ true → length xs ≤ prefix_len p (xs ++ left)
prefix_len-run p [] left e = omega arith
prefix_len-run p (x ∷ xs) left e = run_step (p x) (list_all p xs) (prefix_len p (xs ++ left)) e (prefix_len-run p xs left)
  where
    run_step : (b c : Bool) (k : ℕ) → (b && c) ≡ true → (c ≡ true → length xs ≤ k) → suc (length xs) ≤ cond b (1 + k) 0
    run_step true c k both rest = let h : length xs ≤ k = rest both in omega arith
    run_step false c k both rest = absurd cc

-- the run that was found passes
pub list_all-prefix : (p : ℕ → Bool) (xs : List ℕ) → list_all p (take (prefix_len p xs) xs) ≡ true
list_all-prefix p [] = refl
list_all-prefix p (x ∷ xs) = prefix_step (p x) refl (list_all-prefix p xs)
  where
    prefix_step : (b : Bool) → p x ≡ b → list_all p (take (prefix_len p xs) xs) ≡ true → list_all p (take (cond b (1 + prefix_len p xs) 0) (x ∷ xs)) ≡ true
    prefix_step true is rest = rw (one-add, is) rest
    prefix_step false is rest = refl

pub name_covers : (xs left : List ℕ) → list_all is_name_byte xs ≡ true → Covers (name xs) xs (name_at (xs ++ left))
name_covers xs left e = covers name xs xs left 0 (prefix_len is_name_byte (xs ++ left)) (prefix_len is_name_byte (xs ++ left)) (omega arith) (omega arith) (prefix_len-run is_name_byte xs left e)

-- numerals
pub numeral_more : (base : ℕ) (bs : List ℕ) → numeral_length base bs ≤ more_length base bs
numeral_more base [] = omega arith
numeral_more base (b ∷ []) = more_one (is_digit base b)
  where
    more_one : (d : Bool) → cond d (suc 0) 0 ≤ cond d 1 0
    more_one true = omega arith
    more_one false = omega arith
numeral_more base (b ∷ c ∷ bs) = more_two (is_digit base b) (more_length base (c ∷ bs)) _
  where
    more_two : (d : Bool) (k m : ℕ) → cond d (suc k) 0 ≤ cond d (suc k) m
    more_two true k m = omega arith
    more_two false k m = omega arith

pub is_digit-true : (base b : ℕ) → digit_of b < base → is_digit base b ≡ true
is_digit-true base b h = grind (arith, nat_tests)

pub digit_below : (base b : ℕ) → is_digit base b ≡ true → digit_of b < base
digit_below base b h = grind (arith, nat_tests)

pub underline_apart : (base : ℕ) → base ≤ 16 → is_digit base 95 ≡ false
underline_apart base h = grind (arith, nat_tests)

pub underlined : (base c : ℕ) (xs : List ℕ) → base ≤ 16 → digit_of c < base → more_length base (95 ∷ c ∷ xs) ≡ suc (numeral_length base (c ∷ xs))
underlined base c xs small d = rw (underline_apart base small, is_digit-true base c d) refl

pub numeral_head : (base : ℕ) (bs : List ℕ) → IsNumeral base bs → (c : ℕ) × (cs : List ℕ) × (bs ≡ c ∷ cs) × (digit_of c < base)
numeral_head base bs (digit {b = b} d) = (b, [], refl, d)
numeral_head base bs (more {b = b} {bs = rest} d numeral) = (b, rest, refl, d)
numeral_head base bs (apart {b = b} {bs = rest} d numeral) = (b, 95 ∷ rest, refl, d)

pub numeral_underlined : (base : ℕ) (rest left : List ℕ) → base ≤ 16 → IsNumeral base rest → more_length base (95 ∷ (rest ++ left)) ≡ suc (numeral_length base (rest ++ left))
numeral_underlined base rest left small numeral =
    let h = numeral_head base rest numeral in
    subst (λ (bs : List ℕ). more_length base (95 ∷ (bs ++ left)) ≡ suc (numeral_length base (bs ++ left))) (sym h.2) (underlined base h.0 (h.1 ++ left) small h.3)

pub numeral_covers : (base : ℕ) (bs left : List ℕ) → base ≤ 16 → IsNumeral base bs → length bs ≤ numeral_length base (bs ++ left)
numeral_covers base bs left small (digit {b = b} d) = rw (is_digit-true base b d) (omega arith)
numeral_covers base bs left small (more {b = b} {bs = rest} d numeral) =
    let e = is_digit-true base b d in let h = numeral_covers base rest left small numeral in let k = numeral_more base (rest ++ left) in
    rw e (omega arith)
numeral_covers base bs left small (apart {b = b} {bs = rest} d numeral) =
    let e = is_digit-true base b d in let h = numeral_covers base rest left small numeral in let k = numeral_underlined base rest left small numeral in
    rw e (omega arith)

-- what was found is a numeral
pub numeral_more-sound : (base b : ℕ) (bs : List ℕ) → digit_of b < base → IsNumeral base (b ∷ take (more_length base bs) bs)
numeral_more-sound base b [] d = digit d
numeral_more-sound base b (c ∷ []) d = sound_one (is_digit base c) refl
  where
    sound_one : (t : Bool) → is_digit base c ≡ t → IsNumeral base (b ∷ take (cond t 1 0) (c ∷ []))
    sound_one true is = more d (digit (digit_below base c is))
    sound_one false is = digit d
numeral_more-sound base b (c ∷ e ∷ bs) d = sound_two (numeral_more-sound base c (e ∷ bs)) (numeral_more-sound base e bs) (is_digit base c) refl (is_digit base e) refl (eqb c 95) refl
  where
    sound_two : (digit_of c < base → IsNumeral base (c ∷ take (more_length base (e ∷ bs)) (e ∷ bs))) → (digit_of e < base → IsNumeral base (e ∷ take (more_length base bs) bs))
        → (t : Bool) → is_digit base c ≡ t → (u : Bool) → is_digit base e ≡ u → (v : Bool) → eqb c 95 ≡ v
        → IsNumeral base (b ∷ take (cond t (suc (more_length base (e ∷ bs))) (cond (v && u) (suc (suc (more_length base bs))) 0)) (c ∷ e ∷ bs))
    sound_two next later true is u _ v _ = more d (next (digit_below base c is))
    sound_two next later false is true is_e true is_c = let same : c ≡ 95 = grind (arith, nat_tests) in
        subst (λ (x : ℕ). IsNumeral base (b ∷ x ∷ e ∷ take (more_length base bs) bs)) (sym same) (apart d (later (digit_below base e is_e)))
    sound_two next later false is true is_e false is_c = digit d
    sound_two next later false is false is_e true is_c = digit d
    sound_two next later false is false is_e false is_c = digit d

pub numeral_sound : (base : ℕ) (bs : List ℕ) → 0 < numeral_length base bs → IsNumeral base (take (numeral_length base bs) bs)
numeral_sound base [] h = absurd (omega arith)
numeral_sound base (b ∷ bs) h = sound_first (is_digit base b) refl h
  where
    sound_first : (t : Bool) → is_digit base b ≡ t → 0 < cond t (suc (more_length base bs)) 0 → IsNumeral base (take (cond t (suc (more_length base bs)) 0) (b ∷ bs))
    sound_first true is h = numeral_more-sound base b bs (digit_below base b is)
    sound_first false is h = absurd (omega arith)

pub more_length-le : (base : ℕ) (bs : List ℕ) → more_length base bs ≤ length bs
more_length-le base [] = omega arith
more_length-le base (b ∷ []) = le_one (is_digit base b)
  where
    le_one : (t : Bool) → cond t 1 0 ≤ 1
    le_one true = omega arith
    le_one false = omega arith
more_length-le base (b ∷ c ∷ bs) = le_two (is_digit base b) (eqb b 95 && is_digit base c) (more_length base (c ∷ bs)) (more_length base bs) (length bs) (more_length-le base (c ∷ bs)) (more_length-le base bs)
  where
    le_two : (t u : Bool) (j k n : ℕ) → j ≤ suc n → k ≤ n → cond t (suc j) (cond u (suc (suc k)) 0) ≤ suc (suc n)
    le_two true u j k n h i = omega arith
    le_two false true j k n h i = omega arith
    le_two false false j k n h i = omega arith

pub numeral_length-le : (base : ℕ) (bs : List ℕ) → numeral_length base bs ≤ length bs
numeral_length-le base [] = omega arith
numeral_length-le base (b ∷ bs) = le_first (is_digit base b) (more_length base bs) (length bs) (more_length-le base bs)
  where
    le_first : (t : Bool) (k n : ℕ) → k ≤ n → cond t (suc k) 0 ≤ suc n
    le_first true k n h = omega arith
    le_first false k n h = omega arith

-- comments
pub closes_apart : (b : ℕ) (bs left : List ℕ) → closes (b ∷ (bs ++ 42 ∷ [])) ≡ closes (b ∷ (bs ++ 42 ∷ 47 ∷ left))
closes_apart b [] left = refl
closes_apart b (c ∷ cs) left = refl

pub closing_covers : (bs left : List ℕ) → LacksClosing (bs ++ 42 ∷ []) → closing_length (bs ++ 42 ∷ 47 ∷ left) ≡ Some (suc (suc (length bs)))
closing_covers [] left lacks = refl
closing_covers (b ∷ bs) left lacks = rw (sym (closes_apart b bs left) ∙ lacks.0, closing_covers bs left lacks.1) refl

-- none is found, or one behind the bytes
abbrev pub Beyond : ℕ → Option ℕ → Type 0
Beyond n None = Unit {0}
Beyond n (Some k) = n < k

pub closing_beyond : (bs left : List ℕ) → LacksClosing bs → Beyond (length bs) (closing_length (bs ++ left))
closing_beyond [] [] lacks = tt
closing_beyond [] (b ∷ bs) lacks = beyond_first (closes (b ∷ bs)) (closing_length bs)
  where
    beyond_first : (t : Bool) (o : Option ℕ) → Beyond 0 (cond t (Some 2) (option_map suc o))
    beyond_first true o = omega arith
    beyond_first false None = tt
    beyond_first false (Some k) = omega arith
closing_beyond (b ∷ []) left lacks = beyond_second (closes (b ∷ left)) (closing_length left) (closing_beyond [] left tt)
  where
    beyond_second : (t : Bool) (o : Option ℕ) → Beyond 0 o → Beyond 1 (cond t (Some 2) (option_map suc o))
    beyond_second true o h = omega arith
    beyond_second false None h = tt
    beyond_second false (Some k) h = let i : 0 < k = h in omega arith
closing_beyond (b ∷ c ∷ bs) left lacks = let e : closes (b ∷ c ∷ (bs ++ left)) ≡ false = lacks.0 in
    rw e (beyond_more (length (c ∷ bs)) (closing_length (c ∷ (bs ++ left))) (closing_beyond (c ∷ bs) left lacks.1))
  where
    beyond_more : (n : ℕ) (o : Option ℕ) → Beyond n o → Beyond (suc n) (option_map suc o)
    beyond_more n None h = tt
    beyond_more n (Some k) h = let i : n < k = h in omega arith

-- what was found closes the comment
abbrev pub ClosingAt : List ℕ → Option ℕ → Type 0
ClosingAt bs None = LacksClosing bs
ClosingAt bs (Some n) = (inside : List ℕ) × (left : List ℕ) × (bs ≡ inside ++ 42 ∷ 47 ∷ left) × (n ≡ suc (suc (length inside))) × LacksClosing (inside ++ 42 ∷ [])

pub closing_true : (b : ℕ) (bs : List ℕ) → closes (b ∷ bs) ≡ true → ClosingAt (b ∷ bs) (Some 2)
closing_true b [] e = absurd cc
closing_true b (c ∷ cs) e =
    let is_b : b ≡ 42 = grind (arith, nat_tests) in let is_c : c ≡ 47 = grind (arith, nat_tests) in
    ([], cs, rw (is_b, is_c) refl, refl, (refl, tt))

pub closing_sound : (bs : List ℕ) → ClosingAt bs (closing_length bs)
closing_sound [] = tt
closing_sound (b ∷ bs) = closing_step (closes (b ∷ bs)) refl (closing_length bs) (closing_sound bs)
  where
    closing_step : (t : Bool) → closes (b ∷ bs) ≡ t → (o : Option ℕ) → ClosingAt bs o → ClosingAt (b ∷ bs) (cond t (Some 2) (option_map suc o))
    closing_step true is o h = closing_true b bs is
    closing_step false is None h = (is, h)
    closing_step false is (Some n) h =
        (b ∷ h.0, h.1, ap (λ (xs : List ℕ). b ∷ xs) h.2, ap suc h.3, (closes_apart b h.0 h.1 ∙ ap (λ (xs : List ℕ). closes (b ∷ xs)) (sym h.2) ∙ is, h.4))

-- texts
abbrev pub AtLeast : ℕ → Option ℕ → Type 0
AtLeast m None = ⊥
AtLeast m (Some n) = m ≤ n

pub text_next : (b : ℕ) (bs : List ℕ) → eqb b 10 ≡ false → eqb b 34 ≡ false → text_length (b ∷ bs) ≡ option_map suc (text_length bs)
text_next b [] in_line plain = rw plain refl
text_next b (c ∷ cs) in_line plain = rw (in_line, plain) refl

pub unquoted_next : (b : ℕ) (bs : List ℕ) → eqb b 34 ≡ false → unquoted (b ∷ bs) ≡ b ∷ unquoted bs
unquoted_next b [] plain = refl
unquoted_next b (c ∷ cs) plain = rw plain refl

pub unquoted-quoted : (value : List ℕ) → unquoted (quoted value) ≡ value
unquoted-quoted [] = refl
unquoted-quoted (b ∷ bs) = unquoted_step (eqb b 34) refl (unquoted-quoted bs)
  where
    unquoted_step : (t : Bool) → eqb b 34 ≡ t → unquoted (quoted bs) ≡ bs → unquoted (cond t (34 ∷ 34 ∷ quoted bs) (b ∷ quoted bs)) ≡ b ∷ bs
    unquoted_step true is h = let same : b ≡ 34 = grind (arith, nat_tests) in rw (h, same) refl
    unquoted_step false is h = unquoted_next b (quoted bs) is ∙ ap (λ (xs : List ℕ). b ∷ xs) h

pub text_ends : (left : List ℕ) → AtLeast 1 (text_length (34 ∷ left))
text_ends [] = omega arith
text_ends (c ∷ cs) = ends (eqb c 34) (text_length cs)
  where
    ends : (t : Bool) (o : Option ℕ) → AtLeast 1 (cond t (Some (unwrap_or (option_map (λ n. suc (suc n)) o) 1)) (Some 1))
    ends true None = omega arith
    ends true (Some n) = omega arith
    ends false o = omega arith

pub text_covers : (value left : List ℕ) → list_all is_in_line value ≡ true → AtLeast (suc (length (quoted value))) (text_length (quoted value ++ 34 ∷ left))
text_covers [] left e = text_ends left
text_covers (b ∷ bs) left e = text_step (eqb b 34) refl (text_length (quoted bs ++ 34 ∷ left)) refl (text_covers bs left (grind (arith, nat_tests)))
  where
    in_line : eqb b 10 ≡ false
    in_line = grind (arith, nat_tests)

    two_more : (n : ℕ) (o : Option ℕ) → AtLeast (suc n) o → AtLeast (suc (suc (suc n))) (Some (unwrap_or (option_map (λ k. suc (suc k)) o) 1))
    two_more n None h = absurd h
    two_more n (Some k) h = let i : suc n ≤ k = h in omega arith

    one_more : (n : ℕ) (o : Option ℕ) → AtLeast (suc n) o → AtLeast (suc (suc n)) (option_map suc o)
    one_more n None h = absurd h
    one_more n (Some k) h = let i : suc n ≤ k = h in omega arith

    text_step : (t : Bool) → eqb b 34 ≡ t → (o : Option ℕ) → text_length (quoted bs ++ 34 ∷ left) ≡ o → AtLeast (suc (length (quoted bs))) o
        → AtLeast (suc (length (cond t (34 ∷ 34 ∷ quoted bs) (b ∷ quoted bs)))) (text_length (cond t (34 ∷ 34 ∷ quoted bs) (b ∷ quoted bs) ++ 34 ∷ left))
    text_step true is o is_o h = rw is_o (two_more (length (quoted bs)) o h)
    text_step false is o is_o h = rw (text_next b (quoted bs ++ 34 ∷ left) in_line is, is_o) (one_more (length (quoted bs)) o h)

-- what was found is a text
abbrev pub TextAt : List ℕ → Option ℕ → Type 0
TextAt bs None = Unit {0}
TextAt bs (Some n) = (value : List ℕ) × (left : List ℕ) × (bs ≡ quoted value ++ 34 ∷ left) × (n ≡ suc (length (quoted value))) × (list_all is_in_line value ≡ true)

pub text_sound : (bs : List ℕ) → TextAt bs (text_length bs)
text_sound [] = tt
text_sound (b ∷ []) = sound_last (eqb b 34) refl
  where
    sound_last : (t : Bool) → eqb b 34 ≡ t → TextAt (b ∷ []) (cond t (Some 1) None)
    sound_last true is = let same : b ≡ 34 = grind (arith, nat_tests) in ([], [], rw same refl, refl, refl)
    sound_last false is = tt
text_sound (b ∷ c ∷ bs) = sound_next (eqb b 10) refl (eqb b 34) refl (eqb c 34) refl (text_length (c ∷ bs)) (text_sound (c ∷ bs)) (text_length bs) (text_sound bs)
  where
    sound_quote : (u : Bool) → b ≡ 34 → eqb c 34 ≡ u → (o : Option ℕ) → TextAt bs o → TextAt (b ∷ c ∷ bs) (cond u (Some (unwrap_or (option_map (λ n. suc (suc n)) o) 1)) (Some 1))
    sound_quote false same is o h = ([], c ∷ bs, rw same refl, refl, refl)
    sound_quote true same is None h = ([], c ∷ bs, rw same refl, refl, refl)
    sound_quote true same is (Some n) h = let same_c : c ≡ 34 = grind (arith, nat_tests) in
        (34 ∷ h.0, h.1, rw (same, same_c) (ap (λ (xs : List ℕ). 34 ∷ 34 ∷ xs) h.2), ap (λ k. suc (suc k)) h.3, h.4)

    sound_plain : eqb b 10 ≡ false → eqb b 34 ≡ false → (o : Option ℕ) → TextAt (c ∷ bs) o → TextAt (b ∷ c ∷ bs) (option_map suc o)
    sound_plain in_line plain None h = tt
    sound_plain in_line plain (Some n) h =
        let passes : is_in_line b ≡ true = grind (arith, nat_tests) in
        (b ∷ h.0, h.1, rw plain (ap (λ (xs : List ℕ). b ∷ xs) h.2), rw plain (ap suc h.3), rw passes h.4)

    sound_next : (l : Bool) → eqb b 10 ≡ l → (t : Bool) → eqb b 34 ≡ t → (u : Bool) → eqb c 34 ≡ u → (next : Option ℕ) → TextAt (c ∷ bs) next → (later : Option ℕ) → TextAt bs later
        → TextAt (b ∷ c ∷ bs) (cond l None (cond t (cond u (Some (unwrap_or (option_map (λ n. suc (suc n)) later) 1)) (Some 1)) (option_map suc next)))
    sound_next true is t is_t u is_u next h later k = tt
    sound_next false is true is_t u is_u next h later k = sound_quote u (grind (arith, nat_tests)) is_u later k
    sound_next false is false is_t u is_u next h later k = sound_plain is is_t next h
