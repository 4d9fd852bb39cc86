-- Values of one shape are compared as their scalars are.
use Rattle.std.proofs.Common.{◌≡◌, ℕ, zero, suc, ◌+◌, ◌*◌, ◌≤◌, true, false, Bool, List, [], ◌∷◌, ◌++◌, length, take, drop, Option, Some, None, ℤ, pos, negsuc, refl, ap, sym, ◌∙◌, inl, inr, arith, rules}
use Rattle.std.specs.Prelude.{◌==◌, ◌&&◌, ◌||◌, not, IsTrue, int_le, int_lt}
use Rattle.std.proofs.lemmas.List.{length-append, length-take, length-drop}
use Rattle.std.proofs.lemmas.Bool.{cases_lt}
use Rattle.std.proofs.lemmas.Bool.Decides.{nat_tests}
use Rattle.std.proofs.lemmas.Int.{ints}
use Rattle.modes.specs.Scalars.{numbers_of}
use Rattle.modes.specs.Similar.{Shape, like_int, like_boolean, like_char, like_instance, like_set, like_powerset, like_chars, like_array, like_structure, part}
use Rattle.modes.proofs.SimilarLemmas.{both}
use Rattle.scalar_operators.specs.Numbers.{comes_before, same_numbers}
use Rattle.checks_model.specs.Alike.{same_int}
use Rattle.checks_model.specs.ValueTrees.{ValueTree, ValueNodes, number, members, parts, no_values, more_values, bits_of, numbers_from, scalars_in, scalars_in_each, same_members, same_value, same_values, text_is_less}
use Rattle.constant_values.specs.Fits.{count_values}
use Rattle.constant_values.proofs.ShapeValues.{takes_number_in, takes_members_in, takes_parts_in, part_of_shape, fits_in, fit_each_in}

-- ---- members and their numbers

and_end : (b : Bool) → (b && true) ≡ b
and_end true = refl
and_end false = refl

and_assoc : (a b c : Bool) → ((a && b) && c) ≡ (a && (b && c))
and_assoc true b c = refl
and_assoc false b c = refl

same_itself : (a b : ℕ) → a ≡ b → same_int (pos a) (pos b) ≡ true
same_itself a b e = grind (arith, ints, nat_tests)

same_other : (a b : ℕ) → (a ≡ b → ⊥) → same_int (pos a) (pos b) ≡ false
same_other a b e = grind (arith, ints, nat_tests)

same_split : (a b c d : ℕ) → ((a ≡ b → c ≡ d) × (c ≡ d → a ≡ b)) → same_int (pos a) (pos b) ≡ same_int (pos c) (pos d)
same_split a b c d h = elim (cases_lt c d) [
  | inl less ↦ (let other : a ≡ b → ⊥ = λ e. (let f = h.0 e in omega (arith, f, less)) in same_other a b other ∙ sym (same_other c d (λ e. omega (arith, e, less))))
  | inr more ↦ elim (cases_lt d c) [
    | inl less ↦ (let other : a ≡ b → ⊥ = λ e. (let f = h.0 e in omega (arith, f, less)) in same_other a b other ∙ sym (same_other c d (λ e. omega (arith, e, less))))
    | inr even ↦ (let f : c ≡ d = omega (arith, more, even) in same_itself a b (h.1 f) ∙ sym (same_itself c d f))
  ]
]

bits_alike : (as' bs : List Bool) → length as' ≡ length bs → same_int (pos (bits_of as')) (pos (bits_of bs)) ≡ same_members as' bs
bits_alike [] [] long = refl
bits_alike [] (b ∷ bs) long = absurd (omega (arith, long))
bits_alike (a ∷ as') [] long = absurd (omega (arith, long))
bits_alike (true ∷ as') (true ∷ bs) long =
    same_split (1 + 2 * bits_of as') (1 + 2 * bits_of bs) (bits_of as') (bits_of bs) (λ e. omega (arith, e), λ e. omega (arith, e)) ∙ bits_alike as' bs (omega (arith, long))
bits_alike (false ∷ as') (false ∷ bs) long =
    same_split (0 + 2 * bits_of as') (0 + 2 * bits_of bs) (bits_of as') (bits_of bs) (λ e. omega (arith, e), λ e. omega (arith, e)) ∙ bits_alike as' bs (omega (arith, long))
bits_alike (true ∷ as') (false ∷ bs) long = same_other (1 + 2 * bits_of as') (0 + 2 * bits_of bs) (λ e. omega (arith, e))
bits_alike (false ∷ as') (true ∷ bs) long = same_other (0 + 2 * bits_of as') (1 + 2 * bits_of bs) (λ e. omega (arith, e))

members_split : (n : ℕ) (as' bs : List Bool) → length as' ≡ length bs → same_members as' bs ≡ (same_members (take n as') (take n bs) && same_members (drop n as') (drop n bs))
members_split zero as' bs long = refl
members_split (suc n) [] [] long = refl
members_split (suc n) [] (b ∷ bs) long = absurd (omega (arith, long))
members_split (suc n) (a ∷ as') [] long = absurd (omega (arith, long))
members_split (suc n) (true ∷ as') (b ∷ bs) long =
    ap (λ (x : Bool). b && x) (members_split n as' bs (omega (arith, long))) ∙ sym (and_assoc b (same_members (take n as') (take n bs)) (same_members (drop n as') (drop n bs)))
members_split (suc n) (false ∷ as') (b ∷ bs) long =
    ap (λ (x : Bool). not b && x) (members_split n as' bs (omega (arith, long))) ∙ sym (and_assoc (not b) (same_members (take n as') (take n bs)) (same_members (drop n as') (drop n bs)))

words_alike : (k : ℕ) (as' bs : List Bool) → length as' ≡ length bs → length as' ≤ 32 * k → same_numbers (numbers_from k as') (numbers_from k bs) ≡ same_members as' bs
words_alike zero [] [] long few = refl
words_alike zero [] (b ∷ bs) long few = absurd (omega (arith, long))
words_alike zero (a ∷ as') bs long few = absurd (omega (arith, few))
words_alike (suc k) as' bs long few =
    let first : length (take 32 as') ≡ length (take 32 bs) = rw (length-take 32 as', length-take 32 bs, long) refl in
    let rest : length (drop 32 as') ≡ length (drop 32 bs) = rw (length-drop 32 as', length-drop 32 bs, long) refl in
    let fewer : length (drop 32 as') ≤ 32 * k = omega (arith, length-drop 32 as', few) in
    ap (λ (x : Bool). x && same_numbers (numbers_from k (drop 32 as')) (numbers_from k (drop 32 bs))) (bits_alike (take 32 as') (take 32 bs) first)
    ∙ ap (λ (x : Bool). same_members (take 32 as') (take 32 bs) && x) (words_alike k (drop 32 as') (drop 32 bs) rest fewer)
    ∙ sym (members_split 32 as' bs long)

pub members_alike : (as' bs : List Bool) → length as' ≡ length bs → same_numbers (scalars_in (members as')) (scalars_in (members bs)) ≡ same_members as' bs
members_alike as' bs long =
    ap (λ (n : ℕ). same_numbers (scalars_in (members as')) (numbers_from (numbers_of n) bs)) (sym long)
    ∙ words_alike (numbers_of (length as')) as' bs long (omega arith)

numbers_long : (k : ℕ) (as' bs : List Bool) → length (numbers_from k as') ≡ length (numbers_from k bs)
numbers_long zero as' bs = refl
numbers_long (suc k) as' bs = ap suc (numbers_long k (drop 32 as') (drop 32 bs))

-- ---- lists behind each other

pub numbers_joined : (xs ys zs ws : List ℤ) → length xs ≡ length ys → same_numbers (xs ++ zs) (ys ++ ws) ≡ (same_numbers xs ys && same_numbers zs ws)
numbers_joined [] [] zs ws long = refl
numbers_joined [] (y ∷ ys) zs ws long = absurd (omega (arith, long))
numbers_joined (x ∷ xs) [] zs ws long = absurd (omega (arith, long))
numbers_joined (x ∷ xs) (y ∷ ys) zs ws long =
    ap (λ (b : Bool). (int_le x y && int_le y x) && b) (numbers_joined xs ys zs ws (omega (arith, long)))
    ∙ sym (and_assoc (int_le x y && int_le y x) (same_numbers xs ys) (same_numbers zs ws))

-- ---- values of one shape

pub record AreAlike (v w : ValueTree) : Type 0 where
  pub long : length (scalars_in v) ≡ length (scalars_in w)
  pub same : same_numbers (scalars_in v) (scalars_in w) ≡ same_value v w

record AreAlikeEach (vs ws : ValueNodes) : Type 0 where
  pub long : length (scalars_in_each vs) ≡ length (scalars_in_each ws)
  pub same : same_numbers (scalars_in_each vs) (scalars_in_each ws) ≡ same_values vs ws

no_number_of_members : (s : Shape) (n : ℕ) → IsTrue (takes_number_in s) → IsTrue (takes_members_in n s) → ⊥
no_number_of_members (like_powerset m) n p q = cc
no_number_of_members like_int n p q = cc
no_number_of_members like_boolean n p q = cc
no_number_of_members like_char n p q = cc
no_number_of_members like_instance n p q = cc
no_number_of_members (like_set d e) n p q = cc
no_number_of_members _ n p q = cc

no_number_of_parts : (s : Shape) (n : ℕ) → IsTrue (takes_number_in s) → IsTrue (takes_parts_in n s) → ⊥
no_number_of_parts (like_chars m) n p q = cc
no_number_of_parts (like_array i b e how) n p q = cc
no_number_of_parts (like_structure fs k) n p q = cc
no_number_of_parts _ n p q = cc

no_members_of_parts : (s : Shape) (m n : ℕ) → IsTrue (takes_members_in m s) → IsTrue (takes_parts_in n s) → ⊥
no_members_of_parts (like_powerset x) m n p q = cc
no_members_of_parts _ m n p q = cc

pub same_count : (d e : ℕ) → IsTrue (d == e) → d ≡ e
same_count d e h = search (rules, arith)

one_count : (m n : ℕ) (s : Shape) → IsTrue (takes_members_in m s) → IsTrue (takes_members_in n s) → m ≡ n
one_count m n (like_powerset (part x r b t)) p q = same_count m _ (both _ _ p).0 ∙ sym (same_count n _ (both _ _ q).0)
one_count m n _ p q = absurd (cc)

one_count_parts : (m n : ℕ) (s : Shape) → IsTrue (takes_parts_in m s) → IsTrue (takes_parts_in n s) → m ≡ n
one_count_parts m n (like_chars k) p q = same_count m k p ∙ sym (same_count n k q)
one_count_parts m n (like_array i b e how) p q = same_count m _ p ∙ sym (same_count n _ q)
one_count_parts m n (like_structure fs k) p q = same_count m _ p ∙ sym (same_count n _ q)
one_count_parts m n _ p q = absurd (cc)

mutual
  pub alike : (s : Option Shape) (v w : ValueTree) → IsTrue (fits_in s v) → IsTrue (fits_in s w) → AreAlike v w
  alike None (number a) w p q = absurd (cc)
  alike None (members as') w p q = absurd (cc)
  alike None (parts vs) w p q = absurd (cc)
  alike (Some s) (number a) (number b) p q = record { long = refl; same = and_end (same_int a b) }
  alike (Some s) (number a) (members bs) p q = absurd (no_number_of_members s (length bs) p q)
  alike (Some s) (number a) (parts ws) p q = absurd (no_number_of_parts s (count_values ws) p (both _ _ q).0)
  alike (Some s) (members as') (number b) p q = absurd (no_number_of_members s (length as') q p)
  alike (Some s) (members as') (members bs) p q =
      let long = one_count (length as') (length bs) s p q in
      record { long = numbers_long (numbers_of (length as')) as' bs ∙ ap (λ (n : ℕ). length (numbers_from (numbers_of n) bs)) long; same = members_alike as' bs long }
  alike (Some s) (members as') (parts ws) p q = absurd (no_members_of_parts s (length as') (count_values ws) p (both _ _ q).0)
  alike (Some s) (parts vs) (number b) p q = absurd (no_number_of_parts s (count_values vs) q (both _ _ p).0)
  alike (Some s) (parts vs) (members bs) p q = absurd (no_members_of_parts s (length bs) (count_values vs) q (both _ _ p).0)
  alike (Some s) (parts vs) (parts ws) p q =
      let each = alike_each (Some s) 0 vs ws (one_count_parts (count_values vs) (count_values ws) s (both _ _ p).0 (both _ _ q).0) (both _ _ p).1 (both _ _ q).1 in
      record { long = each.long; same = each.same }

  alike_each : (s : Option Shape) (k : ℕ) (vs ws : ValueNodes) → count_values vs ≡ count_values ws → IsTrue (fit_each_in s k vs) → IsTrue (fit_each_in s k ws) → AreAlikeEach vs ws
  alike_each s k no_values no_values count p q = record { long = refl; same = refl }
  alike_each s k no_values (more_values w ws) count p q = absurd (omega (arith, count))
  alike_each s k (more_values v vs) no_values count p q = absurd (omega (arith, count))
  alike_each s k (more_values v vs) (more_values w ws) count p q =
      let first = alike (part_of_shape k s) v w (both _ _ p).0 (both _ _ q).0 in
      let rest = alike_each s (suc k) vs ws (omega (arith, count)) (both _ _ p).1 (both _ _ q).1 in
      record {
        long = length-append (scalars_in v) (scalars_in_each vs) ∙ ap (λ (n : ℕ). n + length (scalars_in_each vs)) first.long
            ∙ ap (λ (n : ℕ). length (scalars_in w) + n) rest.long ∙ sym (length-append (scalars_in w) (scalars_in_each ws));
        same = numbers_joined (scalars_in v) (scalars_in w) (scalars_in_each vs) (scalars_in_each ws) first.long
            ∙ ap (λ (b : Bool). b && same_numbers (scalars_in_each vs) (scalars_in_each ws)) first.same ∙ ap (λ (b : Bool). same_value v w && b) rest.same;
      }

-- ---- texts

less_step : (le ge r : Bool) → ((le && not ge) || (le && r)) ≡ ((le && not ge) || ((le && ge) && r))
less_step true true r = refl
less_step true false r = refl
less_step false ge r = refl

less_both : (a b : ℤ) → int_lt a b ≡ (int_le a b && not (int_le b a))
less_both (pos a) (pos b) = grind (arith, ints, nat_tests)
less_both (pos a) (negsuc b) = refl
less_both (negsuc a) (pos b) = refl
less_both (negsuc a) (negsuc b) = grind (arith, ints, nat_tests)

pub texts_less : (n k j : ℕ) (vs ws : ValueNodes) → IsTrue (fit_each_in (Some (like_chars n)) k vs) → IsTrue (fit_each_in (Some (like_chars n)) j ws)
    → comes_before (scalars_in_each vs) (scalars_in_each ws) ≡ text_is_less vs ws
texts_less n k j no_values no_values p q = refl
texts_less n k j no_values (more_values (number b) ws) p q = refl
texts_less n k j no_values (more_values (members bs) ws) p q = absurd (cc)
texts_less n k j no_values (more_values (parts xs) ws) p q = absurd (cc)
texts_less n k j (more_values (members bs) vs) ws p q = absurd (cc)
texts_less n k j (more_values (parts xs) vs) ws p q = absurd (cc)
texts_less n k j (more_values (number a) vs) no_values p q = refl
texts_less n k j (more_values (number a) vs) (more_values (members bs) ws) p q = absurd (cc)
texts_less n k j (more_values (number a) vs) (more_values (parts xs) ws) p q = absurd (cc)
texts_less n k j (more_values (number a) vs) (more_values (number b) ws) p q =
    ap (λ (x : Bool). x || (int_le a b && comes_before (scalars_in_each vs) (scalars_in_each ws))) (less_both a b)
    ∙ ap (λ (x : Bool). (int_le a b && not (int_le b a)) || (int_le a b && x)) (texts_less n (suc k) (suc j) vs ws p q)
    ∙ less_step (int_le a b) (int_le b a) (text_is_less vs ws)
