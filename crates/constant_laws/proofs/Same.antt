-- Shapes that pass the test of one shape are one.
use Rattle.std.proofs.Common.{◌≡◌, ℕ, ◌==◌, ◌&&◌, Bool, true, false, List, Option, Some, None, ℤ, refl, sym, ap, ◌∙◌, arith, true≢false}
use Rattle.std.proofs.lemmas.Int.{ints}
use Rattle.std.proofs.lemmas.Bool.{eqb-true}
use Rattle.std.proofs.lemmas.Slice.Eq.{bytes_eq-Decides}
use Rattle.std.specs.Prelude.{int_le, not}
use Rattle.std.specs.Str.{bytes_eq}
use Rattle.modes.specs.declared.mode.Bounds.{Bounds}
use Rattle.modes.specs.ModeTree.{ModeTree, PlaceTree, SpreadTree, words, packed, step}
use Rattle.modes.specs.Similar.{Similar, Shape, shape_of, has_values, like_int, like_boolean, like_char, like_instance, like_set, like_powerset, like_chars, like_array, like_structure, like_none, part, no_more, next_field}
use Rattle.checks_model.specs.Alike.{same_int, same_bool, same_number, same_bounds, same_place_bits, same_some_place, same_spread, same_shape, are_similar}
use Rattle.elaborated_laws.proofs.Told.{both_left, both_right}

same_ints : (a b : ℤ) → same_int a b ≡ true → a ≡ b
same_ints a b h =
    let low = both_left (int_le a b) (int_le b a) h in
    let high = both_right (int_le a b) (int_le b a) h in
    grind (arith, ints, low, high)

same_bools : (a b : Bool) → same_bool a b ≡ true → a ≡ b
same_bools true b h = sym h
same_bools false false h = refl
same_bools false true h = absurd (true≢false (sym h))

same_numbers : (a b : Option ℕ) → same_number a b ≡ true → a ≡ b
same_numbers None None h = refl
same_numbers (Some a) (Some b) h = ap Some (eqb-true a b h)
same_numbers a b h = absurd (true≢false (sym h))

abbrev limits : ℤ → ℤ → Bounds
limits l h = record { low = l; high = h }

same_limits : (a b : Option Bounds) → same_bounds a b ≡ true → a ≡ b
same_limits None None h = refl
same_limits (Some a) (Some b) h =
    let low = same_ints a.low b.low (both_left (same_int a.low b.low) (same_int a.high b.high) h) in
    let high = same_ints a.high b.high (both_right (same_int a.low b.low) (same_int a.high b.high) h) in
    ap (λ x. Some (limits x a.high)) low ∙ ap (λ x. Some (limits b.low x)) high
same_limits a b h = absurd (true≢false (sym h))

abbrev place : ℕ → ℕ → ℕ → PlaceTree
place w s e = record { word = w; start = s; end = e }

same_places : (a b : PlaceTree) → same_place_bits a b ≡ true → a ≡ b
same_places a b h =
    let rest = both_right (a.word == b.word) ((a.start == b.start) && (a.end == b.end)) h in
    let word = eqb-true a.word b.word (both_left (a.word == b.word) ((a.start == b.start) && (a.end == b.end)) h) in
    let start = eqb-true a.start b.start (both_left (a.start == b.start) (a.end == b.end) rest) in
    let end = eqb-true a.end b.end (both_right (a.start == b.start) (a.end == b.end) rest) in
    ap (λ x. place x a.start a.end) word ∙ (ap (λ x. place b.word x a.end) start ∙ ap (place b.word b.start) end)

same_some_places : (a b : Option PlaceTree) → same_some_place a b ≡ true → a ≡ b
same_some_places None None h = refl
same_some_places (Some a) (Some b) h = ap Some (same_places a b h)
same_some_places a b h = absurd (true≢false (sym h))

same_spreads : (a b : SpreadTree) → same_spread a b ≡ true → a ≡ b
same_spreads words words h = refl
same_spreads packed packed h = refl
same_spreads (step p d) (step q e) h =
    ap (λ x. step x d) (same_places p q (both_left (same_place_bits p q) (d == e) h)) ∙ ap (step q) (eqb-true d e (both_right (same_place_bits p q) (d == e) h))
same_spreads a b h = absurd (true≢false (sym h))

same_texts : (a b : List ℕ) → bytes_eq a b ≡ true → a ≡ b
same_texts a b h = (bytes_eq-Decides a b).0 h

pub same_shapes : (a b : Shape) → same_shape a b ≡ true → a ≡ b
same_shapes like_int like_int h = refl
same_shapes like_boolean like_boolean h = refl
same_shapes like_char like_char h = refl
same_shapes like_instance like_instance h = refl
same_shapes (like_set d n) (like_set e m) h = ap (λ x. like_set x n) (eqb-true d e (both_left (d == e) (n == m) h)) ∙ ap (like_set e) (eqb-true n m (both_right (d == e) (n == m) h))
same_shapes (like_powerset a) (like_powerset b) h = ap like_powerset (same_shapes a b h)
same_shapes (like_chars n) (like_chars m) h = ap like_chars (eqb-true n m h)
same_shapes (like_array i b e how) (like_array j c f with') h =
    let first = both_left (same_shape i j && same_bounds b c) (same_shape e f && same_spread how with') h in
    let later = both_right (same_shape i j && same_bounds b c) (same_shape e f && same_spread how with') h in
    ap (λ x. like_array x b e how) (same_shapes i j (both_left (same_shape i j) (same_bounds b c) first))
    ∙ (ap (λ x. like_array j x e how) (same_limits b c (both_right (same_shape i j) (same_bounds b c) first))
    ∙ (ap (λ x. like_array j c x how) (same_shapes e f (both_left (same_shape e f) (same_spread how with') later)) ∙ ap (like_array j c f) (same_spreads how with' (both_right (same_shape e f) (same_spread how with') later))))
same_shapes (like_structure fs p) (like_structure gs q) h =
    ap (λ x. like_structure x p) (same_shapes fs gs (both_left (same_shape fs gs) (same_bool p q) h)) ∙ ap (like_structure gs) (same_bools p q (both_right (same_shape fs gs) (same_bool p q) h))
same_shapes like_none like_none h = refl
same_shapes (part n r b a) (part m s c d) h =
    let first = both_left (same_number n m && same_bool r s) (same_bounds b c && same_shape a d) h in
    let later = both_right (same_number n m && same_bool r s) (same_bounds b c && same_shape a d) h in
    ap (λ x. part x r b a) (same_numbers n m (both_left (same_number n m) (same_bool r s) first))
    ∙ (ap (λ x. part m x b a) (same_bools r s (both_right (same_number n m) (same_bool r s) first))
    ∙ (ap (λ x. part m s x a) (same_limits b c (both_left (same_bounds b c) (same_shape a d) later)) ∙ ap (part m s c) (same_shapes a d (both_right (same_bounds b c) (same_shape a d) later))))
same_shapes no_more no_more h = refl
same_shapes (next_field n at a fs) (next_field m bt b gs) h =
    let first = both_left (bytes_eq n m && same_some_place at bt) (same_shape a b && same_shape fs gs) h in
    let later = both_right (bytes_eq n m && same_some_place at bt) (same_shape a b && same_shape fs gs) h in
    ap (λ x. next_field x at a fs) (same_texts n m (both_left (bytes_eq n m) (same_some_place at bt) first))
    ∙ (ap (λ x. next_field m x a fs) (same_some_places at bt (both_right (bytes_eq n m) (same_some_place at bt) first))
    ∙ (ap (λ x. next_field m bt x fs) (same_shapes a b (both_left (same_shape a b) (same_shape fs gs) later)) ∙ ap (next_field m bt b) (same_shapes fs gs (both_right (same_shape a b) (same_shape fs gs) later))))
same_shapes a b h = absurd (true≢false (sym h))

-- modes that pass the test are similar
pub are_alike : (a b : ModeTree) → are_similar a b ≡ true → Similar a b
are_alike a b h = record { shape = same_shapes (shape_of a) (shape_of b) (both_left (same_shape (shape_of a) (shape_of b)) (has_values (shape_of a)) h); values = both_right (same_shape (shape_of a) (shape_of b)) (has_values (shape_of a)) h }
