-- The tests of shapes are true exactly where the shapes are equal, and so those of modes and classes where their relations hold.
use Rattle.std.proofs.Common.{◌≡◌, ℕ, ◌==◌, List, Option, Some, None, Bool, true, false, ◌&&◌, refl, ap, ◌∙◌, sym, arith, rules}
use Rattle.std.specs.Prelude.{ℤ, IsTrue}
use Rattle.std.proofs.lemmas.Slice.Eq.{bytes_eq-Decides}
use Rattle.std.specs.Str.{bytes_eq}
use Prim.{search}
use Rattle.checks_model.specs.TestLaws.{SimilarTestLaw, VEquivalentTestLaw, GoesWithTestLaw, CompatibleTestLaw}
use Rattle.std.proofs.Common.{subst}
use Rattle.std.specs.Prelude.{◌↔◌}
use Rattle.modes.specs.declared.mode.Bounds.{Bounds}
use Rattle.modes.specs.ModeTree.{ModeTree, PlaceTree, SpreadTree, words, packed, step}
use Rattle.modes.specs.Roots.{novelty_of}
use Rattle.modes.specs.ModeTree.{value, derived, null, nothing}
use Rattle.modes.specs.Form.{FormTree, form_of, of_int, of_boolean, of_char, of_instance, of_set, of_powerset, of_chars, of_array, of_structure, of_meeting}
use Rattle.checks_model.specs.Alike.{is_instance}
use Rattle.modes.specs.Similar.{Shape, like_int, like_boolean, like_char, like_instance, like_set, like_powerset, like_chars, like_array, like_structure, like_none, part, no_more, next_field, shape_of, Similar, VEquivalent}
use Rattle.checks_model.specs.Alike.{are_similar, are_v_equivalent}
use Rattle.checks_model.specs.Alike.{same_int, same_bool, same_number, same_bounds, same_place_bits, same_some_place, same_spread, same_shape}

both : (a b : Bool) → IsTrue (a && b) → IsTrue a × IsTrue b
both true b h = (refl, h)
both false b h = absurd (search rules)

nat-same : (d e : ℕ) → IsTrue (d == e) → d ≡ e
nat-same d e h = search (rules, arith)

nat-itself : (d : ℕ) → IsTrue (d == d)
nat-itself d = search (rules, arith)

int-same : (a b : ℤ) → IsTrue (same_int a b) → a ≡ b
int-same a b h = search (rules, arith)

int-itself : (a : ℤ) → IsTrue (same_int a a)
int-itself a = search (rules, arith)

bool-same : (a b : Bool) → IsTrue (same_bool a b) → a ≡ b
bool-same true b h = sym h
bool-same false true h = absurd (search rules)
bool-same false false h = refl

text-same : (n m : List ℕ) → IsTrue (bytes_eq n m) → n ≡ m
text-same n m h = (bytes_eq-Decides n m).0 h

number-same : (a b : Option ℕ) → IsTrue (same_number a b) → a ≡ b
number-same None None h = refl
number-same (Some a) (Some b) h = ap Some (nat-same a b h)
number-same None (Some b) h = absurd (search rules)
number-same (Some a) None h = absurd (search rules)

number-itself : (a : Option ℕ) → IsTrue (same_number a a)
number-itself None = refl
number-itself (Some a) = nat-itself a

of-both : (a b : Bool) → IsTrue a → IsTrue b → IsTrue (a && b)
of-both true b p q = q
of-both false b p q = p

bool-itself : (a : Bool) → IsTrue (same_bool a a)
bool-itself true = refl
bool-itself false = refl

text-itself : (n : List ℕ) → IsTrue (bytes_eq n n)
text-itself n = (bytes_eq-Decides n n).1 refl

abbrev limits : ℤ → ℤ → Bounds
limits l h = record { low = l; high = h }

bounds-by : {l h m k : ℤ} → l ≡ m → h ≡ k → limits l h ≡ limits m k
bounds-by {l} {h} {m} {k} p q = ap (λ x. limits x h) p ∙ ap (limits m) q

bounds-same : (a b : Option Bounds) → IsTrue (same_bounds a b) → a ≡ b
bounds-same None None h = refl
bounds-same (Some a) (Some b) h = ap Some (bounds-by (int-same a.low b.low (both _ _ h).0) (int-same a.high b.high (both _ _ h).1))
bounds-same None (Some b) h = absurd (search rules)
bounds-same (Some a) None h = absurd (search rules)

bounds-itself : (a : Option Bounds) → IsTrue (same_bounds a a)
bounds-itself None = refl
bounds-itself (Some a) = of-both _ _ (int-itself a.low) (int-itself a.high)

abbrev place : ℕ → ℕ → ℕ → PlaceTree
place w s e = record { word = w; start = s; end = e }

place-by : {w s e v t f : ℕ} → w ≡ v → s ≡ t → e ≡ f → place w s e ≡ place v t f
place-by {w} {s} {e} {v} {t} {f} p q r = ap (λ x. place x s e) p ∙ ap (λ x. place v x e) q ∙ ap (place v t) r

bits-same : (a b : PlaceTree) → IsTrue (same_place_bits a b) → a ≡ b
bits-same a b h = place-by (nat-same a.word b.word (both _ _ h).0) (nat-same a.start b.start (both _ _ (both _ _ h).1).0) (nat-same a.end b.end (both _ _ (both _ _ h).1).1)

bits-itself : (a : PlaceTree) → IsTrue (same_place_bits a a)
bits-itself a = of-both _ _ (nat-itself a.word) (of-both _ _ (nat-itself a.start) (nat-itself a.end))

some-place-same : (a b : Option PlaceTree) → IsTrue (same_some_place a b) → a ≡ b
some-place-same None None h = refl
some-place-same (Some a) (Some b) h = ap Some (bits-same a b h)
some-place-same None (Some b) h = absurd (search rules)
some-place-same (Some a) None h = absurd (search rules)

some-place-itself : (a : Option PlaceTree) → IsTrue (same_some_place a a)
some-place-itself None = refl
some-place-itself (Some a) = bits-itself a

spread-same : (a b : SpreadTree) → IsTrue (same_spread a b) → a ≡ b
spread-same words words h = refl
spread-same packed packed h = refl
spread-same (step p d) (step q e) h = ap (λ x. step x d) (bits-same p q (both _ _ h).0) ∙ ap (step q) (nat-same d e (both _ _ h).1)
spread-same words packed h = absurd (search rules)
spread-same words (step q e) h = absurd (search rules)
spread-same packed words h = absurd (search rules)
spread-same packed (step q e) h = absurd (search rules)
spread-same (step p d) words h = absurd (search rules)
spread-same (step p d) packed h = absurd (search rules)

spread-itself : (a : SpreadTree) → IsTrue (same_spread a a)
spread-itself words = refl
spread-itself packed = refl
spread-itself (step p d) = of-both _ _ (bits-itself p) (nat-itself d)

pub shape-same : (a b : Shape) → IsTrue (same_shape a b) → a ≡ b
shape-same like_int like_int h = refl
shape-same like_int like_boolean h = absurd (search rules)
shape-same like_int like_char h = absurd (search rules)
shape-same like_int like_instance h = absurd (search rules)
shape-same like_int (like_set y0 y1) h = absurd (search rules)
shape-same like_int (like_powerset y0) h = absurd (search rules)
shape-same like_int (like_chars y0) h = absurd (search rules)
shape-same like_int (like_array y0 y1 y2 y3) h = absurd (search rules)
shape-same like_int (like_structure y0 y1) h = absurd (search rules)
shape-same like_int like_none h = absurd (search rules)
shape-same like_int (part y0 y1 y2 y3) h = absurd (search rules)
shape-same like_int no_more h = absurd (search rules)
shape-same like_int (next_field y0 y1 y2 y3) h = absurd (search rules)
shape-same like_boolean like_int h = absurd (search rules)
shape-same like_boolean like_boolean h = refl
shape-same like_boolean like_char h = absurd (search rules)
shape-same like_boolean like_instance h = absurd (search rules)
shape-same like_boolean (like_set y0 y1) h = absurd (search rules)
shape-same like_boolean (like_powerset y0) h = absurd (search rules)
shape-same like_boolean (like_chars y0) h = absurd (search rules)
shape-same like_boolean (like_array y0 y1 y2 y3) h = absurd (search rules)
shape-same like_boolean (like_structure y0 y1) h = absurd (search rules)
shape-same like_boolean like_none h = absurd (search rules)
shape-same like_boolean (part y0 y1 y2 y3) h = absurd (search rules)
shape-same like_boolean no_more h = absurd (search rules)
shape-same like_boolean (next_field y0 y1 y2 y3) h = absurd (search rules)
shape-same like_char like_int h = absurd (search rules)
shape-same like_char like_boolean h = absurd (search rules)
shape-same like_char like_char h = refl
shape-same like_char like_instance h = absurd (search rules)
shape-same like_char (like_set y0 y1) h = absurd (search rules)
shape-same like_char (like_powerset y0) h = absurd (search rules)
shape-same like_char (like_chars y0) h = absurd (search rules)
shape-same like_char (like_array y0 y1 y2 y3) h = absurd (search rules)
shape-same like_char (like_structure y0 y1) h = absurd (search rules)
shape-same like_char like_none h = absurd (search rules)
shape-same like_char (part y0 y1 y2 y3) h = absurd (search rules)
shape-same like_char no_more h = absurd (search rules)
shape-same like_char (next_field y0 y1 y2 y3) h = absurd (search rules)
shape-same like_instance like_int h = absurd (search rules)
shape-same like_instance like_boolean h = absurd (search rules)
shape-same like_instance like_char h = absurd (search rules)
shape-same like_instance like_instance h = refl
shape-same like_instance (like_set y0 y1) h = absurd (search rules)
shape-same like_instance (like_powerset y0) h = absurd (search rules)
shape-same like_instance (like_chars y0) h = absurd (search rules)
shape-same like_instance (like_array y0 y1 y2 y3) h = absurd (search rules)
shape-same like_instance (like_structure y0 y1) h = absurd (search rules)
shape-same like_instance like_none h = absurd (search rules)
shape-same like_instance (part y0 y1 y2 y3) h = absurd (search rules)
shape-same like_instance no_more h = absurd (search rules)
shape-same like_instance (next_field y0 y1 y2 y3) h = absurd (search rules)
shape-same (like_set x0 x1) like_int h = absurd (search rules)
shape-same (like_set x0 x1) like_boolean h = absurd (search rules)
shape-same (like_set x0 x1) like_char h = absurd (search rules)
shape-same (like_set x0 x1) like_instance h = absurd (search rules)
shape-same (like_set x0 x1) (like_set y0 y1) h = ap (λ z. like_set z x1) (nat-same x0 y0 (both _ _ h).0) ∙ ap (λ z. like_set y0 z) (nat-same x1 y1 (both _ _ h).1)
shape-same (like_set x0 x1) (like_powerset y0) h = absurd (search rules)
shape-same (like_set x0 x1) (like_chars y0) h = absurd (search rules)
shape-same (like_set x0 x1) (like_array y0 y1 y2 y3) h = absurd (search rules)
shape-same (like_set x0 x1) (like_structure y0 y1) h = absurd (search rules)
shape-same (like_set x0 x1) like_none h = absurd (search rules)
shape-same (like_set x0 x1) (part y0 y1 y2 y3) h = absurd (search rules)
shape-same (like_set x0 x1) no_more h = absurd (search rules)
shape-same (like_set x0 x1) (next_field y0 y1 y2 y3) h = absurd (search rules)
shape-same (like_powerset x0) like_int h = absurd (search rules)
shape-same (like_powerset x0) like_boolean h = absurd (search rules)
shape-same (like_powerset x0) like_char h = absurd (search rules)
shape-same (like_powerset x0) like_instance h = absurd (search rules)
shape-same (like_powerset x0) (like_set y0 y1) h = absurd (search rules)
shape-same (like_powerset x0) (like_powerset y0) h = ap (λ z. like_powerset z) (shape-same x0 y0 h)
shape-same (like_powerset x0) (like_chars y0) h = absurd (search rules)
shape-same (like_powerset x0) (like_array y0 y1 y2 y3) h = absurd (search rules)
shape-same (like_powerset x0) (like_structure y0 y1) h = absurd (search rules)
shape-same (like_powerset x0) like_none h = absurd (search rules)
shape-same (like_powerset x0) (part y0 y1 y2 y3) h = absurd (search rules)
shape-same (like_powerset x0) no_more h = absurd (search rules)
shape-same (like_powerset x0) (next_field y0 y1 y2 y3) h = absurd (search rules)
shape-same (like_chars x0) like_int h = absurd (search rules)
shape-same (like_chars x0) like_boolean h = absurd (search rules)
shape-same (like_chars x0) like_char h = absurd (search rules)
shape-same (like_chars x0) like_instance h = absurd (search rules)
shape-same (like_chars x0) (like_set y0 y1) h = absurd (search rules)
shape-same (like_chars x0) (like_powerset y0) h = absurd (search rules)
shape-same (like_chars x0) (like_chars y0) h = ap (λ z. like_chars z) (nat-same x0 y0 h)
shape-same (like_chars x0) (like_array y0 y1 y2 y3) h = absurd (search rules)
shape-same (like_chars x0) (like_structure y0 y1) h = absurd (search rules)
shape-same (like_chars x0) like_none h = absurd (search rules)
shape-same (like_chars x0) (part y0 y1 y2 y3) h = absurd (search rules)
shape-same (like_chars x0) no_more h = absurd (search rules)
shape-same (like_chars x0) (next_field y0 y1 y2 y3) h = absurd (search rules)
shape-same (like_array x0 x1 x2 x3) like_int h = absurd (search rules)
shape-same (like_array x0 x1 x2 x3) like_boolean h = absurd (search rules)
shape-same (like_array x0 x1 x2 x3) like_char h = absurd (search rules)
shape-same (like_array x0 x1 x2 x3) like_instance h = absurd (search rules)
shape-same (like_array x0 x1 x2 x3) (like_set y0 y1) h = absurd (search rules)
shape-same (like_array x0 x1 x2 x3) (like_powerset y0) h = absurd (search rules)
shape-same (like_array x0 x1 x2 x3) (like_chars y0) h = absurd (search rules)
shape-same (like_array x0 x1 x2 x3) (like_array y0 y1 y2 y3) h = ap (λ z. like_array z x1 x2 x3) (shape-same x0 y0 (both _ _ (both _ _ h).0).0) ∙ ap (λ z. like_array y0 z x2 x3) (bounds-same x1 y1 (both _ _ (both _ _ h).0).1) ∙ ap (λ z. like_array y0 y1 z x3) (shape-same x2 y2 (both _ _ (both _ _ h).1).0) ∙ ap (λ z. like_array y0 y1 y2 z) (spread-same x3 y3 (both _ _ (both _ _ h).1).1)
shape-same (like_array x0 x1 x2 x3) (like_structure y0 y1) h = absurd (search rules)
shape-same (like_array x0 x1 x2 x3) like_none h = absurd (search rules)
shape-same (like_array x0 x1 x2 x3) (part y0 y1 y2 y3) h = absurd (search rules)
shape-same (like_array x0 x1 x2 x3) no_more h = absurd (search rules)
shape-same (like_array x0 x1 x2 x3) (next_field y0 y1 y2 y3) h = absurd (search rules)
shape-same (like_structure x0 x1) like_int h = absurd (search rules)
shape-same (like_structure x0 x1) like_boolean h = absurd (search rules)
shape-same (like_structure x0 x1) like_char h = absurd (search rules)
shape-same (like_structure x0 x1) like_instance h = absurd (search rules)
shape-same (like_structure x0 x1) (like_set y0 y1) h = absurd (search rules)
shape-same (like_structure x0 x1) (like_powerset y0) h = absurd (search rules)
shape-same (like_structure x0 x1) (like_chars y0) h = absurd (search rules)
shape-same (like_structure x0 x1) (like_array y0 y1 y2 y3) h = absurd (search rules)
shape-same (like_structure x0 x1) (like_structure y0 y1) h = ap (λ z. like_structure z x1) (shape-same x0 y0 (both _ _ h).0) ∙ ap (λ z. like_structure y0 z) (bool-same x1 y1 (both _ _ h).1)
shape-same (like_structure x0 x1) like_none h = absurd (search rules)
shape-same (like_structure x0 x1) (part y0 y1 y2 y3) h = absurd (search rules)
shape-same (like_structure x0 x1) no_more h = absurd (search rules)
shape-same (like_structure x0 x1) (next_field y0 y1 y2 y3) h = absurd (search rules)
shape-same like_none like_int h = absurd (search rules)
shape-same like_none like_boolean h = absurd (search rules)
shape-same like_none like_char h = absurd (search rules)
shape-same like_none like_instance h = absurd (search rules)
shape-same like_none (like_set y0 y1) h = absurd (search rules)
shape-same like_none (like_powerset y0) h = absurd (search rules)
shape-same like_none (like_chars y0) h = absurd (search rules)
shape-same like_none (like_array y0 y1 y2 y3) h = absurd (search rules)
shape-same like_none (like_structure y0 y1) h = absurd (search rules)
shape-same like_none like_none h = refl
shape-same like_none (part y0 y1 y2 y3) h = absurd (search rules)
shape-same like_none no_more h = absurd (search rules)
shape-same like_none (next_field y0 y1 y2 y3) h = absurd (search rules)
shape-same (part x0 x1 x2 x3) like_int h = absurd (search rules)
shape-same (part x0 x1 x2 x3) like_boolean h = absurd (search rules)
shape-same (part x0 x1 x2 x3) like_char h = absurd (search rules)
shape-same (part x0 x1 x2 x3) like_instance h = absurd (search rules)
shape-same (part x0 x1 x2 x3) (like_set y0 y1) h = absurd (search rules)
shape-same (part x0 x1 x2 x3) (like_powerset y0) h = absurd (search rules)
shape-same (part x0 x1 x2 x3) (like_chars y0) h = absurd (search rules)
shape-same (part x0 x1 x2 x3) (like_array y0 y1 y2 y3) h = absurd (search rules)
shape-same (part x0 x1 x2 x3) (like_structure y0 y1) h = absurd (search rules)
shape-same (part x0 x1 x2 x3) like_none h = absurd (search rules)
shape-same (part x0 x1 x2 x3) (part y0 y1 y2 y3) h = ap (λ z. part z x1 x2 x3) (number-same x0 y0 (both _ _ (both _ _ h).0).0) ∙ ap (λ z. part y0 z x2 x3) (bool-same x1 y1 (both _ _ (both _ _ h).0).1) ∙ ap (λ z. part y0 y1 z x3) (bounds-same x2 y2 (both _ _ (both _ _ h).1).0) ∙ ap (λ z. part y0 y1 y2 z) (shape-same x3 y3 (both _ _ (both _ _ h).1).1)
shape-same (part x0 x1 x2 x3) no_more h = absurd (search rules)
shape-same (part x0 x1 x2 x3) (next_field y0 y1 y2 y3) h = absurd (search rules)
shape-same no_more like_int h = absurd (search rules)
shape-same no_more like_boolean h = absurd (search rules)
shape-same no_more like_char h = absurd (search rules)
shape-same no_more like_instance h = absurd (search rules)
shape-same no_more (like_set y0 y1) h = absurd (search rules)
shape-same no_more (like_powerset y0) h = absurd (search rules)
shape-same no_more (like_chars y0) h = absurd (search rules)
shape-same no_more (like_array y0 y1 y2 y3) h = absurd (search rules)
shape-same no_more (like_structure y0 y1) h = absurd (search rules)
shape-same no_more like_none h = absurd (search rules)
shape-same no_more (part y0 y1 y2 y3) h = absurd (search rules)
shape-same no_more no_more h = refl
shape-same no_more (next_field y0 y1 y2 y3) h = absurd (search rules)
shape-same (next_field x0 x1 x2 x3) like_int h = absurd (search rules)
shape-same (next_field x0 x1 x2 x3) like_boolean h = absurd (search rules)
shape-same (next_field x0 x1 x2 x3) like_char h = absurd (search rules)
shape-same (next_field x0 x1 x2 x3) like_instance h = absurd (search rules)
shape-same (next_field x0 x1 x2 x3) (like_set y0 y1) h = absurd (search rules)
shape-same (next_field x0 x1 x2 x3) (like_powerset y0) h = absurd (search rules)
shape-same (next_field x0 x1 x2 x3) (like_chars y0) h = absurd (search rules)
shape-same (next_field x0 x1 x2 x3) (like_array y0 y1 y2 y3) h = absurd (search rules)
shape-same (next_field x0 x1 x2 x3) (like_structure y0 y1) h = absurd (search rules)
shape-same (next_field x0 x1 x2 x3) like_none h = absurd (search rules)
shape-same (next_field x0 x1 x2 x3) (part y0 y1 y2 y3) h = absurd (search rules)
shape-same (next_field x0 x1 x2 x3) no_more h = absurd (search rules)
shape-same (next_field x0 x1 x2 x3) (next_field y0 y1 y2 y3) h = ap (λ z. next_field z x1 x2 x3) (text-same x0 y0 (both _ _ (both _ _ h).0).0) ∙ ap (λ z. next_field y0 z x2 x3) (some-place-same x1 y1 (both _ _ (both _ _ h).0).1) ∙ ap (λ z. next_field y0 y1 z x3) (shape-same x2 y2 (both _ _ (both _ _ h).1).0) ∙ ap (λ z. next_field y0 y1 y2 z) (shape-same x3 y3 (both _ _ (both _ _ h).1).1)

pub shape-itself : (a : Shape) → IsTrue (same_shape a a)
shape-itself like_int = refl
shape-itself like_boolean = refl
shape-itself like_char = refl
shape-itself like_instance = refl
shape-itself (like_set x0 x1) = (of-both _ _ (nat-itself x0) (nat-itself x1))
shape-itself (like_powerset x0) = (shape-itself x0)
shape-itself (like_chars x0) = (nat-itself x0)
shape-itself (like_array x0 x1 x2 x3) = (of-both _ _ (of-both _ _ (shape-itself x0) (bounds-itself x1)) (of-both _ _ (shape-itself x2) (spread-itself x3)))
shape-itself (like_structure x0 x1) = (of-both _ _ (shape-itself x0) (bool-itself x1))
shape-itself like_none = refl
shape-itself (part x0 x1 x2 x3) = (of-both _ _ (of-both _ _ (number-itself x0) (bool-itself x1)) (of-both _ _ (bounds-itself x2) (shape-itself x3)))
shape-itself no_more = refl
shape-itself (next_field x0 x1 x2 x3) = (of-both _ _ (of-both _ _ (text-itself x0) (some-place-itself x1)) (of-both _ _ (shape-itself x2) (shape-itself x3)))

-- the test of similar modes is true exactly where they are similar
pub similar-test : (a b : ModeTree) → IsTrue (are_similar a b) ↔ Similar a b
similar-test a b = (λ h. record { shape = shape-same (shape_of a) (shape_of b) (both _ _ h).0; values = (both _ _ h).1 }, λ s. of-both _ _ (subst (λ (x : Shape). IsTrue (same_shape (shape_of a) x)) s.shape (shape-itself (shape_of a))) s.values)

pub v-equivalent-test : (a b : ModeTree) → IsTrue (are_v_equivalent a b) ↔ VEquivalent a b
v-equivalent-test a b = (λ h. record { similar = (similar-test a b).0 (both _ _ h).0; novelty = number-same _ _ (both _ _ h).1 }, λ s. of-both _ _ ((similar-test a b).1 s.similar) (subst (λ (x : Option ℕ). IsTrue (same_number (novelty_of a) x)) s.novelty (number-itself (novelty_of a))))

instance-test : (f : FormTree) → IsTrue (is_instance f) ↔ (f ≡ of_instance)
instance-test of_instance = (λ h. refl, λ h. refl)
instance-test of_int = (λ h. absurd (search rules), λ h. absurd (search rules))
instance-test of_boolean = (λ h. absurd (search rules), λ h. absurd (search rules))
instance-test of_char = (λ h. absurd (search rules), λ h. absurd (search rules))
instance-test (of_set d n) = (λ h. absurd (search rules), λ h. absurd (search rules))
instance-test (of_powerset m) = (λ h. absurd (search rules), λ h. absurd (search rules))
instance-test (of_chars n) = (λ h. absurd (search rules), λ h. absurd (search rules))
instance-test (of_array i e how) = (λ h. absurd (search rules), λ h. absurd (search rules))
instance-test (of_structure fs p) = (λ h. absurd (search rules), λ h. absurd (search rules))
instance-test of_meeting = (λ h. absurd (search rules), λ h. absurd (search rules))

-- ---- the laws

pub similar_tested : SimilarTestLaw
similar_tested = similar-test

pub v_equivalent_tested : VEquivalentTestLaw
v_equivalent_tested = v-equivalent-test

pub goes_tested : GoesWithTestLaw
goes_tested (value n) m = v-equivalent-test n m
goes_tested (derived n) m = similar-test n m
goes_tested null m = instance-test (form_of m)
goes_tested nothing m = ((λ h. absurd (search rules)), (λ h. absurd h))

pub compatible_tested : CompatibleTestLaw
compatible_tested (value a) (value b) = v-equivalent-test a b
compatible_tested (value a) (derived b) = similar-test a b
compatible_tested (derived a) (value b) = similar-test a b
compatible_tested (derived a) (derived b) = similar-test a b
compatible_tested (value a) null = instance-test (form_of a)
compatible_tested (derived a) null = instance-test (form_of a)
compatible_tested null (value b) = instance-test (form_of b)
compatible_tested null (derived b) = instance-test (form_of b)
compatible_tested null null = ((λ h. tt), (λ h. refl))
compatible_tested nothing (value b) = ((λ h. absurd (search rules)), (λ h. absurd h))
compatible_tested nothing (derived b) = ((λ h. absurd (search rules)), (λ h. absurd h))
compatible_tested nothing null = ((λ h. absurd (search rules)), (λ h. absurd h))
compatible_tested nothing nothing = ((λ h. absurd (search rules)), (λ h. absurd h))
compatible_tested (value a) nothing = ((λ h. absurd (search rules)), (λ h. absurd h))
compatible_tested (derived a) nothing = ((λ h. absurd (search rules)), (λ h. absurd h))
compatible_tested null nothing = ((λ h. absurd (search rules)), (λ h. absurd h))
