-- The lowest value of a mode as a tree, and its scalars.
use Rattle.std.proofs.Common.{◌≡◌, ℕ, zero, suc, ◌+◌, ◌*◌, ◌≤◌, List, [], ◌∷◌, ◌++◌, replicate, map, refl, sym, ap, ◌∙◌, subst, arith}
use Rattle.std.specs.Prelude.{ℤ, pos, min, Bool, IsTrue, Option, Some, None}
use Rattle.std.specs.List.{flat_map}
use Rattle.std.proofs.lemmas.List.{map-append}
use Rattle.std.proofs.lemmas.List.Folds.{flat_map-map}
use Rattle.kernel_base.specs.declared.value.Value.{Value, fold-Value, fold-roll-Value}
use Rattle.kernel_base.specs.declared.value.Value.TheOpen as layer
use Rattle.kernel_base.specs.declared.value.Value.TheVariants as made
use Rattle.kernel_base.specs.declared.value.ScalarKind.TheVariants.{Plain, Powerset}
use Rattle.kernel_base.specs.Value.{scalars_of, kinds_of, kinds_from, numbers_from, powersets_in, powersets_of}
use Rattle.kernel_base.proofs.Layers.{scalars_of-Number, scalars_of-Members, scalars_of-Parts, kinds_of-Number, kinds_of-Members, kinds_of-Parts}
use Rattle.modes.specs.declared.mode.Bounds.{Bounds}
use Rattle.modes.specs.ModeTree.{ModeTree, int, boolean, char, instance, set_of, range, powerset, chars, array, structure, event, buffer, read, named, FieldNodes, no_fields, more_fields}
use Rattle.modes.specs.Bounds.{bounds_of, values_of}
use Rattle.modes.specs.Scalars.{numbers_of, repeated, lowest_of, lowest_of_fields}
use Rattle.modes.specs.Language.{parts_fit, fields_fit}
use Rattle.modes.proofs.SimilarLemmas.{both}
use Rattle.layout_map.proofs.Steps.{le-from}
use Rattle.source_meaning.specs.Values.{domain_in, member_domains, domains_of, domains_of_fields}
use Rattle.source_meaning.specs.Facts.{kind_of, lowest_powersets_of, lowest_powersets_of_fields}
use Rattle.code_gen.specs.Lowest.{lowest_value, lowest_values}

powersets_of-Number : (number : ℤ) → powersets_of (made.Number number) ≡ []
unfolding powersets_of
powersets_of-Number number = ap (fold-Value (List (ℕ × List ℕ)) powersets_in) (sym (made.rolls-Number number)) ∙ fold-roll-Value (List (ℕ × List ℕ)) powersets_in (layer.Number number)

powersets_of-Members : (size : ℕ) (offsets : List ℕ) → powersets_of (made.Members size offsets) ≡ (size, offsets) ∷ []
unfolding powersets_of
powersets_of-Members size offsets = ap (fold-Value (List (ℕ × List ℕ)) powersets_in) (sym (made.rolls-Members size offsets)) ∙ fold-roll-Value (List (ℕ × List ℕ)) powersets_in (layer.Members size offsets)

powersets_of-Parts : (parts : List Value) → powersets_of (made.Parts parts) ≡ flat_map powersets_of parts
unfolding powersets_of
powersets_of-Parts parts =
    ap (fold-Value (List (ℕ × List ℕ)) powersets_in) (sym (made.rolls-Parts parts)) ∙ fold-roll-Value (List (ℕ × List ℕ)) powersets_in (layer.Parts parts)
    ∙ flat_map-map (λ xs. xs) (fold-Value (List (ℕ × List ℕ)) powersets_in) parts

-- ---- lists

all_of_one : {A B : Type 0} (f : A → List B) (n : ℕ) (x : A) → flat_map f (replicate n x) ≡ repeated n (f x)
all_of_one f zero x = refl
all_of_one f (suc n) x = ap (λ ys. f x ++ ys) (all_of_one f n x)

map_repeated : {A B : Type 0} (f : A → B) (n : ℕ) (xs : List A) → map f (repeated n xs) ≡ repeated n (map f xs)
map_repeated f zero xs = refl
map_repeated f (suc n) xs = map-append f xs (repeated n xs) ∙ ap (λ ys. map f xs ++ ys) (map_repeated f n xs)

single_ones : {A : Type 0} (n : ℕ) (x : A) → repeated n (x ∷ []) ≡ replicate n x
single_ones zero x = refl
single_ones (suc n) x = ap (λ ys. x ∷ ys) (single_ones n x)

map_same : {A B : Type 0} (f : A → B) (n : ℕ) (x : A) → map f (replicate n x) ≡ replicate n (f x)
map_same f zero x = refl
map_same f (suc n) x = ap (λ ys. f x ∷ ys) (map_same f n x)

no_pairs : {A : Type 0} (n : ℕ) → ◌≡◌ {A = List A} (repeated n []) []
no_pairs zero = refl
no_pairs (suc n) = no_pairs n

-- ---- powersets

no_numbers : (j n : ℕ) → numbers_from [] j n ≡ replicate n (pos 0)
no_numbers j zero = refl
no_numbers j (suc n) = ap (λ ys. pos 0 ∷ ys) (no_numbers (suc j) n)

member_kinds : (size j first n : ℕ) → first ≡ 32 * j → map kind_of (member_domains size first n) ≡ kinds_from size j n
member_kinds size j first zero e = refl
member_kinds size j first (suc n) e =
    ap (λ (k : ℕ). Powerset size k ∷ map kind_of (member_domains size (first + 32) n)) e
    ∙ ap (λ ys. Powerset size (32 * j) ∷ ys) (member_kinds size (suc j) (first + 32) n (omega (arith, e)))

few_members : (n : ℕ) → n ≤ 32 → min n 4294967295 ≡ n
few_members n h = omega (arith, h)

-- ---- values

-- the tree has the scalars of the mode's lowest value, their kinds and its powersets
pub record IsLowest (m : ModeTree) (value : Value) : Type 0 where
  pub scalars : scalars_of value ≡ lowest_of m
  pub kinds : kinds_of value ≡ map kind_of (domains_of m)
  pub powersets : powersets_of value ≡ lowest_powersets_of m

-- so do those of the fields
record AreLowest (fs : FieldNodes) (values : List Value) : Type 0 where
  pub scalars : flat_map scalars_of values ≡ lowest_of_fields fs
  pub kinds : flat_map kinds_of values ≡ map kind_of (domains_of_fields fs)
  pub powersets : flat_map powersets_of values ≡ lowest_powersets_of_fields fs

plain_kind : (o : Option Bounds) → kind_of (domain_in o) ≡ Plain
plain_kind None = refl
plain_kind (Some b) = refl

-- a mode of one number
number_lowest : (m : ModeTree) (o : Option Bounds) (z : ℤ) → lowest_of m ≡ z ∷ [] → domains_of m ≡ domain_in o ∷ [] → lowest_powersets_of m ≡ [] → IsLowest m (made.Number z)
number_lowest m o z low domains powersets = record {
  scalars = scalars_of-Number z ∙ sym low;
  kinds = kinds_of-Number z ∙ (ap (λ k. k ∷ []) (sym (plain_kind o)) ∙ ap (map kind_of) (sym domains));
  powersets = powersets_of-Number z ∙ sym powersets;
}

powerset_lowest : (m : ModeTree) → values_of m ≤ 32 → IsLowest (powerset m) (made.Members (values_of m) [])
powerset_lowest m few = record {
  scalars = scalars_of-Members (values_of m) [] ∙ no_numbers 0 (numbers_of (values_of m));
  kinds = kinds_of-Members (values_of m) [] ∙ sym (member_kinds (values_of m) 0 0 (numbers_of (values_of m)) (omega arith));
  powersets = powersets_of-Members (values_of m) [];
}

chars_lowest : (n : ℕ) → IsLowest (chars n) (made.Parts (replicate n (made.Number (pos 32))))
chars_lowest n =
    let blank : Value = made.Number (pos 32) in
    record {
      scalars = scalars_of-Parts (replicate n blank) ∙ (all_of_one scalars_of n blank ∙ (ap (repeated n) (scalars_of-Number (pos 32)) ∙ single_ones n (pos 32)));
      kinds = kinds_of-Parts (replicate n blank) ∙ (all_of_one kinds_of n blank ∙ (ap (repeated n) (kinds_of-Number (pos 32)) ∙ (single_ones n Plain ∙ sym (map_same kind_of n (domain_in (bounds_of char))))));
      powersets = powersets_of-Parts (replicate n blank) ∙ (all_of_one powersets_of n blank ∙ (ap (repeated n) (powersets_of-Number (pos 32)) ∙ no_pairs n));
    }

array_lowest : (n : ℕ) (e : ModeTree) (value : Value) (m : ModeTree) → IsLowest e value
    → lowest_of m ≡ repeated n (lowest_of e) → domains_of m ≡ repeated n (domains_of e) → lowest_powersets_of m ≡ repeated n (lowest_powersets_of e)
    → IsLowest m (made.Parts (replicate n value))
array_lowest n e value m is low domains powersets = record {
  scalars = scalars_of-Parts (replicate n value) ∙ (all_of_one scalars_of n value ∙ (ap (repeated n) is.scalars ∙ sym low));
  kinds = kinds_of-Parts (replicate n value) ∙ (all_of_one kinds_of n value ∙ (ap (repeated n) is.kinds ∙ (sym (map_repeated kind_of n (domains_of e)) ∙ ap (map kind_of) (sym domains))));
  powersets = powersets_of-Parts (replicate n value) ∙ (all_of_one powersets_of n value ∙ (ap (repeated n) is.powersets ∙ sym powersets));
}

parts_lowest : (fs : FieldNodes) (p : Bool) (values : List Value) → AreLowest fs values → IsLowest (structure fs p) (made.Parts values)
parts_lowest fs p values are = record {
  scalars = scalars_of-Parts values ∙ are.scalars;
  kinds = kinds_of-Parts values ∙ are.kinds;
  powersets = powersets_of-Parts values ∙ are.powersets;
}

no_parts : (m : ModeTree) → lowest_of m ≡ [] → domains_of m ≡ [] → lowest_powersets_of m ≡ [] → IsLowest m (made.Parts [])
no_parts m low domains powersets = record {
  scalars = scalars_of-Parts [] ∙ sym low;
  kinds = kinds_of-Parts [] ∙ ap (map kind_of) (sym domains);
  powersets = powersets_of-Parts [] ∙ sym powersets;
}

mutual
  -- the tree of a mode that a text can give is that of its lowest value
  pub lowest_is : (m : ModeTree) → IsTrue (parts_fit m) → IsLowest m (lowest_value m)
  lowest_is int f = number_lowest int (bounds_of int) (pos 0) refl refl refl
  lowest_is boolean f = number_lowest boolean (bounds_of boolean) (pos 0) refl refl refl
  lowest_is char f = number_lowest char (bounds_of char) (pos 0) refl refl refl
  lowest_is instance f = number_lowest instance None (pos 0) refl refl refl
  lowest_is (set_of d n) f = number_lowest (set_of d n) (bounds_of (set_of d n)) (pos 0) refl refl refl
  lowest_is (range p l h) f = number_lowest (range p l h) (bounds_of (range p l h)) l refl refl refl
  lowest_is (powerset m) f =
      let few : values_of m ≤ 32 = le-from (values_of m) 32 (both _ _ (both _ _ f).1).1 in
      subst (λ (n : ℕ). IsLowest (powerset m) (made.Members n [])) (sym (few_members (values_of m) few)) (powerset_lowest m few)
  lowest_is (chars n) f = chars_lowest n
  lowest_is (array i e how) f = array_lowest (values_of i) e (lowest_value e) (array i e how) (lowest_is e (both _ _ (both _ _ f).1).1) refl refl refl
  lowest_is (structure fs p) f = parts_lowest fs p (lowest_values fs) (fields_lowest fs (both _ _ f).1)
  lowest_is (event l) f = no_parts (event l) refl refl refl
  lowest_is (buffer l e) f = no_parts (buffer l e) refl refl refl
  lowest_is (read m) f = let is = lowest_is m f in record { scalars = is.scalars; kinds = is.kinds; powersets = is.powersets }
  lowest_is (named d n m) f = let is = lowest_is m f in record { scalars = is.scalars; kinds = is.kinds; powersets = is.powersets }

  fields_lowest : (fs : FieldNodes) → IsTrue (fields_fit fs) → AreLowest fs (lowest_values fs)
  fields_lowest no_fields f = record { scalars = refl; kinds = refl; powersets = refl }
  fields_lowest (more_fields name m at fs) f =
      let is = lowest_is m (both _ _ f).0 in
      let are = fields_lowest fs (both _ _ f).1 in
      record {
        scalars = ap (λ xs. xs ++ flat_map scalars_of (lowest_values fs)) is.scalars ∙ ap (λ ys. lowest_of m ++ ys) are.scalars;
        kinds = ap (λ xs. xs ++ flat_map kinds_of (lowest_values fs)) is.kinds ∙ (ap (λ ys. map kind_of (domains_of m) ++ ys) are.kinds ∙ sym (map-append kind_of (domains_of m) (domains_of_fields fs)));
        powersets = ap (λ xs. xs ++ flat_map powersets_of (lowest_values fs)) is.powersets ∙ ap (λ ys. lowest_powersets_of m ++ ys) are.powersets;
      }
