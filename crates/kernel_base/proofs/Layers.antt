-- The scalars and kinds of a value, layer by layer, and where a kind stands among them.
use Rattle.std.proofs.Common.{◌≡◌, ℕ, zero, suc, ◌+◌, ◌*◌, ◌<◌, List, [], ◌∷◌, ◌++◌, ℤ, length, get_or, refl, sym, ap, ◌∙◌, arith, take, Some, length-append, add-zero}
use Rattle.std.specs.Prelude.{slice_get}
use Rattle.std.specs.List.{flat_map}
use Rattle.std.proofs.lemmas.List.Folds.{flat_map-map}
use Rattle.kernel_base.specs.declared.value.Value.{Value, fold-Value, fold-roll-Value}
use Rattle.kernel_base.specs.declared.value.Value.TheOpen as layer
use Rattle.kernel_base.specs.declared.value.Value.TheVariants as made
use Rattle.kernel_base.specs.declared.value.ScalarKind.{ScalarKind}
use Rattle.kernel_base.specs.declared.value.ScalarKind.TheVariants.{Plain, Powerset}
use Rattle.kernel_base.specs.Value.{scalars_in, scalars_of, kinds_in, kinds_of, kinds_from, numbers_from, count_of_numbers}

pub scalars_of-Number : (number : ℤ) → scalars_of (made.Number number) ≡ number ∷ []
unfolding scalars_of
scalars_of-Number number = ap (fold-Value (List ℤ) scalars_in) (sym (made.rolls-Number number)) ∙ fold-roll-Value (List ℤ) scalars_in (layer.Number number)

pub scalars_of-Members : (size : ℕ) (offsets : List ℕ) → scalars_of (made.Members size offsets) ≡ numbers_from offsets 0 (count_of_numbers size)
unfolding scalars_of
scalars_of-Members size offsets = ap (fold-Value (List ℤ) scalars_in) (sym (made.rolls-Members size offsets)) ∙ fold-roll-Value (List ℤ) scalars_in (layer.Members size offsets)

pub scalars_of-Parts : (parts : List Value) → scalars_of (made.Parts parts) ≡ flat_map scalars_of parts
unfolding scalars_of
scalars_of-Parts parts =
    ap (fold-Value (List ℤ) scalars_in) (sym (made.rolls-Parts parts)) ∙ fold-roll-Value (List ℤ) scalars_in (layer.Parts parts)
    ∙ flat_map-map (λ xs. xs) (fold-Value (List ℤ) scalars_in) parts

pub kinds_of-Number : (number : ℤ) → kinds_of (made.Number number) ≡ Plain ∷ []
unfolding kinds_of
kinds_of-Number number = ap (fold-Value (List ScalarKind) kinds_in) (sym (made.rolls-Number number)) ∙ fold-roll-Value (List ScalarKind) kinds_in (layer.Number number)

pub kinds_of-Members : (size : ℕ) (offsets : List ℕ) → kinds_of (made.Members size offsets) ≡ kinds_from size 0 (count_of_numbers size)
unfolding kinds_of
kinds_of-Members size offsets = ap (fold-Value (List ScalarKind) kinds_in) (sym (made.rolls-Members size offsets)) ∙ fold-roll-Value (List ScalarKind) kinds_in (layer.Members size offsets)

pub kinds_of-Parts : (parts : List Value) → kinds_of (made.Parts parts) ≡ flat_map kinds_of parts
unfolding kinds_of
kinds_of-Parts parts =
    ap (fold-Value (List ScalarKind) kinds_in) (sym (made.rolls-Parts parts)) ∙ fold-roll-Value (List ScalarKind) kinds_in (layer.Parts parts)
    ∙ flat_map-map (λ xs. xs) (fold-Value (List ScalarKind) kinds_in) parts

pub length-kinds_from : (size j count : ℕ) → length (kinds_from size j count) ≡ count
length-kinds_from size j zero = refl
length-kinds_from size j (suc count) = omega (arith, length-kinds_from size (suc j) count)

pub kind_at : (size j count i : ℕ) → i < count → slice_get (kinds_from size j count) i ≡ Some (Powerset size (32 * (j + i)))
kind_at size j zero i low = absurd (let no : ⊥ = omega arith in no)
kind_at size j (suc count) zero low = ap (λ (n : ℕ). Some (Powerset size (32 * n))) (sym (add-zero j))
kind_at size j (suc count) (suc i) low =
    kind_at size (suc j) count i (omega arith) ∙ ap (λ (n : ℕ). Some (Powerset size (32 * n))) (let e : suc j + i ≡ j + suc i = omega arith in e)

pub slice_get-append_left : {A : Type 0} (xs ys : List A) (i : ℕ) (x : A) → slice_get xs i ≡ Some x → slice_get (xs ++ ys) i ≡ Some x
slice_get-append_left [] ys i x is = absurd (let no : ⊥ = cc in no)
slice_get-append_left (y ∷ xs) ys zero x is = is
slice_get-append_left (y ∷ xs) ys (suc i) x is = slice_get-append_left xs ys i x is

pub slice_get-append_right : {A : Type 0} (xs ys : List A) (i j : ℕ) (x : A) → length xs + j ≡ i → slice_get ys j ≡ Some x → slice_get (xs ++ ys) i ≡ Some x
slice_get-append_right {A} [] ys i j x at is = let e : i ≡ j = omega arith in ap (λ (n : ℕ). slice_get ys n) e ∙ is
slice_get-append_right (y ∷ xs) ys zero j x at is = absurd (let no : ⊥ = omega arith in no)
slice_get-append_right (y ∷ xs) ys (suc i) j x at is = slice_get-append_right xs ys i j x (omega arith) is

-- what stands in the list of one part stands behind those of the parts before it
pub part_at : {X A : Type 0} (f : X → List A) (parts : List X) (i left index : ℕ) (d : X) (x : A) → i < length parts
    → length (flat_map f (take i parts)) + left ≡ index → slice_get (f (get_or parts i d)) left ≡ Some x → slice_get (flat_map f parts) index ≡ Some x
part_at f [] i left index d x low at is = absurd (let no : ⊥ = omega arith in no)
part_at f (p ∷ parts) zero left index d x low at is =
    let e : index ≡ left = omega arith in
    ap (λ (n : ℕ). slice_get (f p ++ flat_map f parts) n) e ∙ slice_get-append_left (f p) (flat_map f parts) left x is
part_at f (p ∷ parts) (suc i) left index d x low at is =
    let rest : ℕ = length (flat_map f (take i parts)) + left in
    let e : length (f p) + rest ≡ index = omega (arith, length-append (f p) (flat_map f (take i parts))) in
    slice_get-append_right (f p) (flat_map f parts) index rest x e (part_at f parts i left rest d x (omega arith) refl is)
