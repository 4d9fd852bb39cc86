-- Scalars that are read and written one by one.
use Rattle.std.proofs.Common.{◌≡◌, ℕ, ◌+◌, ◌-◌, ◌<◌, ◌≤◌, ℤ, zero, suc, List, [], ◌∷◌, ◌++◌, length, get_or, set, take, drop, append_assoc, add-one, drop-cons, length-append, length-set, refl, sym, ap, ◌∙◌, arith, Some, slice_get}
use Rattle.std.proofs.Math.Seq.{set-append_seam}
use Rattle.std.proofs.lemmas.List.{length-take-le, get_or-drop, take_more, length-drop}
use Rattle.std.proofs.lemmas.Option.{get_or_from_slice_get, slice_get_within}
use Rattle.world_model.specs.Lists.{scalars_at, with_scalars}

pub one_more : (xs ys : List ℤ) (first : ℕ) (y d : ℤ) → first + length ys < length xs → set (with_scalars xs first ys) (first + length ys) y ≡ with_scalars xs first (ys ++ y ∷ [])
one_more xs ys first y d low =
    let m = first + length ys in
    let front = take first xs ++ ys in
    let long : length front ≡ m = length-append (take first xs) ys ∙ ap (λ (n : ℕ). n + length ys) (length-take-le first xs (omega (arith, low))) in
    let rest : drop m xs ≡ get_or xs m d ∷ drop (m + 1) xs = rw add-one (drop-cons xs m d low) in
    let is : with_scalars xs first ys ≡ front ++ (get_or xs m d ∷ drop (m + 1) xs) = ap (λ (zs : List ℤ). front ++ zs) rest in
    let more : m + 1 ≡ first + length (ys ++ y ∷ []) = let e = length-append ys (y ∷ []) in omega (arith, e) in
    ap (λ (zs : List ℤ). set zs m y) is
    ∙ ap (λ (n : ℕ). set (front ++ get_or xs m d ∷ drop (m + 1) xs) n y) (sym long)
    ∙ set-append_seam front (get_or xs m d) (drop (m + 1) xs) y
    ∙ sym (append_assoc front (y ∷ []) (drop (m + 1) xs))
    ∙ ap (λ (zs : List ℤ). zs ++ drop (m + 1) xs) (append_assoc (take first xs) ys (y ∷ []))
    ∙ ap (λ (n : ℕ). take first xs ++ (ys ++ y ∷ []) ++ drop n xs) more

pub next_read : (xs : List ℤ) (first k : ℕ) (x : ℤ) → slice_get xs (first + k) ≡ Some x → scalars_at xs first (k + 1) ≡ scalars_at xs first k ++ x ∷ []
next_read xs first k x at =
    let low : first + k < length xs = slice_get_within xs (first + k) x at in
    let e = length-drop first xs in
    take_more (drop first xs) k x (omega (arith, e, low)) ∙ ap (λ (z : ℤ). take k (drop first xs) ++ z ∷ []) (get_or-drop first xs k x ∙ get_or_from_slice_get xs (first + k) x x at)

-- one more of those that are written
pub next_written : (old new xs ys : List ℤ) (first k : ℕ) (d : ℤ) → first + length ys ≤ length old → k < length ys → xs ≡ with_scalars old first (take k ys) → new ≡ set xs (first + k) (get_or ys k d) → new ≡ with_scalars old first (take (k + 1) ys)
next_written old new xs ys first k d fits low was is =
    let few : length (take k ys) ≡ k = length-take-le k ys (omega (arith, low)) in
    let room : first + length (take k ys) < length old = omega (arith, few, fits, low) in
    is ∙ ap (λ (zs : List ℤ). set zs (first + k) (get_or ys k d)) was ∙ ap (λ (n : ℕ). set (with_scalars old first (take k ys)) (first + n) (get_or ys k d)) (sym few)
    ∙ one_more old (take k ys) first (get_or ys k d) d room ∙ ap (with_scalars old first) (sym (take_more ys k d low))
