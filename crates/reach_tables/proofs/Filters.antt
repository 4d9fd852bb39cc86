-- Numbers that pass a test.
use Rattle.std.proofs.Common.{◌≡◌, List, [], ◌∷◌, ◌++◌, Bool, true, false, refl, ap, if◌then◌else◌}
use Rattle.std.specs.List.{filter}

if-append : {X : Type 0} (b : Bool) (x : X) (xs ys zs : List X) → zs ≡ xs ++ ys → (if b then x ∷ zs else zs) ≡ (if b then x ∷ xs else xs) ++ ys
if-append true x xs ys zs h = ap (λ r. x ∷ r) h
if-append false x xs ys zs h = h

pub filter-append : {X : Type 0} (p : X → Bool) (xs ys : List X) → filter p (xs ++ ys) ≡ filter p xs ++ filter p ys
filter-append p [] ys = refl
filter-append p (x ∷ xs) ys = if-append (p x) x (filter p xs) (filter p ys) (filter p (xs ++ ys)) (filter-append p xs ys)
