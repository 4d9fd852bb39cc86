-- Lists that have the same members.
use Rattle.std.proofs.Common.{◌≡◌, List, [], ◌∷◌, ◌++◌, ◌⊎◌, inl, inr, subst}
use Rattle.diagnostics.specs.Listing.{IsIn, SameMembers}

pub in-left : {X : Type 0} (x : X) (xs ys : List X) → IsIn x xs → IsIn x (xs ++ ys)
in-left x [] ys h = absurd h
in-left x (z ∷ xs) ys (inl e) = inl e
in-left x (z ∷ xs) ys (inr h) = inr (in-left x xs ys h)

pub in-right : {X : Type 0} (x : X) (xs ys : List X) → IsIn x ys → IsIn x (xs ++ ys)
in-right x [] ys h = h
in-right x (z ∷ xs) ys h = inr (in-right x xs ys h)

-- what is in both is in one of them
pub in-either : {X : Type 0} (x : X) (xs ys : List X) → IsIn x (xs ++ ys) → IsIn x xs ⊎ IsIn x ys
in-either x [] ys h = inr h
in-either x (z ∷ xs) ys (inl e) = inl (inl e)
in-either x (z ∷ xs) ys (inr h) = further (in-either x xs ys h)
  where
    further : IsIn x xs ⊎ IsIn x ys → IsIn x (z ∷ xs) ⊎ IsIn x ys
    further (inl k) = inl (inr k)
    further (inr k) = inr k

pub same-refl : {X : Type 0} (xs : List X) → SameMembers xs xs
same-refl xs = record { there = λ x h. h; back = λ x h. h }

pub same-as : {X : Type 0} (xs ys : List X) → xs ≡ ys → SameMembers xs ys
same-as xs ys e = subst (λ zs. SameMembers xs zs) e (same-refl xs)

pub same-trans : {X : Type 0} (xs ys zs : List X) → SameMembers xs ys → SameMembers ys zs → SameMembers xs zs
same-trans xs ys zs h k = record { there = λ x i. k.there x (h.there x i); back = λ x i. h.back x (k.back x i) }

into : {X : Type 0} (xs ys xs' ys' : List X) → ((x : X) → IsIn x xs → IsIn x xs') → ((x : X) → IsIn x ys → IsIn x ys') → (x : X) → IsIn x (xs ++ ys) → IsIn x (xs' ++ ys')
into xs ys xs' ys' h k x i = side (in-either x xs ys i)
  where
    side : IsIn x xs ⊎ IsIn x ys → IsIn x (xs' ++ ys')
    side (inl j) = in-left x xs' ys' (h x j)
    side (inr j) = in-right x xs' ys' (k x j)

pub same-append : {X : Type 0} (xs ys xs' ys' : List X) → SameMembers xs xs' → SameMembers ys ys' → SameMembers (xs ++ ys) (xs' ++ ys')
same-append xs ys xs' ys' h k = record { there = into xs ys xs' ys' h.there k.there; back = into xs' ys' xs ys h.back k.back }

-- the same behind others
pub same-behind : {X : Type 0} (xs ys zs : List X) → SameMembers xs ys → SameMembers (xs ++ zs) (ys ++ zs)
same-behind xs ys zs h = same-append xs zs ys zs h (same-refl zs)

-- what is there already adds nothing
pub same-there : {X : Type 0} (xs ys : List X) → ((x : X) → IsIn x ys → IsIn x xs) → SameMembers xs (xs ++ ys)
same-there xs ys h = record { there = λ x i. in-left x xs ys i; back = λ x i. side x (in-either x xs ys i) }
  where
    side : (x : _) → IsIn x xs ⊎ IsIn x ys → IsIn x xs
    side x (inl j) = j
    side x (inr j) = h x j
