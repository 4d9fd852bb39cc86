-- Lists with the same members.
use Rattle.std.proofs.Common.{◌≡◌, List, [], ◌∷◌, ◌++◌, ◌⊎◌, inl, inr, refl, sym, ap, ◌∙◌, subst, append_assoc}
use Rattle.std.specs.Prelude.{flat_map}
use Rattle.std.proofs.lemmas.Grind.{flat_map-append}
use Rattle.diagnostics.specs.Listing.{IsIn, SameMembers}

in_first : {X : Type 0} (xs ys : List X) (x : X) → IsIn x xs → IsIn x (xs ++ ys)
in_first (y ∷ xs) ys x (inl e) = inl e
in_first (y ∷ xs) ys x (inr h) = inr (in_first xs ys x h)
in_first [] ys x h = absurd h

in_second : {X : Type 0} (xs ys : List X) (x : X) → IsIn x ys → IsIn x (xs ++ ys)
in_second [] ys x h = h
in_second (y ∷ xs) ys x h = inr (in_second xs ys x h)

in_either : {X : Type 0} (xs ys : List X) (x : X) → IsIn x (xs ++ ys) → IsIn x xs ⊎ IsIn x ys
in_either [] ys x h = inr h
in_either (y ∷ xs) ys x (inl e) = inl (inl e)
in_either (y ∷ xs) ys x (inr h) = elim (in_either xs ys x h) [
  | inl k ↦ inl (inr k)
  | inr k ↦ inr k
]

pub same : {X : Type 0} (xs ys : List X) → xs ≡ ys → SameMembers xs ys
same xs ys e = record { there = λ x h. subst (IsIn x) e h; back = λ x h. subst (IsIn x) (sym e) h }

pub after : {X : Type 0} (xs ys zs : List X) → SameMembers xs ys → SameMembers ys zs → SameMembers xs zs
after xs ys zs p q = record { there = λ x h. q.there x (p.there x h); back = λ x h. p.back x (q.back x h) }

pub flipped : {X : Type 0} (xs ys : List X) → SameMembers xs ys → SameMembers ys xs
flipped xs ys p = record { there = p.back; back = p.there }

pub both : {X : Type 0} (xs ys us vs : List X) → SameMembers xs us → SameMembers ys vs → SameMembers (xs ++ ys) (us ++ vs)
both xs ys us vs p q = record {
  there = λ x h. elim (in_either xs ys x h) [
    | inl k ↦ in_first us vs x (p.there x k)
    | inr k ↦ in_second us vs x (q.there x k)
  ];
  back = λ x h. elim (in_either us vs x h) [
    | inl k ↦ in_first xs ys x (p.back x k)
    | inr k ↦ in_second xs ys x (q.back x k)
  ];
}

-- the inner two of four change places
half_swapped : {X : Type 0} (xs ys us vs : List X) (x : X) → IsIn x ((xs ++ ys) ++ (us ++ vs)) → IsIn x ((xs ++ us) ++ (ys ++ vs))
half_swapped xs ys us vs x h = elim (in_either (xs ++ ys) (us ++ vs) x h) [
  | inl k ↦ elim (in_either xs ys x k) [
    | inl l ↦ in_first (xs ++ us) (ys ++ vs) x (in_first xs us x l)
    | inr l ↦ in_second (xs ++ us) (ys ++ vs) x (in_first ys vs x l)
  ]
  | inr k ↦ elim (in_either us vs x k) [
    | inl l ↦ in_first (xs ++ us) (ys ++ vs) x (in_second xs us x l)
    | inr l ↦ in_second (xs ++ us) (ys ++ vs) x (in_second ys vs x l)
  ]
]

pub swapped : {X : Type 0} (xs ys us vs : List X) → SameMembers ((xs ++ ys) ++ (us ++ vs)) ((xs ++ us) ++ (ys ++ vs))
swapped xs ys us vs = record { there = half_swapped xs ys us vs; back = half_swapped xs us ys vs }

-- lists that are put together from the right, from the left
pub three_left : {X : Type 0} (a b c : List X) → a ++ (b ++ c) ≡ (a ++ b) ++ c
three_left a b c = sym (append_assoc a b c)

pub four_left : {X : Type 0} (a b c d : List X) → a ++ (b ++ (c ++ d)) ≡ ((a ++ b) ++ c) ++ d
four_left a b c d = three_left a b (c ++ d) ∙ three_left (a ++ b) c d

module _ {X Y : Type 0} (f : X → List Y) where
  -- two lists beside what is told of two lists of nodes
  pub joined : (xs ys : List Y) (ss ts : List X) → SameMembers xs (flat_map f ss) → SameMembers ys (flat_map f ts) → SameMembers (xs ++ ys) (flat_map f (ss ++ ts))
  joined xs ys ss ts p q = after (xs ++ ys) (flat_map f ss ++ flat_map f ts) (flat_map f (ss ++ ts)) (both xs ys (flat_map f ss) (flat_map f ts) p q) (same (flat_map f ss ++ flat_map f ts) (flat_map f (ss ++ ts)) (sym (flat_map-append f ss ts)))

  -- a node, and those behind it
  pub begun : (xs ys : List Y) (s : X) (ts : List X) → xs ≡ f s → SameMembers ys (flat_map f ts) → SameMembers (xs ++ ys) (flat_map f (s ∷ ts))
  begun xs ys s ts e q = both xs ys (f s) (flat_map f ts) (same xs (f s) e) q

  -- a node of which nothing is told, and those behind it
  pub passed : (ys : List Y) (s : X) (ts : List X) → f s ≡ [] → SameMembers ys (flat_map f ts) → SameMembers ys (flat_map f (s ∷ ts))
  passed ys s ts none q = after ys (flat_map f ts) (flat_map f (s ∷ ts)) q (same (flat_map f ts) (flat_map f (s ∷ ts)) (ap (λ zs. zs ++ flat_map f ts) (sym none)))

  pub equal_on : (g : X → List Y) → ((x : X) → g x ≡ f x) → (xs : List X) → flat_map g xs ≡ flat_map f xs
  equal_on g e [] = refl
  equal_on g e (x ∷ xs) = ap (λ ys. ys ++ flat_map g xs) (e x) ∙ ap (λ ys. f x ++ ys) (equal_on g e xs)
