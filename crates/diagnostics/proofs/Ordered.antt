-- An ordered list without repeats is known by its members.
use Rattle.std.specs.Cmp.{IsTotalOrder}
use Rattle.std.specs.List.{AllByRecursion, Contains}
use Rattle.std.specs.List.Sorted.{IsStrictlySortedBy}
use Rattle.std.specs.Ordering.{ordering_reverse}
use Rattle.std.specs.declared.cmp.Ordering.{Ordering}
use Rattle.std.specs.declared.cmp.Ordering.TheVariants.{Less, Equal, Greater}
use Rattle.std.proofs.Common.{◌≡◌, zero, suc, List, [], ◌∷◌, refl, sym, ap, ◌∙◌, ◌⊎◌, inl, inr, arith}
use Rattle.diagnostics.specs.Listing.{IsIn, SameMembers, TellsApart, placed, insert_once, listed}

pub in_from_contains : {X : Type 0} (xs : List X) (x : X) → Contains xs x → IsIn x xs
in_from_contains [] x (k, h, e) = absurd (omega arith)
in_from_contains (y ∷ ys) x (zero, h, e) = inl (sym e)
in_from_contains (y ∷ ys) x (suc k, h, e) = inr (in_from_contains ys x (k, omega arith, e))

pub contains_from_in : {X : Type 0} (xs : List X) (x : X) → IsIn x xs → Contains xs x
contains_from_in [] x h = absurd h
contains_from_in (y ∷ ys) x (inl e) = (0, omega arith, sym e)
contains_from_in (y ∷ ys) x (inr h) = let (k, l, e) = contains_from_in ys x h in (suc k, omega arith, e)

module _ {X : Type 0} {cmp : X → X → Ordering} (o : IsTotalOrder cmp) (apart : TellsApart cmp) where
  -- each of the list is below_members x
  pub below_members : (x y : X) (ys : List X) → AllByRecursion (λ z. cmp x z ≡ Less) ys → IsIn y ys → cmp x y ≡ Less
  below_members x y [] all h = absurd h
  below_members x y (z ∷ zs) all (inl e) = rw e all.0
  below_members x y (z ∷ zs) all (inr h) = below_members x y zs all.1 h

  above_from_below : (x y : X) → cmp x y ≡ Less → cmp y x ≡ Greater
  above_from_below x y h = o.antisymm y x ∙ ap ordering_reverse h

  not_both_below : {A : Type 0} (x y : X) → cmp x y ≡ Less → cmp y x ≡ Less → A
  not_both_below x y p q = let r = above_from_below x y p in absurd cc

  not_below_itself : {A : Type 0} (x : X) → cmp x x ≡ Less → A
  not_below_itself x h = not_both_below x x h h

  -- what stands in one tail stands in the other
  in_tails : (x y : X) (xs ys : List X) → x ≡ y → AllByRecursion (λ z. cmp x z ≡ Less) xs → ((z : X) → IsIn z (x ∷ xs) → IsIn z (y ∷ ys)) → (z : X) → IsIn z xs → IsIn z ys
  in_tails x y xs ys e all to z h = in_tail (to z (inr h))
    where
      in_tail : (z ≡ y) ⊎ IsIn z ys → IsIn z ys
      in_tail (inl k) = let low : cmp x z ≡ Less = below_members x z xs all h in let i : z ≡ x = k ∙ sym e in not_below_itself x (rw i at low)
      in_tail (inr k) = k

  -- the first of one list can't be below the first of the other
  not_below : {A : Type 0} (x y : X) (ys : List X) → cmp x y ≡ Less → AllByRecursion (λ z. cmp y z ≡ Less) ys → IsIn x (y ∷ ys) → A
  not_below x y ys low all (inl e) = let l : cmp x x ≡ Less = ap (cmp x) e ∙ low in not_below_itself x l
  not_below x y ys low all (inr h) = not_both_below x y low (below_members y x ys all h)

  below_from_above : (x y : X) → cmp x y ≡ Greater → cmp y x ≡ Less
  below_from_above x y h = o.antisymm y x ∙ ap ordering_reverse h

  same_from_firsts : (x y : X) (xs ys : List X) → AllByRecursion (λ z. cmp x z ≡ Less) xs → AllByRecursion (λ z. cmp y z ≡ Less) ys → SameMembers (x ∷ xs) (y ∷ ys) → (SameMembers xs ys → xs ≡ ys) → (r : Ordering) → cmp x y ≡ r → (x ∷ xs) ≡ (y ∷ ys)
  same_from_firsts x y xs ys s t m rest Less e = not_below x y ys e t (m.there x (inl refl))
  same_from_firsts x y xs ys s t m rest Equal e = let i : x ≡ y = apart x y e in
      let k : xs ≡ ys = rest (record { there = in_tails x y xs ys i s m.there; back = in_tails y x ys xs (sym i) t m.back }) in cc
  same_from_firsts x y xs ys s t m rest Greater e = not_below y x xs (below_from_above x y e) s (m.back y (inl refl))

  pub same_list : (xs ys : List X) → IsStrictlySortedBy cmp xs → IsStrictlySortedBy cmp ys → SameMembers xs ys → xs ≡ ys
  unfolding IsStrictlySortedBy
  same_list [] [] s t m = refl
  same_list [] (y ∷ ys) s t m = absurd (m.back y (inl refl))
  same_list (x ∷ xs) [] s t m = absurd (m.there x (inl refl))
  same_list (x ∷ xs) (y ∷ ys) s t m = same_from_firsts x y xs ys s.0 t.0 m (λ n. same_list xs ys s.1 t.1 n) (cmp x y) refl

  -- ---- `listed` is in order, and has the members
  all_placed : (P : X → Type 0) (x y : X) (ys : List X) → P x → AllByRecursion P (y ∷ ys) → AllByRecursion P (insert_once cmp x ys) → (r : Ordering) → AllByRecursion P (placed cmp r x y ys (insert_once cmp x ys))
  all_placed P x y ys p all later Less = (p, all)
  all_placed P x y ys p all later Equal = all
  all_placed P x y ys p all later Greater = (all.0, later)

  all_inserted : (P : X → Type 0) (x : X) (ys : List X) → P x → AllByRecursion P ys → AllByRecursion P (insert_once cmp x ys)
  all_inserted P x [] p all = (p, all)
  all_inserted P x (y ∷ ys) p all = all_placed P x y ys p all (all_inserted P x ys p all.1) (cmp x y)

  all_above : (x y : X) (ys : List X) → cmp x y ≡ Less → AllByRecursion (λ z. cmp y z ≡ Less) ys → AllByRecursion (λ z. cmp x z ≡ Less) ys
  all_above x y [] h all = all
  all_above x y (z ∷ zs) h all = (o.trans x y z h all.0, all_above x y zs h all.1)

  sorted_placed : (x y : X) (ys : List X) → IsStrictlySortedBy cmp (y ∷ ys) → IsStrictlySortedBy cmp (insert_once cmp x ys) → (r : Ordering) → cmp x y ≡ r → IsStrictlySortedBy cmp (placed cmp r x y ys (insert_once cmp x ys))
  unfolding IsStrictlySortedBy
  sorted_placed x y ys s later Less e = ((e, all_above x y ys e s.0), s)
  sorted_placed x y ys s later Equal e = s
  sorted_placed x y ys s later Greater e = (all_inserted (λ z. cmp y z ≡ Less) x ys (below_from_above x y e) s.0, later)

  pub sorted_inserted : (x : X) (ys : List X) → IsStrictlySortedBy cmp ys → IsStrictlySortedBy cmp (insert_once cmp x ys)
  unfolding IsStrictlySortedBy
  sorted_inserted x [] s = (s, s)
  sorted_inserted x (y ∷ ys) s = sorted_placed x y ys s (sorted_inserted x ys s.1) (cmp x y) refl

  pub sorted_listed : (xs : List X) → IsStrictlySortedBy cmp (listed cmp xs)
  unfolding IsStrictlySortedBy
  sorted_listed [] = tt
  sorted_listed (x ∷ xs) = sorted_inserted x (listed cmp xs) (sorted_listed xs)

  in_placed : (z x y : X) (ys : List X) → ((z ≡ x) ⊎ IsIn z ys → IsIn z (insert_once cmp x ys)) → (r : Ordering) → cmp x y ≡ r → (z ≡ x) ⊎ IsIn z (y ∷ ys) → IsIn z (placed cmp r x y ys (insert_once cmp x ys))
  in_placed z x y ys later Less e k = k
  in_placed z x y ys later Equal e (inl k) = inl (k ∙ apart x y e)
  in_placed z x y ys later Equal e (inr k) = k
  in_placed z x y ys later Greater e (inl k) = inr (later (inl k))
  in_placed z x y ys later Greater e (inr (inl k)) = inl k
  in_placed z x y ys later Greater e (inr (inr k)) = inr (later (inr k))

  pub in_inserted : (z x : X) (ys : List X) → (z ≡ x) ⊎ IsIn z ys → IsIn z (insert_once cmp x ys)
  in_inserted z x [] h = h
  in_inserted z x (y ∷ ys) h = in_placed z x y ys (λ k. in_inserted z x ys k) (cmp x y) refl h

  in_longer : (z x y : X) (ys : List X) → (z ≡ x) ⊎ IsIn z ys → (z ≡ x) ⊎ IsIn z (y ∷ ys)
  in_longer z x y ys (inl k) = inl k
  in_longer z x y ys (inr k) = inr (inr k)

  from_placed : (z x y : X) (ys : List X) → (IsIn z (insert_once cmp x ys) → (z ≡ x) ⊎ IsIn z ys) → (r : Ordering) → IsIn z (placed cmp r x y ys (insert_once cmp x ys)) → (z ≡ x) ⊎ IsIn z (y ∷ ys)
  from_placed z x y ys later Less k = k
  from_placed z x y ys later Equal k = inr k
  from_placed z x y ys later Greater (inl k) = inr (inl k)
  from_placed z x y ys later Greater (inr k) = in_longer z x y ys (later k)

  pub from_inserted : (z x : X) (ys : List X) → IsIn z (insert_once cmp x ys) → (z ≡ x) ⊎ IsIn z ys
  from_inserted z x [] h = h
  from_inserted z x (y ∷ ys) h = from_placed z x y ys (λ k. from_inserted z x ys k) (cmp x y) h

  pub in_listed : (z : X) (xs : List X) → IsIn z xs → IsIn z (listed cmp xs)
  in_listed z [] h = h
  in_listed z (x ∷ xs) (inl e) = in_inserted z x (listed cmp xs) (inl e)
  in_listed z (x ∷ xs) (inr h) = in_inserted z x (listed cmp xs) (inr (in_listed z xs h))

  from_listed_rest : (z x : X) (xs : List X) → (IsIn z (listed cmp xs) → IsIn z xs) → (z ≡ x) ⊎ IsIn z (listed cmp xs) → IsIn z (x ∷ xs)
  from_listed_rest z x xs later (inl e) = inl e
  from_listed_rest z x xs later (inr k) = inr (later k)

  pub from_listed : (z : X) (xs : List X) → IsIn z (listed cmp xs) → IsIn z xs
  from_listed z [] h = h
  from_listed z (x ∷ xs) h = from_listed_rest z x xs (λ k. from_listed z xs k) (from_inserted z x (listed cmp xs) h)

  -- a list in order without repeats is the list of what has the same members
  pub listed_is : (xs ys : List X) → IsStrictlySortedBy cmp ys → SameMembers xs ys → ys ≡ listed cmp xs
  listed_is xs ys s m = same_list ys (listed cmp xs) s (sorted_listed xs) (record { there = λ z h. in_listed z xs (m.back z h); back = λ z h. m.there z (from_listed z xs h) })

  -- lists with the same members have one list
  pub listed_same : (xs ys : List X) → SameMembers xs ys → listed cmp xs ≡ listed cmp ys
  listed_same xs ys m = listed_is ys (listed cmp xs) (sorted_listed xs) (record { there = λ z h. in_listed z xs (m.back z h); back = λ z h. m.there z (from_listed z xs h) })
