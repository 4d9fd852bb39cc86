-- Each exception of a text has its number: the language's, or its place among the text's own.
use Rattle.std.proofs.Common.{◌≡◌, ℕ, suc, ◌+◌, Bool, true, false, List, [], ◌∷◌, ◌++◌, Option, Some, None, Contains, ◌⊎◌, inl, inr, refl, sym, ap, ◌∙◌, subst, true≢false}
use Rattle.std.specs.Prelude.{IsSome, is_some, if◌then◌else◌, option_map, flat_map}
use Rattle.std.specs.Str.{bytes_eq}
use Rattle.std.proofs.lemmas.Slice.Eq.{bytes_eq-Decides}
use Rattle.std.proofs.lemmas.List.Elements.{Contains-append_left, Contains-append_right}
use Rattle.chill_tree.specs.declared.tree.name.Name.{Name}
use Rattle.checks_model.specs.Sites.{Site, sites}
use Rattle.names_laws.proofs.Members.{none_in, in_cases}
use Rattle.elaboration_model.specs.Exceptions.{place_among, number_in_language, first_of, exception_number, exceptions_at, own_behind, own_exceptions}
use Rattle.expression_laws.specs.Exceptions.{ExceptionsLaw}

-- ---- places in a list that grows

if_mapped : {A B : Type 0} (f : A → B) (x : Option A) → is_some (option_map f x) ≡ is_some x
if_mapped f (Some x) = refl
if_mapped f None = refl

place_kept : (n m : List ℕ) (own : List (List ℕ)) → IsSome (place_among n own) → IsSome (place_among n (own ++ m ∷ []))
place_kept n m [] there = absurd (true≢false (sym there))
place_kept n m (o ∷ own) there = by (bytes_eq n o) (place_kept n m own) there
  where
    by : (b : Bool) → (IsSome (place_among n own) → IsSome (place_among n (own ++ m ∷ []))) → IsSome (if b then Some 0 else option_map suc (place_among n own)) → IsSome (if b then Some 0 else option_map suc (place_among n (own ++ m ∷ [])))
    by true kept there = refl
    by false kept there = if_mapped suc (place_among n (own ++ m ∷ [])) ∙ kept (sym (if_mapped suc (place_among n own)) ∙ there)

place_last : (n : List ℕ) (own : List (List ℕ)) → IsSome (place_among n (own ++ n ∷ []))
place_last n [] = ap (λ b. is_some (if b then Some 0 else option_map suc (place_among n []))) ((bytes_eq-Decides n n).1 refl)
place_last n (o ∷ own) = by (bytes_eq n o) (place_last n own)
  where
    by : (b : Bool) → IsSome (place_among n (own ++ n ∷ [])) → IsSome (if b then Some 0 else option_map suc (place_among n (own ++ n ∷ [])))
    by true there = refl
    by false there = if_mapped suc (place_among n (own ++ n ∷ [])) ∙ there

-- ---- numbers

first_kept : {A : Type 0} (x y z : Option A) → (IsSome y → IsSome z) → IsSome (first_of x y) → IsSome (first_of x z)
first_kept (Some x) y z kept there = refl
first_kept None y z kept there = kept there

first_later : {A : Type 0} (x z : Option A) → IsSome z → IsSome (first_of x z)
first_later (Some x) z there = refl
first_later None z there = there

numbered_kept : (own : List (List ℕ)) (m : List ℕ) (n : Name) → IsSome (exception_number own n) → IsSome (exception_number (own ++ m ∷ []) n)
numbered_kept own m n there =
    first_kept (number_in_language n.text) (option_map (λ k. 7 + k) (place_among n.text own)) (option_map (λ k. 7 + k) (place_among n.text (own ++ m ∷ [])))
    (λ h. if_mapped (λ k. 7 + k) (place_among n.text (own ++ m ∷ [])) ∙ place_kept n.text m own (sym (if_mapped (λ k. 7 + k) (place_among n.text own)) ∙ h)) there

numbered_last : (own : List (List ℕ)) (n : Name) → IsSome (exception_number (own ++ n.text ∷ []) n)
numbered_last own n = first_later (number_in_language n.text) (option_map (λ k. 7 + k) (place_among n.text (own ++ n.text ∷ []))) (if_mapped (λ k. 7 + k) (place_among n.text (own ++ n.text ∷ [])) ∙ place_last n.text own)

behind_kept : (own : List (List ℕ)) (ns : List Name) (n : Name) → IsSome (exception_number own n) → IsSome (exception_number (own_behind own ns) n)
behind_kept own [] n there = there
behind_kept own (m ∷ ns) n there = by (is_some (exception_number own m)) (behind_kept own ns n there) (behind_kept (own ++ m.text ∷ []) ns n (numbered_kept own m.text n there))
  where
    by : (b : Bool) → IsSome (exception_number (own_behind own ns) n) → IsSome (exception_number (own_behind (own ++ m.text ∷ []) ns) n) → IsSome (exception_number (own_behind (if b then own else own ++ m.text ∷ []) ns) n)
    by true first second = first
    by false first second = second

listed_there : (own : List (List ℕ)) (ns : List Name) (n : Name) → Contains ns n → IsSome (exception_number (own_behind own ns) n)
listed_there own [] n is = absurd (none_in n is)
listed_there own (m ∷ ns) n is = by (is_some (exception_number own m)) refl (in_cases m ns n is) (λ later. listed_there own ns n later) (λ later. listed_there (own ++ m.text ∷ []) ns n later)
  where
    by : (b : Bool) → is_some (exception_number own m) ≡ b → (m ≡ n) ⊎ Contains ns n → (Contains ns n → IsSome (exception_number (own_behind own ns) n)) → (Contains ns n → IsSome (exception_number (own_behind (own ++ m.text ∷ []) ns) n))
        → IsSome (exception_number (own_behind (if b then own else own ++ m.text ∷ []) ns) n)
    by true there (inl same) first second = behind_kept own ns n (subst (λ x. IsSome (exception_number own x)) same there)
    by false there (inl same) first second = behind_kept (own ++ m.text ∷ []) ns n (subst (λ x. IsSome (exception_number (own ++ m.text ∷ []) x)) same (numbered_last own m))
    by true there (inr later) first second = first later
    by false there (inr later) first second = second later

-- ---- nodes

in_flat : {A B : Type 0} (f : A → List B) (xs : List A) (x : A) (y : B) → Contains xs x → Contains (f x) y → Contains (flat_map f xs) y
in_flat f [] x y is own = absurd (none_in x is)
in_flat f (z ∷ zs) x y is own = elim (in_cases z zs x is) [
  | inl same ↦ Contains-append_left (f z) (flat_map f zs) y (subst (λ k. Contains (f k) y) (sym same) own)
  | inr later ↦ Contains-append_right (f z) (flat_map f zs) y (in_flat f zs x y later own)
]

pub exceptions_there : ExceptionsLaw
exceptions_there t at n is own = listed_there [] (flat_map exceptions_at (sites t)) n (in_flat exceptions_at (sites t) at n is own)
