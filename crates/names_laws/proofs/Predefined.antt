-- The predefined names differ, so that each is seen once.
use Rattle.std.proofs.Common.{◌≡◌, ℕ, suc, ◌≤◌, Bool, true, false, cond, ◌&&◌, List, [], ◌∷◌, ◌++◌, length, refl, sym, ap, ◌∙◌, subst, arith, Contains, append_assoc}
use Rattle.std.specs.Prelude.{not}
use Rattle.std.specs.List.{filter, list_any}
use Rattle.std.specs.Str.{bytes_eq}
use Rattle.std.proofs.lemmas.List.{length-append}
use Rattle.std.proofs.lemmas.Slice.Eq.{bytes_eq-Decides}
use Rattle.names_model.specs.declared.definition.Definition.{Definition}
use Rattle.names_model.specs.Definitions.{predefined, predefined_under, numbers_on, spelling_at, under}
use Rattle.names_laws.proofs.Members.{here_in, later_in, any_at}

-- no two of the definitions have one name
abbrev distinct : List Definition → Bool
distinct [] = true
distinct (d ∷ ds) = not (list_any (λ e. bytes_eq d.name.spelling e.name.spelling) ds) && distinct ds

predefined_distinct : distinct predefined ≡ true
predefined_distinct = refl

spelled_here : (front : List Definition) (d : Definition) (ds : List Definition) → spelling_at (front ++ d ∷ ds) (length front) ≡ d.name.spelling
spelled_here [] d ds = refl
spelled_here (f ∷ front) d ds = spelled_here front d ds

-- so many definitions of a name stand behind others as there are among them
under_behind : (ds front : List Definition) (n : List ℕ) → length (under (front ++ ds) n (numbers_on (length front) (length ds))) ≡ length (filter (λ d. bytes_eq d.name.spelling n) ds)
under_behind [] front n = refl
under_behind (d ∷ ds) front n = by (bytes_eq (spelling_at (front ++ d ∷ ds) (length front)) n) (bytes_eq d.name.spelling n) (ap (λ s. bytes_eq s n) (spelled_here front d ds)) (rest (under_behind ds (front ++ d ∷ []) n))
  where
    long : length (front ++ d ∷ []) ≡ suc (length front)
    long = length-append front (d ∷ []) ∙ omega arith

    rest : length (under ((front ++ d ∷ []) ++ ds) n (numbers_on (length (front ++ d ∷ [])) (length ds))) ≡ length (filter (λ e. bytes_eq e.name.spelling n) ds)
        → length (under (front ++ d ∷ ds) n (numbers_on (suc (length front)) (length ds))) ≡ length (filter (λ e. bytes_eq e.name.spelling n) ds)
    rest h =
        subst (λ k. length (under (front ++ d ∷ ds) n (numbers_on k (length ds))) ≡ length (filter (λ e. bytes_eq e.name.spelling n) ds)) long
        (subst (λ all. length (under all n (numbers_on (length (front ++ d ∷ [])) (length ds))) ≡ length (filter (λ e. bytes_eq e.name.spelling n) ds)) (append_assoc front (d ∷ []) ds) h)

    by : (a b : Bool) → a ≡ b → length (under (front ++ d ∷ ds) n (numbers_on (suc (length front)) (length ds))) ≡ length (filter (λ e. bytes_eq e.name.spelling n) ds)
        → length (cond a (length front ∷ under (front ++ d ∷ ds) n (numbers_on (suc (length front)) (length ds))) (under (front ++ d ∷ ds) n (numbers_on (suc (length front)) (length ds))))
        ≡ length (cond b (d ∷ filter (λ e. bytes_eq e.name.spelling n) ds) (filter (λ e. bytes_eq e.name.spelling n) ds))
    by true true e h = ap suc h
    by true false e h = cc
    by false true e h = cc
    by false false e h = h

filter_none : (p : Definition → Bool) (ds : List Definition) → ((d : Definition) → Contains ds d → p d ≡ true → ⊥) → length (filter p ds) ≡ 0
filter_none p [] none = refl
filter_none p (d ∷ ds) none = by (p d) refl (filter_none p ds (λ e c. none e (later_in d ds e c)))
  where
    by : (b : Bool) → p d ≡ b → length (filter p ds) ≡ 0 → length (cond b (d ∷ filter p ds) (filter p ds)) ≡ 0
    by true t h = absurd (none d (here_in d ds d refl) t)
    by false t h = h

one_distinct : (ds : List Definition) (n : List ℕ) → distinct ds ≡ true → length (filter (λ d. bytes_eq d.name.spelling n) ds) ≤ 1
one_distinct [] n e = omega arith
one_distinct (d ∷ ds) n e = by (bytes_eq d.name.spelling n) refl (list_any (λ k. bytes_eq d.name.spelling k.name.spelling) ds) refl e (one_distinct ds n)
  where
    by : (b : Bool) → bytes_eq d.name.spelling n ≡ b → (a : Bool) → list_any (λ k. bytes_eq d.name.spelling k.name.spelling) ds ≡ a → (not a && distinct ds) ≡ true
        → (distinct ds ≡ true → length (filter (λ k. bytes_eq k.name.spelling n) ds) ≤ 1)
        → length (cond b (d ∷ filter (λ k. bytes_eq k.name.spelling n) ds) (filter (λ k. bytes_eq k.name.spelling n) ds)) ≤ 1
    by b t true any h rest = let f : ⊥ = cc in absurd f
    by true t false any h rest =
        let none = filter_none (λ k. bytes_eq k.name.spelling n) ds (λ k there same.
        let is : d.name.spelling ≡ k.name.spelling = (bytes_eq-Decides d.name.spelling n).0 t ∙ sym ((bytes_eq-Decides k.name.spelling n).0 same) in
        let hit = any_at (λ (j : Definition). bytes_eq d.name.spelling j.name.spelling) ds k there ((bytes_eq-Decides d.name.spelling k.name.spelling).1 is) in
        let f : ⊥ = cc (hit, any) in f) in
        omega (arith, none)
    by false t false any h rest = rest h

-- each predefined name has one definition
pub predefined_once : (text : List Definition) (n : List ℕ) → length (predefined_under text n) ≤ 1
predefined_once text n = subst (λ k. k ≤ 1) (sym (under_behind predefined text n)) (one_distinct predefined n predefined_distinct)
