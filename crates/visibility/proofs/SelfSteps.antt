-- Steps of the loop that tells what depends on itself.
use Rattle.std.proofs.Common.{◌≡◌, ℕ, ◌+◌, Bool, List, [], ◌∷◌, ◌++◌, Option, None, ◌⊎◌, inl, inr, true, false, ◌<◌, ◌≤◌, append-nil, append_assoc, arith, refl, sym, ap, ◌∙◌, subst, length}
use Rattle.std.specs.Prelude.{flat_map, nat_lt, slice_get}
use Rattle.std.proofs.lemmas.Bool.{cases_lt}
use Rattle.std.proofs.lemmas.Bool.Decides.{Decides-ltb}
use Rattle.std.proofs.lemmas.Option.{slice_get_past}
use Rattle.diagnostics.specs.declared.diagnostic.Diagnostic.{Diagnostic}
use Rattle.names_model.specs.declared.definition.Definition.{Definition}
use Rattle.names_model.specs.Definitions.{numbers_on}
use Rattle.names_model.specs.Dependence.{told_self}
use Rattle.reach_tables.proofs.Appends.{flat_map-append}
use Rattle.reach_tables.proofs.Elements.{numbers_on-on}

-- nothing is told of a definition that isn't there
pub none_told : (holds : Bool) (d : Option Definition) (out : List Diagnostic) → d ≡ None → out ≡ out ++ told_self holds d
none_told holds d out is = sym (append-nil out) ∙ ap (λ (o : Option Definition). out ++ told_self holds o) (sym is)

-- one number more is told
pub more_told : (f : ℕ → List Diagnostic) (i : ℕ) (old out new : List Diagnostic) → out ≡ old ++ flat_map f (numbers_on 0 i) → new ≡ out ++ f i → new ≡ old ++ flat_map f (numbers_on 0 (i + 1))
more_told f i old out new before added =
    let numbers : numbers_on 0 i ++ i ∷ [] ≡ numbers_on 0 (i + 1) = numbers_on-on 0 i i [] (numbers_on 0 i) (numbers_on 0 i ++ i ∷ []) (omega arith) refl refl in
    added ∙ ap (λ (l : List Diagnostic). l ++ f i) before ∙ append_assoc old (flat_map f (numbers_on 0 i)) (f i)
    ∙ ap (λ (l : List Diagnostic). old ++ (flat_map f (numbers_on 0 i) ++ l)) (sym (append-nil (f i)))
    ∙ ap (λ (l : List Diagnostic). old ++ l) (sym (flat_map-append f (numbers_on 0 i) (i ∷ [])))
    ∙ ap (λ (l : List ℕ). old ++ flat_map f l) numbers

not_less : (a b : ℕ) → false ≡ nat_lt a b → b ≤ a
not_less a b h = at_side (cases_lt a b)
  where
    at_side : (a < b) ⊎ (b ≤ a) → b ≤ a
    at_side (inr k) = k
    at_side (inl k) = let wrong : nat_lt a b ≡ true = (Decides-ltb a b).1 k in let never : false ≡ true = h ∙ wrong in absurd cc

-- a number that isn't less than their count has no definition
pub no_definition : (ds : List Definition) (n : ℕ) (seen : List Definition) → seen ≡ ds → false ≡ nat_lt n (length seen) → slice_get ds n ≡ None
no_definition ds n seen is h = subst (λ (l : List Definition). slice_get l n ≡ None) is (slice_get_past seen n (not_less n (length seen) h))
