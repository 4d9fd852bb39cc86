-- Lists of origins in which the first of each clause has the origin of all.
use Rattle.std.proofs.Common.{◌≡◌, ◌+◌, ◌⊎◌, inl, inr, ℕ, zero, suc, List, [], ◌∷◌, ◌++◌, Option, Some, None, Result, Ok, Err, map, length, replicate, refl, sym, ap, subst, ◌∙◌, append_assoc, add-one}
use Rattle.std.specs.Prelude.{slice_get, OnOk, OnErr}
use Rattle.std.proofs.lemmas.List.{map-append}
use Rattle.chill_base.specs.declared.memory.Memory.{Memory}
use Rattle.checks_model.specs.Ground as model
use Rattle.definition_origins.specs.declared.origin.Origin.{Origin}
use Rattle.definition_origins.specs.Firsts.{first_of, FirstsAgree}
use Rattle.definition_origins.specs.OriginTrees.{origin_tree, origin_trees}

-- ---- one origin more

get_none : {X : Type 0} (A : Type 0) (k : ℕ) (o : X) → slice_get [] k ≡ Some o → A
get_none A zero o e = cc
get_none A (suc k) o e = cc

pub none_agree : FirstsAgree []
none_agree k o f e first = get_none (slice_get [] f ≡ Some o) k o e

get_kept : (os : List Origin) (x : Origin) (k : ℕ) (o : Origin) → slice_get os k ≡ Some o → slice_get (os ++ x ∷ []) k ≡ Some o
get_kept [] x k o e = get_none (slice_get (x ∷ []) k ≡ Some o) k o e
get_kept (y ∷ os) x zero o e = e
get_kept (y ∷ os) x (suc k) o e = get_kept os x k o e

-- what stands at a number stood there before, or is the last
get_cases : (os : List Origin) (x : Origin) (k : ℕ) (o : Origin) → slice_get (os ++ x ∷ []) k ≡ Some o → (slice_get os k ≡ Some o) ⊎ (x ≡ o)
get_cases [] x zero o e = inr (cc)
get_cases [] x (suc k) o e = inl (get_none (slice_get [] (suc k) ≡ Some o) k o e)
get_cases (y ∷ os) x zero o e = inl e
get_cases (y ∷ os) x (suc k) o e = get_cases os x k o e

pub one_more_agree : (os : List Origin) (x : Origin) → FirstsAgree os → ((f : ℕ) → first_of x ≡ Some f → slice_get (os ++ x ∷ []) f ≡ Some x) → FirstsAgree (os ++ x ∷ [])
one_more_agree os x agree own k o f e first = elim (get_cases os x k o e) [
  | inl was ↦ get_kept os x f o (agree k o f was first)
  | inr is ↦ subst (λ (y : Origin). slice_get (os ++ x ∷ []) f ≡ Some y) is (own f (subst (λ (y : Origin). first_of y ≡ Some f) (sym is) first))
]

pub alone_agrees : (os : List Origin) (x : Origin) → FirstsAgree os → first_of x ≡ None → FirstsAgree (os ++ x ∷ [])
alone_agrees os x agree none = one_more_agree os x agree (λ f first. cc)

-- ---- the definitions of a clause

pub each_first : (os : List Origin) (n : ℕ) (x : Origin) → slice_get ((os ++ replicate n x) ++ x ∷ []) (length os) ≡ Some x
each_first [] zero x = refl
each_first [] (suc n) x = refl
each_first (y ∷ os) n x = each_first os n x

replicate_more : {X : Type 0} (n : ℕ) (x : X) → replicate n x ++ x ∷ [] ≡ replicate (suc n) x
replicate_more zero x = refl
replicate_more (suc n) x = ap (λ xs. x ∷ xs) (replicate_more n x)

pub each_more : (os : List Origin) (n : ℕ) (x : Origin) → (os ++ replicate n x) ++ x ∷ [] ≡ os ++ replicate (n + 1) x
each_more os n x = append_assoc os (replicate n x) (x ∷ []) ∙ ap (λ xs. os ++ xs) (replicate_more n x ∙ ap (λ k. replicate k x) (sym (add-one n)))

tree_of_each : (n : ℕ) (x : Origin) → origin_trees (replicate n x) ≡ replicate n (origin_tree x)
tree_of_each zero x = refl
tree_of_each (suc n) x = ap (λ (os : List model.Origin). origin_tree x ∷ os) (tree_of_each n x)

pub trees_of_each : (os : List Origin) (n : ℕ) (x : Origin) → origin_trees (os ++ replicate n x) ≡ origin_trees os ++ replicate n (origin_tree x)
trees_of_each os n x = map-append origin_tree os (replicate n x) ∙ ap (λ (rest : List model.Origin). origin_trees os ++ rest) (tree_of_each n x)

-- ---- a push that may fail

pub clause_pushed : (result : Result (Unit {0}) Memory) (old new : List Origin) (x : Origin) → OnOk result (new ≡ old ++ x ∷ []) → OnErr result (new ≡ old) → ((f : ℕ) → first_of x ≡ Some f → slice_get (old ++ x ∷ []) f ≡ Some x) → FirstsAgree old → FirstsAgree new
clause_pushed (Ok done) old new x ok err own agree = subst FirstsAgree (sym ok) (one_more_agree old x agree own)
clause_pushed (Err memory) old new x ok err own agree = subst FirstsAgree (sym err) agree

-- the same where what is asked speaks of what contracts see
pub seen_pushed : (result : Result (Unit {0}) Memory) (seen old new : List Origin) (x : Origin) → old ≡ seen → OnOk result (new ≡ old ++ x ∷ []) → OnErr result (new ≡ old) → ((f : ℕ) → first_of x ≡ Some f → slice_get (seen ++ x ∷ []) f ≡ Some x) → FirstsAgree old → FirstsAgree new
seen_pushed result seen old new x same ok err own agree =
    clause_pushed result old new x ok err (subst (λ (os : List Origin). (f : ℕ) → first_of x ≡ Some f → slice_get (os ++ x ∷ []) f ≡ Some x) (sym same) own) agree

pub alone_pushed : (result : Result (Unit {0}) Memory) (old new : List Origin) (x : Origin) → OnOk result (new ≡ old ++ x ∷ []) → OnErr result (new ≡ old) → first_of x ≡ None → FirstsAgree old → FirstsAgree new
alone_pushed result old new x ok err none = clause_pushed result old new x ok err (λ f first. cc)

-- the first of a clause is the one that is put first
pub each_own : (os all : List Origin) (n : ℕ) (x : Origin) → all ≡ os ++ replicate n x → first_of x ≡ Some (length os) → (f : ℕ) → first_of x ≡ Some f → slice_get (all ++ x ∷ []) f ≡ Some x
each_own os all n x same at f first =
    let number : length os ≡ f = cc in
    subst (λ (xs : List Origin). slice_get (xs ++ x ∷ []) f ≡ Some x) (sym same) (subst (λ k. slice_get ((os ++ replicate n x) ++ x ∷ []) k ≡ Some x) number (each_first os n x))
