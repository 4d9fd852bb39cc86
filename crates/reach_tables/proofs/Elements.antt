-- The elements that go with a definition, one after the other.
use Rattle.std.proofs.Common.{◌≡◌, ℕ, zero, suc, ◌+◌, List, [], ◌∷◌, ◌++◌, refl, ap, sym, ◌∙◌, if◌then◌else◌, append_assoc, arith}
use Rattle.std.specs.List.{filter}
use Rattle.names_model.specs.declared.definition.Definition.{Definition}
use Rattle.names_model.specs.Definitions.{numbers_on, spelling_at}
use Rattle.names_model.specs.Entries.{is_among}
use Rattle.reach_tables.proofs.Filters.{filter-append}

-- those among the first elements of which the source tells
abbrev pub along_first : List Definition → (List ℕ → List ℕ) → ℕ → ℕ → List ℕ
along_first all has d count = filter (λ e. is_among e (has (spelling_at all e))) (numbers_on (suc d) count)

numbers_on-more : (from count : ℕ) → numbers_on from (suc count) ≡ numbers_on from count ++ (from + count) ∷ []
numbers_on-more from zero = rw (sum from) refl
  where
    sum : (n : ℕ) → n + 0 ≡ n
    sum n = omega arith
numbers_on-more from (suc count) = ap (λ r. from ∷ r) (numbers_on-more (suc from) count ∙ ap (λ e. numbers_on (suc from) count ++ e ∷ []) (shift from count))
  where
    shift : (n k : ℕ) → suc n + k ≡ n + suc k
    shift n k = omega arith

pub along_first-more : (all : List Definition) (has : List ℕ → List ℕ) (d count e : ℕ) → e ≡ suc d + count
    → along_first all has d (count + 1) ≡ along_first all has d count ++ (if is_among e (has (spelling_at all e)) then e ∷ [] else [])
along_first-more all has d count e is = rw (is, plus count) (ap (filter (λ n. is_among n (has (spelling_at all n)))) (numbers_on-more (suc d) count) ∙ filter-append (λ n. is_among n (has (spelling_at all n))) (numbers_on (suc d) count) ((suc d + count) ∷ []))
  where
    plus : (n : ℕ) → n + 1 ≡ suc n
    plus n = omega arith

-- a step of the loop over elements
pub along_first-on : (all : List Definition) (has : List ℕ → List ℕ) (d count e : ℕ) (old out out' : List ℕ) → e ≡ (d + 1) + count
    → out ≡ old ++ along_first all has d count → out' ≡ out ++ (if is_among e (has (spelling_at all e)) then e ∷ [] else []) → out' ≡ old ++ along_first all has d (count + 1)
along_first-on all has d count e old out out' is before pushed = pushed ∙ ap (λ r. r ++ here) before ∙ append_assoc old (along_first all has d count) here ∙ ap (λ r. old ++ r) (sym (along_first-more all has d count e (omega arith)))
  where
    here : List ℕ
    here = if is_among e (has (spelling_at all e)) then e ∷ [] else []

-- a step of the loop over numbers
pub numbers_on-on : (from count e : ℕ) (old out out' : List ℕ) → e ≡ from + count → out ≡ old ++ numbers_on from count → out' ≡ out ++ e ∷ [] → out' ≡ old ++ numbers_on from (count + 1)
numbers_on-on from count e old out out' is before pushed = pushed ∙ ap (λ r. r ++ e ∷ []) before ∙ append_assoc old (numbers_on from count) (e ∷ [])
    ∙ ap (λ d. old ++ (numbers_on from count ++ d ∷ [])) is ∙ ap (λ r. old ++ r) (sym (numbers_on-more from count)) ∙ ap (λ k. old ++ numbers_on from k) (plus count)
  where
    plus : (n : ℕ) → suc n ≡ n + 1
    plus n = omega arith
