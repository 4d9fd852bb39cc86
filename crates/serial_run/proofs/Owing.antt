-- The answers that wait to be fetched, once more was noted.
use Rattle.std.proofs.Common.{◌≡◌, ◌≢◌, ℕ, zero, suc, ◌≤◌, ◌<◌, List, [], ◌∷◌, ◌++◌, length, length-append, length-set, refl, sym, ap, ◌∙◌, subst, inl, inr, arith, append-nil, true, false, Option, Some, None, slice_set}
use Rattle.std.specs.Prelude.{◌==◌, option_to_list}
use Rattle.std.specs.List.{AllByRecursion}
use Rattle.std.proofs.lemmas.Bool.{cases_eq, cases_Bool, eqb-true, eq-eqb}
use Rattle.std.proofs.lemmas.List.{length_push}
use Rattle.kernel_base.specs.declared.request.Request.{Request}
use Rattle.kernel_base.specs.declared.answer.Answer.{Answer}
use Rattle.kernel_base.specs.declared.answer.Answer.TheVariants.{Instance}
use Rattle.kernel_base.specs.declared.event.Event.{Event}
use Rattle.kernel_base.specs.declared.event.Event.TheVariants.{Did, Waits, Goes, Runs}
use Rattle.world_model.specs.Journal.{line_of, requests_of, answers_of}
use Rattle.world_model.proofs.ChangedLists.{read_elsewhere, read_pushed}
use Rattle.kernel_steps.specs.View.{unfetched_of, handed_by, handed, IsGoing}

-- goings on make nothing and ask nothing
pub goes_quiet : (i : ℕ) (goes : List Event) → AllByRecursion IsGoing goes → line_of i goes ≡ []
goes_quiet i [] all = refl
goes_quiet i (Did who ticks request answer refill ∷ goes) all = absurd all.0
goes_quiet i (Waits who ticks request ∷ goes) all = absurd all.0
goes_quiet i (Goes who answer ∷ goes) all = goes_quiet i goes all.1
goes_quiet i (Runs who ticks ∷ goes) all = absurd all.0

pub goes_silent : (i : ℕ) (goes : List Event) → AllByRecursion IsGoing goes → requests_of i goes ≡ []
goes_silent i [] all = refl
goes_silent i (Did who ticks request answer refill ∷ goes) all = absurd all.0
goes_silent i (Waits who ticks request ∷ goes) all = absurd all.0
goes_silent i (Goes who answer ∷ goes) all = goes_silent i goes all.1
goes_silent i (Runs who ticks ∷ goes) all = absurd all.0

pub set_here : (xs : List (Option Answer)) (i : ℕ) (o : Option Answer) → i < length xs → unfetched_of (slice_set xs i o) i ≡ o
set_here [] i o low = absurd (let f : ⊥ = omega (arith, low) in f)
set_here (x ∷ xs) zero o low = refl
set_here (x ∷ xs) (suc i) o low = set_here xs i o (omega (arith, low))

pub set_none : (xs : List (Option Answer)) (i : ℕ) → unfetched_of (slice_set xs i None) i ≡ None
set_none [] i = refl
set_none (x ∷ xs) zero = refl
set_none (x ∷ xs) (suc i) = set_none xs i

pub nothing : (xs : List Answer) → length xs ≤ 0 → xs ≡ []
nothing [] few = refl
nothing (x ∷ xs) few = absurd (let f : ⊥ = omega (arith, few) in f)

pub apart : (a b : ℕ) → a ≢ b → (a == b) ≡ false
apart a b other = elim (cases_Bool (a == b)) [
  | inl is ↦ absurd (other (eqb-true a b is))
  | inr different ↦ different
]

-- after a going on the answer is owed to the one that went on
pub handed_goes : (xs : List (Option Answer)) (goes : List Event) (i : ℕ) → AllByRecursion IsGoing goes → i < length xs
    → length (option_to_list (unfetched_of xs i) ++ answers_of i goes) ≤ 1
    → option_to_list (unfetched_of (handed xs goes) i) ≡ option_to_list (unfetched_of xs i) ++ answers_of i goes
handed_goes xs [] i all low few = sym (append-nil (option_to_list (unfetched_of xs i)))
handed_goes xs (Did who ticks request answer refill ∷ goes) i all low few = absurd all.0
handed_goes xs (Waits who ticks request ∷ goes) i all low few = absurd all.0
handed_goes xs (Runs who ticks ∷ goes) i all low few = absurd all.0
handed_goes xs (Goes who answer ∷ goes) i all low few =
    let n : length (slice_set xs who (Some answer)) ≡ length xs = length-set xs who (Some answer) in
    elim (cases_eq who i) [
      | inl mine ↦ (
          let test : (who == i) ≡ true = eq-eqb who i mine in
          let here : unfetched_of (slice_set xs who (Some answer)) i ≡ Some answer = subst (λ (k : ℕ). unfetched_of (slice_set xs k (Some answer)) i ≡ Some answer) (sym mine) (set_here xs i (Some answer) low) in
          let more : answers_of i (Goes who answer ∷ goes) ≡ answer ∷ answers_of i goes = rw test refl in
          let count : length (option_to_list (unfetched_of xs i) ++ answer ∷ answers_of i goes) ≤ 1 = subst (λ (t : List Answer). length (option_to_list (unfetched_of xs i) ++ t) ≤ 1) more few in
          let split = length-append (option_to_list (unfetched_of xs i)) (answer ∷ answers_of i goes) in
          let none : option_to_list (unfetched_of xs i) ≡ [] = nothing (option_to_list (unfetched_of xs i)) (omega (arith, split, count)) in
          let rest : answers_of i goes ≡ [] = nothing (answers_of i goes) (omega (arith, split, count)) in
          let few' : length (option_to_list (unfetched_of (slice_set xs who (Some answer)) i) ++ answers_of i goes) ≤ 1 = rw (here, rest) (omega arith) in
          let after = handed_goes (slice_set xs who (Some answer)) goes i all.1 (omega (arith, n, low)) few' in
          let left : option_to_list (unfetched_of (slice_set xs who (Some answer)) i) ++ answers_of i goes ≡ answer ∷ [] = rw (here, rest) refl in
          let right : option_to_list (unfetched_of xs i) ++ answers_of i (Goes who answer ∷ goes) ≡ answer ∷ [] = ap (λ (t : List Answer). t ++ answers_of i (Goes who answer ∷ goes)) none ∙ (more ∙ ap (λ (t : List Answer). answer ∷ t) rest) in
          after ∙ (left ∙ sym right))
      | inr other ↦ (
          let test : (who == i) ≡ false = apart who i other in
          let same : unfetched_of (slice_set xs who (Some answer)) i ≡ unfetched_of xs i = read_elsewhere xs who i (Some answer) None (λ e. other (sym e)) in
          let more : answers_of i (Goes who answer ∷ goes) ≡ answers_of i goes = rw test refl in
          let count : length (option_to_list (unfetched_of xs i) ++ answers_of i goes) ≤ 1 = subst (λ (t : List Answer). length (option_to_list (unfetched_of xs i) ++ t) ≤ 1) more few in
          let few' : length (option_to_list (unfetched_of (slice_set xs who (Some answer)) i) ++ answers_of i goes) ≤ 1 = rw same count in
          let after = handed_goes (slice_set xs who (Some answer)) goes i all.1 (omega (arith, n, low)) few' in
          after ∙ (ap (λ (o : Option Answer). option_to_list o ++ answers_of i goes) same ∙ ap (λ (t : List Answer). option_to_list (unfetched_of xs i) ++ t) (sym more)))
    ]

-- one to whom no answer comes has as many to fetch as before
pub not_handed : (xs : List (Option Answer)) (goes : List Event) (i : ℕ) → AllByRecursion IsGoing goes → answers_of i goes ≡ [] → unfetched_of (handed xs goes) i ≡ unfetched_of xs i
not_handed xs [] i all none = refl
not_handed xs (Did who ticks request answer refill ∷ goes) i all none = absurd all.0
not_handed xs (Waits who ticks request ∷ goes) i all none = absurd all.0
not_handed xs (Runs who ticks ∷ goes) i all none = absurd all.0
not_handed xs (Goes who answer ∷ goes) i all none = elim (cases_eq who i) [
  | inl mine ↦ (
      let test : (who == i) ≡ true = eq-eqb who i mine in
      let more : answers_of i (Goes who answer ∷ goes) ≡ answer ∷ answers_of i goes = rw test refl in
      absurd (let e : answer ∷ answers_of i goes ≡ [] = sym more ∙ none in let f : ⊥ = cc in f))
  | inr other ↦ (
      let test : (who == i) ≡ false = apart who i other in
      let more : answers_of i (Goes who answer ∷ goes) ≡ answers_of i goes = rw test refl in
      not_handed (slice_set xs who (Some answer)) goes i all.1 (sym more ∙ none) ∙ read_elsewhere xs who i (Some answer) None (λ e. other (sym e)))
]

-- an event that is no going on leaves what is there to be fetched
pub handed_did : (xs : List (Option Answer)) (who ticks : ℕ) (request : Request) (answer : Answer) (refill : Option ℕ) (i : ℕ) → unfetched_of (handed_by xs (Did who ticks request answer refill)) i ≡ unfetched_of xs i
handed_did xs who ticks request (Instance j) refill i = read_pushed xs i None
handed_did xs who ticks request answer refill i = refl

pub handed_longer : (xs : List (Option Answer)) (event : Event) → length xs ≤ length (handed_by xs event)
handed_longer xs (Goes who answer) = let n = length-set xs who (Some answer) in omega (arith, n)
handed_longer xs (Did who ticks request (Instance j) refill) = let n = length_push xs None in omega (arith, n)
handed_longer xs (Did who ticks request answer refill) = omega arith
handed_longer xs (Waits who ticks request) = omega arith
handed_longer xs (Runs who ticks) = omega arith
