-- The places of logs, one log more at a time.
use Rattle.std.proofs.Common.{◌≡◌, ℕ, zero, suc, ◌+◌, ◌<◌, List, [], ◌∷◌, ◌++◌, length, Bool, true, false, refl, sym, ap, ◌∙◌, subst, inl, inr, arith, Option, Some, None, slice_get, take, drop, get_or, length-take-le, take-append-drop}
use Rattle.std.specs.Prelude.{not, ◌==◌, if◌then◌else◌, option_map}
use Rattle.std.specs.Option.{is_some}
use Rattle.std.proofs.lemmas.Bool.{cases_Bool, eqb-true, eqb-false, eq-eqb, ne_eqb, and_parts, and_from, and_right, and_left, not_from_false, not_from_true, not-true, or_from, or_right, or_left}
use Rattle.std.proofs.lemmas.Option.{same_Some}
use Rattle.std.proofs.lemmas.List.{take_more, drop_more}
use Rattle.std.proofs.lemmas.List.Folds.{list_any-append}
use Rattle.worker_pool.specs.declared.log.Log.{Log}
use Rattle.worker_pool.specs.Gather.{has_log, are_apart}
use Rattle.worker_pool.specs.LogPlaces.{log_place}

abbrev is_of : ℕ → Log → Bool
is_of who log = log.instance == who

-- the place in a longer list
further : (o : Option ℕ) → option_map suc o ≡ None → o ≡ None
further None is = refl
further (Some p) is = absurd (let f : ⊥ = cc in f)

nearer : (o : Option ℕ) (p : ℕ) → option_map suc o ≡ Some p → (q : ℕ) × (o ≡ Some q) × (suc q ≡ p)
nearer None p is = absurd (let f : ⊥ = cc in f)
nearer (Some q) p is = (q, refl, same_Some (suc q) p is)

-- the first log is another's
behind : (log : Log) (logs : List Log) (who : ℕ) → (log.instance == who) ≡ false → log_place (log ∷ logs) who ≡ option_map suc (log_place logs who)
behind log logs who other = ap (λ (b : Bool). if b then Some 0 else option_map suc (log_place logs who)) other

first : (log : Log) (logs : List Log) (who : ℕ) → (log.instance == who) ≡ true → log_place (log ∷ logs) who ≡ Some 0
first log logs who own = ap (λ (b : Bool). if b then Some 0 else option_map suc (log_place logs who)) own

-- an instance without a place has no log
pub placeless : (logs : List Log) (who : ℕ) → log_place logs who ≡ None → has_log logs who ≡ false
placeless [] who none = refl
placeless (log ∷ logs) who none = elim (cases_Bool (log.instance == who)) [
  | inl own ↦ absurd (let e : Some 0 ≡ None = sym (first log logs who own) ∙ none in let f : ⊥ = cc in f)
  | inr other ↦ or_from (log.instance == who) (has_log logs who) other (placeless logs who (further (log_place logs who) (sym (behind log logs who other) ∙ none)))
]

-- a place is that of a log of the instance
pub placed : (logs : List Log) (who p : ℕ) → log_place logs who ≡ Some p → (log : Log) × (slice_get logs p ≡ Some log) × (log.instance ≡ who)
placed [] who p is = absurd (let f : ⊥ = cc in f)
placed (log ∷ logs) who p is = elim (cases_Bool (log.instance == who)) [
  | inl own ↦ (log, subst (λ (k : ℕ). slice_get (log ∷ logs) k ≡ Some log) (same_Some 0 p (sym (first log logs who own) ∙ is)) refl, eqb-true log.instance who own)
  | inr other ↦ (
      let n = nearer (log_place logs who) p (sym (behind log logs who other) ∙ is) in
      let l = placed logs who n.0 n.1 in
      (l.0, subst (λ (k : ℕ). slice_get (log ∷ logs) k ≡ Some l.0) n.2 l.1, l.2))
]

-- an instance with a log has a place
pub has_placed : (logs : List Log) (who p : ℕ) → log_place logs who ≡ Some p → has_log logs who ≡ true
has_placed [] who p is = absurd (let f : ⊥ = cc in f)
has_placed (log ∷ logs) who p is = elim (cases_Bool (log.instance == who)) [
  | inl own ↦ or_left (log.instance == who) (has_log logs who) own
  | inr other ↦ (let n = nearer (log_place logs who) p (sym (behind log logs who other) ∙ is) in or_right (log.instance == who) (has_log logs who) (has_placed logs who n.0 n.1))
]

-- with a log more
place_added : (logs : List Log) (log : Log) (who : ℕ) → log_place logs log.instance ≡ None → log_place (logs ++ log ∷ []) who ≡ (if log.instance == who then Some (length logs) else log_place logs who)
place_added [] log who none = refl
place_added (l ∷ logs) log who none = elim (cases_Bool (l.instance == log.instance)) [
  | inl same ↦ absurd (let e : Some 0 ≡ None = sym (first l logs log.instance same) ∙ none in let f : ⊥ = cc in f)
  | inr apart ↦ (
      let rest = place_added logs log who (further (log_place logs log.instance) (sym (behind l logs log.instance apart) ∙ none)) in
      elim (cases_Bool (l.instance == who)) [
        | inl own ↦ (
            let no : (log.instance == who) ≡ false = ne_eqb log.instance who (λ e. eqb-false l.instance log.instance apart (eqb-true l.instance who own ∙ sym e)) in
            first l (logs ++ log ∷ []) who own ∙ sym (ap (λ (b : Bool). if b then Some (length (l ∷ logs)) else log_place (l ∷ logs) who) no ∙ first l logs who own))
        | inr other ↦ behind l (logs ++ log ∷ []) who other ∙ (ap (option_map suc) rest ∙ elim (cases_Bool (log.instance == who)) [
          | inl new ↦ rw new refl
          | inr old ↦ rw old (sym (behind l logs who other))
        ])
      ])
]

apart_added : (logs : List Log) (log : Log) → are_apart logs ≡ true → log_place logs log.instance ≡ None → are_apart (logs ++ log ∷ []) ≡ true
apart_added [] log once none = refl
apart_added (l ∷ logs) log once none = elim (cases_Bool (l.instance == log.instance)) [
  | inl same ↦ absurd (let e : Some 0 ≡ None = sym (first l logs log.instance same) ∙ none in let f : ⊥ = cc in f)
  | inr apart ↦ (
      let both = and_parts (not (has_log logs l.instance)) (are_apart logs) once in
      let no : (log.instance == l.instance) ≡ false = ne_eqb log.instance l.instance (λ e. eqb-false l.instance log.instance apart (sym e)) in
      let none_more : has_log (logs ++ log ∷ []) l.instance ≡ false = list_any-append (is_of l.instance) logs (log ∷ []) ∙ or_from (has_log logs l.instance) (has_log (log ∷ []) l.instance) (not-true (has_log logs l.instance) both.0) (or_from (log.instance == l.instance) false no refl) in
      and_from (not (has_log (logs ++ log ∷ []) l.instance)) (are_apart (logs ++ log ∷ [])) (not_from_false (has_log (logs ++ log ∷ []) l.instance) none_more)
      (apart_added logs log both.1 (further (log_place logs log.instance) (sym (behind l logs log.instance apart) ∙ none))))
]

apart_broken : (logs more : List Log) (log : Log) (p : ℕ) → log_place logs log.instance ≡ Some p → are_apart (logs ++ log ∷ more) ≡ false
apart_broken [] more log p is = absurd (let f : ⊥ = cc in f)
apart_broken (l ∷ logs) more log p is = elim (cases_Bool (l.instance == log.instance)) [
  | inl same ↦ (
      let own : (log.instance == l.instance) ≡ true = eq-eqb log.instance l.instance (sym (eqb-true l.instance log.instance same)) in
      let has : has_log (logs ++ log ∷ more) l.instance ≡ true = list_any-append (is_of l.instance) logs (log ∷ more) ∙ or_right (has_log logs l.instance) (has_log (log ∷ more) l.instance) (or_left (log.instance == l.instance) (has_log more l.instance) own) in
      and_left (not (has_log (logs ++ log ∷ more) l.instance)) (are_apart (logs ++ log ∷ more)) (not_from_true (has_log (logs ++ log ∷ more) l.instance) has))
  | inr other ↦ (
      let n = nearer (log_place logs log.instance) p (sym (behind l logs log.instance other) ∙ is) in
      and_right (not (has_log (logs ++ log ∷ more) l.instance)) (are_apart (logs ++ log ∷ more)) (apart_broken logs more log n.0 n.1))
]

-- The same of the first logs of a list.
pub place_more : (logs : List Log) (k : ℕ) (d : Log) (who : ℕ) → k < length logs → log_place (take k logs) (get_or logs k d).instance ≡ None → log_place (take (k + 1) logs) who ≡ (if (get_or logs k d).instance == who then Some k else log_place (take k logs) who)
place_more logs k d who low none =
    ap (λ (ls : List Log). log_place ls who) (take_more logs k d low)
    ∙ (place_added (take k logs) (get_or logs k d) who none ∙ ap (λ (n : ℕ). if (get_or logs k d).instance == who then Some n else log_place (take k logs) who) (length-take-le k logs (omega (arith, low))))

pub apart_more : (logs : List Log) (k : ℕ) (d : Log) → k < length logs → are_apart (take k logs) ≡ true → log_place (take k logs) (get_or logs k d).instance ≡ None → are_apart (take (k + 1) logs) ≡ true
apart_more logs k d low once none = ap are_apart (take_more logs k d low) ∙ apart_added (take k logs) (get_or logs k d) once none

pub apart_no_more : (logs : List Log) (k : ℕ) (d : Log) (p : ℕ) → k < length logs → log_place (take k logs) (get_or logs k d).instance ≡ Some p → are_apart logs ≡ false
apart_no_more logs k d p low placed =
    ap are_apart (sym (take-append-drop k logs) ∙ ap (λ (ls : List Log). take k logs ++ ls) (drop_more logs k d low))
    ∙ apart_broken (take k logs) (drop (k + 1) logs) (get_or logs k d) p placed

-- a log stands at its instance's place
pub only_place : (logs : List Log) (k : ℕ) (log : Log) → are_apart logs ≡ true → slice_get logs k ≡ Some log → log_place logs log.instance ≡ Some k
only_place [] k log once at = absurd (let f : ⊥ = cc in f)
only_place (l ∷ logs) zero log once at =
    let same : l ≡ log = same_Some l log at in
    first l logs log.instance (eq-eqb l.instance log.instance (ap (λ (x : Log). x.instance) same))
only_place (l ∷ logs) (suc k) log once at =
    let both = and_parts (not (has_log logs l.instance)) (are_apart logs) once in
    let rest = only_place logs k log both.1 at in
    elim (cases_Bool (l.instance == log.instance)) [
      | inl same ↦ absurd (
          let has : has_log logs log.instance ≡ true = has_placed logs log.instance k rest in
          let none : has_log logs l.instance ≡ false = not-true (has_log logs l.instance) both.0 in
          let e : true ≡ false = sym has ∙ (ap (has_log logs) (sym (eqb-true l.instance log.instance same)) ∙ none) in
          let f : ⊥ = cc in f)
      | inr other ↦ behind l logs log.instance other ∙ ap (option_map suc) rest
    ]

-- what a test of an option tells
pub is_there : (o : Option ℕ) → is_some o ≡ true → (p : ℕ) × (o ≡ Some p)
is_there None is = absurd (let f : ⊥ = cc in f)
is_there (Some p) is = (p, refl)

pub is_not_there : (o : Option ℕ) → is_some o ≡ false → o ≡ None
is_not_there None is = refl
is_not_there (Some p) is = absurd (let f : ⊥ = cc in f)
