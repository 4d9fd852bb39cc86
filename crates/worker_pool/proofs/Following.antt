-- Logs that are followed beside a journal.
use Rattle.std.proofs.Common.{◌≡◌, ℕ, zero, suc, ◌+◌, ◌<◌, ◌≤◌, List, [], ◌∷◌, length, Bool, true, false, sym, ap, ◌∙◌, subst, inl, inr, arith, Some, slice_get, drop, get_or, All, replicate, length-drop, get_or-set_same, get_or-set_other}
use Rattle.std.specs.Prelude.{◌==◌, ◌&&◌, ◌↔◌}
use Rattle.std.specs.List.{list_all}
use Rattle.std.proofs.lemmas.Bool.{cases_eq, eq-eqb, ne_eqb}
use Rattle.std.proofs.lemmas.Option.{same_Some, slice_get_within, slice_get-get_or, get_or_from_slice_get}
use Rattle.std.proofs.lemmas.List.{drop_more, drop_all, get_or-replicate}
use Rattle.std.proofs.lemmas.List.Elements.{All-get_or}
use Rattle.kernel_base.specs.declared.event.Event.{Event}
use Rattle.worker_pool.specs.declared.log.Log.{Log}
use Rattle.worker_pool.specs.Gather.{who_of, events_of, HasItsEvents, has_log, are_apart}
use Rattle.worker_pool.specs.LogPlaces.{log_place, TakesNext, Denies, ArePassed, HaveEvents}
use Rattle.worker_pool.proofs.Events.{own_event, other_event}
use Rattle.worker_pool.proofs.Placing.{only_place, has_placed}

-- Each log has the events of its instance exactly where those that are next have the rest.
abbrev pub Follow : List Log → List Event → ℕ → List ℕ → Type 0
Follow logs journal n nexts = (k : ℕ) (log : Log) → slice_get logs k ≡ Some log → HasItsEvents journal log ↔ (drop (get_or nexts k 0) log.events ≡ events_of log.instance (drop n journal))

-- what is next is the front of the rest
front : (events : List Event) (m : ℕ) (event : Event) → slice_get events m ≡ Some event → drop m events ≡ event ∷ drop (m + 1) events
front events m event at = drop_more events m event (slice_get_within events m event at) ∙ ap (λ (e : Event). e ∷ drop (m + 1) events) (get_or_from_slice_get events m event event at)

next_of : (events : List Event) (m : ℕ) (event : Event) (rest : List Event) → drop m events ≡ event ∷ rest → slice_get events m ≡ Some event
next_of [] zero event rest is = absurd (let f : ⊥ = cc in f)
next_of [] (suc m) event rest is = absurd (let f : ⊥ = cc in f)
next_of (e ∷ events) zero event rest is = ap Some (ap (λ (xs : List Event). get_or xs 0 e) is)
next_of (e ∷ events) (suc m) event rest is = next_of events m event rest is

behind_both : (e : Event) (xs ys : List Event) → (e ∷ xs ≡ e ∷ ys) ↔ (xs ≡ ys)
behind_both e xs ys = (λ is. ap (λ (zs : List Event). drop 1 zs) is, λ is. ap (λ (zs : List Event). e ∷ zs) is)

pub through : (A B C : Type 0) → A ↔ B → B ↔ C → A ↔ C
through A B C f g = (λ a. g.0 (f.0 a), λ c. f.1 (g.1 c))

equals : (xs ys zs ws : List Event) → xs ≡ zs → ys ≡ ws → (xs ≡ ys) ↔ (zs ≡ ws)
equals xs ys zs ws a b = (λ is. sym a ∙ (is ∙ b), λ is. a ∙ (is ∙ sym b))

-- one event on
on_here : (logs : List Log) (journal : List Event) (n : ℕ) (event : Event) (old new : List ℕ) (p : TakesNext logs old new event) (log : Log) → n < length journal → event ≡ get_or journal n event → length old ≡ length logs → slice_get logs p.place ≡ Some log
    → HasItsEvents journal log ↔ (drop (get_or old p.place 0) log.events ≡ events_of log.instance (drop n journal)) → HasItsEvents journal log ↔ (drop (get_or new p.place 0) log.events ≡ events_of log.instance (drop (n + 1) journal))
on_here logs journal n event old new p log low is count at was =
    let same : p.log ≡ log = same_Some p.log log (sym p.at ∙ at) in
    let m : ℕ = get_or old p.place 0 in
    let next : slice_get log.events m ≡ Some event = subst (λ (l : Log). slice_get l.events m ≡ Some event) same p.next in
    let own : (who_of event == log.instance) ≡ true = eq-eqb (who_of event) log.instance (sym (ap (λ (l : Log). l.instance) (sym same) ∙ p.own)) in
    let within : p.place < length old = (let w = slice_get_within logs p.place log at in omega (arith, count, w)) in
    let now : get_or new p.place 0 ≡ m + 1 = ap (λ (xs : List ℕ). get_or xs p.place 0) p.passed ∙ get_or-set_same old p.place (m + 1) 0 within in
    through (HasItsEvents journal log) (drop m log.events ≡ events_of log.instance (drop n journal)) (drop (get_or new p.place 0) log.events ≡ events_of log.instance (drop (n + 1) journal)) was
    (through (drop m log.events ≡ events_of log.instance (drop n journal)) (event ∷ drop (m + 1) log.events ≡ event ∷ events_of log.instance (drop (n + 1) journal)) (drop (get_or new p.place 0) log.events ≡ events_of log.instance (drop (n + 1) journal))
    (equals (drop m log.events) (events_of log.instance (drop n journal)) (event ∷ drop (m + 1) log.events) (event ∷ events_of log.instance (drop (n + 1) journal)) (front log.events m event next) (own_event log.instance journal n event low is own))
    (subst (λ (j : ℕ). (event ∷ drop (m + 1) log.events ≡ event ∷ events_of log.instance (drop (n + 1) journal)) ↔ (drop j log.events ≡ events_of log.instance (drop (n + 1) journal))) (sym now)
    (behind_both event (drop (m + 1) log.events) (events_of log.instance (drop (n + 1) journal)))))

on_elsewhere : (logs : List Log) (journal : List Event) (n : ℕ) (event : Event) (old new : List ℕ) (p : TakesNext logs old new event) (k : ℕ) (log : Log) → are_apart logs ≡ true → n < length journal → event ≡ get_or journal n event → slice_get logs k ≡ Some log → (k ≡ p.place → ⊥)
    → HasItsEvents journal log ↔ (drop (get_or old k 0) log.events ≡ events_of log.instance (drop n journal)) → HasItsEvents journal log ↔ (drop (get_or new k 0) log.events ≡ events_of log.instance (drop (n + 1) journal))
on_elsewhere logs journal n event old new p k log once low is at other was =
    let another : (who_of event == log.instance) ≡ false = ne_eqb (who_of event) log.instance (λ e.
    other (same_Some k p.place (sym (only_place logs k log once at) ∙ (ap (log_place logs) (sym e ∙ sym p.own) ∙ only_place logs p.place p.log once p.at)))) in
    let now : get_or new k 0 ≡ get_or old k 0 = ap (λ (xs : List ℕ). get_or xs k 0) p.passed ∙ get_or-set_other old p.place k (get_or old p.place 0 + 1) 0 other in
    through (HasItsEvents journal log) (drop (get_or old k 0) log.events ≡ events_of log.instance (drop n journal)) (drop (get_or new k 0) log.events ≡ events_of log.instance (drop (n + 1) journal)) was
    (equals (drop (get_or old k 0) log.events) (events_of log.instance (drop n journal)) (drop (get_or new k 0) log.events) (events_of log.instance (drop (n + 1) journal)) (ap (λ (j : ℕ). drop j log.events) (sym now)) (other_event log.instance journal n event low is another))

pub follow_on : (logs : List Log) (journal : List Event) (n : ℕ) (event : Event) (old new : List ℕ) → are_apart logs ≡ true → n < length journal → event ≡ get_or journal n event → length old ≡ length logs → TakesNext logs old new event → Follow logs journal n old → Follow logs journal (n + 1) new
follow_on logs journal n event old new once low is count p follow k log at = elim (cases_eq k p.place) [
  | inl here ↦ subst (λ (j : ℕ). HasItsEvents journal log ↔ (drop (get_or new j 0) log.events ≡ events_of log.instance (drop (n + 1) journal))) (sym here)
      (on_here logs journal n event old new p log low is count (subst (λ (j : ℕ). slice_get logs j ≡ Some log) here at)
      (subst (λ (j : ℕ). HasItsEvents journal log ↔ (drop (get_or old j 0) log.events ≡ events_of log.instance (drop n journal))) here (follow k log at)))
  | inr other ↦ on_elsewhere logs journal n event old new p k log once low is at other (follow k log at)
]

-- the log that passes an event has its instance
takes_own : (logs : List Log) (event : Event) (old new : List ℕ) → are_apart logs ≡ true → TakesNext logs old new event → has_log logs (who_of event) ≡ true
takes_own logs event old new once p = ap (has_log logs) (sym p.own) ∙ has_placed logs p.log.instance p.place (only_place logs p.place p.log once p.at)

each_on : (logs : List Log) (journal : List Event) (n : ℕ) (event : Event) → n < length journal → event ≡ get_or journal n event → list_all (λ e. has_log logs (who_of e)) (drop n journal) ≡ (has_log logs (who_of event) && list_all (λ e. has_log logs (who_of e)) (drop (n + 1) journal))
each_on logs journal n event low is = ap (list_all (λ e. has_log logs (who_of e))) (drop_more journal n event low ∙ ap (λ (e : Event). e ∷ drop (n + 1) journal) (sym is))

pub each_passes : (logs : List Log) (journal : List Event) (n : ℕ) (event : Event) (old new : List ℕ) → are_apart logs ≡ true → n < length journal → event ≡ get_or journal n event → TakesNext logs old new event → list_all (λ e. has_log logs (who_of e)) (drop n journal) ≡ list_all (λ e. has_log logs (who_of e)) (drop (n + 1) journal)
each_passes logs journal n event old new once low is p = each_on logs journal n event low is ∙ ap (λ (b : Bool). b && list_all (λ e. has_log logs (who_of e)) (drop (n + 1) journal)) (takes_own logs event old new once p)

-- what holds of all logs holds of the one at a place
pub all_at : (P : Log → Type 0) (logs : List Log) (k : ℕ) (log : Log) → All P logs → slice_get logs k ≡ Some log → P log
all_at P logs k log all at = subst P (get_or_from_slice_get logs k log log at) (All-get_or P logs k log (slice_get_within logs k log at) all)

pub all_from : (P : Log → Type 0) (logs : List Log) → ((k : ℕ) (log : Log) → slice_get logs k ≡ Some log → P log) → All P logs
all_from P logs each = λ k d low. each k (get_or logs k d) (slice_get-get_or logs k d low)

-- a log that has another event next
pub denied : (logs : List Log) (journal : List Event) (n : ℕ) (event : Event) (nexts : List ℕ) → n < length journal → event ≡ get_or journal n event → Follow logs journal n nexts → list_all (λ e. has_log logs (who_of e)) journal ≡ list_all (λ e. has_log logs (who_of e)) (drop n journal) → Denies logs nexts event → HaveEvents journal logs → ⊥
denied logs journal n event nexts low is follow each (inl none) h =
    let e : true ≡ false = sym h.each ∙ (each ∙ (each_on logs journal n event low is ∙ ap (λ (b : Bool). b && list_all (λ e. has_log logs (who_of e)) (drop (n + 1) journal)) none)) in
    let f : ⊥ = cc in f
denied logs journal n event nexts low is follow each (inr d) h =
    let has = all_at (HasItsEvents journal) logs d.place d.log h.own d.at in
    let own : (who_of event == d.log.instance) ≡ true = eq-eqb (who_of event) d.log.instance (sym d.own) in
    d.other (next_of d.log.events (get_or nexts d.place 0) event (events_of d.log.instance (drop (n + 1) journal)) ((follow d.place d.log d.at).0 has ∙ own_event d.log.instance journal n event low is own))

-- behind the last event
pub passed_all : (logs : List Log) (journal : List Event) (n : ℕ) (nexts : List ℕ) → length journal ≤ n → Follow logs journal n nexts → list_all (λ e. has_log logs (who_of e)) journal ≡ list_all (λ e. has_log logs (who_of e)) (drop n journal) → ArePassed logs nexts ↔ HaveEvents journal logs
passed_all logs journal n nexts past follow each = (
  λ passed. record {
    own = all_from (HasItsEvents journal) logs (λ k log at. (follow k log at).1 (drop_all (get_or nexts k 0) log.events (passed k log at) ∙ sym (ap (events_of log.instance) (drop_all n journal past))));
    each = each ∙ ap (list_all (λ e. has_log logs (who_of e))) (drop_all n journal past);
  },
  λ h. λ k log at.
      (let none : drop (get_or nexts k 0) log.events ≡ [] = (follow k log at).0 (all_at (HasItsEvents journal) logs k log h.own at) ∙ ap (events_of log.instance) (drop_all n journal past) in
      let e = length-drop (get_or nexts k 0) log.events in
      let z : length (drop (get_or nexts k 0) log.events) ≡ 0 = ap length none in
      omega (arith, e, z)),
)

-- before the first event
pub follow_first : (logs : List Log) (journal : List Event) (nexts : List ℕ) → nexts ≡ replicate (length logs) 0 → Follow logs journal 0 nexts
follow_first logs journal nexts is k log at =
    let zero_next : get_or nexts k 0 ≡ 0 = ap (λ (xs : List ℕ). get_or xs k 0) is ∙ get_or-replicate (length logs) k 0 0 (slice_get_within logs k log at) in
    subst (λ (m : ℕ). HasItsEvents journal log ↔ (drop m log.events ≡ events_of log.instance (drop 0 journal))) (sym zero_next) (λ h. h, λ h. h)
