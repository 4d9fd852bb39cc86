-- The run that the workers made, where their logs agree with the journal.
use Rattle.std.proofs.Common.{◌≡◌, ◌⊎◌, ℕ, zero, suc, List, [], ◌∷◌, ◌++◌, Bool, true, false, refl, sym, ap, ◌∙◌, subst, inl, inr, append-nil, Option, Some, slice_get, All}
use Rattle.std.specs.Prelude.{not, ◌&&◌, ◌==◌, IsSome}
use Rattle.std.specs.List.{list_all}
use Rattle.std.proofs.lemmas.Bool.{cases_Bool, eqb-true, eq-eqb}
use Rattle.std.proofs.lemmas.Option.{same_Some}
use Rattle.kernel_base.specs.declared.facts.Facts.{Facts}
use Rattle.kernel_base.specs.declared.answer.Answer.{Answer}
use Rattle.kernel_base.specs.declared.ends.Over.{Over}
use Rattle.kernel_base.specs.declared.event.Event.{Event}
use Rattle.world_model.specs.Allowed.{IsRun}
use Rattle.world_model.specs.Session.{Item}
use Rattle.world_model.specs.Journal.{line_of, answers_of, Birth, born_of}
use Rattle.world_model.specs.Over.{over_of}
use Rattle.code_types.specs.declared.code.Code.{Code}
use Rattle.code_types.specs.Agreement.{Agrees as CodeAgrees}
use Rattle.code_types.specs.Talk.{Reaches}
use Rattle.code_types.specs.Runs.{FollowsCode}
use Rattle.code_safety.proofs.Talking.{talk_exists}
use Rattle.code_types.specs.Runs.{ticks_in}
use Rattle.kernel_steps.specs.Kept.{IsWholeBurst}
use Rattle.machine_steps.specs.Views.{state_of}
use Rattle.run_laws.specs.Laws.{HasTalks, StandsWhereLeft}
use Rattle.run_laws.proofs.Following.{follows_law}
use Rattle.serial_run.specs.declared.runner.Runner.{Runner}
use Rattle.serial_run.specs.Coming.{WasOpen}
use Rattle.serial_run.specs.Driven.{StandsPast, HasMachine, IsUntouched, HaveOneEach, IsDriven}
use Rattle.worker_pool.specs.declared.log.Log.{Log}
use Rattle.worker_pool.specs.Logs.{IsLog}
use Rattle.worker_pool.specs.Gather.{who_of, IsOfJournal, has_log, are_apart, Agrees, runner_of, machines_of}
use Rattle.worker_pool.proofs.Following.{all_at}
use Rattle.worker_pool.proofs.Events.{quiet_items, quiet_answers, own_line, own_answers}

-- the machine at a place is that of the log there
of_log : (logs : List Log) (k : ℕ) (r : Runner) → slice_get (machines_of logs) k ≡ Some r → (log : Log) × (slice_get logs k ≡ Some log) × (runner_of log ≡ r)
of_log [] k r at = absurd (let f : ⊥ = cc in f)
of_log (log ∷ logs) zero r at = (log, refl, same_Some (runner_of log) r at)
of_log (log ∷ logs) (suc k) r at = of_log logs k r at

-- an instance with a log has it at a place
found_at : (logs : List Log) (i : ℕ) → has_log logs i ≡ true → (k : ℕ) × (log : Log) × (slice_get logs k ≡ Some log) × (slice_get (machines_of logs) k ≡ Some (runner_of log)) × (log.instance ≡ i)
found_at [] i has = absurd (let f : ⊥ = cc in f)
found_at (log ∷ logs) i has = elim (cases_Bool (log.instance == i)) [
  | inl is ↦ (zero, log, refl, refl, eqb-true log.instance i is)
  | inr other ↦ (
      let later : has_log logs i ≡ true = rw other at has in
      let f = found_at logs i later in
      (suc f.0, f.1, f.2, f.3, f.4))
]

-- the instance of each machine has a log
has_at : (logs : List Log) (k : ℕ) (r : Runner) → slice_get (machines_of logs) k ≡ Some r → has_log logs r.instance ≡ true
has_at [] k r at = absurd (let f : ⊥ = cc in f)
has_at (log ∷ logs) zero r at =
    let is : log.instance ≡ r.instance = ap (λ (x : Runner). x.instance) (same_Some (runner_of log) r at) in
    rw (eq-eqb log.instance r.instance is) refl
has_at (log ∷ logs) (suc k) r at = elim (cases_Bool (log.instance == r.instance)) [
  | inl is ↦ rw is refl
  | inr other ↦ rw other (has_at logs k r at)
]

both_true : (a b : Bool) → (a && b) ≡ true → (a ≡ true) × (b ≡ true)
both_true true b is = (refl, is)
both_true false b is = absurd (let f : ⊥ = cc in f)

-- no two machines are of one instance
one_each : (logs : List Log) → are_apart logs ≡ true → HaveOneEach (machines_of logs)
one_each [] apart k j r other at there same = absurd (let f : ⊥ = cc in f)
one_each (log ∷ logs) apart zero zero r other at there same = refl
one_each (log ∷ logs) apart zero (suc j) r other at there same =
    let is : log.instance ≡ other.instance = ap (λ (x : Runner). x.instance) (same_Some (runner_of log) r at) ∙ same in
    let has : has_log logs log.instance ≡ true = subst (λ (i : ℕ). has_log logs i ≡ true) (sym is) (has_at logs j other there) in
    let none : not (has_log logs log.instance) ≡ true = (both_true (not (has_log logs log.instance)) (are_apart logs) apart).0 in
    absurd (let e : not true ≡ true = subst (λ (b : Bool). not b ≡ true) has none in let f : ⊥ = cc in f)
one_each (log ∷ logs) apart (suc k) zero r other at there same =
    let is : log.instance ≡ r.instance = ap (λ (x : Runner). x.instance) (same_Some (runner_of log) other there) ∙ sym same in
    let has : has_log logs log.instance ≡ true = subst (λ (i : ℕ). has_log logs i ≡ true) (sym is) (has_at logs k r at) in
    let none : not (has_log logs log.instance) ≡ true = (both_true (not (has_log logs log.instance)) (are_apart logs) apart).0 in
    absurd (let e : not true ≡ true = subst (λ (b : Bool). not b ≡ true) has none in let f : ⊥ = cc in f)
one_each (log ∷ logs) apart (suc k) (suc j) r other at there same = ap suc (one_each logs (both_true (not (has_log logs log.instance)) (are_apart logs) apart).1 k j r other at there same)

-- an instance without a log did nothing
untouched : (logs : List Log) (journal : List Event) (i : ℕ) → list_all (λ event. has_log logs (who_of event)) journal ≡ true → has_log logs i ≡ false → IsUntouched journal i
untouched logs [] i each none = (refl, refl)
untouched logs (e ∷ journal) i each none =
    let both = both_true (has_log logs (who_of e)) (list_all (λ event. has_log logs (who_of event)) journal) each in
    let rest = untouched logs journal i both.1 none in
    elim (cases_Bool (who_of e == i)) [
      | inl own ↦ absurd (let e' : true ≡ false = sym both.0 ∙ (ap (has_log logs) (eqb-true (who_of e) i own) ∙ none) in let f : ⊥ = cc in f)
      | inr other ↦ (ap (λ (t : List Item). t ++ line_of i journal) (quiet_items i e other) ∙ rest.0, ap (λ (t : List Answer). t ++ answers_of i journal) (quiet_answers i e other) ∙ rest.1)
    ]

-- a log of the journal: where its line leaves its machine, the journal leaves it
stands_left : (code : Code) (journal : List Event) (log : Log) (l : IsLog code log) → IsOfJournal journal log → StandsWhereLeft code journal log.instance l.left
stands_left code journal log l own =
    let answers : answers_of log.instance log.events ≡ answers_of log.instance journal = ap (answers_of log.instance) own.0 ∙ own_answers log.instance journal in
    let line : line_of log.instance log.events ≡ line_of log.instance journal = ap (line_of log.instance) own.0 ∙ own_line log.instance journal in
    record {
      birth = record { process = log.process; arguments = log.scalars };
      born = own.1;
      reached = subst (λ (t : List Item). Reaches code log.instance log.process log.scalars (answers_of log.instance journal) t l.left) line
          (subst (λ (a : List Answer). Reaches code log.instance log.process log.scalars a (line_of log.instance log.events) l.left) answers l.line);
    }

stands_past : (code : Code) (journal : List Event) (log : Log) → IsLog code log → IsOfJournal journal log → StandsPast code journal log.instance (state_of log.machine)
stands_past code journal log l own = record { left = l.left; stands = stands_left code journal log l own; burst = l.burst; short = l.short; leads = l.leads }

-- an instance that did nothing follows any code
follows_untouched : (code : Code) (journal : List Event) (who : ℕ) (birth : Birth) → HasTalks code → IsUntouched journal who → FollowsCode code journal who birth
follows_untouched code journal who birth has none =
    let talk = has who birth.process birth.arguments (answers_of who journal) (suc (ticks_in (line_of who journal))) in
    record { trace = talk.0; talks = talk.1; begins = (talk.0, ap (λ (t : List Item). t ++ talk.0) (sym none.0)) }

follows_left : (code : Code) (journal : List Event) (who : ℕ) (birth : Birth) (log : Log) → HasTalks code → born_of who journal ≡ Some birth → log.instance ≡ who → (l : IsLog code log) → IsOfJournal journal log → FollowsCode code journal who birth
follows_left code journal who birth log has born is l own =
    let s = stands_left code journal log l own in
    let here : born_of log.instance journal ≡ Some birth = subst (λ (i : ℕ). born_of i journal ≡ Some birth) (sym is) born in
    let same : s.birth ≡ birth = same_Some s.birth birth (sym s.born ∙ here) in
    let follows : FollowsCode code journal log.instance s.birth = follows_law code journal log.instance s.birth (answers_of log.instance journal) [] l.left has (sym (append-nil (answers_of log.instance journal))) s.reached in
    subst (λ (i : ℕ). FollowsCode code journal i birth) is (subst (λ (b : Birth). FollowsCode code journal log.instance b) same follows)

-- a machine at a place, or nothing done
machine_or_none : (logs : List Log) (journal : List Event) (i : ℕ) → list_all (λ event. has_log logs (who_of event)) journal ≡ true → HasMachine (machines_of logs) i ⊎ IsUntouched journal i
machine_or_none logs journal i each = elim (cases_Bool (has_log logs i)) [
  | inl has ↦ (let f = found_at logs i has in inl (f.0, runner_of f.1, f.3, f.4))
  | inr none ↦ inr (untouched logs journal i each none)
]

follows : (code : Code) (journal : List Event) (logs : List Log) → HasTalks code → All (IsLog code) logs → Agrees journal logs → (who : ℕ) (birth : Birth) → born_of who journal ≡ Some birth → FollowsCode code journal who birth
follows code journal logs has all a who birth born = elim (cases_Bool (has_log logs who)) [
  | inl there ↦ (let f = found_at logs who there in follows_left code journal who birth f.1 has born f.4 (all_at (IsLog code) logs f.0 f.1 all f.2) (all_at (IsOfJournal journal) logs f.0 f.1 a.own f.2))
  | inr none ↦ follows_untouched code journal who birth has (untouched logs journal who a.each none)
]

-- a run
pub gathered : (code : Code) (facts : Facts) (journal : List Event) (logs : List Log) (over : Over) → CodeAgrees code → All (IsLog code) logs → WasOpen facts journal → IsRun facts journal → All IsWholeBurst journal
    → Agrees journal logs → over_of facts journal ≡ Some over → IsDriven code facts (record { events = journal; machines = machines_of logs; over = over })
gathered code facts journal logs over agrees all was run bursts a is = record {
  run = record { run = run; follows = follows code journal logs (talk_exists code agrees) all a };
  complete = record { over = subst (λ (o : Option Over). IsSome o) (sym is) refl; first = was };
  over = is;
  bursts = bursts;
  once = one_each logs a.once;
  each = λ i low. machine_or_none logs journal i a.each;
  stand = λ k r at.
      let l = of_log logs k r at in
      let past : StandsPast code journal (runner_of l.0).instance (state_of (runner_of l.0).machine) = stands_past code journal l.0 (all_at (IsLog code) logs k l.0 all l.1) (all_at (IsOfJournal journal) logs k l.0 a.own l.1) in
      subst (λ (x : Runner). StandsPast code journal x.instance (state_of x.machine)) l.2 past;
}
