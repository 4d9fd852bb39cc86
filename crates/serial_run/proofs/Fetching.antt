-- What a machine comes to that fetches its answer.
use Rattle.std.proofs.Common.{◌≡◌, Ok, Err, ℕ, ◌+◌, ◌<◌, ◌≤◌, List, [], ◌∷◌, ◌++◌, refl, sym, ap, ◌∙◌, subst, inl, inr, arith, Option, Some, None, slice_get, slice_set}
use Rattle.std.specs.Prelude.{option_to_list}
use Rattle.std.proofs.lemmas.Bool.{cases_eq}
use Rattle.kernel_base.specs.declared.facts.Facts.{Facts}
use Rattle.kernel_base.specs.declared.answer.Answer.{Answer}
use Rattle.kernel_base.specs.declared.event.Event.{Event}
use Rattle.world_model.proofs.ChangedLists.{written_or_old, written_here, written_elsewhere, read_elsewhere}
use Rattle.code_types.specs.declared.code.Code.{Code}
use Rattle.code_types.specs.Runs.{Suits}
use Rattle.code_types.specs.Talk.{Leads}
use Rattle.kernel_steps.specs.View.{View, unfetched_of, Fetches, Keeps, Grows, handed}
use Rattle.machine_steps.specs.declared.process.Process.{Process}
use Rattle.serial_run.specs.declared.runner.Runner.{Runner}
use Rattle.code_machine.specs.Running.{GoesOnBehind, IsUp, RunsOn}
use Rattle.machine_steps.specs.Views.{state_of}
use Rattle.serial_run.specs.Coming.{HasCome}
use Rattle.std.specs.Prelude.{IfOk, OnErr}
use Rattle.std.specs.declared.result.Result.{Result}
use Rattle.serial_run.specs.declared.refusal.Misfit.{Misfit}
use Rattle.serial_run.specs.Standing.{AllStand, Stands, FetchedBy, KeepsJournal}
use Rattle.serial_run.specs.Suiting.{IsUnsuited, Rests}
use Rattle.serial_run.proofs.Coming.{WaitsFor, come_answered}
use Rattle.serial_run.proofs.Owing.{set_none}

pub fetched_by : (old new : View) (who : ℕ) (answer : Option Answer) → Fetches old new who answer → FetchedBy old new who
fetched_by old new who answer f = record { unfetched = f.unfetched; facts = f.facts; events = f.events; taken = f.taken }

none_left : (old new : View) (who : ℕ) → FetchedBy old new who → unfetched_of new.unfetched who ≡ None
none_left old new who f = ap (λ (xs : List (Option Answer)). unfetched_of xs who) f.unfetched ∙ set_none old.unfetched who

-- nothing was there to fetch
pub fetched_nothing : (code : Code) (old new : View) (r : Runner) → Fetches old new r.instance None → Stands code old r → Stands code new r
fetched_nothing code old new r f h =
    let same : unfetched_of new.unfetched r.instance ≡ unfetched_of old.unfetched r.instance = none_left old new r.instance (fetched_by old new r.instance None f) ∙ f.answer_is in
    record {
      runs = h.runs;
      come = subst (λ (xs : List Event). HasCome code xs (option_to_list (unfetched_of new.unfetched r.instance)) r.instance (state_of r.machine)) (sym f.events)
          (subst (λ (o : Option Answer). HasCome code old.events (option_to_list o) r.instance (state_of r.machine)) (sym same) h.come);
    }

-- an answer was there, and was given to the machine
pub fetched_answer : (code : Code) (old new : View) (r : Runner) (answer : Answer) (m : Process) → Fetches old new r.instance (Some answer) → WaitsFor (state_of r.machine).mode → GoesOnBehind (state_of r.machine).mode (state_of m).mode → Leads code (state_of r.machine) (answer ∷ []) [] (state_of m) → RunsOn code m → Stands code old r → Stands code new (record { instance = r.instance; machine = m })
fetched_answer code old new r answer m f waits going leads runs h =
    let owed : HasCome code old.events (answer ∷ []) r.instance (state_of r.machine) = subst (λ (o : Option Answer). HasCome code old.events (option_to_list o) r.instance (state_of r.machine)) (sym f.answer_is) h.come in
    let come = come_answered code old.events answer r.instance (state_of r.machine) (state_of m) owed waits going leads in
    record {
      runs = runs;
      come = subst (λ (xs : List Event). HasCome code xs (option_to_list (unfetched_of new.unfetched r.instance)) r.instance (state_of m)) (sym f.events)
          (subst (λ (o : Option Answer). HasCome code old.events (option_to_list o) r.instance (state_of m)) (sym (none_left old new r.instance (fetched_by old new r.instance (Some answer) f))) come);
    }

-- the first so many have nothing to fetch
abbrev pub HaveFetchedBelow : View → List Runner → ℕ → Type 0
HaveFetchedBelow v runners n = (k : ℕ) (r : Runner) → k < n → slice_get runners k ≡ Some r → unfetched_of v.unfetched r.instance ≡ None

still_none : (old new : View) (who i : ℕ) → FetchedBy old new who → unfetched_of old.unfetched i ≡ None → unfetched_of new.unfetched i ≡ None
still_none old new who i f none = ap (λ (xs : List (Option Answer)). unfetched_of xs i) f.unfetched ∙ elim (cases_eq i who) [
  | inl is ↦ subst (λ (k : ℕ). unfetched_of (slice_set old.unfetched k None) i ≡ None) is (set_none old.unfetched i)
  | inr other ↦ read_elsewhere old.unfetched who i None None other ∙ none
]

pub one_more_fetched : (old new : View) (runners : List Runner) (k : ℕ) (r changed : Runner) → slice_get runners k ≡ Some r → changed.instance ≡ r.instance → FetchedBy old new r.instance → HaveFetchedBelow old runners k → HaveFetchedBelow new (slice_set runners k changed) (k + 1)
one_more_fetched old new runners k r changed at same f below j other low is = elim (written_or_old runners k j changed other is) [
  | inl now ↦ subst (λ (x : Runner). unfetched_of new.unfetched x.instance ≡ None) (sym now.1) (subst (λ (i : ℕ). unfetched_of new.unfetched i ≡ None) (sym same) (none_left old new r.instance f))
  | inr old_one ↦ elim (cases_eq j k) [
    | inl here ↦ (
        let there : slice_get runners k ≡ Some other = subst (λ (n : ℕ). slice_get runners n ≡ Some other) here old_one in
        let both : r ≡ other = cc in
        subst (λ (x : Runner). unfetched_of new.unfetched x.instance ≡ None) both (none_left old new r.instance f))
    | inr away ↦ still_none old new r.instance other.instance f (below j other (grind (arith, low, away)) old_one)
  ]
]

-- those from a place on that were looked at rest
abbrev pub RestBetween : View → List Runner → ℕ → ℕ → Type 0
RestBetween v runners from until = (k : ℕ) (r : Runner) → from ≤ k → k < until → slice_get runners k ≡ Some r → Rests v r

pub one_more_rests : (old new : View) (runners : List Runner) (from k : ℕ) (r changed : Runner) → slice_get runners k ≡ Some r → changed.instance ≡ r.instance → FetchedBy old new r.instance → (IsUp (state_of changed.machine).mode → ⊥)
    → RestBetween old runners from k → RestBetween new (slice_set runners k changed) from (k + 1)
one_more_rests old new runners from k r changed at same f down before j other low high is = elim (cases_eq j k) [
  | inl here ↦ (
      let there : slice_get (slice_set runners k changed) k ≡ Some changed = written_here runners k changed r at in
      let both : Some changed ≡ Some other = sym there ∙ (ap (λ (n : ℕ). slice_get (slice_set runners k changed) n) (sym here) ∙ is) in
      let one : changed ≡ other = cc in
      let none : unfetched_of new.unfetched changed.instance ≡ None = subst (λ (i : ℕ). unfetched_of new.unfetched i ≡ None) (sym same) (none_left old new r.instance f) in
      subst (λ (x : Runner). Rests new x) one (record { down = down; fetched = none }))
  | inr away ↦ (
      let h = before j other low (grind (arith, high, away)) (sym (written_elsewhere runners k j changed away) ∙ is) in
      record { down = h.down; fetched = still_none old new r.instance other.instance f h.fetched })
]

-- where no code suits that the machines stand with once more were fetched, none does before
pub unsuited_before : (first second : View) (a b : List Runner) → KeepsJournal first second → ((code : Code) → AllStand code first a → AllStand code second b) → IsUnsuited second b → IsUnsuited first a
unsuited_before first second a b k stand unsuited code h suits = unsuited code (stand code h) (subst (λ (x : Facts). Suits code x) (sym k.facts) suits)

pub unsuited_both : (first second : View) (a b : List Runner) (found : Result (Option ℕ) Misfit) → KeepsJournal first second → ((code : Code) → AllStand code first a → AllStand code second b) → OnErr found (IsUnsuited second b) → OnErr found (IsUnsuited first a)
unsuited_both first second a b (Ok place) k stand unsuited = tt
unsuited_both first second a b (Err misfit) k stand unsuited = unsuited_before first second a b k stand unsuited

pub same_journal : (v : View) → KeepsJournal v v
same_journal v = record { facts = refl; events = refl; taken = refl }

pub journal_on : (first second third : View) (who : ℕ) → KeepsJournal first second → FetchedBy second third who → KeepsJournal first third
journal_on first second third who k f = record { facts = f.facts ∙ k.facts; events = f.events ∙ k.events; taken = f.taken ∙ k.taken }

pub journal_both : (first second third : View) → KeepsJournal first second → KeepsJournal second third → KeepsJournal first third
journal_both first second third k j = record { facts = j.facts ∙ k.facts; events = j.events ∙ k.events; taken = j.taken ∙ k.taken }

grows_from : (old mid new : View) (event : Event) → Keeps old mid → Grows mid new event → Grows old new event
grows_from old mid new event k g = record {
  goes = g.goes;
  only = g.only;
  events = g.events ∙ ap (λ (xs : List Event). xs ++ event ∷ g.goes) k.events;
  idle = g.idle;
  unfetched = g.unfetched ∙ ap (λ (xs : List (Option Answer)). handed xs (event ∷ g.goes)) k.unfetched;
  facts = g.facts ∙ k.facts;
  taken = g.taken ∙ k.taken;
}

-- all stand behind a second search as they do behind the first
pub stand_both : (first second third : View) (a b d : List Runner) (found : Result (Option ℕ) Misfit) → ((code : Code) → AllStand code first a → AllStand code second b) → IfOk found (λ place. (code : Code) → AllStand code second b → AllStand code third d) → IfOk found (λ place. (code : Code) → AllStand code first a → AllStand code third d)
stand_both first second third a b d (Ok place) before behind = λ code h. behind code (before code h)
stand_both first second third a b d (Err misfit) before behind = tt
