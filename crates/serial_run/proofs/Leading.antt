-- All machines, once an answer was fetched or an event was noted.
use Rattle.std.proofs.Common.{◌≡◌, ◌≢◌, ℕ, suc, ◌+◌, ◌≤◌, ◌<◌, List, [], ◌∷◌, ◌++◌, length, length-append, length-set, refl, sym, ap, ◌∙◌, subst, inl, inr, arith, Option, Some, None, slice_get, slice_set}
use Rattle.std.specs.Prelude.{option_to_list}
use Rattle.std.specs.List.{AllByRecursion}
use Rattle.std.proofs.lemmas.Bool.{cases_eq}
use Rattle.std.proofs.lemmas.Option.{slice_get_within}
use Rattle.kernel_base.specs.declared.facts.Facts.{Facts}
use Rattle.kernel_base.specs.declared.request.Request.{Request}
use Rattle.kernel_base.specs.declared.answer.Answer.{Answer}
use Rattle.kernel_base.specs.declared.event.Event.{Event}
use Rattle.kernel_base.specs.declared.event.Event.TheVariants.{Did, Waits, Goes, Runs}
use Rattle.kernel_base.specs.Facts.{IsSound}
use Rattle.world_model.specs.Session.{Item}
use Rattle.world_model.specs.World.{world_of}
use Rattle.world_model.specs.Allowed.{IsRun}
use Rattle.world_model.specs.Journal.{items_by, requests_by, answers_by, line_of, requests_of, answers_of}
use Rattle.world_model.specs.Laws.{IsDoneBy}
use Rattle.world_model.proofs.ChangedLists.{written_or_old, written_here, read_elsewhere}
use Rattle.code_types.specs.declared.code.Code.{Code}
use Rattle.code_safety.proofs.Talking.{talk_exists}
use Rattle.kernel_steps.specs.View.{View, unfetched_of, handed_by, handed, IsGoing}
use Rattle.serial_run.specs.declared.runner.Runner.{Runner}
use Rattle.machine_steps.specs.Views.{state_of}
use Rattle.serial_run.specs.Coming.{HasCome, WasOpen, EachFrontFollows}
use Rattle.serial_run.specs.Standing.{Stands, IsFresh, AllStand, FetchedBy, Advances}
use Rattle.serial_run.proofs.Coming.{line_more, requests_more, answers_more, come_aside, owed_one, answered_few}
use Rattle.serial_run.proofs.Owing.{goes_quiet, goes_silent, nothing, apart, handed_goes, not_handed, handed_did, handed_longer, set_none}
use Rattle.serial_run.proofs.Open.{open_more}
use Rattle.serial_run.proofs.Made.{counted_more}
use Rattle.serial_run.proofs.Fronts.{follow_more}

-- a machine stands where it stood, once another's answer was fetched
other_fetched : (code : Code) (old new : View) (who : ℕ) (r : Runner) → FetchedBy old new who → r.instance ≢ who → Stands code old r → Stands code new r
other_fetched code old new who r f other h =
    let same : unfetched_of new.unfetched r.instance ≡ unfetched_of old.unfetched r.instance = ap (λ (xs : List (Option Answer)). unfetched_of xs r.instance) f.unfetched ∙ read_elsewhere old.unfetched who r.instance None None other in
    record {
      runs = h.runs;
      come = subst (λ (xs : List Event). HasCome code xs (option_to_list (unfetched_of new.unfetched r.instance)) r.instance (state_of r.machine)) (sym f.events)
          (subst (λ (o : Option Answer). HasCome code old.events (option_to_list o) r.instance (state_of r.machine)) (sym same) h.come);
    }

fresh_fetched : (old new : View) (who i : ℕ) → FetchedBy old new who → IsFresh old i → IsFresh new i
fresh_fetched old new who i f h = record {
  line = ap (line_of i) f.events ∙ h.line;
  requests = ap (requests_of i) f.events ∙ h.requests;
  unfetched = ap (λ (xs : List (Option Answer)). unfetched_of xs i) f.unfetched ∙ elim (cases_eq i who) [
    | inl is ↦ subst (λ (k : ℕ). unfetched_of (slice_set old.unfetched k None) i ≡ None) is (set_none old.unfetched i)
    | inr other ↦ read_elsewhere old.unfetched who i None None other ∙ h.unfetched
  ];
}

-- one of the machines was changed, and stands
stand_set : (code : Code) (old new : View) (runners : List Runner) (k : ℕ) (r changed : Runner) → slice_get runners k ≡ Some r → changed.instance ≡ r.instance → Stands code new changed
    → ((j : ℕ) (other : Runner) → slice_get runners j ≡ Some other → other.instance ≡ suc j)
    → ((j : ℕ) (other : Runner) → slice_get runners j ≡ Some other → other.instance ≢ r.instance → Stands code new other)
    → (j : ℕ) (other : Runner) → slice_get (slice_set runners k changed) j ≡ Some other → Stands code new other
stand_set code old new runners k r changed at same stands numbers others j other is = elim (cases_eq j k) [
  | inl here ↦ (
      let there : slice_get (slice_set runners k changed) k ≡ Some changed = written_here runners k changed r at in
      let both : Some changed ≡ Some other = sym there ∙ (ap (λ (n : ℕ). slice_get (slice_set runners k changed) n) (sym here) ∙ is) in
      let e : changed ≡ other = cc in
      subst (λ (x : Runner). Stands code new x) e stands)
  | inr away ↦ elim (written_or_old runners k j changed other is) [
    | inl now ↦ absurd (away now.0)
    | inr old_one ↦ others j other old_one (λ e. let a = numbers j other old_one in let b = numbers k r at in away (omega (arith, a, b, e)))
  ]
]

numbers_set : (runners : List Runner) (k : ℕ) (r changed : Runner) → slice_get runners k ≡ Some r → changed.instance ≡ r.instance
    → ((j : ℕ) (other : Runner) → slice_get runners j ≡ Some other → other.instance ≡ suc j)
    → (j : ℕ) (other : Runner) → slice_get (slice_set runners k changed) j ≡ Some other → other.instance ≡ suc j
numbers_set runners k r changed at same numbers j other is = elim (written_or_old runners k j changed other is) [
  | inl now ↦ ap (λ (x : Runner). x.instance) now.1 ∙ (same ∙ (numbers k r at ∙ ap suc (sym now.0)))
  | inr old_one ↦ numbers j other old_one
]

-- one machine fetched its answer
pub led_fetched : (code : Code) (old new : View) (runners : List Runner) (k : ℕ) (r changed : Runner)
    → slice_get runners k ≡ Some r → changed.instance ≡ r.instance → FetchedBy old new r.instance → Stands code new changed
    → AllStand code old runners → AllStand code new (slice_set runners k changed)
led_fetched code old new runners k r changed at same f stands led = record {
  sound = subst (λ (x : Facts). IsSound x) (sym f.facts) led.sound;
  run = subst (λ (x : Facts). IsRun x new.events) (sym f.facts) (subst (λ (xs : List Event). IsRun old.facts xs) (sym f.events) led.run);
  count = length-set runners k changed ∙ (led.count ∙ sym f.taken);
  instances = numbers_set runners k r changed at same led.instances;
  stand = stand_set code old new runners k r changed at same stands led.instances (λ j other is away. other_fetched code old new r.instance other f away (led.stand j other is));
  fresh = λ i high. fresh_fetched old new r.instance i f (led.fresh i (let t = f.taken in omega (arith, t, high)));
  places = ap length f.unfetched ∙ (length-set old.unfetched r.instance None ∙ (led.places ∙ sym (ap (λ (x : Facts). length (world_of x new.events).processes) f.facts ∙ ap (λ (xs : List Event). length (world_of old.facts xs).processes) f.events)));
  there = let t = f.taken in let n = ap length f.unfetched in let l = length-set old.unfetched r.instance None in let low = led.there in omega (arith, t, n, l, low);
  first = λ none. f.events ∙ led.first (sym f.taken ∙ none);
  was_open = subst (λ (x : Facts). WasOpen x new.events) (sym f.facts) (subst (λ (xs : List Event). WasOpen old.facts xs) (sym f.events) led.was_open);
  follow = subst (λ (x : Facts). EachFrontFollows code x new.events) (sym f.facts) (subst (λ (xs : List Event). EachFrontFollows code old.facts xs) (sym f.events) led.follow);
}

-- an event of another tells nothing of an instance
pub record TellsNothing (i : ℕ) (event : Event) : Type 0 where
  pub items : items_by i event ≡ []
  pub requests : requests_by i event ≡ []
  pub answers : answers_by i event ≡ []

other_tells : (i who : ℕ) (event : Event) → IsDoneBy who event → who ≢ i → TellsNothing i event
other_tells i who (Did by ticks request answer refill) is other = let test = apart by i (λ e. other (sym is ∙ e)) in record { items = rw test refl; requests = rw test refl; answers = rw test refl }
other_tells i who (Waits by ticks request) is other = let test = apart by i (λ e. other (sym is ∙ e)) in record { items = rw test refl; requests = rw test refl; answers = refl }
other_tells i who (Goes by answer) is other = absurd is
other_tells i who (Runs by ticks) is other = let test = apart by i (λ e. other (sym is ∙ e)) in record { items = rw test refl; requests = refl; answers = refl }

pub handed_done : (xs : List (Option Answer)) (who : ℕ) (event : Event) (i : ℕ) → IsDoneBy who event → unfetched_of (handed_by xs event) i ≡ unfetched_of xs i
handed_done xs who (Did by ticks request answer refill) i is = handed_did xs by ticks request answer refill i
handed_done xs who (Waits by ticks request) i is = refl
handed_done xs who (Goes by answer) i is = absurd is
handed_done xs who (Runs by ticks) i is = refl

-- what was noted tells of another instance only that it went on
other_line : (i : ℕ) (event : Event) (goes : List Event) → TellsNothing i event → AllByRecursion IsGoing goes → line_of i (event ∷ goes) ≡ []
other_line i event goes t only = rw (t.items, goes_quiet i goes only) refl

other_requests : (i : ℕ) (event : Event) (goes : List Event) → TellsNothing i event → AllByRecursion IsGoing goes → requests_of i (event ∷ goes) ≡ []
other_requests i event goes t only = rw (t.requests, goes_silent i goes only) refl

other_answers : (i : ℕ) (event : Event) (goes : List Event) → TellsNothing i event → answers_of i (event ∷ goes) ≡ answers_of i goes
other_answers i event goes t = rw t.answers refl

-- a machine stands where the journal leaves its instance, once another's event was noted
other_advanced : (code : Code) (old new : View) (who : ℕ) (r : Runner) (a : Advances code old new who) → who ≢ r.instance → r.instance < length old.unfetched → Stands code old r → Stands code new r
other_advanced code old new who r a other low h =
    let i = r.instance in
    let g = a.grows in
    let tells = other_tells i who a.event a.by other in
    let more : List Event = a.event ∷ g.goes in
    let owed : List Answer = option_to_list (unfetched_of old.unfetched i) in
    let told = other_answers i a.event g.goes tells in
    let come = come_aside code old.events more owed i (state_of r.machine) (other_line i a.event g.goes tells g.only) (other_requests i a.event g.goes tells g.only) h.come in
    let one : length (owed ++ answers_of i more) ≤ 1 = owed_one code new.facts (old.events ++ more) (owed ++ answers_of i more) i (state_of r.machine) a.sound (subst (IsRun new.facts) g.events a.run) come in
    let first : unfetched_of (handed_by old.unfetched a.event) i ≡ unfetched_of old.unfetched i = handed_done old.unfetched who a.event i a.by in
    let owed_is : option_to_list (unfetched_of (handed_by old.unfetched a.event) i) ≡ owed = ap option_to_list first in
    let few : length (option_to_list (unfetched_of (handed_by old.unfetched a.event) i) ++ answers_of i g.goes) ≤ 1 =
    let e = ap (λ (xs : List Answer). length (xs ++ answers_of i g.goes)) owed_is in let f = ap (λ (xs : List Answer). length (owed ++ xs)) told in omega (arith, e, f, one) in
    let long = handed_longer old.unfetched a.event in
    let after : option_to_list (unfetched_of (handed (handed_by old.unfetched a.event) g.goes) i) ≡ option_to_list (unfetched_of (handed_by old.unfetched a.event) i) ++ answers_of i g.goes
    = handed_goes (handed_by old.unfetched a.event) g.goes i g.only (omega (arith, long, low)) few in
    let waits : option_to_list (unfetched_of new.unfetched i) ≡ owed ++ answers_of i more =
    ap (λ (xs : List (Option Answer)). option_to_list (unfetched_of xs i)) g.unfetched ∙ (after ∙ (ap (λ (xs : List Answer). xs ++ answers_of i g.goes) owed_is ∙ ap (λ (xs : List Answer). owed ++ xs) (sym told))) in
    record {
      runs = h.runs;
      come = subst (λ (xs : List Event). HasCome code xs (option_to_list (unfetched_of new.unfetched i)) i (state_of r.machine)) (sym g.events)
          (subst (λ (o : List Answer). HasCome code (old.events ++ more) o i (state_of r.machine)) (sym waits) come);
    }

fresh_advanced : (code : Code) (old new : View) (who i : ℕ) (a : Advances code old new who) → who ≢ i → IsFresh old i → IsFresh new i
fresh_advanced code old new who i a other h =
    let g = a.grows in
    let tells = other_tells i who a.event a.by other in
    let more : List Event = a.event ∷ g.goes in
    let line : line_of i new.events ≡ [] = ap (line_of i) g.events ∙ (line_more i old.events more ∙ (ap (λ (xs : List Item). xs ++ line_of i more) h.line ∙ other_line i a.event g.goes tells g.only)) in
    let requests : requests_of i new.events ≡ [] = ap (requests_of i) g.events ∙ (requests_more i old.events more ∙ (ap (λ (xs : List Request). xs ++ requests_of i more) h.requests ∙ other_requests i a.event g.goes tells g.only)) in
    let few = answered_few new.facts new.events i a.sound a.run in
    let e = ap length requests in
    let split : length (answers_of i new.events) ≡ length (answers_of i old.events) + length (answers_of i g.goes) =
    ap (λ (xs : List Event). length (answers_of i xs)) g.events ∙ (ap length (answers_more i old.events more ∙ ap (λ (xs : List Answer). answers_of i old.events ++ xs) (other_answers i a.event g.goes tells)) ∙ length-append (answers_of i old.events) (answers_of i g.goes)) in
    let none : answers_of i g.goes ≡ [] = nothing (answers_of i g.goes) (omega (arith, few, e, split)) in
    record {
      line = line;
      requests = requests;
      unfetched = ap (λ (xs : List (Option Answer)). unfetched_of xs i) g.unfetched ∙ (not_handed (handed_by old.unfetched a.event) g.goes i g.only none ∙ (handed_done old.unfetched who a.event i a.by ∙ h.unfetched));
    }

-- the machines that were there before have a place for their answers
pub has_place : (code : Code) (v : View) (runners : List Runner) (k : ℕ) (r : Runner) → AllStand code v runners → slice_get runners k ≡ Some r → r.instance < length v.unfetched
has_place code v runners k r led at =
    let low = slice_get_within runners k r at in
    let n = led.instances k r at in
    let c = led.count in
    let t = led.there in
    omega (arith, low, n, c, t)

longer_goes : (xs : List (Option Answer)) (events : List Event) → length xs ≤ length (handed xs events)
longer_goes xs [] = omega arith
longer_goes xs (event ∷ events) = let a = handed_longer xs event in let b = longer_goes (handed_by xs event) events in omega (arith, a, b)

-- one machine was served
pub led_served : (code : Code) (old new : View) (runners : List Runner) (k : ℕ) (r changed : Runner)
    → slice_get runners k ≡ Some r → changed.instance ≡ r.instance → Advances code old new r.instance → Stands code new changed
    → AllStand code old runners → AllStand code new (slice_set runners k changed)
led_served code old new runners k r changed at same a stands led =
    let g = a.grows in
    let more : List Event = a.event ∷ g.goes in
    let number = led.instances k r at in
    let low = slice_get_within runners k r at in
    let come = (led.stand k r at).come in
    let c = led.count in
    let taken = g.taken in
    let run : IsRun old.facts (old.events ++ more) = subst (λ (x : Facts). IsRun x (old.events ++ more)) g.facts (subst (IsRun new.facts) g.events a.run) in
    let counted : length (handed old.unfetched more) ≡ length (world_of old.facts (old.events ++ more)).processes = counted_more old.facts old.unfetched old.events more led.sound run led.places in
    record {
      sound = a.sound;
      run = a.run;
      count = length-set runners k changed ∙ (led.count ∙ sym g.taken);
      instances = numbers_set runners k r changed at same led.instances;
      stand = stand_set code old new runners k r changed at same stands led.instances (λ j other is away. other_advanced code old new r.instance other a (λ e. away (sym e)) (has_place code old runners j other led is) (led.stand j other is));
      fresh = λ i high. fresh_advanced code old new r.instance i a (λ e. let f : ⊥ = omega (arith, number, low, c, taken, high, e) in f) (led.fresh i (omega (arith, taken, high)));
      places = ap length g.unfetched ∙ (counted ∙ sym (ap (λ (x : Facts). length (world_of x new.events).processes) g.facts ∙ ap (λ (xs : List Event). length (world_of old.facts xs).processes) g.events));
      there = let long = longer_goes old.unfetched more in let n = ap length g.unfetched in let t = led.there in omega (arith, long, n, t, taken);
      first = λ none. absurd (let f : ⊥ = omega (arith, low, c, taken, none) in f);
      was_open = subst (λ (x : Facts). WasOpen x new.events) (sym g.facts) (subst (λ (xs : List Event). WasOpen old.facts xs) (sym g.events) (open_more old.facts old.events a.event g.goes led.was_open a.is_open g.only));
      follow = subst (λ (x : Facts). EachFrontFollows code x new.events) (sym g.facts) (subst (λ (xs : List Event). EachFrontFollows code old.facts xs) (sym g.events)
          (follow_more code old.facts old.events a.event g.goes r.instance come.birth (talk_exists code stands.runs.stands.0) led.follow a.by come.born a.reached g.only run));
    }
