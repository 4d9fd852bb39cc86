-- All machines, once one more instance was taken, and once the run is over.
use Rattle.std.proofs.Common.{◌≡◌, ℕ, zero, suc, ◌+◌, ◌≤◌, List, [], ◌∷◌, ◌++◌, ℤ, length, refl, sym, ap, ◌∙◌, subst, inl, inr, arith, Option, Some, None, slice_get}
use Rattle.std.specs.Prelude.{◌==◌, option_to_list}
use Rattle.std.proofs.lemmas.List.{length_push}
use Rattle.std.proofs.lemmas.Option.{slice_get_within}
use Rattle.kernel_base.specs.declared.facts.Facts.{Facts}
use Rattle.kernel_base.specs.declared.answer.Answer.{Answer}
use Rattle.kernel_base.specs.declared.event.Event.{Event}
use Rattle.world_model.specs.declared.world.World.{World}
use Rattle.kernel_base.specs.declared.request.Request.TheVariants.{End}
use Rattle.world_model.specs.Session.{Item, Ask}
use Rattle.world_model.specs.World.{world_of}
use Rattle.world_model.specs.Allowed.{IsRun}
use Rattle.world_model.specs.Journal.{line_of, requests_of, answers_of, born_of}
use Rattle.world_model.proofs.ChangedLists.{pushed_or_old}
use Rattle.code_types.specs.declared.code.Code.{Code}
use Rattle.code_types.specs.declared.code.BodyRow.{BodyRow}
use Rattle.code_types.specs.State.{State, Mode, Running}
use Rattle.code_types.specs.Steps.{new_frame}
use Rattle.code_types.specs.Talk.{start_in, start_of, Reaches}
use Rattle.kernel_base.specs.Facts.{IsSound}
use Rattle.std.proofs.lemmas.Bool.{cases_Bool, cases_eq}
use Rattle.run_laws.specs.Laws.{Births, birth_in}
use Rattle.run_laws.proofs.Births.{births_law}
use Rattle.kernel_steps.specs.View.{View, TakesNext, unfetched_of, world_seen}
use Rattle.kernel_steps.specs.declared.reply.New.{New}
use Rattle.serial_run.specs.declared.runner.Runner.{Runner}
use Rattle.code_machine.specs.Running.{RunsOn}
use Rattle.machine_steps.specs.Views.{state_of}
use Rattle.serial_run.specs.Coming.{HasCome, IsLastAsked, WasOpen, EachFrontFollows, last_item, waiting_in}
use Rattle.serial_run.specs.Standing.{Stands, IsFresh, AllStand}
use Rattle.serial_run.proofs.Coming.{answered_few}
use Rattle.serial_run.proofs.Owing.{nothing}

-- one that has done nothing had no answer
fresh_answers : (code : Code) (v : View) (runners : List Runner) (i : ℕ) → AllStand code v runners → IsFresh v i → answers_of i v.events ≡ []
fresh_answers code v runners i led h =
    let few = answered_few v.facts v.events i led.sound led.run in
    let e = ap length h.requests in
    nothing (answers_of i v.events) (omega (arith, few, e))

-- the first steps of a process lead nowhere yet
starts_reached : (code : Code) (instance process : ℕ) (arguments : List ℤ) (state : State) → start_of code instance process arguments ≡ Some state → Reaches code instance process arguments [] [] state
starts_reached code instance process arguments state is = record { start = state; starts = is; leads = record { count = 0; ticks = 0; left = 0; by = refl } }

-- what is started is running
running_in : (instance process : ℕ) (arguments : List ℤ) (row : Option BodyRow) (state : State) → start_in instance process arguments row ≡ Some state → state.mode ≡ Running
running_in instance process arguments None state is = absurd (let f : ⊥ = cc in f)
running_in instance process arguments (Some row) state is = elim (cases_Bool (row.params == length arguments)) [
  | inl same ↦ (
      let made : State = record { instance = instance; frames = new_frame process row arguments ∷ []; regions = []; mode = Running } in
      let both : Some made ≡ Some state = sym (rw same refl) ∙ is in
      let one : made ≡ state = cc in
      ap (λ (s : State). s.mode) (sym one))
  | inr other ↦ absurd (let none : None ≡ Some state = sym (rw other refl) ∙ is in let f : ⊥ = cc in f)
]

starts_running : (code : Code) (instance process : ℕ) (arguments : List ℤ) (state : State) → start_of code instance process arguments ≡ Some state → state.mode ≡ Running
starts_running code instance process arguments state is = running_in instance process arguments (slice_get code.bodies process) state is

-- the first instance is that of process 0
born_first : (facts : Facts) (events : List Event) (process : ℕ) (scalars : List ℤ) → events ≡ [] → slice_get (world_of facts events).processes 1 ≡ Some process → slice_get (world_of facts events).arguments 1 ≡ Some scalars → born_of 1 events ≡ Some (record { process = process; arguments = scalars })
born_first facts [] process scalars none p a =
    let is_process : 0 ≡ process = cc in
    let are_scalars : [] ≡ scalars = cc in
    ap (λ (n : ℕ). Some (record { process = n; arguments = [] })) is_process ∙ ap (λ (xs : List ℤ). Some (record { process = process; arguments = xs })) are_scalars
born_first facts (event ∷ events) process scalars none p a = absurd (let f : ⊥ = cc in f)

born_later : (w : World) (events : List Event) (i process : ℕ) (scalars : List ℤ) → Births w events → 2 ≤ i → slice_get w.processes i ≡ Some process → slice_get w.arguments i ≡ Some scalars → born_of i events ≡ Some (record { process = process; arguments = scalars })
born_later w events zero process scalars b low p a = absurd (let f : ⊥ = omega (arith, low) in f)
born_later w events (suc zero) process scalars b low p a = absurd (let f : ⊥ = omega (arith, low) in f)
born_later w events (suc (suc i)) process scalars b low p a = b.births (suc (suc i)) low ∙ (ap (λ (o : Option ℕ). birth_in o (slice_get w.arguments (suc (suc i)))) p ∙ ap (λ (o : Option (List ℤ)). birth_in (Some process) o) a)

pub born_at : (facts : Facts) (events : List Event) (taken i process : ℕ) (scalars : List ℤ) → IsRun facts events → (taken ≡ 0 → events ≡ []) → i ≡ taken + 1 → slice_get (world_of facts events).processes i ≡ Some process → slice_get (world_of facts events).arguments i ≡ Some scalars → born_of i events ≡ Some (record { process = process; arguments = scalars })
born_at facts events taken i process scalars run first is p a = elim (cases_eq taken 0) [
  | inl none ↦ (
      let one : i ≡ 1 = omega (arith, is, none) in
      subst (λ (k : ℕ). born_of k events ≡ Some (record { process = process; arguments = scalars })) (sym one)
      (born_first facts events process scalars (first none) (subst (λ (k : ℕ). slice_get (world_of facts events).processes k ≡ Some process) one p) (subst (λ (k : ℕ). slice_get (world_of facts events).arguments k ≡ Some scalars) one a)))
  | inr some ↦ born_later (world_of facts events) events i process scalars (births_law facts events run) (grind (arith, is, some)) p a
]

-- one more instance was taken, and its machine stands at its start
pub led_taken : (code : Code) (old new : View) (runners : List Runner) (taken : New) (r : Runner)
    → TakesNext old new taken → r.instance ≡ taken.instance → start_of code taken.instance taken.process taken.scalars ≡ Some (state_of r.machine) → RunsOn code r.machine
    → AllStand code old runners → AllStand code new (runners ++ r ∷ [])
led_taken code old new runners taken r t same starts runs led =
    let i = r.instance in
    let is : i ≡ old.taken + 1 = same ∙ t.instance in
    let fresh : IsFresh old i = led.fresh i (omega (arith, is)) in
    let born : born_of i old.events ≡ Some (record { process = taken.process; arguments = taken.scalars }) =
    subst (λ (k : ℕ). born_of k old.events ≡ Some (record { process = taken.process; arguments = taken.scalars })) (sym same)
    (born_at old.facts old.events old.taken taken.instance taken.process taken.scalars led.run led.first t.instance t.process t.scalars) in
    let reached : Reaches code i taken.process taken.scalars [] (line_of i old.events) (state_of r.machine) =
    subst (λ (l : List Item). Reaches code i taken.process taken.scalars [] l (state_of r.machine)) (sym fresh.line)
    (subst (λ (k : ℕ). Reaches code k taken.process taken.scalars [] [] (state_of r.machine)) (sym same) (starts_reached code taken.instance taken.process taken.scalars (state_of r.machine) starts)) in
    let running : (state_of r.machine).mode ≡ Running = starts_running code taken.instance taken.process taken.scalars (state_of r.machine) starts in
    let come : HasCome code old.events [] i (state_of r.machine) = record {
      birth = record { process = taken.process; arguments = taken.scalars };
      born = born;
      given = [];
      answers = fresh_answers code old runners i led fresh;
      reached = reached;
      asked = let e = ap length fresh.requests in let none = ap waiting_in running in omega (arith, e, none);
      last = subst (λ (m : Mode). IsLastAsked m (line_of i old.events)) (sym running) (λ how is. let none : None ≡ Some (Ask (End how)) = sym (ap last_item fresh.line) ∙ is in let f : ⊥ = cc in f);
    } in
    let kept : unfetched_of new.unfetched i ≡ None = ap (λ (xs : List (Option Answer)). unfetched_of xs i) t.unfetched ∙ fresh.unfetched in
    let stands : Stands code new r = record {
      runs = runs;
      come = subst (λ (xs : List Event). HasCome code xs (option_to_list (unfetched_of new.unfetched i)) i (state_of r.machine)) (sym t.events)
          (subst (λ (o : Option Answer). HasCome code old.events (option_to_list o) i (state_of r.machine)) (sym kept) come);
    } in
    let more = t.taken_is in
    let n = length_push runners r in
    let c = led.count in
    let within = slice_get_within (world_seen old).processes taken.instance taken.process t.process in
    let places = led.places in
    let number = t.instance in
    record {
      sound = subst (λ (x : Facts). IsSound x) (sym t.facts) led.sound;
      run = subst (λ (x : Facts). IsRun x new.events) (sym t.facts) (subst (λ (xs : List Event). IsRun old.facts xs) (sym t.events) led.run);
      count = omega (arith, more, n, c);
      instances = λ k other at. elim (pushed_or_old runners k r other at) [
        | inl now ↦ (let number_is : other.instance ≡ i = ap (λ (x : Runner). x.instance) now.1 in let place = now.0 in omega (arith, number_is, place, is, c))
        | inr old_one ↦ led.instances k other old_one
      ];
      stand = λ k other at. elim (pushed_or_old runners k r other at) [
        | inl now ↦ subst (λ (x : Runner). Stands code new x) (sym now.1) stands
        | inr old_one ↦ (
            let h = led.stand k other old_one in
            let same_events = t.events in
            record {
              runs = h.runs;
              come = subst (λ (xs : List Event). HasCome code xs (option_to_list (unfetched_of new.unfetched other.instance)) other.instance (state_of other.machine)) (sym t.events)
                  (subst (λ (xs : List (Option Answer)). HasCome code old.events (option_to_list (unfetched_of xs other.instance)) other.instance (state_of other.machine)) (sym t.unfetched) h.come);
            })
      ];
      fresh = λ j high. (let h = led.fresh j (omega (arith, more, high)) in record {
        line = ap (line_of j) t.events ∙ h.line;
        requests = ap (requests_of j) t.events ∙ h.requests;
        unfetched = ap (λ (xs : List (Option Answer)). unfetched_of xs j) t.unfetched ∙ h.unfetched;
      });
      places = ap length t.unfetched ∙ (led.places ∙ sym (ap (λ (x : Facts). length (world_of x new.events).processes) t.facts ∙ ap (λ (xs : List Event). length (world_of old.facts xs).processes) t.events));
      there = let u = ap length t.unfetched in omega (arith, u, more, within, places, number);
      first = λ none. absurd (let f : ⊥ = omega (arith, more, none) in f);
      was_open = subst (λ (x : Facts). WasOpen x new.events) (sym t.facts) (subst (λ (xs : List Event). WasOpen old.facts xs) (sym t.events) led.was_open);
      follow = subst (λ (x : Facts). EachFrontFollows code x new.events) (sym t.facts) (subst (λ (xs : List Event). EachFrontFollows code old.facts xs) (sym t.events) led.follow);
    }
