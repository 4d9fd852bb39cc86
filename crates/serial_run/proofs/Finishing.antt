-- What a run has come to that is over, where each machine has fetched its answer.
use Rattle.std.proofs.Common.{◌≡◌, ◌⊎◌, ℕ, zero, suc, ◌≤◌, List, [], length, append-nil, refl, sym, ap, ◌∙◌, subst, inl, inr, arith, Option, Some, None, All}
use Rattle.std.specs.Prelude.{option_to_list, IsSome}
use Rattle.std.proofs.lemmas.Option.{slice_get_cases}
use Rattle.kernel_base.specs.declared.facts.Facts.{Facts}
use Rattle.kernel_base.specs.declared.answer.Answer.{Answer}
use Rattle.kernel_base.specs.declared.ends.Over.{Over}
use Rattle.world_model.specs.World.{world_of}
use Rattle.world_model.specs.Over.{over_of}
use Rattle.code_types.specs.declared.code.Code.{Code}
use Rattle.code_types.specs.State.{State}
use Rattle.run_laws.specs.Laws.{StandsWhereLeft}
use Rattle.run_laws.proofs.Births.{births_law}
use Rattle.kernel_steps.specs.View.{View, unfetched_of, world_seen}
use Rattle.serial_run.specs.declared.runner.Runner.{Runner}
use Rattle.kernel_steps.specs.Kept.{IsWholeBurst}
use Rattle.machine_steps.specs.Views.{state_of}
use Rattle.serial_run.specs.Coming.{HasCome}
use Rattle.kernel_base.specs.declared.event.Event.{Event}
use Rattle.serial_run.specs.Standing.{Stands, AllStand, HaveFetched, IsAllTaken, KeepsJournal}
use Rattle.serial_run.specs.declared.serial.Driven.{Driven}
use Rattle.serial_run.specs.Driven.{StandsPast, HasMachine, IsUntouched, IsDriven, HasAllMachines}
use Rattle.serial_run.proofs.Coming.{come_whole}

-- one that has fetched its answer stands where the journal leaves it
left_there : (code : Code) (v : View) (r : Runner) → Stands code v r → unfetched_of v.unfetched r.instance ≡ None → StandsWhereLeft code v.events r.instance (state_of r.machine)
left_there code v r h none =
    let come : HasCome code v.events (option_to_list None) r.instance (state_of r.machine) = subst (λ (o : Option Answer). HasCome code v.events (option_to_list o) r.instance (state_of r.machine)) none h.come in
    record { birth = come.birth; born = come.born; reached = come_whole code v.events r.instance (state_of r.machine) come }

-- each instance that was made has its machine
pub all_made : (code : Code) (v : View) (runners : List Runner) → AllStand code v runners → IsAllTaken v → suc (length runners) ≡ length (world_seen v).phases
all_made code v runners led all =
    let b = births_law v.facts v.events led.run in
    let p = b.processes in
    let c = led.count in
    let t = led.there in
    let n = led.places in
    omega (arith, p, c, t, n, all)

-- one that stands where the journal leaves it stands past it by nothing
past_by_nothing : (code : Code) (events : List Event) (i : ℕ) (s : State) → StandsWhereLeft code events i s → StandsPast code events i s
past_by_nothing code events i s h = record {
  left = s;
  stands = h;
  burst = [];
  short = (0, omega arith, inl refl);
  leads = record { count = 0; ticks = 0; left = 0; by = refl };
}

-- each instance has its machine, or has done nothing
each_made : (code : Code) (v : View) (runners : List Runner) → AllStand code v runners → IsAllTaken v → (i : ℕ) → 1 ≤ i → HasMachine runners i ⊎ IsUntouched v.events i
each_made code v runners led all zero low = absurd (let f : ⊥ = omega (arith, low) in f)
each_made code v runners led all (suc k) low = elim ((slice_get_cases runners k).1) [
  | inl (r, inside, at, item) ↦ inl (k, r, at, led.instances k r at)
  | inr (past, at) ↦ inr ((births_law v.facts v.events led.run).quiet (suc k) (let n = all_made code v runners led all in omega (arith, n, past)))
]

-- what a run has come to that is over, and all its machines
abbrev IsWhole : Code → Facts → Driven → Type 0
IsWhole code facts driven = IsDriven code facts driven × HasAllMachines code facts driven

finished : (code : Code) (v : View) (runners : List Runner) (over : Over)
    → AllStand code v runners → HaveFetched v runners → IsAllTaken v → over_of v.facts v.events ≡ Some over → All IsWholeBurst v.events
    → IsDriven code v.facts (record { events = v.events; machines = runners; over = over })
finished code v runners over led fetched all is bursts = record {
  run = led.follow v.events [] (sym (append-nil v.events));
  complete = record { over = subst (λ (o : Option Over). IsSome o) (sym is) refl; first = led.was_open };
  over = is;
  bursts = bursts;
  once = λ k j r other at there same. let a = led.instances k r at in let b = led.instances j other there in omega (arith, a, b, same);
  each = each_made code v runners led all;
  stand = λ k r at. past_by_nothing code v.events r.instance (state_of r.machine) (left_there code v r (led.stand k r at) (fetched k r at));
}

have_all : (code : Code) (v : View) (runners : List Runner) (over : Over) → AllStand code v runners → HaveFetched v runners → IsAllTaken v
    → HasAllMachines code v.facts (record { events = v.events; machines = runners; over = over })
have_all code v runners over led fetched all = record {
  machines = all_made code v runners led all;
  instances = led.instances;
  stand = λ k r at. left_there code v r (led.stand k r at) (fetched k r at);
}

pub all_taken_kept : (old new : View) → KeepsJournal old new → IsAllTaken old → IsAllTaken new
all_taken_kept old new k all =
    let n : length (world_seen new).processes ≡ length (world_seen old).processes = ap (λ (x : Facts). length (world_of x new.events).processes) k.facts ∙ ap (λ (xs : List Event). length (world_of old.facts xs).processes) k.events in
    let t = k.taken in
    omega (arith, n, t, all)

-- the same once the last answers were fetched
pub finished_fetched : (code : Code) (old new : View) (before runners machines : List Runner) (events : List Event) (over : Over)
    → (AllStand code old before → AllStand code new runners) → HaveFetched new runners → KeepsJournal old new
    → AllStand code old before → IsAllTaken old → over_of old.facts old.events ≡ Some over → All IsWholeBurst new.events
    → events ≡ new.events → machines ≡ runners
    → IsWhole code old.facts (record { events = events; machines = machines; over = over })
finished_fetched code old new before runners machines events over stand fetched k h all is bursts same_events same_machines =
    let over_is : over_of new.facts new.events ≡ Some over = subst (λ (x : Facts). over_of x new.events ≡ Some over) (sym k.facts) (subst (λ (xs : List Event). over_of old.facts xs ≡ Some over) (sym k.events) is) in
    let taken = all_taken_kept old new k all in
    let driven = finished code new runners over (stand h) fetched taken over_is bursts in
    let have = have_all code new runners over (stand h) fetched taken in
    subst (λ (xs : List Event). IsWhole code old.facts (record { events = xs; machines = machines; over = over })) (sym same_events)
    (subst (λ (rs : List Runner). IsWhole code old.facts (record { events = new.events; machines = rs; over = over })) (sym same_machines)
    (subst (λ (x : Facts). IsWhole code x (record { events = new.events; machines = runners; over = over })) k.facts (driven, have)))
