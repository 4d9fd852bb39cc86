-- How many events that are no goings on a turn makes, and what a run has come to that was stopped.
use Rattle.std.proofs.Common.{◌≡◌, ℕ, ◌+◌, ◌≤◌, List, [], ◌∷◌, append-nil, refl, sym, ap, ◌∙◌, subst, arith, Option, None}
use Rattle.std.specs.List.{AllByRecursion}
use Rattle.std.proofs.lemmas.List.Sums.{sum_by-append, sum_by-cons}
use Rattle.kernel_base.specs.declared.facts.Facts.{Facts}
use Rattle.kernel_base.specs.declared.ends.Over.{Over}
use Rattle.kernel_base.specs.declared.event.Event.{Event}
use Rattle.kernel_base.specs.declared.event.Event.TheVariants.{Did, Waits, Goes, Runs}
use Rattle.world_model.specs.Laws.{IsDoneBy}
use Rattle.world_model.specs.Over.{over_of}
use Rattle.code_types.specs.declared.code.Code.{Code}
use Rattle.kernel_steps.specs.View.{View, IsGoing}
use Rattle.serial_run.specs.declared.runner.Runner.{Runner}
use Rattle.serial_run.specs.Driven.{IsStopped, made_by, made_of}
use Rattle.serial_run.specs.Standing.{AllStand, Advances, KeepsJournal}

going_makes : (event : Event) → IsGoing event → made_by event ≡ 0
going_makes (Did who ticks request answer refill) h = absurd h
going_makes (Waits who ticks request) h = absurd h
going_makes (Goes who answer) h = refl
going_makes (Runs who ticks) h = absurd h

goings_make : (goes : List Event) → AllByRecursion IsGoing goes → made_of goes ≡ 0
goings_make [] h = refl
goings_make (event ∷ events) h =
    let both = sum_by-cons made_by event events in
    let one = going_makes event h.0 in
    let others = goings_make events h.1 in
    omega (arith, both, one, others)

done_makes : (who : ℕ) (event : Event) → IsDoneBy who event → made_by event ≡ 1
done_makes who (Did by ticks request answer refill) h = refl
done_makes who (Waits by ticks request) h = refl
done_makes who (Goes by answer) h = absurd h
done_makes who (Runs by ticks) h = refl

-- one more behind a search that changed no event, and a burst that was committed
pub turn_makes : (code : Code) (old mid new : View) (who : ℕ) → KeepsJournal old mid → Advances code mid new who → made_of new.events ≡ made_of old.events + 1
turn_makes code old mid new who k a =
    let whole = ap made_of a.grows.events in
    let parts = sum_by-append made_by mid.events (a.event ∷ a.grows.goes) in
    let behind = sum_by-cons made_by a.event a.grows.goes in
    let one = done_makes who a.event a.by in
    let none = goings_make a.grows.goes a.grows.only in
    let before = ap made_of k.events in
    omega (arith, whole, parts, behind, one, none, before)

-- a run that was stopped where all machines stand
pub stopped_there : (code : Code) (facts : Facts) (v : View) (runners : List Runner) (events : List Event) (made most : ℕ) (over : Option Over)
    → AllStand code v runners → v.facts ≡ facts → events ≡ v.events → made ≡ made_of v.events → made ≤ most
    → (over_of v.facts v.events ≡ None → made ≡ most) → over ≡ over_of v.facts v.events
    → IsStopped code facts most (record { events = events; made = made; over = over })
stopped_there code facts v runners events made most over led same same_events count few all is =
    subst (λ (x : Facts). IsStopped code x most (record { events = events; made = made; over = over })) same
    (subst (λ (xs : List Event). IsStopped code v.facts most (record { events = xs; made = made; over = over })) (sym same_events)
    (record {
      run = led.follow v.events [] (sym (append-nil v.events));
      made = count;
      few = few;
      over = is;
      all = λ none. all (sym is ∙ none);
    }))
