-- All machines, once they followed one more event, and what it tells where they can't.
use Rattle.std.proofs.Common.{◌≡◌, ◌≢◌, ◌⊎◌, ℕ, zero, suc, ◌+◌, ◌≤◌, ◌<◌, Bool, true, false, List, [], ◌∷◌, ◌++◌, ℤ, length, length-append, length-set, refl, sym, ap, ◌∙◌, subst, inl, inr, arith, append-nil, Option, Some, None, slice_get, slice_set}
use Rattle.std.proofs.lemmas.Bool.{cases_eq, cases_Bool}
use Rattle.std.proofs.lemmas.List.{length_push}
use Rattle.std.proofs.lemmas.Option.{slice_get_within, slice_get_cases}
use Rattle.kernel_base.specs.declared.ends.How.TheVariants.{Normal}
use Rattle.kernel_base.specs.declared.facts.Facts.{Facts}
use Rattle.kernel_base.specs.declared.request.Request.{Request}
use Rattle.kernel_base.specs.declared.request.Request.TheVariants.{Start, End}
use Rattle.kernel_base.specs.declared.answer.Answer.{Answer}
use Rattle.kernel_base.specs.declared.answer.Answer.TheVariants.{Instance}
use Rattle.kernel_base.specs.declared.event.Event.{Event}
use Rattle.kernel_base.specs.declared.event.Event.TheVariants.{Did, Waits, Goes, Runs}
use Rattle.world_model.specs.declared.world.Phase.{Phase}
use Rattle.world_model.specs.declared.world.Phase.TheVariants.{Active, Waiting, Chosen, Ended}
use Rattle.world_model.specs.declared.world.World.{World}
use Rattle.world_model.specs.Session.{Item, Ask}
use Rattle.world_model.specs.Waiting.{phase_of, IsActive}
use Rattle.world_model.specs.World.{opening, after_request, after, world_of}
use Rattle.world_model.specs.Allowed.{IsAllowed, IsPossible, IsRun, MustWait}
use Rattle.world_model.specs.Journal.{ticks_of, items_by, line_of, answers_by, answers_of, Birth, born_of}
use Rattle.world_model.proofs.ChangedLists.{written_here, written_or_old, pushed_or_old}
use Rattle.world_model.proofs.PhaseMoves.{Moves, Stays, IsChosenNow, Begins}
use Rattle.world_model.proofs.RunParts.{one_more}
use Rattle.code_types.specs.declared.code.Code.{Code}
use Rattle.code_types.specs.declared.code.BodyRow.{BodyRow}
use Rattle.code_types.specs.Agreement.{Agrees}
use Rattle.code_types.specs.State.{State, Mode, Asking}
use Rattle.code_types.specs.Runs.{FollowsCode, IsCodeRun}
use Rattle.code_types.specs.Talk.{Leads, Reaches}
use Rattle.code_safety.specs.Leading.{WaitsWith}
use Rattle.machine_steps.specs.declared.process.Process.{Process}
use Rattle.machine_steps.specs.Taking.{IsNoEnd}
use Rattle.machine_steps.specs.Views.{state_of}
use Rattle.code_machine.specs.declared.burst.Stop.TheVariants.{Asks, Paused}
use Rattle.code_machine.specs.Running.{IsUp, RunsOn}
use Rattle.run_laws.specs.Laws.{Births, HasTalks}
use Rattle.run_laws.proofs.Births.{births_law}
use Rattle.run_laws.proofs.Following.{follows_law}
use Rattle.run_checker.specs.Slots.{Adds, CanBurst, CannotFollow, Changes, Follows, HasAsked, HasDone, HasDoneAll, HasRun, HasStarted, IsReady, IsReadyAt, IsThere, MakesOther, Misses, MissesAt, StartsAs, Takes, is_end}
use Rattle.run_checker.specs.Standing.{AllStand, FitsPhase, HasNoMore, IsAwaiting, Stands, StandsAt, StandsBy}
use Rattle.run_checker.proofs.Talks.{FollowsBy, follows_by, has_talks, nothing_more, other_request, other_ticks, quiet_follows, reaches_asking}
use Rattle.run_checker.proofs.Answered.{answered_none, answered_stands, awaits, no_end}
use Rattle.run_checker.proofs.Noted.{HasToWait, StartsNone, answers_noted, apart, as_many, born_made, born_more, born_next, did_active, doer, goes_active, line_noted, mine, others_answers, others_items, others_move, starts_one, waits_waits, world_noted}
use Rattle.run_checker.proofs.Opening.{started_stands}

-- one that has its place was made, and has a phase
pub some_phase : (w : World) (machines : List (Option Process)) (i : ℕ) (slot : Option Process) → length machines ≡ length w.phases → slice_get machines i ≡ Some slot → (phase : Phase) × (phase_of w i ≡ Some phase)
some_phase w machines i slot count at =
    let low = slice_get_within machines i slot at in
    elim ((slice_get_cases w.phases i).1) [
      | inl (phase, inside, is, item) ↦ (phase, is)
      | inr (past, none) ↦ absurd (let f : ⊥ = omega (arith, low, count, past) in f)
    ]

moves_fit : (old new : Option Phase) (mode : Mode) → Moves old new → FitsPhase old mode → FitsPhase new mode
moves_fit old new mode (Stays same) fits = subst (λ (o : Option Phase). FitsPhase o mode) (sym same) fits
moves_fit old new mode (IsChosenNow chosen) fits =
    let waited : FitsPhase (Some (Waiting chosen.request chosen.send chosen.back)) mode = subst (λ (o : Option Phase). FitsPhase o mode) chosen.waited fits in
    subst (λ (o : Option Phase). FitsPhase o mode) (sym chosen.has_answer) waited
moves_fit old new mode (Begins none begins) fits = absurd (let f : ⊥ = subst (λ (o : Option Phase). FitsPhase o mode) none fits in f)

-- what stands so, with other words for the same
pub stands_by : (code : Code) (i : ℕ) (birth : Birth) (answers more : List Answer) (line longer : List Item) (phase next : Option Phase) (slot : Option Process)
    → answers ≡ more → line ≡ longer → phase ≡ next → StandsBy code i birth answers line phase slot → StandsBy code i birth more longer next slot
stands_by code i birth answers more line longer phase next slot a l p h =
    subst (λ (o : Option Phase). StandsBy code i birth more longer o slot) p
    (subst (λ (t : List Item). StandsBy code i birth more t phase slot) l
    (subst (λ (xs : List Answer). StandsBy code i birth xs line phase slot) a h))

moved_stands : (code : Code) (i : ℕ) (birth : Birth) (answers : List Answer) (line : List Item) (phase next : Option Phase) (slot : Option Process) → Moves phase next → StandsBy code i birth answers line phase slot → StandsBy code i birth answers line next slot
moved_stands code i birth answers line phase next None moves h = h
moved_stands code i birth answers line phase next (Some p) moves h = record { runs = h.runs; reached = h.reached; fits = moves_fit phase next (state_of p).mode moves h.fits }

-- an instance that was born stands behind one more event
noted_stands : (code : Code) (facts : Facts) (events : List Event) (event : Event) (i : ℕ) (slot new : Option Process) (answers : List Answer) (line : List Item) (h : Stands code facts events i slot)
    → answers_by i event ≡ answers → items_by i event ≡ line
    → StandsBy code i h.birth (answers_of i events ++ answers) (line_of i events ++ line) (phase_of (after facts (world_of facts events) event) i) new
    → Stands code facts (events ++ event ∷ []) i new
noted_stands code facts events event i slot new answers line h a l by = record {
  birth = h.birth;
  born = born_more i events (event ∷ []) h.birth h.born;
  by = stands_by code i h.birth (answers_of i events ++ answers) (answers_of i (events ++ event ∷ [])) (line_of i events ++ line) (line_of i (events ++ event ∷ []))
      (phase_of (after facts (world_of facts events) event) i) (phase_of (world_of facts (events ++ event ∷ [])) i) new
      (ap (λ (t : List Answer). answers_of i events ++ t) (sym a) ∙ sym (answers_noted i events event))
      (ap (λ (t : List Item). line_of i events ++ t) (sym l) ∙ sym (line_noted i events event))
      (sym (ap (λ (w : World). phase_of w i) (world_noted facts events event))) by;
}

-- another than who did it
aside_stands : (code : Code) (facts : Facts) (events : List Event) (event : Event) (i : ℕ) (slot : Option Process) → 1 ≤ doer event → doer event ≢ i → Stands code facts events i slot → Stands code facts (events ++ event ∷ []) i slot
aside_stands code facts events event i slot some other h =
    let w : World = world_of facts events in
    noted_stands code facts events event i slot slot [] [] h (others_answers i event other) (others_items i event other)
    (stands_by code i h.birth (answers_of i events) (answers_of i events ++ []) (line_of i events) (line_of i events ++ []) (phase_of (after facts w event) i) (phase_of (after facts w event) i) slot
    (sym (append-nil (answers_of i events))) (sym (append-nil (line_of i events))) refl
    (moved_stands code i h.birth (answers_of i events) (line_of i events) (phase_of w i) (phase_of (after facts w event) i) slot (others_move facts w event i some other) h.by))

-- who can do something was made, and isn't instance 0
pub some_doer : (code : Code) (facts : Facts) (events : List Event) (machines : List (Option Process)) (who : ℕ) (phase : Phase) → AllStand code facts events machines → phase_of (world_of facts events) who ≡ Some phase → (phase ≡ Ended Normal → ⊥) → 1 ≤ who
some_doer code facts events machines zero phase all at other = absurd (other (let both : Some phase ≡ Some (Ended Normal) = sym at ∙ all.nobody in cc))
some_doer code facts events machines (suc who) phase all at other = omega arith

active_doer : (code : Code) (facts : Facts) (events : List Event) (machines : List (Option Process)) (who : ℕ) → AllStand code facts events machines → IsActive (world_of facts events) who → 1 ≤ who
active_doer code facts events machines who all active = some_doer code facts events machines who Active all active (λ same. let f : ⊥ = cc in f)

-- who is active has a machine that can make a burst, or none
ready_by : (code : Code) (i : ℕ) (birth : Birth) (answers : List Answer) (line : List Item) (phase : Option Phase) (slot : Option Process) → phase ≡ Some Active → StandsBy code i birth answers line phase slot → IsReady code slot
ready_by code i birth answers line phase None active h = tt
ready_by code i birth answers line phase (Some p) active h = record { runs = h.runs; up = subst (λ (o : Option Phase). FitsPhase o (state_of p).mode) active h.fits }

pub ready_at : (code : Code) (facts : Facts) (events : List Event) (machines : List (Option Process)) (who : ℕ) (o : Option (Option Process)) → AllStand code facts events machines → IsActive (world_of facts events) who → slice_get machines who ≡ o → IsReadyAt code o
ready_at code facts events machines who (Some slot) all active at =
    let h = all.stand who slot (active_doer code facts events machines who all active) at in
    ready_by code who h.birth (answers_of who events) (line_of who events) (phase_of (world_of facts events) who) slot active h.by
ready_at code facts events machines who None all active at =
    let low = slice_get_within (world_of facts events).phases who Active active in
    let count = all.count in
    elim ((slice_get_cases machines who).1) [
      | inl (slot, inside, is, item) ↦ absurd (let both : None ≡ Some slot = sym at ∙ is in let f : ⊥ = cc in f)
      | inr (past, none) ↦ absurd (let f : ⊥ = omega (arith, low, count, past) in f)
    ]

-- who was chosen has its place
pub there_at : (code : Code) (facts : Facts) (events : List Event) (machines : List (Option Process)) (who : ℕ) (phase : Phase) (o : Option (Option Process)) → AllStand code facts events machines → phase_of (world_of facts events) who ≡ Some phase → slice_get machines who ≡ o → IsThere o
there_at code facts events machines who phase (Some slot) all is at = tt
there_at code facts events machines who phase None all is at =
    let low = slice_get_within (world_of facts events).phases who phase is in
    let count = all.count in
    elim ((slice_get_cases machines who).1) [
      | inl (slot, inside, there, item) ↦ absurd (let both : None ≡ Some slot = sym at ∙ there in let f : ⊥ = cc in f)
      | inr (past, none) ↦ absurd (let f : ⊥ = omega (arith, low, count, past) in f)
    ]

-- a machine that waits for the answer to its request
asked_by : (code : Code) (i : ℕ) (birth : Birth) (answers : List Answer) (line : List Item) (phase : Option Phase) (ticks : ℕ) (request : Request) (old asked : Option Process) (a : HasAsked code ticks request old asked)
    → StandsBy code i birth answers line phase old → Reaches code i birth.process birth.arguments answers (line ++ (ticks_of ticks ++ Ask request ∷ [])) (state_of a.to)
asked_by code i birth answers line phase ticks request old asked a h =
    let there : StandsBy code i birth answers line phase (Some a.from) = subst (λ (o : Option Process). StandsBy code i birth answers line phase o) a.was h in
    reaches_asking code i birth.process birth.arguments answers line (ticks_of ticks ++ Ask request ∷ []) (state_of a.from) (state_of a.to) there.reached a.leads

-- who asked and was answered
did_stands : (code : Code) (facts : Facts) (events : List Event) (machines : List (Option Process)) (who ticks : ℕ) (request : Request) (answer : Answer) (refill : Option ℕ) (old new : Option Process)
    → AllStand code facts events machines → IsActive (world_of facts events) who → slice_get machines who ≡ Some old → HasDone code ticks request answer old new
    → Stands code facts (events ++ Did who ticks request answer refill ∷ []) who new
did_stands code facts events machines who ticks request answer refill old new all active at done =
    let w : World = world_of facts events in
    let some = active_doer code facts events machines who all active in
    let h = all.stand who old some at in
    let a = done.asks in
    let more : List Item = ticks_of ticks ++ Ask request ∷ [] in
    let reached = asked_by code who h.birth (answers_of who events) (line_of who events) (phase_of w who) ticks request old done.asked a h.by in
    let takes : Takes code answer (is_end request) (Some a.to) new = subst (λ (o : Option Process). Takes code answer (is_end request) o new) a.is done.takes in
    noted_stands code facts events (Did who ticks request answer refill) who old new (answer ∷ []) more h (rw (mine who) refl) (rw (mine who) refl)
    (answered_stands code who h.birth (answers_of who events) (line_of who events ++ more) (phase_of (after_request facts w who request answer refill) who) a.to request a.waits.0 answer (is_end request) new
    reached a.runs a.waits.1 (λ ends. ends) (λ other. (no_end request other, did_active facts w who request answer refill some active other)) takes)

waits_fit : (o : Option Phase) (mode : Mode) → HasToWait o → IsAwaiting mode → FitsPhase o mode
waits_fit None mode has is = absurd has
waits_fit (Some Active) mode has is = absurd has
waits_fit (Some (Waiting request send back)) mode has is = is
waits_fit (Some (Chosen answer back)) mode has is = is
waits_fit (Some (Ended how)) mode has is = absurd has

-- what has to wait asks for no end
waits_on : (facts : Facts) (w : World) (who : ℕ) (request : Request) → MustWait facts w who request → is_end request ≡ false
waits_on facts w who (End how) must = absurd must
waits_on facts w who request must = refl

waits_stands : (code : Code) (facts : Facts) (events : List Event) (machines : List (Option Process)) (who ticks : ℕ) (request : Request) (old new : Option Process)
    → AllStand code facts events machines → IsPossible facts (world_of facts events) (Waits who ticks request) → slice_get machines who ≡ Some old → HasAsked code ticks request old new
    → Stands code facts (events ++ Waits who ticks request ∷ []) who new
waits_stands code facts events machines who ticks request old new all may at a =
    let w : World = world_of facts events in
    let active = may.0.active in
    let h = all.stand who old (active_doer code facts events machines who all active) at in
    let more : List Item = ticks_of ticks ++ Ask request ∷ [] in
    let reached = asked_by code who h.birth (answers_of who events) (line_of who events) (phase_of w who) ticks request old new a h.by in
    let awaiting : IsAwaiting (state_of a.to).mode = subst IsAwaiting (sym a.waits.1) (no_end request (waits_on facts w who request may.1)) in
    let s : StandsBy code who h.birth (answers_of who events) (line_of who events ++ more) (phase_of (after facts w (Waits who ticks request)) who) (Some a.to) = record {
      runs = a.runs;
      reached = reached;
      fits = waits_fit (phase_of (after facts w (Waits who ticks request)) who) (state_of a.to).mode (waits_waits w who request active) awaiting;
    } in
    noted_stands code facts events (Waits who ticks request) who old new [] more h refl (rw (mine who) refl)
    (stands_by code who h.birth (answers_of who events) (answers_of who events ++ []) (line_of who events ++ more) (line_of who events ++ more) _ _ new (sym (append-nil (answers_of who events))) refl refl
    (subst (λ (o : Option Process). StandsBy code who h.birth (answers_of who events) (line_of who events ++ more) (phase_of (after facts w (Waits who ticks request)) who) o) (sym a.is) s))

-- who goes on with its answer
gone_by : (code : Code) (i : ℕ) (birth : Birth) (answers : List Answer) (line : List Item) (phase next : Option Phase) (answer given : Answer) (back : Option ℕ) (old new : Option Process)
    → phase ≡ Some (Chosen given back) → next ≡ Some Active → StandsBy code i birth answers line phase old → Takes code answer false old new → StandsBy code i birth (answers ++ answer ∷ []) line next new
gone_by code i birth answers line phase next answer given back None new chosen active h takes =
    subst (λ (o : Option Process). StandsBy code i birth (answers ++ answer ∷ []) line next o) (sym takes) (answered_none code i birth answers line answer h)
gone_by code i birth answers line phase next answer given back (Some p) new chosen active h takes =
    let waits = awaits (state_of p).mode (subst (λ (o : Option Phase). FitsPhase o (state_of p).mode) chosen h.fits) in
    answered_stands code i birth answers line next p waits.0 waits.1 answer false new h.reached h.runs waits.2 (λ ends. absurd (let f : ⊥ = cc in f)) (λ other. (waits.3, active)) takes

goes_stands : (code : Code) (facts : Facts) (events : List Event) (machines : List (Option Process)) (who : ℕ) (answer : Answer) (old new : Option Process)
    → AllStand code facts events machines → IsPossible facts (world_of facts events) (Goes who answer) → 1 ≤ who → slice_get machines who ≡ Some old → Takes code answer false old new
    → Stands code facts (events ++ Goes who answer ∷ []) who new
goes_stands code facts events machines who answer old new all may some at takes =
    let w : World = world_of facts events in
    let h = all.stand who old some at in
    let next : Option Phase = phase_of (after facts w (Goes who answer)) who in
    let active : next ≡ Some Active = goes_active w who answer may.back may.chosen in
    noted_stands code facts events (Goes who answer) who old new (answer ∷ []) [] h (rw (mine who) refl) refl
    (stands_by code who h.birth (answers_of who events ++ answer ∷ []) (answers_of who events ++ answer ∷ []) (line_of who events) (line_of who events ++ []) next next new refl (sym (append-nil (line_of who events))) refl
    (gone_by code who h.birth (answers_of who events) (line_of who events) (phase_of w who) next answer answer may.back old new may.chosen active h.by takes))

-- who made ticks
runs_stands : (code : Code) (facts : Facts) (events : List Event) (machines : List (Option Process)) (who ticks : ℕ) (old new : Option Process)
    → AllStand code facts events machines → IsActive (world_of facts events) who → slice_get machines who ≡ Some old → HasRun code ticks old new
    → Stands code facts (events ++ Runs who ticks ∷ []) who new
runs_stands code facts events machines who ticks old new all active at a =
    let w : World = world_of facts events in
    let h = all.stand who old (active_doer code facts events machines who all active) at in
    let there : StandsBy code who h.birth (answers_of who events) (line_of who events) (phase_of w who) (Some a.from) = subst (λ (o : Option Process). StandsBy code who h.birth (answers_of who events) (line_of who events) (phase_of w who) o) a.was h.by in
    let s : StandsBy code who h.birth (answers_of who events) (line_of who events ++ ticks_of ticks) (phase_of w who) (Some a.to) = record {
      runs = a.runs;
      reached = reaches_asking code who h.birth.process h.birth.arguments (answers_of who events) (line_of who events) (ticks_of ticks) (state_of a.from) (state_of a.to) there.reached a.leads;
      fits = subst (λ (o : Option Phase). FitsPhase o (state_of a.to).mode) (sym active) a.up;
    } in
    noted_stands code facts events (Runs who ticks) who old new [] (ticks_of ticks) h refl (rw (mine who) refl)
    (stands_by code who h.birth (answers_of who events) (answers_of who events ++ []) (line_of who events ++ ticks_of ticks) (line_of who events ++ ticks_of ticks) (phase_of w who) (phase_of w who) new (sym (append-nil (answers_of who events))) refl refl
    (subst (λ (o : Option Process). StandsBy code who h.birth (answers_of who events) (line_of who events ++ ticks_of ticks) (phase_of w who) o) (sym a.is) s))

nobody_moves : (old new : Option Phase) → Moves old new → old ≡ Some (Ended Normal) → new ≡ Some (Ended Normal)
nobody_moves old new (Stays same) is = same ∙ is
nobody_moves old new (IsChosenNow chosen) is = absurd (let e : Some (Waiting chosen.request chosen.send chosen.back) ≡ Some (Ended Normal) = sym chosen.waited ∙ is in let f : ⊥ = cc in f)
nobody_moves old new (Begins none begins) is = absurd (let e : None ≡ Some (Ended Normal) = sym none ∙ is in let f : ⊥ = cc in f)

-- each place of the machines but those that are started, where that of who did something was changed
places_stand : (code : Code) (facts : Facts) (events : List Event) (event : Event) (machines : List (Option Process)) (old new : Option Process) → AllStand code facts events machines → 1 ≤ doer event
    → slice_get machines (doer event) ≡ Some old → Stands code facts (events ++ event ∷ []) (doer event) new
    → (i : ℕ) (slot : Option Process) → 1 ≤ i → slice_get (slice_set machines (doer event) new) i ≡ Some slot → Stands code facts (events ++ event ∷ []) i slot
places_stand code facts events event machines old new all some there stands i slot low at = elim (cases_eq (doer event) i) [
  | inl same ↦ (
      let here : slice_get (slice_set machines (doer event) new) (doer event) ≡ Some new = written_here machines (doer event) new old there in
      let both : Some new ≡ Some slot = sym here ∙ (ap (slice_get (slice_set machines (doer event) new)) same ∙ at) in
      let e : new ≡ slot = cc in
      subst (λ (o : Option Process). Stands code facts (events ++ event ∷ []) i o) e (subst (λ (k : ℕ). Stands code facts (events ++ event ∷ []) k new) same stands))
  | inr other ↦ elim (written_or_old machines (doer event) i new slot at) [
    | inl now ↦ absurd (other (sym now.0))
    | inr was ↦ aside_stands code facts events event i slot some other (all.stand i slot low was)
  ]
]

noted_run : (facts : Facts) (events : List Event) (event : Event) → IsRun facts events → IsAllowed facts (world_of facts events) event → IsRun facts (events ++ event ∷ [])
noted_run facts events event run may = one_more facts (opening facts) events event run may

nobody_noted : (facts : Facts) (events : List Event) (event : Event) → 1 ≤ doer event → phase_of (world_of facts events) 0 ≡ Some (Ended Normal) → phase_of (world_of facts (events ++ event ∷ [])) 0 ≡ Some (Ended Normal)
nobody_noted facts events event some nobody =
    let w : World = world_of facts events in
    ap (λ (x : World). phase_of x 0) (world_noted facts events event)
    ∙ nobody_moves (phase_of w 0) (phase_of (after facts w event) 0) (others_move facts w event 0 some (λ e. let f : ⊥ = omega (arith, some, e) in f)) nobody

-- all stand where the machine of who did something was changed, and nobody was started
all_changed : (code : Code) (facts : Facts) (events : List Event) (event : Event) (machines : List (Option Process)) (old new : Option Process) → AllStand code facts events machines → IsAllowed facts (world_of facts events) event → 1 ≤ doer event
    → StartsNone event → slice_get machines (doer event) ≡ Some old → Stands code facts (events ++ event ∷ []) (doer event) new → AllStand code facts (events ++ event ∷ []) (slice_set machines (doer event) new)
all_changed code facts events event machines old new all may some none there stands = record {
  run = noted_run facts events event all.run may;
  nobody = nobody_noted facts events event some all.nobody;
  count = length-set machines (doer event) new ∙ (all.count ∙ (sym (as_many facts (world_of facts events) event none) ∙ sym (ap (λ (w : World). length w.phases) (world_noted facts events event))));
  stand = places_stand code facts events event machines old new all some there stands;
}

-- so it is where a process was started
all_started : (code : Code) (facts : Facts) (events : List Event) (who ticks process : ℕ) (scalars : List ℤ) (j : ℕ) (refill : Option ℕ) (machines between new : List (Option Process)) (old changed : Option Process)
    → AllStand code facts events machines → IsAllowed facts (world_of facts events) (Did who ticks (Start process scalars) (Instance j) refill) → 1 ≤ who
    → slice_get machines who ≡ Some old → Stands code facts (events ++ Did who ticks (Start process scalars) (Instance j) refill ∷ []) who changed → between ≡ slice_set machines who changed
    → HasStarted code j process scalars between new → AllStand code facts (events ++ Did who ticks (Start process scalars) (Instance j) refill ∷ []) new
all_started code facts events who ticks process scalars j refill machines between new old changed all may some there stands is started =
    let event : Event = Did who ticks (Start process scalars) (Instance j) refill in
    let w : World = world_of facts events in
    let number : j ≡ length w.phases = may.possible.1.1.1 in
    let long : length between ≡ length w.phases = ap length is ∙ (length-set machines who changed ∙ all.count) in
    let low = slice_get_within w.phases who Active may.possible.0.active in
    let apart_is : who ≢ j = λ e. let f : ⊥ = omega (arith, number, low, e) in f in
    record {
      run = noted_run facts events event all.run may;
      nobody = nobody_noted facts events event some all.nobody;
      count = (let a = ap length started.is in let b = length_push between started.slot in let c = length_push w.phases Active in let d = ap (λ (x : World). length x.phases) (world_noted facts events event) in omega (arith, a, b, c, d, long));
      stand = λ i slot one at. elim (pushed_or_old between i started.slot slot (ap (λ (ms : List (Option Process)). slice_get ms i) (sym started.is) ∙ at)) [
        | inl last ↦ (
            let same : i ≡ j = last.0 ∙ (long ∙ sym number) in
            subst (λ (k : ℕ). Stands code facts (events ++ event ∷ []) k slot) (sym same)
            (subst (λ (o : Option Process). Stands code facts (events ++ event ∷ []) j o) (sym last.1)
            (started_stands code facts events who ticks process scalars j refill started.slot all.run number apart_is started.starts)))
        | inr was ↦ places_stand code facts events event machines old changed all some there stands i slot one (ap (λ (ms : List (Option Process)). slice_get ms i) (sym is) ∙ was)
      ];
    }

all_did : (code : Code) (facts : Facts) (events : List Event) (machines new : List (Option Process)) (who ticks : ℕ) (request : Request) (answer : Answer) (refill : Option ℕ) (between : List (Option Process)) (old changed : Option Process)
    → AllStand code facts events machines → IsAllowed facts (world_of facts events) (Did who ticks request answer refill) → 1 ≤ who
    → slice_get machines who ≡ Some old → Stands code facts (events ++ Did who ticks request answer refill ∷ []) who changed → between ≡ slice_set machines who changed
    → Adds code request answer between new → AllStand code facts (events ++ Did who ticks request answer refill ∷ []) new
all_did code facts events machines new who ticks (Start process scalars) (Instance j) refill between old changed all may some there stands is adds =
    all_started code facts events who ticks process scalars j refill machines between new old changed all may some there stands is adds
all_did code facts events machines new who ticks request answer refill between old changed all may some there stands is adds =
    subst (λ (ms : List (Option Process)). AllStand code facts (events ++ Did who ticks request answer refill ∷ []) ms) (sym (adds ∙ is))
    (all_changed code facts events (Did who ticks request answer refill) machines old changed all may some refl there stands)

-- All machines that followed an event stand behind it.
pub all_follow : (code : Code) (facts : Facts) (events : List Event) (event : Event) (machines new : List (Option Process)) → AllStand code facts events machines → IsAllowed facts (world_of facts events) event → Follows code event machines new
    → AllStand code facts (events ++ event ∷ []) new
all_follow code facts events (Did who ticks request answer refill) machines new all may f =
    let c = f.changes in
    let active = may.possible.0.active in
    all_did code facts events machines new who ticks request answer refill f.between c.old c.changed all may (active_doer code facts events machines who all active) c.there
    (did_stands code facts events machines who ticks request answer refill c.old c.changed all active c.there c.way) c.is f.adds
all_follow code facts events (Waits who ticks request) machines new all may f =
    subst (λ (ms : List (Option Process)). AllStand code facts (events ++ Waits who ticks request ∷ []) ms) (sym f.is)
    (all_changed code facts events (Waits who ticks request) machines f.old f.changed all may (active_doer code facts events machines who all may.possible.0.active) tt f.there
    (waits_stands code facts events machines who ticks request f.old f.changed all may.possible f.there f.way))
all_follow code facts events (Goes who answer) machines new all may f =
    let some = some_doer code facts events machines who (Chosen answer may.possible.back) all may.possible.chosen (λ same. let no : ⊥ = cc in no) in
    subst (λ (ms : List (Option Process)). AllStand code facts (events ++ Goes who answer ∷ []) ms) (sym f.is)
    (all_changed code facts events (Goes who answer) machines f.old f.changed all may some tt f.there
    (goes_stands code facts events machines who answer f.old f.changed all may.possible some f.there f.way))
all_follow code facts events (Runs who ticks) machines new all may f =
    let active = may.possible.0 in
    subst (λ (ms : List (Option Process)). AllStand code facts (events ++ Runs who ticks ∷ []) ms) (sym f.is)
    (all_changed code facts events (Runs who ticks) machines f.old f.changed all may (active_doer code facts events machines who all active) tt f.there
    (runs_stands code facts events machines who ticks f.old f.changed all active f.there f.way))

-- where all machines stand, the journal is a run of the code
follows_stand : (code : Code) (facts : Facts) (events : List Event) (i : ℕ) (slot : Option Process) (birth : Birth) → HasTalks code → StandsBy code i birth (answers_of i events) (line_of i events) (phase_of (world_of facts events) i) slot → FollowsCode code events i birth
follows_stand code facts events i None birth has by = quiet_follows code events i birth has by
follows_stand code facts events i (Some p) birth has by = follows_law code events i birth (answers_of i events) [] (state_of p) has (sym (append-nil (answers_of i events))) by.reached

pub code_run : (code : Code) (agrees : Agrees code) (facts : Facts) (events : List Event) (machines : List (Option Process)) → AllStand code facts events machines → IsCodeRun code facts events
code_run code agrees facts events machines all = record {
  run = all.run;
  follows = λ who birth born.
      let made = born_made (world_of facts events) events who birth (births_law facts events all.run) born in
      elim ((slice_get_cases machines who).1) [
        | inl (slot, inside, at, item) ↦ (
            let h = all.stand who slot made.0 at in
            let both : Some h.birth ≡ Some birth = sym h.born ∙ born in
            let same : h.birth ≡ birth = cc in
            subst (λ (b : Birth). FollowsCode code events who b) same (follows_stand code facts events who slot h.birth (has_talks code agrees) h.by))
        | inr (past, none) ↦ absurd (let count = all.count in let low = made.1 in let f : ⊥ = omega (arith, count, past, low) in f)
      ];
}

-- a burst that isn't this request's
misses_request : (code : Code) (agrees : Agrees code) (i : ℕ) (birth : Birth) (answers behind : List Answer) (line : List Item) (phase : Option Phase) (ticks : ℕ) (request : Request) (old : Option Process)
    → StandsBy code i birth answers line phase old → Misses code (ticks + 1) (Asks ticks request) old → FollowsBy code i birth (answers ++ behind) (line ++ (ticks_of ticks ++ Ask request ∷ [])) → ⊥
misses_request code agrees i birth answers behind line phase ticks request old h (inl none) f =
    let there : StandsBy code i birth answers line phase None = subst (λ (o : Option Process). StandsBy code i birth answers line phase o) none h in
    nothing_more code i birth answers behind line (ticks_of ticks ++ Ask request ∷ []) there (let l = length-append (ticks_of ticks) (Ask request ∷ []) in omega (arith, l)) f
misses_request code agrees i birth answers behind line phase ticks request old h (inr m) f =
    let there : StandsBy code i birth answers line phase (Some m.from) = subst (λ (o : Option Process). StandsBy code i birth answers line phase o) m.was h in
    other_request code agrees i birth answers behind line (state_of m.from) m.to ticks request m.stop there.reached m.bursts m.other f

some_ticks : (ticks : ℕ) → 1 ≤ ticks → 1 ≤ length (ticks_of ticks)
some_ticks zero some = absurd (let f : ⊥ = omega (arith, some) in f)
some_ticks (suc ticks) some = omega arith

misses_ticks : (code : Code) (i : ℕ) (birth : Birth) (answers behind : List Answer) (line : List Item) (phase : Option Phase) (ticks : ℕ) (old : Option Process) → 1 ≤ ticks
    → StandsBy code i birth answers line phase old → Misses code ticks (Paused ticks) old → FollowsBy code i birth (answers ++ behind) (line ++ ticks_of ticks) → ⊥
misses_ticks code i birth answers behind line phase ticks old some h (inl none) f =
    let there : StandsBy code i birth answers line phase None = subst (λ (o : Option Process). StandsBy code i birth answers line phase o) none h in
    nothing_more code i birth answers behind line (ticks_of ticks) there (some_ticks ticks some) f
misses_ticks code i birth answers behind line phase ticks old some h (inr m) f =
    let there : StandsBy code i birth answers line phase (Some m.from) = subst (λ (o : Option Process). StandsBy code i birth answers line phase o) m.was h in
    other_ticks code i birth answers behind line (state_of m.from) m.to ticks m.stop there.reached m.bursts m.other f

-- what an instance follows behind one more event
follows_noted : (code : Code) (facts : Facts) (events : List Event) (event : Event) (i : ℕ) (slot : Option Process) (h : Stands code facts events i slot) (answers : List Answer) (line : List Item) → answers_by i event ≡ answers → items_by i event ≡ line
    → IsCodeRun code facts (events ++ event ∷ []) → FollowsBy code i h.birth (answers_of i events ++ answers) (line_of i events ++ line)
follows_noted code facts events event i slot h answers line a l run =
    follows_by code (events ++ event ∷ []) i h.birth (answers_of i events ++ answers) (line_of i events ++ line)
    (answers_noted i events event ∙ ap (λ (t : List Answer). answers_of i events ++ t) a)
    (line_noted i events event ∙ ap (λ (t : List Item). line_of i events ++ t) l)
    (run.follows i h.birth (born_more i events (event ∷ []) h.birth h.born))

-- An event that the machines can't follow is none of a run of the code.
pub cannot_follow : (code : Code) (agrees : Agrees code) (facts : Facts) (events : List Event) (event : Event) (machines : List (Option Process)) → AllStand code facts events machines → IsAllowed facts (world_of facts events) event → CannotFollow code event machines
    → IsCodeRun code facts (events ++ event ∷ []) → ⊥
cannot_follow code agrees facts events (Did who ticks request answer refill) machines all may m run =
    let h = all.stand who m.old (active_doer code facts events machines who all may.possible.0.active) m.there in
    misses_request code agrees who h.birth (answers_of who events) (answer ∷ []) (line_of who events) (phase_of (world_of facts events) who) ticks request m.old h.by m.misses
    (follows_noted code facts events (Did who ticks request answer refill) who m.old h (answer ∷ []) (ticks_of ticks ++ Ask request ∷ []) (rw (mine who) refl) (rw (mine who) refl) run)
cannot_follow code agrees facts events (Waits who ticks request) machines all may m run =
    let h = all.stand who m.old (active_doer code facts events machines who all may.possible.0.active) m.there in
    misses_request code agrees who h.birth (answers_of who events) [] (line_of who events) (phase_of (world_of facts events) who) ticks request m.old h.by m.misses
    (follows_noted code facts events (Waits who ticks request) who m.old h [] (ticks_of ticks ++ Ask request ∷ []) refl (rw (mine who) refl) run)
cannot_follow code agrees facts events (Goes who answer) machines all may m run = m
cannot_follow code agrees facts events (Runs who ticks) machines all may m run =
    let h = all.stand who m.old (active_doer code facts events machines who all may.possible.0) m.there in
    misses_ticks code who h.birth (answers_of who events) [] (line_of who events) (phase_of (world_of facts events) who) ticks m.old may.possible.1 h.by m.misses
    (follows_noted code facts events (Runs who ticks) who m.old h [] (ticks_of ticks) refl (rw (mine who) refl) run)
