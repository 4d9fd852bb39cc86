-- The machines of processes that are started, that of the first one before the first event included.
use Rattle.std.proofs.Common.{◌≡◌, ◌≢◌, ℕ, zero, suc, ◌≤◌, ◌<◌, Bool, true, false, List, [], ◌∷◌, ◌++◌, ℤ, length, refl, sym, ap, ◌∙◌, subst, inl, inr, arith, append-nil, Option, Some, None, slice_get}
use Rattle.std.specs.Prelude.{◌==◌}
use Rattle.std.proofs.lemmas.Bool.{cases_Bool}
use Rattle.kernel_base.specs.declared.facts.Facts.{Facts}
use Rattle.kernel_base.specs.declared.request.Request.TheVariants.{Start}
use Rattle.kernel_base.specs.declared.answer.Answer.{Answer}
use Rattle.kernel_base.specs.declared.answer.Answer.TheVariants.{Instance}
use Rattle.kernel_base.specs.declared.event.Event.{Event}
use Rattle.kernel_base.specs.declared.event.Event.TheVariants.{Did}
use Rattle.world_model.specs.declared.world.Phase.{Phase}
use Rattle.world_model.specs.declared.world.Phase.TheVariants.{Active}
use Rattle.world_model.specs.declared.world.World.{World}
use Rattle.world_model.specs.Session.{Item}
use Rattle.world_model.specs.Waiting.{phase_of}
use Rattle.world_model.specs.World.{opening, world_of}
use Rattle.world_model.specs.Allowed.{IsRun}
use Rattle.world_model.specs.Journal.{line_of, answers_of, Birth, born_of}
use Rattle.code_types.specs.declared.code.Code.{Code}
use Rattle.code_types.specs.declared.code.BodyRow.{BodyRow}
use Rattle.code_types.specs.State.{State, Mode, Running}
use Rattle.code_types.specs.Steps.{new_frame}
use Rattle.code_types.specs.Talk.{Reaches, start_in, start_of}
use Rattle.machine_steps.specs.declared.process.Process.{Process}
use Rattle.machine_steps.specs.Views.{state_of}
use Rattle.code_machine.specs.Running.{IsUp, RunsOn}
use Rattle.run_laws.specs.Laws.{Births}
use Rattle.run_laws.proofs.Births.{births_law}
use Rattle.run_checker.specs.Slots.{StartsAs}
use Rattle.run_checker.specs.Standing.{AllStand, FitsPhase, Stands, StandsBy}
use Rattle.run_checker.proofs.Talks.{not_started}
use Rattle.run_checker.proofs.Noted.{answers_noted, born_next, line_noted, others_answers, others_items, world_noted}

-- what is started is running
running_in : (i process : ℕ) (arguments : List ℤ) (row : Option BodyRow) (state : State) → start_in i process arguments row ≡ Some state → state.mode ≡ Running
running_in i process arguments None state is = absurd (let f : ⊥ = cc in f)
running_in i process arguments (Some row) state is = elim (cases_Bool (row.params == length arguments)) [
  | inl same ↦ (
      let made : State = record { instance = i; frames = new_frame process row arguments ∷ []; regions = []; mode = Running } in
      let both : Some made ≡ Some state = sym (rw same refl) ∙ is in
      let one : made ≡ state = cc in
      ap (λ (s : State). s.mode) (sym one))
  | inr other ↦ absurd (let none : None ≡ Some state = sym (rw other refl) ∙ is in let f : ⊥ = cc in f)
]

-- a machine at its start, or none where nothing can be started
pub start_stands : (code : Code) (i : ℕ) (birth : Birth) (phase : Option Phase) (slot : Option Process) → StartsAs code i birth.process birth.arguments slot → phase ≡ Some Active → StandsBy code i birth [] [] phase slot
start_stands code i birth phase None starts active = not_started code i birth starts
start_stands code i birth phase (Some p) starts active =
    let running : (state_of p).mode ≡ Running = running_in i birth.process birth.arguments (slice_get code.bodies birth.process) (state_of p) starts.0 in
    record {
      runs = starts.1;
      reached = record { start = state_of p; starts = starts.0; leads = record { count = 0; ticks = 0; left = 0; by = refl } };
      fits = subst (λ (o : Option Phase). FitsPhase o (state_of p).mode) (sym active) (subst IsUp (sym running) tt);
    }

pushed_last : {A : Type 0} (xs : List A) (x : A) → slice_get (xs ++ x ∷ []) (length xs) ≡ Some x
pushed_last [] x = refl
pushed_last (y ∷ xs) x = pushed_last xs x

-- the machine of a process that an event started
pub started_stands : (code : Code) (facts : Facts) (events : List Event) (who ticks process : ℕ) (scalars : List ℤ) (j : ℕ) (refill : Option ℕ) (slot : Option Process) → IsRun facts events
    → j ≡ length (world_of facts events).phases → who ≢ j → StartsAs code j process scalars slot → Stands code facts (events ++ Did who ticks (Start process scalars) (Instance j) refill ∷ []) j slot
started_stands code facts events who ticks process scalars j refill slot run is other starts =
    let event : Event = Did who ticks (Start process scalars) (Instance j) refill in
    let w : World = world_of facts events in
    let b = births_law facts events run in
    let past : length w.phases ≤ j = omega (arith, is) in
    let birth : Birth = record { process = process; arguments = scalars } in
    let answers : answers_of j (events ++ event ∷ []) ≡ [] = answers_noted j events event ∙ (ap (λ (t : List Answer). answers_of j events ++ t) (others_answers j event other) ∙ (append-nil (answers_of j events) ∙ (b.quiet j past).1)) in
    let line : line_of j (events ++ event ∷ []) ≡ [] = line_noted j events event ∙ (ap (λ (t : List Item). line_of j events ++ t) (others_items j event other) ∙ (append-nil (line_of j events) ∙ (b.quiet j past).0)) in
    let phase : phase_of (world_of facts (events ++ event ∷ [])) j ≡ Some Active = ap (λ (x : World). phase_of x j) (world_noted facts events event) ∙ (ap (slice_get (w.phases ++ Active ∷ [])) is ∙ pushed_last w.phases Active) in
    record {
      birth = birth;
      born = born_next w events who ticks process scalars refill j b is;
      by = subst (λ (t : List Item). StandsBy code j birth (answers_of j (events ++ event ∷ [])) t (phase_of (world_of facts (events ++ event ∷ [])) j) slot) (sym line)
          (subst (λ (xs : List Answer). StandsBy code j birth xs [] (phase_of (world_of facts (events ++ event ∷ [])) j) slot) (sym answers)
          (start_stands code j birth (phase_of (world_of facts (events ++ event ∷ [])) j) slot starts phase));
    }

opens_at : (code : Code) (facts : Facts) (first : Option Process) (i : ℕ) (slot : Option Process) → StartsAs code 1 0 [] first → 1 ≤ i → slice_get (None ∷ first ∷ []) i ≡ Some slot → Stands code facts [] i slot
opens_at code facts first zero slot starts low at = absurd (let f : ⊥ = omega (arith, low) in f)
opens_at code facts first (suc zero) slot starts low at =
    let same : first ≡ slot = cc in
    subst (λ (o : Option Process). Stands code facts [] 1 o) same (record { birth = record { process = 0; arguments = [] }; born = refl; by = start_stands code 1 (record { process = 0; arguments = [] }) (Some Active) first starts refl })
opens_at code facts first (suc (suc i)) slot starts low at = absurd (let f : ⊥ = cc in f)

-- all machines before the first event
pub opening_stands : (code : Code) (facts : Facts) (first : Option Process) → StartsAs code 1 0 [] first → AllStand code facts [] (None ∷ first ∷ [])
opening_stands code facts first starts = record {
  run = tt;
  nobody = refl;
  count = refl;
  stand = λ i slot low at. opens_at code facts first i slot starts low at;
}
