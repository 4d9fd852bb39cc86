-- What an answer makes of the machine of an instance.
use Rattle.std.proofs.Common.{◌≡◌, ◌⊎◌, ℕ, Bool, true, false, List, [], ◌∷◌, ◌++◌, refl, sym, ap, ◌∙◌, subst, inl, inr, arith, append_assoc, append-nil, Option, Some, None}
use Rattle.std.specs.Prelude.{if◌then◌else◌}
use Rattle.std.proofs.lemmas.Bool.{cases_Bool}
use Rattle.kernel_base.specs.declared.request.Request.{Request}
use Rattle.kernel_base.specs.declared.request.Request.TheVariants.{End}
use Rattle.kernel_base.specs.declared.answer.Answer.{Answer}
use Rattle.world_model.specs.declared.world.Phase.{Phase}
use Rattle.world_model.specs.declared.world.Phase.TheVariants.{Active, Ended as HasEnded}
use Rattle.world_model.specs.Session.{Item}
use Rattle.world_model.specs.Journal.{Birth}
use Rattle.code_types.specs.declared.code.Code.{Code}
use Rattle.code_types.specs.Answers.{answered, fits_request}
use Rattle.code_types.specs.State.{Frame, Slot, State, Mode, Running, Called, Asking, Raising, Ended}
use Rattle.code_types.specs.Steps.{Move, Awaits, Stays, move, move_in, At, Over, run_after}
use Rattle.code_types.specs.Talk.{CodeTalk, Reaches}
use Rattle.code_safety.specs.Leading.{WaitsWith}
use Rattle.code_safety.proofs.SingleMoves.{answer_leads}
use Rattle.machine_steps.specs.declared.process.Process.{Process}
use Rattle.machine_steps.specs.Answering.{takes_answer}
use Rattle.machine_steps.specs.Taking.{IsNoEnd}
use Rattle.machine_steps.specs.Views.{state_of}
use Rattle.code_machine.specs.Running.{GoesOnBehind, IsUp, RunsOn}
use Rattle.run_checker.specs.Slots.{HasTaken, IsGivenUp, Takes, is_end}
use Rattle.run_checker.specs.Standing.{HasNoMore, IsAwaiting, FitsPhase, StandsBy}
use Rattle.run_checker.proofs.Talks.{IsOverWith, over_here, reaches_answered}

move_by : (code : Code) (s : State) (mode : Mode) → s.mode ≡ mode → move code s ≡ move_in code s mode s.frames
move_by code s mode is = ap (λ (m : Mode). move_in code s m s.frames) is

-- an answer that doesn't fit is the last
unfit_over : (code : Code) (s : State) (request : Request) (slots : List Slot) (answer : Answer) → s.mode ≡ Asking request slots → fits_request request slots answer ≡ false → IsOverWith code s (answer ∷ [])
unfit_over code s request slots answer is unfit line behind ticks =
    let awaits : move code s ≡ Awaits request slots = move_by code s (Asking request slots) is in
    ap (λ (m : Move). run_after s (record { trace = line; answers = answer ∷ behind; ticks = ticks }) m) awaits ∙ (rw unfit refl)

-- what has ended is over
ended_over : (code : Code) (s : State) → s.mode ≡ Ended → IsOverWith code s []
ended_over code s is line behind ticks =
    let stays : move code s ≡ Stays = move_by code s Ended is in
    ap (λ (m : Move). run_after s (record { trace = line; answers = behind; ticks = ticks }) m) stays

-- the answer to the request to end is the last
end_over : (code : Code) (i : ℕ) (birth : Birth) (answers : List Answer) (line : List Item) (s : State) (request : Request) (slots : List Slot) (answer : Answer)
    → Reaches code i birth.process birth.arguments answers line s → s.mode ≡ Asking request slots → is_end request ≡ true → HasNoMore code i birth (answers ++ answer ∷ []) line
end_over code i birth answers line s (End how) slots answer r is ends = elim (cases_Bool (fits_request (End how) slots answer)) [
  | inr unfit ↦ over_here code i birth answers (answer ∷ []) line s r (unfit_over code s (End how) slots answer is unfit)
  | inl fits ↦ (
      let to : State = answered s (End how) slots answer in
      let reached : Reaches code i birth.process birth.arguments (answers ++ answer ∷ []) line to = reaches_answered code i birth.process birth.arguments answers answer line s to r (answer_leads code s (End how) slots answer is fits) in
      let none = over_here code i birth (answers ++ answer ∷ []) [] line to reached (ended_over code to refl) in
      subst (λ (a : List Answer). HasNoMore code i birth a line) (append-nil (answers ++ answer ∷ [])) none)
]
end_over code i birth answers line s request slots answer r is ends = absurd (let f : ⊥ = cc in f)

takes_by : (mode : Mode) (request : Request) (slots : List Slot) (answer : Answer) → mode ≡ Asking request slots → takes_answer mode answer ≡ fits_request request slots answer
takes_by mode request slots answer is = ap (λ (m : Mode). takes_answer m answer) is

-- behind the answer to a request other than that to end a process goes on
up_behind : (request : Request) (slots : List Slot) (to : Mode) → IsNoEnd request → GoesOnBehind (Asking request slots) to → IsUp to
up_behind (End how) slots to other going = absurd other
up_behind request slots to other going = going

pub no_end : (request : Request) → is_end request ≡ false → IsNoEnd request
no_end (End how) is = absurd (let f : ⊥ = cc in f)
no_end request is = tt

goes_by : (mode to : Mode) (request : Request) (slots : List Slot) → mode ≡ Asking request slots → GoesOnBehind mode to → GoesOnBehind (Asking request slots) to
goes_by mode to request slots is going = subst (λ (m : Mode). GoesOnBehind m to) is going

-- a machine that waits, and what the answer makes of it
pub answered_stands : (code : Code) (i : ℕ) (birth : Birth) (answers : List Answer) (line : List Item) (phase : Option Phase) (p : Process) (request : Request) (slots : List Slot) (answer : Answer) (ends : Bool) (new : Option Process)
    → Reaches code i birth.process birth.arguments answers line (state_of p) → RunsOn code p → (state_of p).mode ≡ Asking request slots
    → (ends ≡ true → is_end request ≡ true) → (ends ≡ false → (IsNoEnd request) × (phase ≡ Some Active))
    → Takes code answer ends (Some p) new → StandsBy code i birth (answers ++ answer ∷ []) line phase new
answered_stands code i birth answers line phase p request slots answer ends new r runs is end no_end_is (inl (taken, goes)) =
    let s : StandsBy code i birth (answers ++ answer ∷ []) line phase (Some taken.to) = record {
      runs = taken.runs runs;
      reached = reaches_answered code i birth.process birth.arguments answers answer line (state_of p) (state_of taken.to) r taken.leads;
      fits = subst (λ (o : Option Phase). FitsPhase o (state_of taken.to).mode) (sym (no_end_is goes).1) (up_behind request slots (state_of taken.to).mode (no_end_is goes).0 (goes_by (state_of p).mode (state_of taken.to).mode request slots is taken.going));
    } in
    subst (λ (o : Option Process). StandsBy code i birth (answers ++ answer ∷ []) line phase o) (sym taken.is) s
answered_stands code i birth answers line phase p request slots answer ends new r runs is end no_end_is (inr (gone, why)) =
    subst (λ (o : Option Process). StandsBy code i birth (answers ++ answer ∷ []) line phase o) (sym gone) (given_up why)
  where
    given_up : (takes_answer (state_of p).mode answer ≡ false) ⊎ (ends ≡ true) → HasNoMore code i birth (answers ++ answer ∷ []) line
    given_up (inl unfit) = over_here code i birth answers (answer ∷ []) line (state_of p) r (unfit_over code (state_of p) request slots answer is (sym (takes_by (state_of p).mode request slots answer is) ∙ unfit))
    given_up (inr over) = end_over code i birth answers line (state_of p) request slots answer r is (end over)

-- an instance that can do nothing more is answered
pub answered_none : (code : Code) (i : ℕ) (birth : Birth) (answers : List Answer) (line : List Item) (answer : Answer) → HasNoMore code i birth answers line → HasNoMore code i birth (answers ++ answer ∷ []) line
answered_none code i birth answers line answer none behind n trace talks enough =
    none (answer ∷ behind) n trace (subst (λ (a : List Answer). CodeTalk code i birth.process birth.arguments a n trace) (append_assoc answers (answer ∷ []) behind) talks) enough

-- what waits for its answer asked something
pub awaits : (mode : Mode) → IsAwaiting mode → (request : Request) × (slots : List Slot) × (mode ≡ Asking request slots) × IsNoEnd request
awaits Running is = absurd is
awaits Called is = absurd is
awaits (Asking request slots) is = (request, slots, refl, is)
awaits (Raising exception) is = absurd is
awaits Ended is = absurd is
