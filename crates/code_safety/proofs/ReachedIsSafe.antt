-- Whatever is reached stands well.
use Rattle.std.proofs.Common.{◌≡◌, refl, ℕ, zero, suc, Bool, true, false, List, ℤ, subst}
use Rattle.std.specs.Prelude.{if◌then◌else◌}
use Rattle.kernel_base.specs.declared.request.Request.{Request}
use Rattle.kernel_base.specs.declared.answer.Answer.{Answer}
use Rattle.world_model.specs.Session.{Item, Session, Asked, Answered, Unanswered, Ticked, GoesOn, Last, first_answer, session_of, tick}
use Rattle.code_types.specs.declared.code.Code.{Code}
use Rattle.code_types.specs.Agreement.{Agrees}
use Rattle.code_types.specs.Answers.{answered, fits_request}
use Rattle.code_types.specs.State.{Slot, State, Asking}
use Rattle.code_types.specs.Steps.{Move, Goes, Makes, Asks, Awaits, Stays, move, Run, At, Over, run_behind, run_with, run_after, steps}
use Rattle.code_types.specs.Talk.{Leads, Reaches}
use Rattle.code_safety.specs.Standing.{StandsWell}
use Rattle.code_safety.specs.Laws.{MovesWell}
use Rattle.code_safety.proofs.Starting.{starts_well}
use Rattle.code_safety.proofs.MovePreservation.{moves_well}
use Rattle.code_safety.proofs.Answered.{answers_well}

-- the state in which a run is, or is over, stands well
abbrev pub RunsWell : Code → List ℕ → Run → Type 0
RunsWell code heights (At s session) = StandsWell code heights s
RunsWell code heights (Over s trace) = StandsWell code heights s

behind_tick : (code : Code) (heights : List ℕ) (next : State) (ticked : Ticked) → StandsWell code heights next → RunsWell code heights (run_behind next ticked)
behind_tick code heights next (GoesOn session) well = well
behind_tick code heights next (Last trace) well = well

by-fit : (code : Code) (agrees : Agrees code) (s next : State) (session : Session) (trace : List Item) (b : Bool) → StandsWell code agrees.heights s → (b ≡ true → StandsWell code agrees.heights next) → RunsWell code agrees.heights (if b then At next session else Over s trace)
by-fit code agrees s next session trace true well fits = fits refl
by-fit code agrees s next session trace false well fits = well

behind_answer : (code : Code) (agrees : Agrees code) (s : State) (request : Request) (slots : List Slot) (asked : Asked) (trace : List Item)
    → StandsWell code agrees.heights s → s.mode ≡ Asking request slots → RunsWell code agrees.heights (run_with s request slots asked trace)
behind_answer code agrees s request slots (Answered answer session) trace well e =
    by-fit code agrees s (answered s request slots answer) session trace (fits_request request slots answer) well (λ fits. answers_well code agrees s request slots answer well e fits)
behind_answer code agrees s request slots (Unanswered ended) trace well e = well

-- a step of a run that stands well
pub step_well : (code : Code) (agrees : Agrees code) (s : State) (session : Session) (m : Move) → StandsWell code agrees.heights s → MovesWell code agrees.heights s m → RunsWell code agrees.heights (run_after s session m)
step_well code agrees s session (Goes next) well moves = moves
step_well code agrees s session (Makes next) well moves = behind_tick code agrees.heights next (tick session) moves
step_well code agrees s session (Asks request next) well moves = moves
step_well code agrees s session (Awaits request slots) well moves = behind_answer code agrees s request slots (first_answer session.trace session.answers session.ticks) session.trace well moves
step_well code agrees s session Stays well moves = well

steps_well : (code : Code) (agrees : Agrees code) (count : ℕ) (r : Run) → RunsWell code agrees.heights r → RunsWell code agrees.heights (steps code count r)
steps_well code agrees zero r well = well
steps_well code agrees (suc count) (At s session) well = steps_well code agrees count (run_after s session (move code s)) (step_well code agrees s session (move code s) well (moves_well code agrees s well))
steps_well code agrees (suc count) (Over s trace) well = steps_well code agrees count (Over s trace) well

pub leads_well : (code : Code) (agrees : Agrees code) (from : State) (answers : List Answer) (trace : List Item) (to : State) → StandsWell code agrees.heights from → Leads code from answers trace to → StandsWell code agrees.heights to
leads_well code agrees from answers trace to well leads = subst (RunsWell code agrees.heights) leads.by (steps_well code agrees leads.count (At from (session_of answers leads.ticks)) well)

pub reaches_well : (code : Code) (agrees : Agrees code) (instance process : ℕ) (arguments : List ℤ) (answers : List Answer) (trace : List Item) (state : State) → Reaches code instance process arguments answers trace state → StandsWell code agrees.heights state
reaches_well code agrees instance process arguments answers trace state reaches = leads_well code agrees reaches.start answers trace state (starts_well code agrees instance process arguments reaches.start reaches.starts) reaches.leads
