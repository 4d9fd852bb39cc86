-- Guarded code has a talk.
use Rattle.std.proofs.Common.{◌≡◌, refl, ◌∙◌, ℕ, zero, suc, ◌+◌, ◌<◌, ◌≤◌, Bool, true, false, List, [], ◌∷◌, ◌++◌, ℤ, length, Option, Some, None, arith}
use Rattle.std.specs.Prelude.{if◌then◌else◌}
use Rattle.kernel_base.specs.declared.request.Request.{Request}
use Rattle.kernel_base.specs.declared.answer.Answer.{Answer}
use Rattle.world_model.specs.Session.{Item, Tick, Ask, Session, first_answer, session_of, tick_of}
use Rattle.code_types.specs.declared.code.Code.{Code}
use Rattle.code_types.specs.Agreement.{Agrees}
use Rattle.code_types.specs.Answers.{answered, fits_request}
use Rattle.code_types.specs.State.{Slot, State, Asking}
use Rattle.code_types.specs.Steps.{Move, Goes, Makes, Asks, Awaits, Stays, move, Run, At, Over, run_behind, run_with, run_after, step, steps}
use Rattle.code_types.specs.Talk.{CodeTalk, TalkFrom, start_of}
use Rattle.code_safety.specs.Standing.{StandsWell}
use Rattle.code_safety.specs.Laws.{MovesWell}
use Rattle.code_safety.specs.Weights.{weight, Falls}
use Rattle.code_safety.proofs.Starting.{starts_well}
use Rattle.code_safety.proofs.MovePreservation.{moves_well}
use Rattle.code_safety.proofs.Falling.{moves_fall}
use Rattle.code_safety.proofs.Answered.{answers_well}

-- a run that comes to be over
record Ends (code : Code) (r : Run) : Type 0 where
  count : ℕ
  stands : State
  trace : List Item
  by : steps code count r ≡ Over stands trace

ends_now : (code : Code) (s : State) (trace : List Item) → Ends code (Over s trace)
ends_now code s trace = record { count = zero; stands = s; trace = trace; by = refl }

ends_later : (code : Code) (r : Run) → Ends code (step code r) → Ends code r
ends_later code r e = record { count = suc e.count; stands = e.stands; trace = e.trace; by = e.by }

-- the answers and the ticks that are left
abbrev fuel : Session → ℕ
fuel session = length session.answers + session.ticks

-- each run with less fuel, and each with the same fuel and less weight, comes to be over
abbrev EndsBelow : Code → List ℕ → ℕ → Type 0
EndsBelow code heights most = (s : State) (session : Session) → fuel session < most → StandsWell code heights s → Ends code (At s session)

abbrev EndsLighter : Code → List ℕ → ℕ → ℕ → Type 0
EndsLighter code heights same most = (s : State) (session : Session) → fuel session ≡ same → weight code s < most → StandsWell code heights s → Ends code (At s session)

tick_ends : (code : Code) (heights : List ℕ) (next : State) (trace : List Item) (answers : List Answer) (ticks : ℕ) → EndsBelow code heights (length answers + ticks) → StandsWell code heights next → Ends code (run_behind next (tick_of trace answers ticks))
tick_ends code heights next trace answers zero below well = ends_now code next trace
tick_ends code heights next trace answers (suc zero) below well = ends_now code next trace
tick_ends code heights next trace answers (suc (suc n)) below well = below next (record { trace = trace; answers = answers; ticks = suc n }) (omega arith) well

fit_ends : (code : Code) (s next : State) (session : Session) (trace : List Item) (b : Bool) → (b ≡ true → Ends code (At next session)) → Ends code (if b then At next session else Over s trace)
fit_ends code s next session trace true later = later refl
fit_ends code s next session trace false later = ends_now code s trace

answer_ends : (code : Code) (agrees : Agrees code) (s : State) (request : Request) (slots : List Slot) (trace : List Item) (answers : List Answer) (ticks : ℕ) → EndsBelow code agrees.heights (length answers + ticks) → StandsWell code agrees.heights s → s.mode ≡ Asking request slots → Ends code (run_with s request slots (first_answer trace answers ticks) trace)
answer_ends code agrees s request slots trace [] ticks below well e = ends_now code s trace
answer_ends code agrees s request slots trace (answer ∷ answers) ticks below well e =
    let session : Session = record { trace = trace; answers = answers; ticks = ticks } in
    fit_ends code s (answered s request slots answer) session trace (fits_request request slots answer)
    (λ fits. below (answered s request slots answer) session (omega arith) (answers_well code agrees s request slots answer well e fits))

move_ends : (code : Code) (agrees : Agrees code) (s : State) (session : Session) (most : ℕ) (m : Move)
    → EndsBelow code agrees.heights (fuel session) → EndsLighter code agrees.heights (fuel session) most → weight code s ≤ most
    → StandsWell code agrees.heights s → MovesWell code agrees.heights s m → Falls code s m
    → Ends code (run_after s session m)
move_ends code agrees s session most (Goes next) below lighter low well moves falls = lighter next session refl (omega arith) moves
move_ends code agrees s session most (Makes next) below lighter low well moves falls = tick_ends code agrees.heights next (session.trace ++ Tick ∷ []) session.answers session.ticks below moves
move_ends code agrees s session most (Asks request next) below lighter low well moves falls = lighter next (record session { trace = session.trace ++ Ask request ∷ [] }) refl (omega arith) moves
move_ends code agrees s session most (Awaits request slots) below lighter low well moves falls = answer_ends code agrees s request slots session.trace session.answers session.ticks below well moves
move_ends code agrees s session most Stays below lighter low well moves falls = ends_now code s session.trace

-- by the weight, where less fuel is known to do
by_weight : (code : Code) (agrees : Agrees code) (same : ℕ) → EndsBelow code agrees.heights same → (most : ℕ) → EndsLighter code agrees.heights same most
by_weight code agrees same below zero s session e light well = absurd (omega arith)
by_weight code agrees same below (suc most) s session e light well =
    ends_later code (At s session)
    (move_ends code agrees s session most (move code s)
    (λ q r h w. below q r (omega arith) w)
    (λ q r h l w. by_weight code agrees same below most q r (h ∙ e) l w)
    (omega arith) well (moves_well code agrees s well) (moves_fall code agrees s well))

by_fuel : (code : Code) (agrees : Agrees code) (most : ℕ) → EndsBelow code agrees.heights most
by_fuel code agrees zero s session low well = absurd (omega arith)
by_fuel code agrees (suc most) s session low well =
    by_weight code agrees (fuel session) (λ q r h w. by_fuel code agrees most q r (omega arith) w) (suc (weight code s)) s session refl (omega arith) well

talk_from : (code : Code) (agrees : Agrees code) (o : Option State) (answers : List Answer) (n : ℕ) → ((s : State) → o ≡ Some s → StandsWell code agrees.heights s) → (trace : List Item) × TalkFrom code o answers n trace
talk_from code agrees None answers n well = ([], refl)
talk_from code agrees (Some s) answers n well =
    let e = by_fuel code agrees (suc (fuel (session_of answers n))) s (session_of answers n) (omega arith) (well s refl) in
    (e.trace, record { count = e.count; stands = e.stands; by = e.by })

pub talk_exists : (code : Code) (agrees : Agrees code) (instance process : ℕ) (arguments : List ℤ) (answers : List Answer) (n : ℕ) → (trace : List Item) × CodeTalk code instance process arguments answers n trace
talk_exists code agrees instance process arguments answers n =
    talk_from code agrees (start_of code instance process arguments) answers n (λ s e. starts_well code agrees instance process arguments s e)
