-- What a process that stands well on a code comes to, told of one move at a time.
use Rattle.std.proofs.Common.{◌≡◌, ℕ, ◌<◌, List, ℤ, Some, IsTrue, subst}
use Rattle.kernel_base.specs.declared.request.Request.{Request}
use Rattle.kernel_base.specs.declared.answer.Answer.{Answer}
use Rattle.code_types.specs.declared.code.Code.{Code}
use Rattle.code_types.specs.Agreement.{Agrees}
use Rattle.code_types.specs.Answers.{answered, fits_request}
use Rattle.code_types.specs.State.{Slot, State, Asking, Ended}
use Rattle.code_types.specs.Steps.{Goes, Makes, Asks, Stays, move}
use Rattle.code_types.specs.Talk.{start_of}
use Rattle.code_safety.specs.Standing.{StandsOn}
use Rattle.code_safety.specs.Laws.{MovesWell}
use Rattle.code_safety.specs.Weights.{weight, Falls}
use Rattle.code_safety.proofs.Starting.{starts_well}
use Rattle.code_safety.proofs.MovePreservation.{moves_well}
use Rattle.code_safety.proofs.Answered.{answers_well}
use Rattle.code_safety.proofs.Falling.{moves_fall}

pub stands_at_start : (code : Code) → Agrees code → (instance process : ℕ) (arguments : List ℤ) (s : State) → start_of code instance process arguments ≡ Some s → StandsOn code s
stands_at_start code agrees instance process arguments s e = (agrees, starts_well code agrees instance process arguments s e)

pub stands_after_going : (code : Code) (s next : State) → StandsOn code s → move code s ≡ Goes next → StandsOn code next
stands_after_going code s next h e = (h.0, subst (MovesWell code h.0.heights s) e (moves_well code h.0 s h.1))

pub stands_after_tick : (code : Code) (s next : State) → StandsOn code s → move code s ≡ Makes next → StandsOn code next
stands_after_tick code s next h e = (h.0, subst (MovesWell code h.0.heights s) e (moves_well code h.0 s h.1))

pub stands_after_asking : (code : Code) (s next : State) (request : Request) → StandsOn code s → move code s ≡ Asks request next → StandsOn code next
stands_after_asking code s next request h e = (h.0, subst (MovesWell code h.0.heights s) e (moves_well code h.0 s h.1))

pub stands_after_answer : (code : Code) (s : State) (request : Request) (slots : List Slot) (answer : Answer) → StandsOn code s → s.mode ≡ Asking request slots → IsTrue (fits_request request slots answer) → StandsOn code (answered s request slots answer)
stands_after_answer code s request slots answer h e fits = (h.0, answers_well code h.0 s request slots answer h.1 e fits)

-- only a process that has ended stays
pub stays_ended : (code : Code) (s : State) → StandsOn code s → move code s ≡ Stays → s.mode ≡ Ended
stays_ended code s h e = subst (MovesWell code h.0.heights s) e (moves_well code h.0 s h.1)

-- without a tick the weight falls
pub falls_going : (code : Code) (s next : State) → StandsOn code s → move code s ≡ Goes next → weight code next < weight code s
falls_going code s next h e = subst (Falls code s) e (moves_fall code h.0 s h.1)

pub falls_asking : (code : Code) (s next : State) (request : Request) → StandsOn code s → move code s ≡ Asks request next → weight code next < weight code s
falls_asking code s next request h e = subst (Falls code s) e (moves_fall code h.0 s h.1)
