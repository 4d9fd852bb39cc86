-- A run with more behind it: an earlier trace, more answers and more ticks change nothing of what it comes to.
use Rattle.std.proofs.Common.{◌≡◌, ℕ, zero, suc, ◌+◌, Bool, true, false, List, [], ◌∷◌, ◌++◌, refl, sym, ◌∙◌, ap, subst, arith, append_assoc, append-nil}
use Rattle.std.specs.Prelude.{if◌then◌else◌}
use Rattle.kernel_base.specs.declared.answer.Answer.{Answer}
use Rattle.kernel_base.specs.declared.request.Request.{Request}
use Rattle.world_model.specs.Session.{Item, Tick, Ask, Session, first_answer, tick_of, session_of}
use Rattle.code_types.specs.declared.code.Code.{Code}
use Rattle.code_types.specs.Answers.{fits_request, answered}
use Rattle.code_types.specs.State.{Slot, State}
use Rattle.code_types.specs.Steps.{Move, Goes, Makes, Asks, Awaits, Stays, move, Run, At, Over, run_behind, run_with, run_after, steps}
use Rattle.code_types.specs.Talk.{Leads}
use Rattle.code_types.proofs.ManySteps.{steps-+, steps-over}

-- a session with an earlier trace, more answers and more ticks
abbrev pub more_session : List Item → List Answer → ℕ → Session → Session
more_session before behind more session = record { trace = before ++ session.trace; answers = session.answers ++ behind; ticks = session.ticks + more }

abbrev pub more_run : List Item → List Answer → ℕ → Run → Run
more_run before behind more (At s session) = At s (more_session before behind more session)
more_run before behind more (Over s trace) = Over s trace

abbrev pub IsAt : Run → Type 0
IsAt (At s session) = Unit {0}
IsAt (Over s trace) = ⊥

session-is : {trace trace' : List Item} {answers answers' : List Answer} {ticks ticks' : ℕ} → trace ≡ trace' → answers ≡ answers' → ticks ≡ ticks' → (let a : Session = record { trace = trace; answers = answers; ticks = ticks } in let b : Session = record { trace = trace'; answers = answers'; ticks = ticks' } in a ≡ b)
session-is e f g = cc

tick-more : (before : List Item) (behind : List Answer) (more : ℕ) (s : State) (trace : List Item) (answers : List Answer) (ticks : ℕ) → IsAt (run_behind s (tick_of trace answers ticks)) → run_behind s (tick_of (before ++ trace) (answers ++ behind) (ticks + more)) ≡ more_run before behind more (run_behind s (tick_of trace answers ticks))
tick-more before behind more s trace answers zero h = absurd h
tick-more before behind more s trace answers (suc zero) h = absurd h
tick-more before behind more s trace answers (suc (suc n)) h =
    let e : suc (suc n) + more ≡ suc (suc (n + more)) = omega arith in
    let f : suc (n + more) ≡ suc n + more = omega arith in
    ap (λ k. run_behind s (tick_of (before ++ trace) (answers ++ behind) k)) e ∙ ap (λ k. At s (record { trace = before ++ trace; answers = answers ++ behind; ticks = k })) f

fit-more : (before : List Item) (behind : List Answer) (more : ℕ) (s next : State) (session : Session) (trace trace' : List Item) (fits : Bool) → IsAt (if fits then At next session else Over s trace) → (if fits then At next (more_session before behind more session) else Over s trace') ≡ more_run before behind more (if fits then At next session else Over s trace)
fit-more before behind more s next session trace trace' true h = refl
fit-more before behind more s next session trace trace' false h = absurd h

answer-more : (before : List Item) (behind : List Answer) (more : ℕ) (s : State) (request : Request) (slots : List Slot) (trace : List Item) (answers : List Answer) (ticks : ℕ) → IsAt (run_with s request slots (first_answer trace answers ticks) trace) → run_with s request slots (first_answer (before ++ trace) (answers ++ behind) (ticks + more)) (before ++ trace) ≡ more_run before behind more (run_with s request slots (first_answer trace answers ticks) trace)
answer-more before behind more s request slots trace [] ticks h = absurd h
answer-more before behind more s request slots trace (answer ∷ answers) ticks h = fit-more before behind more s (answered s request slots answer) (record { trace = trace; answers = answers; ticks = ticks }) trace (before ++ trace) (fits_request request slots answer) h

after-more : (before : List Item) (behind : List Answer) (more : ℕ) (s : State) (session : Session) (m : Move) → IsAt (run_after s session m) → run_after s (more_session before behind more session) m ≡ more_run before behind more (run_after s session m)
after-more before behind more s session (Goes next) h = refl
after-more before behind more s session (Makes next) h = ap (λ t. run_behind next (tick_of t (session.answers ++ behind) (session.ticks + more))) (append_assoc before session.trace (Tick ∷ [])) ∙ tick-more before behind more next (session.trace ++ Tick ∷ []) session.answers session.ticks h
after-more before behind more s session (Asks request next) h = ap (λ t. At next (record { trace = t; answers = session.answers ++ behind; ticks = session.ticks + more })) (append_assoc before session.trace (Ask request ∷ []))
after-more before behind more s session (Awaits request slots) h = answer-more before behind more s request slots session.trace session.answers session.ticks h
after-more before behind more s session Stays h = absurd h

at-is : {r : Run} {s : State} {session : Session} → r ≡ At s session → IsAt r
at-is {r} {s} {session} e = subst IsAt (sym e) tt

-- the steps of a run that isn't over at their end are those of the run with more
pub steps-more : (before : List Item) (behind : List Answer) (more : ℕ) (code : Code) (count : ℕ) (r : Run) → IsAt (steps code count r) → steps code count (more_run before behind more r) ≡ more_run before behind more (steps code count r)
steps-more before behind more code zero r h = refl
steps-more before behind more code (suc count) (Over s trace) h = absurd (subst IsAt (steps-over code count s trace) h)
steps-more before behind more code (suc count) (At s session) h = by-next (run_after s session (move code s)) refl h (λ r k. steps-more before behind more code count r k)
  where
    by-next : (r : Run) → run_after s session (move code s) ≡ r → IsAt (steps code count r) → ((q : Run) → IsAt (steps code count q) → steps code count (more_run before behind more q) ≡ more_run before behind more (steps code count q)) → steps code count (run_after s (more_session before behind more session) (move code s)) ≡ more_run before behind more (steps code count (run_after s session (move code s)))
    by-next (Over q trace) e k later = absurd (subst IsAt (steps-over code count q trace) k)
    by-next (At q next) e k later =
        let one : run_after s (more_session before behind more session) (move code s) ≡ more_run before behind more (run_after s session (move code s)) = after-more before behind more s session (move code s) (at-is e) in
        ap (steps code count) (one ∙ ap (more_run before behind more) e) ∙ (later (At q next) k ∙ ap (λ r. more_run before behind more (steps code count r)) (sym e))

at-more : (before : List Item) (behind : List Answer) (more : ℕ) (code : Code) (count : ℕ) (r : Run) (s : State) (session : Session) → steps code count r ≡ At s session → steps code count (more_run before behind more r) ≡ At s (more_session before behind more session)
at-more before behind more code count r s session e = steps-more before behind more code count r (at-is e) ∙ ap (more_run before behind more) e

pub leads_on : (code : Code) (first second third : State) (answers more : List Answer) (trace behind : List Item) → Leads code first answers trace second → Leads code second more behind third → Leads code first (answers ++ more) (trace ++ behind) third
leads_on code first second third answers more trace behind a b =
    let one : steps code a.count (At first (record { trace = []; answers = answers ++ more; ticks = a.ticks + b.ticks })) ≡ At second (record { trace = trace; answers = more; ticks = a.left + b.ticks }) =
    at-more [] more b.ticks code a.count (At first (session_of answers a.ticks)) second (record { trace = trace; answers = []; ticks = a.left }) a.by in
    let two : steps code b.count (At second (record { trace = trace ++ []; answers = more ++ []; ticks = b.ticks + a.left })) ≡ At third (record { trace = trace ++ behind; answers = []; ticks = b.left + a.left }) =
    at-more trace [] a.left code b.count (At second (session_of more b.ticks)) third (record { trace = behind; answers = []; ticks = b.left }) b.by in
    let ticks : b.ticks + a.left ≡ a.left + b.ticks = omega arith in
    let same : At second (record { trace = trace ++ []; answers = more ++ []; ticks = b.ticks + a.left }) ≡ At second (record { trace = trace; answers = more; ticks = a.left + b.ticks }) =
    ap (λ session. At second session) (session-is (append-nil trace) (append-nil more) ticks) in
    record {
      count = a.count + b.count;
      ticks = a.ticks + b.ticks;
      left = b.left + a.left;
      by = steps-+ code a.count b.count (At first (session_of (answers ++ more) (a.ticks + b.ticks))) ∙ (ap (steps code b.count) (one ∙ sym same) ∙ two);
    }
