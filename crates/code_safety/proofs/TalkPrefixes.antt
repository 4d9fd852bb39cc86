-- With further answers and more ticks a talk begins as before.
use Rattle.std.proofs.Common.{◌≡◌, refl, sym, ◌∙◌, ap, subst, ℕ, zero, suc, ◌+◌, ◌-◌, ◌<◌, ◌≤◌, ◌⊎◌, inl, inr, Bool, true, false, List, [], ◌∷◌, ◌++◌, ℤ, Option, Some, None, append_assoc, append-nil, arith}
use Rattle.std.specs.Prelude.{if◌then◌else◌}
use Rattle.std.proofs.lemmas.Bool.{cases_lt}
use Rattle.kernel_base.specs.declared.request.Request.{Request}
use Rattle.kernel_base.specs.declared.answer.Answer.{Answer}
use Rattle.world_model.specs.Session.{Item, Tick, Ask, Session, first_answer, session_of, tick_of}
use Rattle.code_types.specs.declared.code.Code.{Code}
use Rattle.code_types.specs.Answers.{answered, fits_request}
use Rattle.code_types.specs.Runs.{Begins}
use Rattle.code_types.specs.State.{Slot, State}
use Rattle.code_types.specs.Steps.{Move, Goes, Makes, Asks, Awaits, Stays, move, Run, At, Over, run_behind, run_with, run_after, step, steps}
use Rattle.code_types.specs.Talk.{CodeTalk, TalkFrom, start_of}
use Rattle.code_types.proofs.ManySteps.{steps-over, steps-+}
use Rattle.code_types.proofs.Shifts.{more_session, more_run, IsAt, steps-more}

-- the trace of a run
abbrev trace_of : Run → List Item
trace_of (At s session) = session.trace
trace_of (Over s trace) = trace

-- what a move makes of a trace, however many answers and ticks are left
abbrev trace_after : List Item → Move → List Item
trace_after trace (Goes next) = trace
trace_after trace (Makes next) = trace ++ Tick ∷ []
trace_after trace (Asks request next) = trace ++ Ask request ∷ []
trace_after trace (Awaits request slots) = trace
trace_after trace Stays = trace

tick_trace : (next : State) (trace : List Item) (answers : List Answer) (ticks : ℕ) → trace_of (run_behind next (tick_of trace answers ticks)) ≡ trace
tick_trace next trace answers zero = refl
tick_trace next trace answers (suc zero) = refl
tick_trace next trace answers (suc (suc n)) = refl

fit_trace : (s next : State) (session : Session) (b : Bool) → trace_of (if b then At next session else Over s session.trace) ≡ session.trace
fit_trace s next session true = refl
fit_trace s next session false = refl

answer_trace : (s : State) (request : Request) (slots : List Slot) (trace : List Item) (answers : List Answer) (ticks : ℕ) → trace_of (run_with s request slots (first_answer trace answers ticks) trace) ≡ trace
answer_trace s request slots trace [] ticks = refl
answer_trace s request slots trace (answer ∷ answers) ticks = fit_trace s (answered s request slots answer) (record { trace = trace; answers = answers; ticks = ticks }) (fits_request request slots answer)

after_trace : (s : State) (session : Session) (m : Move) → trace_of (run_after s session m) ≡ trace_after session.trace m
after_trace s session (Goes next) = refl
after_trace s session (Makes next) = tick_trace next (session.trace ++ Tick ∷ []) session.answers session.ticks
after_trace s session (Asks request next) = refl
after_trace s session (Awaits request slots) = answer_trace s request slots session.trace session.answers session.ticks
after_trace s session Stays = refl

begins_self : (trace : List Item) → Begins trace trace
begins_self trace = ([], sym (append-nil trace))

begins_on : (a b c : List Item) → Begins a b → Begins b c → Begins a c
begins_on a b c (xs, e) (ys, f) = (xs ++ ys, f ∙ ap (λ (t : List Item). t ++ ys) e ∙ append_assoc a xs ys)

begins_after : (trace : List Item) (m : Move) → Begins trace (trace_after trace m)
begins_after trace (Goes next) = begins_self trace
begins_after trace (Makes next) = (Tick ∷ [], refl)
begins_after trace (Asks request next) = (Ask request ∷ [], refl)
begins_after trace (Awaits request slots) = begins_self trace
begins_after trace Stays = begins_self trace

step_begins : (code : Code) (r : Run) → Begins (trace_of r) (trace_of (step code r))
step_begins code (At s session) = subst (Begins session.trace) (sym (after_trace s session (move code s))) (begins_after session.trace (move code s))
step_begins code (Over s trace) = begins_self trace

-- a trace only becomes longer
steps_begin : (code : Code) (count : ℕ) (r : Run) → Begins (trace_of r) (trace_of (steps code count r))
steps_begin code zero r = begins_self (trace_of r)
steps_begin code (suc count) r = begins_on (trace_of r) (trace_of (step code r)) (trace_of (steps code count (step code r))) (step_begins code r) (steps_begin code count (step code r))

-- a run comes to a trace that begins so
record Shows (code : Code) (r : Run) (trace : List Item) : Type 0 where
  count : ℕ
  begins : Begins trace (trace_of (steps code count r))

-- where a run is over, the run with more has shown its trace
shows : (behind : List Answer) (more : ℕ) (code : Code) (count : ℕ) (s stands : State) (session : Session) (trace : List Item) → steps code count (At s session) ≡ Over stands trace → Shows code (more_run [] behind more (At s session)) trace
shows behind more code zero s stands session trace e = absurd (let no : ⊥ = cc in no)
shows behind more code (suc count) s stands session trace e = by-next (run_after s session (move code s)) refl e (λ q next k. shows behind more code count q stands next trace k)
  where
    by-next : (r : Run) → run_after s session (move code s) ≡ r → steps code count (run_after s session (move code s)) ≡ Over stands trace
        → ((q : State) (next : Session) → steps code count (At q next) ≡ Over stands trace → Shows code (more_run [] behind more (At q next)) trace)
        → Shows code (more_run [] behind more (At s session)) trace
    by-next (Over q t) is k later =
        let over : Over q t ≡ Over stands trace = sym (steps-over code count q t) ∙ (ap (steps code count) (sym is) ∙ k) in
        let same : t ≡ trace = ap trace_of over in
        let shown : trace_of (run_after s (more_session [] behind more session) (move code s)) ≡ trace =
        after_trace s (more_session [] behind more session) (move code s) ∙ (sym (after_trace s session (move code s)) ∙ (ap trace_of is ∙ same)) in
        record { count = suc zero; begins = subst (Begins trace) (sym shown) (begins_self trace) }
    by-next (At q next) is k later =
        let there = later q next (ap (steps code count) (sym is) ∙ k) in
        let one : step code (more_run [] behind more (At s session)) ≡ more_run [] behind more (At q next) =
        steps-more [] behind more code (suc zero) (At s session) (subst IsAt (sym is) tt) ∙ ap (more_run [] behind more) is in
        record { count = suc there.count; begins = subst (λ (r : Run). Begins trace (trace_of (steps code there.count r))) (sym one) there.begins }

shown_of_all : (code : Code) (r : Run) (stands : State) (trace longer : List Item) (count : ℕ) → steps code count r ≡ Over stands longer → Shows code r trace → Begins trace longer
shown_of_all code r stands trace longer count e s = by-order (cases_lt s.count count)
  where
    by-order : (s.count < count) ⊎ (count ≤ s.count) → Begins trace longer
    by-order (inl h) =
        let n : s.count + (count - s.count) ≡ count = omega arith in
        let on : steps code (count - s.count) (steps code s.count r) ≡ Over stands longer = sym (steps-+ code s.count (count - s.count) r) ∙ (ap (λ (k : ℕ). steps code k r) n ∙ e) in
        begins_on trace (trace_of (steps code s.count r)) longer s.begins (subst (λ (q : Run). Begins (trace_of (steps code s.count r)) (trace_of q)) on (steps_begin code (count - s.count) (steps code s.count r)))
    by-order (inr h) =
        let n : count + (s.count - count) ≡ s.count = omega arith in
        let on : steps code s.count r ≡ Over stands longer = ap (λ (k : ℕ). steps code k r) (sym n) ∙ (steps-+ code count (s.count - count) r ∙ (ap (steps code (s.count - count)) e ∙ steps-over code (s.count - count) stands longer)) in
        subst (λ (q : Run). Begins trace (trace_of q)) on s.begins

prefix_from : (code : Code) (o : Option State) (answers behind : List Answer) (n more : ℕ) (trace longer : List Item) → TalkFrom code o answers n trace → TalkFrom code o (answers ++ behind) (n + more) longer → Begins trace longer
prefix_from code None answers behind n more trace longer a b = ([], b ∙ (sym a ∙ sym (append-nil trace)))
prefix_from code (Some start) answers behind n more trace longer a b =
    shown_of_all code (At start (session_of (answers ++ behind) (n + more))) b.stands trace longer b.count b.by
    (shows behind more code a.count start a.stands (session_of answers n) trace a.by)

pub talk_prefix : (code : Code) (instance process : ℕ) (arguments : List ℤ) (answers behind : List Answer) (n more : ℕ) (trace longer : List Item)
    → CodeTalk code instance process arguments answers n trace
    → CodeTalk code instance process arguments (answers ++ behind) (n + more) longer
    → Begins trace longer
talk_prefix code instance process arguments answers behind n more trace longer a b = prefix_from code (start_of code instance process arguments) answers behind n more trace longer a b
