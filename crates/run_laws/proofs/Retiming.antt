-- A run with more answers behind, and with other ticks that suffice, comes to the same.
use Rattle.std.proofs.Common.{◌≡◌, ◌⊎◌, refl, sym, ◌∙◌, ap, subst, ℕ, zero, suc, ◌+◌, ◌-◌, ◌<◌, ◌≤◌, inl, inr, Bool, true, false, List, [], ◌∷◌, ◌++◌, Option, Some, append_assoc, append-nil, arith}
use Rattle.std.specs.Prelude.{if◌then◌else◌}
use Rattle.std.proofs.lemmas.Bool.{cases_lt}
use Rattle.kernel_base.specs.declared.request.Request.{Request}
use Rattle.kernel_base.specs.declared.answer.Answer.{Answer}
use Rattle.world_model.specs.Session.{Item, Tick, Ask, Session, first_answer, session_of, tick_of}
use Rattle.code_types.specs.declared.code.Code.{Code}
use Rattle.code_types.specs.Answers.{answered, fits_request}
use Rattle.code_types.specs.Runs.{Begins, ticks_in}
use Rattle.code_types.specs.State.{Slot, State}
use Rattle.code_types.specs.Steps.{Move, Goes, Makes, Asks, Awaits, Stays, move, Run, At, Over, run_behind, run_with, run_after, step, steps}
use Rattle.code_types.specs.Talk.{TalkFrom, start_of}
use Rattle.code_types.proofs.ManySteps.{steps-over, steps-+}
use Rattle.run_laws.specs.Laws.{ReachedLaw}

-- a session with more answers behind and so many ticks
abbrev pub timed : List Answer → ℕ → Session → Session
timed behind ticks session = record { trace = session.trace; answers = session.answers ++ behind; ticks = ticks }

-- so many steps lead from one to the other; they made so many ticks, and lead so whatever is behind
pub record Retimed (code : Code) (count : ℕ) (s : State) (from : Session) (q : State) (to : Session) : Type 0 where
  pub made : ℕ
  pub counted : ticks_in to.trace ≡ ticks_in from.trace + made
  pub again : (behind : List Answer) (left : ℕ) → 1 ≤ left → steps code count (At s (timed behind (left + made) from)) ≡ At q (timed behind left to)

ticks_tick : (trace : List Item) → ticks_in (trace ++ Tick ∷ []) ≡ suc (ticks_in trace)
ticks_tick [] = refl
ticks_tick (Tick ∷ items) = ap suc (ticks_tick items)
ticks_tick (Ask request ∷ items) = ticks_tick items

ticks_ask : (trace : List Item) (request : Request) → ticks_in (trace ++ Ask request ∷ []) ≡ ticks_in trace
ticks_ask [] request = refl
ticks_ask (Tick ∷ items) request = ap suc (ticks_ask items request)
ticks_ask (Ask other ∷ items) request = ticks_ask items request

at-at : {s q : State} {from to : Session} → At s from ≡ At q to → (s ≡ q) × (from ≡ to)
at-at e = (cc, cc)

-- one step, and then the rest
pub record Timed (code : Code) (s : State) (from : Session) (q : State) (to : Session) : Type 0 where
  pub made : ℕ
  pub counted : ticks_in to.trace ≡ ticks_in from.trace + made
  pub again : (behind : List Answer) (left : ℕ) → 1 ≤ left → run_after s (timed behind (left + made) from) (move code s) ≡ At q (timed behind left to)

tick-timed : (next : State) (trace : List Item) (answers : List Answer) (ticks : ℕ) (q : State) (to : Session) → run_behind next (tick_of trace answers ticks) ≡ At q to → (to.trace ≡ trace) × ((behind : List Answer) (left : ℕ) → 1 ≤ left → run_behind next (tick_of trace (answers ++ behind) (left + 1)) ≡ At q (timed behind left to))
tick-timed next trace answers zero q to e = absurd (let f : ⊥ = cc in f)
tick-timed next trace answers (suc zero) q to e = absurd (let f : ⊥ = cc in f)
tick-timed next trace answers (suc (suc n)) q to e = (cc, λ behind left low. by-left behind left low)
  where
    by-left : (behind : List Answer) (left : ℕ) → 1 ≤ left → run_behind next (tick_of trace (answers ++ behind) (left + 1)) ≡ At q (timed behind left to)
    by-left behind zero low = absurd (let f : ⊥ = omega arith in f)
    by-left behind (suc k) low =
        let p : suc k + 1 ≡ suc (suc k) = omega arith in
        let is : At next (record { trace = trace; answers = answers; ticks = suc n }) ≡ At q to = e in
        let parts = at-at is in
        ap (λ (t : ℕ). run_behind next (tick_of trace (answers ++ behind) t)) p
        ∙ (ap (λ (session : Session). At next (timed behind (suc k) session)) parts.1 ∙ ap (λ (r : State). At r (timed behind (suc k) to)) parts.0)

fit-timed : (s next : State) (session : Session) (trace trace' : List Item) (b : Bool) (q : State) (to : Session) → (if b then At next session else Over s trace) ≡ At q to → (session ≡ to) × ((next ≡ q) × (b ≡ true))
fit-timed s next session trace trace' true q to e = let parts = at-at e in (parts.1, (parts.0, refl))
fit-timed s next session trace trace' false q to e = absurd (let f : ⊥ = cc in f)

answer-timed : (s : State) (request : Request) (slots : List Slot) (trace : List Item) (answers : List Answer) (ticks : ℕ) (q : State) (to : Session) → run_with s request slots (first_answer trace answers ticks) trace ≡ At q to
    → (to.trace ≡ trace) × ((behind : List Answer) (left : ℕ) → run_with s request slots (first_answer trace (answers ++ behind) left) trace ≡ At q (timed behind left to))
answer-timed s request slots trace [] ticks q to e = absurd (let f : ⊥ = cc in f)
answer-timed s request slots trace (answer ∷ answers) ticks q to e =
    let session : Session = record { trace = trace; answers = answers; ticks = ticks } in
    let parts = fit-timed s (answered s request slots answer) session trace trace (fits_request request slots answer) q to e in (
      ap (λ (x : Session). x.trace) (sym parts.0),
      λ behind left.
          let on : (if fits_request request slots answer then At (answered s request slots answer) (timed behind left session) else Over s trace) ≡ At (answered s request slots answer) (timed behind left session) = rw parts.1.1 refl in
          on ∙ (ap (λ (x : Session). At (answered s request slots answer) (timed behind left x)) parts.0 ∙ ap (λ (r : State). At r (timed behind left to)) parts.1.0),
    )

after-timed : (code : Code) (s : State) (from : Session) (q : State) (to : Session) (m : Move) → move code s ≡ m → run_after s from m ≡ At q to → Timed code s from q to
after-timed code s from q to (Goes next) is e =
    let parts = at-at e in
    record {
      made = zero;
      counted = let f : to.trace ≡ from.trace = cc in let g : ticks_in from.trace + zero ≡ ticks_in from.trace = omega arith in ap ticks_in f ∙ sym g;
      again = λ behind left low. let g : left + zero ≡ left = omega arith in rw (is, g) (ap (λ (x : Session). At next (timed behind left x)) parts.1 ∙ ap (λ (r : State). At r (timed behind left to)) parts.0);
    }
after-timed code s from q to (Makes next) is e =
    let t = tick-timed next (from.trace ++ Tick ∷ []) from.answers from.ticks q to e in
    record {
      made = suc zero;
      counted = let g : ticks_in from.trace + suc zero ≡ suc (ticks_in from.trace) = omega arith in ap ticks_in t.0 ∙ (ticks_tick from.trace ∙ sym g);
      again = λ behind left low. rw is (t.1 behind left low);
    }
after-timed code s from q to (Asks request next) is e =
    let parts = at-at e in
    record {
      made = zero;
      counted = let f : to.trace ≡ from.trace ++ Ask request ∷ [] = cc in let g : ticks_in from.trace + zero ≡ ticks_in from.trace = omega arith in ap ticks_in f ∙ (ticks_ask from.trace request ∙ sym g);
      again = λ behind left low. let g : left + zero ≡ left = omega arith in rw (is, g) (ap (λ (x : Session). At next (timed behind left x)) parts.1 ∙ ap (λ (r : State). At r (timed behind left to)) parts.0);
    }
after-timed code s from q to (Awaits request slots) is e =
    let t = answer-timed s request slots from.trace from.answers from.ticks q to e in
    record {
      made = zero;
      counted = let g : ticks_in from.trace + zero ≡ ticks_in from.trace = omega arith in ap ticks_in t.0 ∙ sym g;
      again = λ behind left low. let g : left + zero ≡ left = omega arith in rw (is, g) (t.1 behind left);
    }
after-timed code s from q to Stays is e = absurd (let f : ⊥ = cc in f)

none-timed : (code : Code) (s q : State) (from to : Session) → At s from ≡ At q to → Retimed code zero s from q to
none-timed code s q from to e =
    let parts = at-at e in
    record {
      made = zero;
      counted = let f : to.trace ≡ from.trace = cc in let g : ticks_in from.trace + zero ≡ ticks_in from.trace = omega arith in ap ticks_in f ∙ sym g;
      again = λ behind left low. let g : left + zero ≡ left = omega arith in rw g (ap (λ (x : Session). At s (timed behind left x)) parts.1 ∙ ap (λ (r : State). At r (timed behind left to)) parts.0);
    }

pub retimed : (code : Code) (count : ℕ) (s : State) (from : Session) (q : State) (to : Session) → steps code count (At s from) ≡ At q to → Retimed code count s from q to
retimed code zero s from q to e = none-timed code s q from to e
retimed code (suc count) s from q to e = by-next (run_after s from (move code s)) refl e (λ r next k. retimed code count r next q to k)
  where
    by-next : (r : Run) → run_after s from (move code s) ≡ r → steps code count (run_after s from (move code s)) ≡ At q to
        → ((t : State) (next : Session) → steps code count (At t next) ≡ At q to → Retimed code count t next q to)
        → Retimed code (suc count) s from q to
    by-next (Over t trace) is k rest = absurd (let no : Over t trace ≡ At q to = sym (steps-over code count t trace) ∙ (ap (steps code count) (sym is) ∙ k) in let f : ⊥ = cc in f)
    by-next (At t next) is k rest =
        let one = after-timed code s from t next (move code s) refl is in
        let more = rest t next (ap (steps code count) (sym is) ∙ k) in
        record {
          made = more.made + one.made;
          counted = let a = one.counted in let b = more.counted in omega (arith, a, b);
          again = λ behind left low.
              let g : left + (more.made + one.made) ≡ (left + more.made) + one.made = omega arith in
              let high : 1 ≤ left + more.made = omega (arith, low) in
              rw g (ap (steps code count) (one.again behind (left + more.made) high) ∙ more.again behind left low);
        }

-- the trace of a run
abbrev trace_of : Run → List Item
trace_of (At s session) = session.trace
trace_of (Over s trace) = trace

begins_self : (trace : List Item) → Begins trace trace
begins_self trace = ([], sym (append-nil trace))

begins_on : (a b c : List Item) → Begins a b → Begins b c → Begins a c
begins_on a b c (xs, e) (ys, f) = (xs ++ ys, f ∙ ap (λ (t : List Item). t ++ ys) e ∙ append_assoc a xs ys)

tick_begins : (next : State) (trace : List Item) (answers : List Answer) (ticks : ℕ) → trace_of (run_behind next (tick_of trace answers ticks)) ≡ trace
tick_begins next trace answers zero = refl
tick_begins next trace answers (suc zero) = refl
tick_begins next trace answers (suc (suc n)) = refl

fit_begins : (s next : State) (session : Session) (b : Bool) → trace_of (if b then At next session else Over s session.trace) ≡ session.trace
fit_begins s next session true = refl
fit_begins s next session false = refl

answer_begins : (s : State) (request : Request) (slots : List Slot) (trace : List Item) (answers : List Answer) (ticks : ℕ) → trace_of (run_with s request slots (first_answer trace answers ticks) trace) ≡ trace
answer_begins s request slots trace [] ticks = refl
answer_begins s request slots trace (answer ∷ answers) ticks = fit_begins s (answered s request slots answer) (record { trace = trace; answers = answers; ticks = ticks }) (fits_request request slots answer)

after_begins : (s : State) (session : Session) (m : Move) → Begins session.trace (trace_of (run_after s session m))
after_begins s session (Goes next) = begins_self session.trace
after_begins s session (Makes next) = (Tick ∷ [], tick_begins next (session.trace ++ Tick ∷ []) session.answers session.ticks)
after_begins s session (Asks request next) = (Ask request ∷ [], refl)
after_begins s session (Awaits request slots) = ([], answer_begins s request slots session.trace session.answers session.ticks ∙ sym (append-nil session.trace))
after_begins s session Stays = begins_self session.trace

step_begins : (code : Code) (r : Run) → Begins (trace_of r) (trace_of (step code r))
step_begins code (At s session) = after_begins s session (move code s)
step_begins code (Over s trace) = begins_self trace

-- a trace only becomes longer
steps_begin : (code : Code) (count : ℕ) (r : Run) → Begins (trace_of r) (trace_of (steps code count r))
steps_begin code zero r = begins_self (trace_of r)
steps_begin code (suc count) r = begins_on (trace_of r) (trace_of (step code r)) (trace_of (steps code count (step code r))) (step_begins code r) (steps_begin code count (step code r))

-- what a run passes begins what it comes to
passed : (code : Code) (r : Run) (count total : ℕ) (s stands : State) (session : Session) (talk : List Item) → steps code count r ≡ At s session → steps code total r ≡ Over stands talk → Begins session.trace talk
passed code r count total s stands session talk e f = by-order (cases_lt total count)
  where
    by-order : (total < count) ⊎ (count ≤ total) → Begins session.trace talk
    by-order (inl h) =
        let n : total + (count - total) ≡ count = omega arith in
        let on : Over stands talk ≡ At s session = sym (steps-over code (count - total) stands talk) ∙ (ap (steps code (count - total)) (sym f) ∙ (sym (steps-+ code total (count - total) r) ∙ (ap (λ (k : ℕ). steps code k r) n ∙ e))) in
        absurd (let no : ⊥ = cc in no)
    by-order (inr h) =
        let n : count + (total - count) ≡ total = omega arith in
        let on : steps code (total - count) (At s session) ≡ Over stands talk = ap (steps code (total - count)) (sym e) ∙ (sym (steps-+ code count (total - count) r) ∙ (ap (λ (k : ℕ). steps code k r) n ∙ f)) in
        subst (λ (q : Run). Begins session.trace (trace_of q)) on (steps_begin code (total - count) (At s session))

from_start : (code : Code) (o : Option State) (start : State) → o ≡ Some start → (answers : List Answer) (n : ℕ) (talk : List Item) → TalkFrom code o answers n talk → TalkFrom code (Some start) answers n talk
from_start code o start e answers n talk t = subst (λ (x : Option State). TalkFrom code x answers n talk) e t

pub reached_law : ReachedLaw
reached_law code instance process arguments answers behind n trace talk state reaches talks enough =
    let leads = reaches.leads in
    let start = reaches.start in
    let t = retimed code leads.count start (session_of answers leads.ticks) state (record { trace = trace; answers = []; ticks = leads.left }) leads.by in
    let c = from_start code (start_of code instance process arguments) start reaches.starts (answers ++ behind) n talk talks in
    let made : ticks_in trace ≡ zero + t.made = t.counted in
    let low : 1 ≤ n - t.made = omega (arith, made, enough) in
    let all : (n - t.made) + t.made ≡ n = omega (arith, made, enough) in
    let there : steps code leads.count (At start (session_of (answers ++ behind) n)) ≡ At state (timed behind (n - t.made) (record { trace = trace; answers = []; ticks = leads.left })) =
    ap (λ (k : ℕ). steps code leads.count (At start (session_of (answers ++ behind) k))) (sym all) ∙ t.again behind (n - t.made) low in
    passed code (At start (session_of (answers ++ behind) n)) leads.count c.count state c.stands (timed behind (n - t.made) (record { trace = trace; answers = []; ticks = leads.left })) talk there c.by
