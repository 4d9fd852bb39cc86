-- A code's talk with fewer answers: it is the talk with more, or it stops for want of an answer.
use Rattle.std.proofs.Common.{◌≡◌, ◌⊎◌, ◌+◌, ◌≤◌, ◌<◌, ℕ, zero, suc, Bool, true, false, List, [], ◌∷◌, ◌++◌, ℤ, length, refl, sym, ap, ◌∙◌, subst, inl, inr, arith, append-nil, length-append, Option, Some, None, slice_get}
use Rattle.std.specs.Prelude.{if◌then◌else◌, ◌==◌, nat_le}
use Rattle.std.proofs.lemmas.Bool.{cases_Bool}
use Rattle.kernel_base.specs.declared.ends.Exc.{Exc}
use Rattle.kernel_base.specs.declared.ends.How.{How}
use Rattle.kernel_base.specs.declared.request.Request.{Request}
use Rattle.kernel_base.specs.declared.request.Request.TheVariants.{End}
use Rattle.kernel_base.specs.declared.answer.Answer.{Answer}
use Rattle.kernel_base.specs.declared.answer.Answer.TheVariants.{Fail}
use Rattle.world_model.specs.Session.{Item, Tick, Session, first_answer, session_of, tick_of}
use Rattle.code_types.specs.declared.instr.Instr.{Instr}
use Rattle.code_types.specs.declared.instr.Instr.TheVariants.{Call}
use Rattle.code_types.specs.declared.code.Handler.{Handler}
use Rattle.code_types.specs.declared.code.BodyRow.{BodyRow}
use Rattle.code_types.specs.declared.code.Code.{Code}
use Rattle.code_types.specs.Places.{listed_of, names_exception, taker, finds}
use Rattle.code_types.specs.Operands.{topmost, below_topmost}
use Rattle.code_types.specs.Actions.{Action, Pushes, Sets, GoesTo, TicksTo, Calls, Returns, Throws, Requests, Halts, action_of}
use Rattle.code_types.specs.Answers.{fits_request, goes_on, answered}
use Rattle.code_types.specs.Runs.{Begins, ticks_in}
use Rattle.code_types.specs.State.{Frame, Slot, State, Mode, Running, Called, Asking, Raising, Ended}
use Rattle.code_types.specs.Steps.{Move, Goes, Makes, Asks, Awaits, Stays, left_with, made, executed, entered, called, unhandled, caught, move_in, Run, At, Over, run_behind, run_with, run_after, steps, new_frame}
use Rattle.code_types.specs.Talk.{Reaches, TalkFrom, CodeTalk, start_in, start_of}
use Rattle.code_types.proofs.ManySteps.{steps-over, one_talk}
use Rattle.run_laws.proofs.Retiming.{timed, retimed, reached_law}
use Rattle.run_laws.proofs.OpenRegions.{asks_in, asks_in-append}
use Rattle.text_laws.proofs.Traces.{ticks_tick, ticks_ask, asks_tick, asks_ask}

-- ---- who waits for an answer

-- one answer is owed to who asks
abbrev owed : Mode → ℕ
owed (Asking request slots) = 1
owed mode = 0

-- there is a frame, but for a request that ends
abbrev IsFramed : List Frame → Request → Type 0
IsFramed [] (End how) = Unit {0}
IsFramed [] request = ⊥
IsFramed (frame ∷ below) request = Unit {0}

abbrev FramedIn : Mode → List Frame → Type 0
FramedIn (Asking request slots) frames = IsFramed frames request
FramedIn mode frames = Unit {0}

-- a state that asks
record AsksNow (request : Request) (next : State) : Type 0 where
  pub slots : List Slot
  pub mode : next.mode ≡ Asking request slots
  pub framed : IsFramed next.frames request

abbrev Owes : Move → Type 0
Owes (Goes next) = owed next.mode ≡ 0
Owes (Makes next) = owed next.mode ≡ 0
Owes (Asks request next) = AsksNow request next
Owes (Awaits request slots) = ⊥
Owes Stays = Unit {0}

ends_owing : (s : State) (f : Frame) (below : List Frame) (how : How) → s.frames ≡ f ∷ below → AsksNow (End how) (record s { mode = Asking (End how) [] })
ends_owing s f below how is = record { slots = []; mode = refl; framed = subst (λ (fs : List Frame). IsFramed fs (End how)) (sym is) tt }

left_owing : (s : State) (f : Frame) (below : List Frame) (results : List ℤ) → s.frames ≡ f ∷ below → Owes (left_with s f below results)
left_owing s f [] results is = ends_owing s f [] _ is
left_owing s f (caller ∷ below) results is = refl

made_owing : (s : State) (f : Frame) (below : List Frame) (rest : List ℤ) (action : Action) → s.frames ≡ f ∷ below → Owes (made s f below rest action)
made_owing s f below rest (Pushes numbers) is = refl
made_owing s f below rest (Sets first numbers) is = refl
made_owing s f below rest (GoesTo place) is = refl
made_owing s f below rest (TicksTo place) is = refl
made_owing s f below rest Calls is = refl
made_owing s f below rest (Returns results) is = left_owing s f below results is
made_owing s f below rest (Throws exception) is = refl
made_owing s f below rest (Requests request slots) is = record { slots = slots; mode = refl; framed = tt }
made_owing s f below rest Halts is = tt

if_owing : (b : Bool) (x y : Move) → Owes x → Owes y → Owes (if b then x else y)
if_owing true x y a c = a
if_owing false x y a c = c

executed_owing : (code : Code) (s : State) (f : Frame) (below : List Frame) (instr : Option Instr) → s.frames ≡ f ∷ below → Owes (executed code s f below instr)
executed_owing code s f below None is = tt
executed_owing code s f below (Some instr) is =
    if_owing (nat_le (finds code f.body instr) (length f.stack)) _ Stays
    (made_owing s f below (below_topmost (finds code f.body instr) f.stack) (action_of s f instr (topmost (finds code f.body instr) f.stack)) is) tt

entered_owing : (s : State) (f : Frame) (below : List Frame) (body : ℕ) (row : Option BodyRow) → Owes (entered s f below body row)
entered_owing s f below body None = tt
entered_owing s f below body (Some row) = if_owing (nat_le row.params (length f.stack)) _ Stays refl tt

called_owing : (code : Code) (s : State) (f : Frame) (below : List Frame) (instr : Option Instr) → Owes (called code s f below instr)
called_owing code s f below (Some (Call body)) = entered_owing s f below body (slice_get code.bodies body)
called_owing code s f below instr = tt

unhandled_owing : (code : Code) (s : State) (exception : Exc) (f : Frame) (below : List Frame) → s.frames ≡ f ∷ below → Owes (unhandled code s exception f below)
unhandled_owing code s exception f [] is = ends_owing s f [] _ is
unhandled_owing code s exception f (caller ∷ below) is = if_owing (names_exception (listed_of (slice_get code.bodies f.body)) exception) _ _ refl (ends_owing s f (caller ∷ below) _ is)

caught_owing : (code : Code) (s : State) (exception : Exc) (f : Frame) (below : List Frame) (handler : Option Handler) → s.frames ≡ f ∷ below → Owes (caught code s exception f below handler)
caught_owing code s exception f below None is = unhandled_owing code s exception f below is
caught_owing code s exception f below (Some handler) is = refl

-- ---- answers and requests

-- Each answer but those that are left was given to a request, and at most one request is without its answer; there are ticks
-- left, of so many.
record CountsAnswers (total n : ℕ) (s : State) (session : Session) : Type 0 where
  pub counted : length (asks_in session.trace) + length session.answers ≡ total + owed s.mode
  pub framed : FramedIn s.mode s.frames
  pub ticked : ticks_in session.trace + session.ticks ≡ n
  pub some : 1 ≤ session.ticks

none_owed : (mode : Mode) (frames : List Frame) → owed mode ≡ 0 → FramedIn mode frames
none_owed (Asking request slots) frames none = absurd (let f : ⊥ = omega (arith, none) in f)
none_owed Running frames none = tt
none_owed Called frames none = tt
none_owed (Raising exception) frames none = tt
none_owed Ended frames none = tt

answered_owing : (s : State) (request : Request) (slots : List Slot) (answer : Answer) → IsFramed s.frames request → owed (answered s request slots answer).mode ≡ 0
answered_owing s (End how) slots answer framed = refl
answered_owing s request slots (Fail exception) framed = refl
answered_owing s request slots answer framed = by_frames s.frames framed
  where
    by_frames : (frames : List Frame) → IsFramed frames request → owed (goes_on s request slots answer frames).mode ≡ 0
    by_frames [] none = absurd none
    by_frames (frame ∷ below) some = refl

-- ---- with more answers behind

abbrev with_behind : List Answer → Session → Session
with_behind behind session = record { trace = session.trace; answers = session.answers ++ behind; ticks = session.ticks }

-- what one step comes to with more answers behind: the same, unless an answer is wanting
abbrev StepsOn : List Answer → ℕ → ℕ → Session → Mode → Run → Run → Type 0
StepsOn behind total n session mode (At next to) other = (other ≡ At next (with_behind behind to)) × CountsAnswers total n next to
StepsOn behind total n session mode (Over q trace) other = (other ≡ Over q trace) ⊎ ((session.answers ≡ []) × (trace ≡ session.trace) × (owed mode ≡ 1))

tick_steps : (behind : List Answer) (total n : ℕ) (next : State) (session : Session) (mode : Mode) (trace : List Item) (answers : List Answer) (ticks : ℕ) → owed next.mode ≡ 0 → length (asks_in trace) + length answers ≡ total → ticks_in trace + ticks ≡ suc n → StepsOn behind total n session mode (run_behind next (tick_of trace answers ticks)) (run_behind next (tick_of trace (answers ++ behind) ticks))
tick_steps behind total n next session mode trace answers zero none counted ticked = inl refl
tick_steps behind total n next session mode trace answers (suc zero) none counted ticked = inl refl
tick_steps behind total n next session mode trace answers (suc (suc k)) none counted ticked = (refl, record { counted = omega (arith, counted, none); framed = none_owed next.mode next.frames none; ticked = omega (arith, ticked); some = omega arith })

fit_steps : (behind : List Answer) (total n : ℕ) (s next : State) (session to : Session) (mode : Mode) (fits : Bool) → CountsAnswers total n next to → StepsOn behind total n session mode (if fits then At next to else Over s to.trace) (if fits then At next (with_behind behind to) else Over s to.trace)
fit_steps behind total n s next session to mode true counts = (refl, counts)
fit_steps behind total n s next session to mode false counts = inl refl

answer_steps : (behind : List Answer) (total n : ℕ) (s : State) (request : Request) (slots : List Slot) (trace : List Item) (answers : List Answer) (ticks : ℕ) → IsFramed s.frames request → length (asks_in trace) + length answers ≡ total + 1 → ticks_in trace + ticks ≡ n → 1 ≤ ticks
    → StepsOn behind total n (record { trace = trace; answers = answers; ticks = ticks }) (Asking request slots) (run_with s request slots (first_answer trace answers ticks) trace) (run_with s request slots (first_answer trace (answers ++ behind) ticks) trace)
answer_steps behind total n s request slots trace [] ticks framed counted ticked some = inr (refl, refl, refl)
answer_steps behind total n s request slots trace (answer ∷ answers) ticks framed counted ticked some =
    let next : State = answered s request slots answer in
    let none : owed next.mode ≡ 0 = answered_owing s request slots answer framed in
    fit_steps behind total n s next (record { trace = trace; answers = answer ∷ answers; ticks = ticks }) (record { trace = trace; answers = answers; ticks = ticks }) (Asking request slots) (fits_request request slots answer)
    (record { counted = omega (arith, counted, none); framed = none_owed next.mode next.frames none; ticked = ticked; some = some })

going_steps : (behind : List Answer) (total n : ℕ) (s : State) (session : Session) (mode : Mode) (m : Move) → Owes m → length (asks_in session.trace) + length session.answers ≡ total → ticks_in session.trace + session.ticks ≡ n → 1 ≤ session.ticks → StepsOn behind total n session mode (run_after s session m) (run_after s (with_behind behind session) m)
going_steps behind total n s session mode (Goes next) owing counted ticked some = (refl, record { counted = omega (arith, counted, owing); framed = none_owed next.mode next.frames owing; ticked = ticked; some = some })
going_steps behind total n s session mode (Makes next) owing counted ticked some =
    let same = asks_tick session.trace in
    let more = ticks_tick session.trace in
    tick_steps behind total n next session mode (session.trace ++ Tick ∷ []) session.answers session.ticks owing (omega (arith, counted, same)) (omega (arith, ticked, more))
going_steps behind total n s session mode (Asks request next) owing counted ticked some =
    let more = asks_ask session.trace request in
    let waits : owed next.mode ≡ 1 = ap owed owing.mode in
    let same = ticks_ask session.trace request in (
      refl,
      record {
        counted = omega (arith, counted, more, waits);
        framed = subst (λ (k : Mode). FramedIn k next.frames) (sym owing.mode) owing.framed;
        ticked = omega (arith, ticked, same);
        some = some;
      },
    )
going_steps behind total n s session mode (Awaits request slots) owing counted ticked some = absurd owing
going_steps behind total n s session mode Stays owing counted ticked some = inl refl

-- a going mode, in which none waits
going_mode : (code : Code) (behind : List Answer) (total n : ℕ) (s : State) (session : Session) (mode : Mode) → owed mode ≡ 0 → Owes (move_in code s mode s.frames) → s.mode ≡ mode → CountsAnswers total n s session → StepsOn behind total n session mode (run_after s session (move_in code s mode s.frames)) (run_after s (with_behind behind session) (move_in code s mode s.frames))
going_mode code behind total n s session mode none owing is counts =
    let counted = counts.counted in
    let zero' = ap owed is ∙ none in
    going_steps behind total n s session mode (move_in code s mode s.frames) owing (omega (arith, counted, zero')) counts.ticked counts.some

running_owing : (code : Code) (s : State) (frames : List Frame) → s.frames ≡ frames → Owes (move_in code s Running frames)
running_owing code s [] is = tt
running_owing code s (f ∷ below) is = executed_owing code s f below (slice_get code.instrs f.place) is

calling_owing : (code : Code) (s : State) (frames : List Frame) → Owes (move_in code s Called frames)
calling_owing code s [] = tt
calling_owing code s (f ∷ below) = called_owing code s f below (slice_get code.instrs f.place)

raising_owing : (code : Code) (s : State) (exception : Exc) (frames : List Frame) → s.frames ≡ frames → Owes (move_in code s (Raising exception) frames)
raising_owing code s exception [] is = tt
raising_owing code s exception (f ∷ below) is = caught_owing code s exception f below (taker code.handlers f.place exception) is

mode_steps : (code : Code) (behind : List Answer) (total n : ℕ) (s : State) (session : Session) (mode : Mode) → s.mode ≡ mode → CountsAnswers total n s session → StepsOn behind total n session mode (run_after s session (move_in code s mode s.frames)) (run_after s (with_behind behind session) (move_in code s mode s.frames))
mode_steps code behind total n s session Ended is counts = inl refl
mode_steps code behind total n s session (Asking request slots) is counts =
    let counted = counts.counted in
    let one = ap owed is in
    answer_steps behind total n s request slots session.trace session.answers session.ticks (subst (λ (m : Mode). FramedIn m s.frames) is counts.framed) (omega (arith, counted, one)) counts.ticked counts.some
mode_steps code behind total n s session Running is counts = going_mode code behind total n s session Running refl (running_owing code s s.frames refl) is counts
mode_steps code behind total n s session Called is counts = going_mode code behind total n s session Called refl (calling_owing code s s.frames) is counts
mode_steps code behind total n s session (Raising exception) is counts = going_mode code behind total n s session (Raising exception) refl (raising_owing code s exception s.frames refl) is counts

-- ---- runs

-- a state that waits where no answer is left
record WaitsAt (code : Code) (total n : ℕ) (s : State) (from : Session) (trace : List Item) : Type 0 where
  pub count : ℕ
  pub state : State
  pub ticks : ℕ
  pub by : steps code count (At s from) ≡ At state (record { trace = trace; answers = []; ticks = ticks })
  pub counted : length (asks_in trace) ≡ total + 1
  pub low : ticks_in trace < n

over_over : {q t : State} {a b : List Item} → Over q a ≡ Over t b → (q ≡ t) × (a ≡ b)
over_over e = (cc, cc)

-- a run that is over is so with more answers behind, unless an answer is wanting
stops_alike : (code : Code) (behind : List Answer) (total n count : ℕ) (s : State) (from : Session) (q : State) (trace : List Item) → CountsAnswers total n s from → steps code count (At s from) ≡ Over q trace
    → (steps code count (At s (with_behind behind from)) ≡ Over q trace) ⊎ WaitsAt code total n s from trace
stops_alike code behind total n zero s from q trace counts e = absurd (let f : ⊥ = cc in f)
stops_alike code behind total n (suc count) s from q trace counts e = by_next (run_after s from (move_in code s s.mode s.frames)) refl (mode_steps code behind total n s from s.mode refl counts) e
    (λ next to counts' k. stops_alike code behind total n count next to q trace counts' k)
  where
    by_next : (r : Run) → run_after s from (move_in code s s.mode s.frames) ≡ r → StepsOn behind total n from s.mode r (run_after s (with_behind behind from) (move_in code s s.mode s.frames)) → steps code count r ≡ Over q trace
        → ((next : State) (to : Session) → CountsAnswers total n next to → steps code count (At next to) ≡ Over q trace → (steps code count (At next (with_behind behind to)) ≡ Over q trace) ⊎ WaitsAt code total n next to trace)
        → (steps code (suc count) (At s (with_behind behind from)) ≡ Over q trace) ⊎ WaitsAt code total n s from trace
    by_next (At next to) is on k rest = elim (rest next to on.1 k) [
      | inl same ↦ inl (ap (steps code count) on.0 ∙ same)
      | inr w ↦ inr (record { count = suc w.count; state = w.state; ticks = w.ticks; by = ap (steps code w.count) is ∙ w.by; counted = w.counted; low = w.low })
    ]
    by_next (Over t u) is (inl same) k rest = inl (ap (steps code count) same ∙ k)
    by_next (Over t u) is (inr (none, here, one)) k rest =
        let parts = over_over (sym (steps-over code count t u) ∙ k) in
        let at : trace ≡ from.trace = sym parts.1 ∙ here in
        let counted = counts.counted in
        let ticked = counts.ticked in
        let some = counts.some in
        let asks = ap (λ (l : List Item). length (asks_in l)) at in
        let ticks = ap ticks_in at in
        let left = ap length none in
        let stands : from ≡ record { trace = trace; answers = []; ticks = from.ticks } =
        ap (λ (as' : List Answer). record { trace = from.trace; answers = as'; ticks = from.ticks }) none ∙ ap (λ (l : List Item). record { trace = l; answers = []; ticks = from.ticks }) (sym at) in
        inr (record { count = zero; state = s; ticks = from.ticks; by = ap (At s) stands; counted = omega (arith, counted, asks, left, one); low = omega (arith, ticked, some, ticks) })

-- so many steps keep the counts
steps_count : (code : Code) (total n count : ℕ) (s : State) (from : Session) (q : State) (to : Session) → CountsAnswers total n s from → steps code count (At s from) ≡ At q to → CountsAnswers total n q to
steps_count code total n zero s from q to counts e =
    let s_is : s ≡ q = cc in
    let from_is : from ≡ to = cc in
    subst (λ (t : Session). CountsAnswers total n q t) from_is (subst (λ (t : State). CountsAnswers total n t from) s_is counts)
steps_count code total n (suc count) s from q to counts e = by_next (run_after s from (move_in code s s.mode s.frames)) (mode_steps code [] total n s from s.mode refl counts) e (λ next there counts' k. steps_count code total n count next there q to counts' k)
  where
    by_next : (r : Run) → StepsOn [] total n from s.mode r (run_after s (with_behind [] from) (move_in code s s.mode s.frames)) → steps code count r ≡ At q to → ((next : State) (there : Session) → CountsAnswers total n next there → steps code count (At next there) ≡ At q to → CountsAnswers total n q to) → CountsAnswers total n q to
    by_next (At next there) on k rest = rest next there on.1 k
    by_next (Over t u) on k rest = absurd (let no : Over t u ≡ At q to = sym (steps-over code count t u) ∙ k in let f : ⊥ = cc in f)

-- ---- talks

-- a process at its start owes nothing
start_counts : (instance process : ℕ) (arguments : List ℤ) (row : Option BodyRow) (start : State) (answers : List Answer) (n : ℕ) → 1 ≤ n → start_in instance process arguments row ≡ Some start → CountsAnswers (length answers) n start (session_of answers n)
start_counts instance process arguments None start answers n some is = absurd (let f : ⊥ = cc in f)
start_counts instance process arguments (Some row) start answers n some is = elim (cases_Bool (row.params == length arguments)) [
  | inr other ↦ absurd (let none : start_in instance process arguments (Some row) ≡ None = rw other refl in let f : ⊥ = cc in f)
  | inl same ↦ (
      let first : State = record { instance = instance; frames = new_frame process row arguments ∷ []; regions = []; mode = Running } in
      let made : start_in instance process arguments (Some row) ≡ Some first = rw same refl in
      let e : first ≡ start = let both : Some first ≡ Some start = sym made ∙ is in cc in
      subst (λ (s : State). CountsAnswers (length answers) n s (session_of answers n)) e
      (record { counted = omega arith; framed = tt; ticked = omega arith; some = some }))
]

-- who asks has one request more than answers
pub asking_counts : (code : Code) (instance process : ℕ) (arguments : List ℤ) (answers : List Answer) (trace : List Item) (state : State) (request : Request) (slots : List Slot) → Reaches code instance process arguments answers trace state → state.mode ≡ Asking request slots → length (asks_in trace) ≡ length answers + 1
asking_counts code instance process arguments answers trace state request slots reaches asking =
    let leads = reaches.leads in
    let t = retimed code leads.count reaches.start (session_of answers leads.ticks) state (record { trace = trace; answers = []; ticks = leads.left }) leads.by in
    let n : ℕ = 1 + t.made in
    let counts = steps_count code (length (answers ++ [])) n leads.count reaches.start (session_of (answers ++ []) n) state (timed [] 1 (record { trace = trace; answers = []; ticks = leads.left }))
    (start_counts instance process arguments (slice_get code.bodies process) reaches.start (answers ++ []) n (omega arith) reaches.starts) (t.again [] 1 (omega arith)) in
    let counted = counts.counted in
    let one = ap owed asking in
    let same = ap length (append-nil answers) in
    omega (arith, counted, one, same)

-- The talk with more answers is the same, or the talk waits with all its answers given.
pub record Wants (code : Code) (instance process : ℕ) (arguments : List ℤ) (answers : List Answer) (n : ℕ) (trace : List Item) : Type 0 where
  pub state : State
  pub reaches : Reaches code instance process arguments answers trace state
  pub counted : length (asks_in trace) ≡ length answers + 1
  pub low : ticks_in trace < n

pub fewer_answers : (code : Code) (instance process : ℕ) (arguments : List ℤ) (answers behind : List Answer) (n : ℕ) (trace whole : List Item) → 1 ≤ n
    → CodeTalk code instance process arguments answers n trace
    → CodeTalk code instance process arguments (answers ++ behind) n whole
    → (whole ≡ trace) ⊎ Wants code instance process arguments answers n trace
fewer_answers code instance process arguments answers behind n trace whole some few more = by_start (start_of code instance process arguments) refl few
  where
    by_start : (o : Option State) → start_of code instance process arguments ≡ o → TalkFrom code o answers n trace → (whole ≡ trace) ⊎ Wants code instance process arguments answers n trace
    by_start None is none = inl (subst (λ (o : Option State). TalkFrom code o (answers ++ behind) n whole) is more ∙ sym none)
    by_start (Some start) is comes = elim (stops_alike code behind (length answers) n comes.count start (session_of answers n) comes.stands trace (start_counts instance process arguments (slice_get code.bodies process) start answers n some is) comes.by) [
      | inl same ↦ inl (one_talk code instance process arguments (answers ++ behind) n whole trace more
          (subst (λ (o : Option State). TalkFrom code o (answers ++ behind) n trace) (sym is) (record { count = comes.count; stands = comes.stands; by = same })))
      | inr w ↦ inr (record {
        state = w.state;
        reaches = record { start = start; starts = is; leads = record { count = w.count; ticks = n; left = w.ticks; by = w.by } };
        counted = w.counted;
        low = w.low;
      })
    ]

-- ---- fronts

tail_same : {x y : Item} {xs ys : List Item} → x ∷ xs ≡ y ∷ ys → xs ≡ ys
tail_same e = cc

-- of two that begin a trace the one begins the other, or stops short of its last item
either_front : (base : List Item) (item : Item) (other t : List Item) → Begins (base ++ item ∷ []) t → Begins other t → Begins (base ++ item ∷ []) other ⊎ Begins other base
either_front base item [] t front back = inr (base, refl)
either_front [] item (x ∷ other) t (rest, e) (more, f) =
    let both : item ∷ rest ≡ x ∷ (other ++ more) = sym e ∙ f in
    let same : x ≡ item = cc in
    inl (other, ap (λ (y : Item). y ∷ other) same)
either_front (b ∷ base) item (x ∷ other) t (rest, e) (more, f) =
    let both : b ∷ ((base ++ item ∷ []) ++ rest) ≡ x ∷ (other ++ more) = sym e ∙ f in
    let same : x ≡ b = cc in
    elim (either_front base item other ((base ++ item ∷ []) ++ rest) (rest, refl) (more, tail_same both)) [
      | inl (left, is) ↦ inl (left, ap (λ (y : Item). y ∷ other) same ∙ ap (λ (ys : List Item). b ∷ ys) is)
      | inr (left, is) ↦ inr (left, ap (λ (y : Item). y ∷ base) (sym same) ∙ ap (λ (ys : List Item). x ∷ ys) is)
    ]

-- What begins the talk with more answers, and has as many requests before its last item as there are answers, begins the talk
-- with these.
pub front_begins : (code : Code) (instance process : ℕ) (arguments : List ℤ) (answers behind : List Answer) (n : ℕ) (base : List Item) (item : Item) (trace whole : List Item) → 1 ≤ n
    → CodeTalk code instance process arguments answers n trace
    → CodeTalk code instance process arguments (answers ++ behind) n whole
    → length (asks_in base) ≡ length answers
    → Begins (base ++ item ∷ []) whole
    → Begins (base ++ item ∷ []) trace
front_begins code instance process arguments answers behind n base item trace whole some few more counted begins = elim (fewer_answers code instance process arguments answers behind n trace whole some few more) [
  | inl same ↦ subst (Begins (base ++ item ∷ [])) same begins
  | inr wants ↦ elim (either_front base item trace whole begins (reached_law code instance process arguments answers behind n trace whole wants.state wants.reaches more wants.low)) [
    | inl is ↦ is
    | inr (rest, short) ↦ absurd (
        let asked = wants.counted in
        let parts = ap (λ (l : List Item). length (asks_in l)) short in
        let split = ap length (asks_in-append trace rest) in
        let sum = length-append (asks_in trace) (asks_in rest) in
        let f : ⊥ = omega (arith, asked, counted, parts, split, sum) in
        f)
  ]
]
