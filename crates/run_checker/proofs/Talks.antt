-- What a machine's bursts tell of the talks of its instance.
use Rattle.std.proofs.Common.{◌≡◌, ◌≢◌, ◌⊎◌, ℕ, zero, suc, ◌+◌, ◌-◌, ◌<◌, ◌≤◌, List, [], ◌∷◌, ◌++◌, ℤ, length, length-append, refl, sym, ap, ◌∙◌, subst, inl, inr, arith, append_assoc, append-nil, Option, Some, None}
use Rattle.kernel_base.specs.declared.request.Request.{Request}
use Rattle.kernel_base.specs.declared.answer.Answer.{Answer}
use Rattle.kernel_base.specs.declared.event.Event.{Event}
use Rattle.world_model.specs.Session.{Item, Tick, Ask, Session, session_of}
use Rattle.world_model.specs.Journal.{ticks_of, line_of, answers_of, Birth}
use Rattle.code_types.specs.declared.code.Code.{Code}
use Rattle.code_types.specs.Agreement.{Agrees}
use Rattle.code_types.specs.Runs.{Begins, FollowsCode, ticks_in}
use Rattle.code_types.specs.State.{State}
use Rattle.code_types.specs.Steps.{Run, At, Over, move, run_after, step, steps}
use Rattle.code_types.specs.Talk.{CodeTalk, Leads, Reaches, TalkFrom, start_of}
use Rattle.code_types.proofs.ManySteps.{one_talk, steps-+}
use Rattle.code_types.proofs.Shifts.{leads_on}
use Rattle.code_safety.proofs.Talking.{talk_exists}
use Rattle.code_safety.proofs.TalkPrefixes.{talk_prefix}
use Rattle.run_laws.specs.Laws.{HasTalks}
use Rattle.run_laws.proofs.Retiming.{reached_law, retimed, timed}
use Rattle.code_machine.specs.declared.burst.Stop.{Stop}
use Rattle.code_machine.specs.declared.burst.Stop.TheVariants.{Asks, Paused}
use Rattle.code_machine.specs.Running.{Bursts}
use Rattle.run_checker.specs.Standing.{HasNoMore}

ticks_sum : (line more : List Item) → ticks_in (line ++ more) ≡ ticks_in line + ticks_in more
ticks_sum [] more = let e : ticks_in more ≡ 0 + ticks_in more = omega arith in e
ticks_sum (Tick ∷ items) more = let rest = ticks_sum items more in omega (arith, rest)
ticks_sum (Ask request ∷ items) more = ticks_sum items more

ticks_count : (count : ℕ) → ticks_in (ticks_of count) ≡ count
ticks_count zero = refl
ticks_count (suc count) = ap suc (ticks_count count)

ask_count : (count : ℕ) (request : Request) → ticks_in (ticks_of count ++ Ask request ∷ []) ≡ count
ask_count count request = let s = ticks_sum (ticks_of count) (Ask request ∷ []) in let c = ticks_count count in omega (arith, s, c)

begins_on : (a b c : List Item) → Begins a b → Begins b c → Begins a c
begins_on a b c (xs, e) (ys, f) = (xs ++ ys, f ∙ ap (λ (t : List Item). t ++ ys) e ∙ append_assoc a xs ys)

cancelled : (line a b : List Item) → line ++ a ≡ line ++ b → a ≡ b
cancelled [] a b e = e
cancelled (item ∷ line) a b e = cancelled line a b (let f : line ++ a ≡ line ++ b = cc in f)

-- behind the same line two traces that begin one talk go on alike
abbrev GoAlike : List Item → List Item → Type 0
GoAlike a b = (x : List Item) × (y : List Item) × (a ++ x ≡ b ++ y)

both_begin : (line a b talk : List Item) → Begins (line ++ a) talk → Begins (line ++ b) talk → GoAlike a b
both_begin line a b talk (x, e) (y, f) = (x, y, cancelled line (a ++ x) (b ++ y) (sym (append_assoc line a x) ∙ (sym e ∙ (f ∙ append_assoc line b y))))

-- the same ticks and the same request
asked_alike : (a b : ℕ) (r q : Request) (x y : List Item) → ticks_of a ++ Ask r ∷ x ≡ ticks_of b ++ Ask q ∷ y → (a ≡ b) × (r ≡ q)
asked_alike zero zero r q x y e = (refl, let f : r ≡ q = cc in f)
asked_alike zero (suc b) r q x y e = absurd (let f : ⊥ = cc in f)
asked_alike (suc a) zero r q x y e = absurd (let f : ⊥ = cc in f)
asked_alike (suc a) (suc b) r q x y e = let rest = asked_alike a b r q x y (let f : ticks_of a ++ Ask r ∷ x ≡ ticks_of b ++ Ask q ∷ y = cc in f) in (ap suc rest.0, rest.1)

-- a request doesn't come before so many ticks
asked_early : (a b : ℕ) (r : Request) (x y : List Item) → a < b → ticks_of a ++ Ask r ∷ x ≡ ticks_of b ++ y → ⊥
asked_early zero zero r x y low e = let f : ⊥ = omega (arith, low) in f
asked_early (suc a) zero r x y low e = let f : ⊥ = omega (arith, low) in f
asked_early zero (suc b) r x y low e = let f : ⊥ = cc in f
asked_early (suc a) (suc b) r x y low e = asked_early a b r x y (omega (arith, low)) (let f : ticks_of a ++ Ask r ∷ x ≡ ticks_of b ++ y = cc in f)

-- what is reached, and then led to
pub reaches_on : (code : Code) (i process : ℕ) (arguments : List ℤ) (answers more : List Answer) (line behind : List Item) (from to : State)
    → Reaches code i process arguments answers line from → Leads code from more behind to → Reaches code i process arguments (answers ++ more) (line ++ behind) to
reaches_on code i process arguments answers more line behind from to r l = record {
  start = r.start;
  starts = r.starts;
  leads = leads_on code r.start from to answers more line behind r.leads l;
}

-- so it is where nothing is answered
pub reaches_asking : (code : Code) (i process : ℕ) (arguments : List ℤ) (answers : List Answer) (line behind : List Item) (from to : State)
    → Reaches code i process arguments answers line from → Leads code from [] behind to → Reaches code i process arguments answers (line ++ behind) to
reaches_asking code i process arguments answers line behind from to r l =
    subst (λ (a : List Answer). Reaches code i process arguments a (line ++ behind) to) (append-nil answers) (reaches_on code i process arguments answers [] line behind from to r l)

-- so it is where only an answer comes
pub reaches_answered : (code : Code) (i process : ℕ) (arguments : List ℤ) (answers : List Answer) (answer : Answer) (line : List Item) (from to : State)
    → Reaches code i process arguments answers line from → Leads code from (answer ∷ []) [] to → Reaches code i process arguments (answers ++ answer ∷ []) line to
reaches_answered code i process arguments answers answer line from to r l =
    subst (λ (t : List Item). Reaches code i process arguments (answers ++ answer ∷ []) t to) (append-nil line) (reaches_on code i process arguments answers (answer ∷ []) line [] from to r l)

-- an instance with these answers follows the code up to this line
pub record FollowsBy (code : Code) (i : ℕ) (birth : Birth) (answers : List Answer) (line : List Item) : Type 0 where
  pub trace : List Item
  pub talks : CodeTalk code i birth.process birth.arguments answers (suc (ticks_in line)) trace
  pub begins : Begins line trace

pub follows_by : (code : Code) (events : List Event) (i : ℕ) (birth : Birth) (answers : List Answer) (line : List Item) → answers_of i events ≡ answers → line_of i events ≡ line → FollowsCode code events i birth → FollowsBy code i birth answers line
follows_by code events i birth answers line a l f = subst (λ (t : List Item). FollowsBy code i birth answers t) l (subst (λ (xs : List Answer). FollowsBy code i birth xs (line_of i events)) a (record { trace = f.trace; talks = f.talks; begins = f.begins }))

-- what is reached with a front of the answers, and fewer ticks, begins the talk
begins_talk : (code : Code) (i : ℕ) (birth : Birth) (answers behind : List Answer) (line more : List Item) (from to : State) (n : ℕ) (talk : List Item)
    → Reaches code i birth.process birth.arguments answers line from → Leads code from [] more to → CodeTalk code i birth.process birth.arguments (answers ++ behind) n talk → ticks_in line + ticks_in more < n → Begins (line ++ more) talk
begins_talk code i birth answers behind line more from to n talk r l talks few =
    reached_law code i birth.process birth.arguments answers behind n (line ++ more) talk to (reaches_asking code i birth.process birth.arguments answers line more from to r l) talks
    (let s = ticks_sum line more in omega (arith, s, few))

-- A burst that makes another request, or another number of ticks, is that of no line with this request.
pub other_request : (code : Code) (agrees : Agrees code) (i : ℕ) (birth : Birth) (answers behind : List Answer) (line : List Item) (from to : State) (ticks : ℕ) (request : Request) (stop : Stop)
    → Reaches code i birth.process birth.arguments answers line from → Bursts code (ticks + 1) from to stop → stop ≢ Asks ticks request
    → FollowsBy code i birth (answers ++ behind) (line ++ (ticks_of ticks ++ Ask request ∷ [])) → ⊥
other_request code agrees i birth answers behind line from to ticks request (Asks made asked) r b other f =
    let wanted : List Item = ticks_of ticks ++ Ask request ∷ [] in
    let is : List Item = ticks_of made ++ Ask asked ∷ [] in
    let n : ℕ = suc (ticks_in (line ++ wanted)) in
    let low = b.0 in
    let s = ticks_sum line wanted in
    let c = ask_count ticks request in
    let d = ask_count made asked in
    let begins : Begins (line ++ is) f.trace = begins_talk code i birth answers behind line is from to n f.trace r b.1 f.talks (omega (arith, low, s, c, d)) in
    let alike = both_begin line is wanted f.trace begins f.begins in
    let same = asked_alike made ticks asked request alike.0 alike.1 (sym (append_assoc (ticks_of made) (Ask asked ∷ []) alike.0) ∙ (alike.2 ∙ append_assoc (ticks_of ticks) (Ask request ∷ []) alike.1)) in
    other (ap (λ (t : ℕ). Asks t asked) same.0 ∙ ap (Asks ticks) same.1)
other_request code agrees i birth answers behind line from to ticks request (Paused made) r b other f =
    let wanted : List Item = ticks_of ticks ++ Ask request ∷ [] in
    let is : List Item = ticks_of (ticks + 1) in
    let n : ℕ = suc (ticks_in (line ++ wanted)) in
    let s = ticks_sum line wanted in
    let c = ask_count ticks request in
    let d = ticks_count (ticks + 1) in
    let longer = talk_exists code agrees i birth.process birth.arguments (answers ++ behind) (n + 1) in
    let begins : Begins (line ++ is) longer.0 = begins_talk code i birth answers behind line is from to (n + 1) longer.0 r b.1 longer.1 (omega (arith, s, c, d)) in
    let on : Begins f.trace longer.0 = talk_prefix code i birth.process birth.arguments (answers ++ behind) [] n 1 f.trace longer.0 f.talks
    (subst (λ (a : List Answer). CodeTalk code i birth.process birth.arguments a (n + 1) longer.0) (sym (append-nil (answers ++ behind))) longer.1) in
    let alike = both_begin line wanted is longer.0 (begins_on (line ++ wanted) f.trace longer.0 f.begins on) begins in
    asked_early ticks (ticks + 1) request alike.0 alike.1 (omega arith) (sym (append_assoc (ticks_of ticks) (Ask request ∷ []) alike.0) ∙ alike.2)

-- A burst that comes to a request before so many ticks is that of no line with all of them.
pub other_ticks : (code : Code) (i : ℕ) (birth : Birth) (answers behind : List Answer) (line : List Item) (from to : State) (ticks : ℕ) (stop : Stop)
    → Reaches code i birth.process birth.arguments answers line from → Bursts code ticks from to stop → stop ≢ Paused ticks
    → FollowsBy code i birth (answers ++ behind) (line ++ ticks_of ticks) → ⊥
other_ticks code i birth answers behind line from to ticks (Asks made asked) r b other f =
    let is : List Item = ticks_of made ++ Ask asked ∷ [] in
    let n : ℕ = suc (ticks_in (line ++ ticks_of ticks)) in
    let low = b.0 in
    let s = ticks_sum line (ticks_of ticks) in
    let c = ticks_count ticks in
    let d = ask_count made asked in
    let begins : Begins (line ++ is) f.trace = begins_talk code i birth answers behind line is from to n f.trace r b.1 f.talks (omega (arith, low, s, c, d)) in
    let alike = both_begin line is (ticks_of ticks) f.trace begins f.begins in
    asked_early made ticks asked alike.0 alike.1 low (sym (append_assoc (ticks_of made) (Ask asked ∷ []) alike.0) ∙ alike.2)
other_ticks code i birth answers behind line from to ticks (Paused made) r b other f = other (ap Paused b.0)

-- an instance that can do nothing more does nothing more
pub nothing_more : (code : Code) (i : ℕ) (birth : Birth) (answers behind : List Answer) (line more : List Item) → HasNoMore code i birth answers line → 1 ≤ length more → FollowsBy code i birth (answers ++ behind) (line ++ more) → ⊥
nothing_more code i birth answers behind line more none some f =
    let s = ticks_sum line more in
    let is : f.trace ≡ line = none behind (suc (ticks_in (line ++ more))) f.trace f.talks (omega (arith, s)) in
    let whole : line ≡ (line ++ more) ++ f.begins.0 = sym is ∙ f.begins.1 in
    let a = ap length whole in
    let b = length-append (line ++ more) f.begins.0 in
    let c = length-append line more in
    let no : ⊥ = omega (arith, some, a, b, c) in
    no

-- the state is over with these answers, whatever comes behind them
abbrev pub IsOverWith : Code → State → List Answer → Type 0
IsOverWith code s rest = (line : List Item) (behind : List Answer) (ticks : ℕ) → run_after s (record { trace = line; answers = rest ++ behind; ticks = ticks }) (move code s) ≡ Over s line

-- where a state is over, the instance can do nothing more
pub over_here : (code : Code) (i : ℕ) (birth : Birth) (given rest : List Answer) (line : List Item) (s : State)
    → Reaches code i birth.process birth.arguments given line s → IsOverWith code s rest → HasNoMore code i birth (given ++ rest) line
over_here code i birth given rest line s r is behind n trace talks enough =
    let leads = r.leads in
    let start = r.start in
    let t = retimed code leads.count start (session_of given leads.ticks) s (record { trace = line; answers = []; ticks = leads.left }) leads.by in
    let made : ticks_in line ≡ zero + t.made = t.counted in
    let low : 1 ≤ n - t.made = omega (arith, made, enough) in
    let all : (n - t.made) + t.made ≡ n = omega (arith, made, enough) in
    let there : steps code leads.count (At start (session_of (given ++ (rest ++ behind)) n)) ≡ At s (record { trace = line; answers = rest ++ behind; ticks = n - t.made }) =
    ap (λ (k : ℕ). steps code leads.count (At start (session_of (given ++ (rest ++ behind)) k))) (sym all) ∙ t.again (rest ++ behind) (n - t.made) low in
    let over : steps code (leads.count + 1) (At start (session_of (given ++ (rest ++ behind)) n)) ≡ Over s line =
    steps-+ code leads.count 1 (At start (session_of (given ++ (rest ++ behind)) n)) ∙ (ap (steps code 1) there ∙ is line behind (n - t.made)) in
    let mine : TalkFrom code (start_of code i birth.process birth.arguments) (given ++ (rest ++ behind)) n line =
    subst (λ (o : Option State). TalkFrom code o (given ++ (rest ++ behind)) n line) (sym r.starts) (record { count = leads.count + 1; stands = s; by = over }) in
    one_talk code i birth.process birth.arguments ((given ++ rest) ++ behind) n trace line talks
    (subst (λ (a : List Answer). TalkFrom code (start_of code i birth.process birth.arguments) a n line) (sym (append_assoc given rest behind)) mine)

-- what isn't started can do nothing
pub not_started : (code : Code) (i : ℕ) (birth : Birth) → start_of code i birth.process birth.arguments ≡ None → HasNoMore code i birth [] []
not_started code i birth none behind n trace talks enough = subst (λ (o : Option State). TalkFrom code o behind n trace) none talks

pub has_talks : (code : Code) → Agrees code → HasTalks code
has_talks code agrees i process arguments answers n = talk_exists code agrees i process arguments answers n

-- an instance that can do nothing more follows the code
pub quiet_follows : (code : Code) (events : List Event) (i : ℕ) (birth : Birth) → HasTalks code → HasNoMore code i birth (answers_of i events) (line_of i events) → FollowsCode code events i birth
quiet_follows code events i birth has none =
    let n : ℕ = suc (ticks_in (line_of i events)) in
    let talk = has i birth.process birth.arguments (answers_of i events) n in
    let is : talk.0 ≡ line_of i events = none [] n talk.0 (subst (λ (a : List Answer). CodeTalk code i birth.process birth.arguments a n talk.0) (sym (append-nil (answers_of i events))) talk.1) (omega arith) in
    record { trace = talk.0; talks = talk.1; begins = ([], is ∙ sym (append-nil (line_of i events))) }
