-- What a machine's burst, its commit and its answer make of it.
use Rattle.std.proofs.Common.{◌≡◌, ℕ, ◌≤◌, ◌<◌, List, [], ◌∷◌, ◌++◌, length, refl, sym, ap, ◌∙◌, subst, arith, append-nil, true, Option, None}
use Rattle.std.specs.Prelude.{◌==◌, option_to_list}
use Rattle.std.specs.List.{AllByRecursion}
use Rattle.std.proofs.lemmas.Bool.{eq-eqb}
use Rattle.kernel_base.specs.declared.request.Request.{Request}
use Rattle.kernel_base.specs.declared.answer.Answer.{Answer}
use Rattle.kernel_base.specs.declared.event.Event.{Event}
use Rattle.kernel_base.specs.declared.event.Event.TheVariants.{Did, Waits, Runs}
use Rattle.kernel_base.specs.Facts.{IsSound}
use Rattle.world_model.specs.Session.{Item, Ask}
use Rattle.world_model.specs.Allowed.{IsRun}
use Rattle.world_model.specs.Journal.{ticks_of, line_of, requests_of, answers_of}
use Rattle.code_types.specs.declared.code.Code.{Code}
use Rattle.code_types.specs.State.{State, Mode}
use Rattle.code_types.specs.Talk.{Leads}
use Rattle.run_laws.specs.Laws.{HasReached}
use Rattle.kernel_steps.specs.View.{View, Grows, unfetched_of, handed_by, handed, IsGoing}
use Rattle.machine_steps.specs.declared.process.Process.{Process}
use Rattle.serial_run.specs.declared.runner.Runner.{Runner}
use Rattle.code_machine.specs.Running.{RunsOn, IsUp, GoesOnBehind}
use Rattle.machine_steps.specs.Views.{state_of}
use Rattle.code_safety.specs.Leading.{WaitsWith}
use Rattle.serial_run.specs.Coming.{HasCome, IsLastAsked, waiting_in}
use Rattle.serial_run.specs.Standing.{Stands}
use Rattle.serial_run.proofs.Coming.{reached_on, come_on, come_answered, owed_one, up_asks_none, none_asked_up}
use Rattle.serial_run.proofs.Phases.{last_asked, ticks_ask_none}
use Rattle.serial_run.proofs.Owing.{goes_quiet, goes_silent, nothing, handed_goes, not_handed, handed_did}

-- the request that waits was asked last
last_waits : (s : State) (line : List Item) (ticks : ℕ) (request : Request) → WaitsWith request s → IsLastAsked s.mode (line ++ (ticks_of ticks ++ Ask request ∷ []))
last_waits s line ticks request (slots, is) = subst (λ (m : Mode). IsLastAsked m (line ++ (ticks_of ticks ++ Ask request ∷ []))) (sym is) (last_asked line ticks request)

one_waits : (request : Request) (s : State) → WaitsWith request s → waiting_in s.mode ≡ 1
one_waits request s (slots, is) = ap waiting_in is

-- to whom nothing is to be fetched, nothing is owed
pub owed_nothing : (code : Code) (v : View) (r : Runner) → unfetched_of v.unfetched r.instance ≡ None → Stands code v r → HasCome code v.events [] r.instance (state_of r.machine)
owed_nothing code v r none h = subst (λ (o : Option Answer). HasCome code v.events (option_to_list o) r.instance (state_of r.machine)) none h.come

-- what an instance's own events tell of it, with goings on behind
pub mine : (i : ℕ) → (i == i) ≡ true
mine i = eq-eqb i i refl

pub did_line : (i ticks : ℕ) (request : Request) (answer : Answer) (refill : Option ℕ) (goes : List Event) → AllByRecursion IsGoing goes → line_of i (Did i ticks request answer refill ∷ goes) ≡ ticks_of ticks ++ Ask request ∷ []
did_line i ticks request answer refill goes only = rw (mine i, goes_quiet i goes only) (append-nil (ticks_of ticks ++ Ask request ∷ []))

did_requests : (i ticks : ℕ) (request : Request) (answer : Answer) (refill : Option ℕ) (goes : List Event) → AllByRecursion IsGoing goes → requests_of i (Did i ticks request answer refill ∷ goes) ≡ request ∷ []
did_requests i ticks request answer refill goes only = rw (mine i, goes_silent i goes only) refl

did_answers : (i ticks : ℕ) (request : Request) (answer : Answer) (refill : Option ℕ) (goes : List Event) → answers_of i (Did i ticks request answer refill ∷ goes) ≡ answer ∷ answers_of i goes
did_answers i ticks request answer refill goes = rw (mine i) refl

waits_line : (i ticks : ℕ) (request : Request) (goes : List Event) → AllByRecursion IsGoing goes → line_of i (Waits i ticks request ∷ goes) ≡ ticks_of ticks ++ Ask request ∷ []
waits_line i ticks request goes only = rw (mine i, goes_quiet i goes only) (append-nil (ticks_of ticks ++ Ask request ∷ []))

waits_requests : (i ticks : ℕ) (request : Request) (goes : List Event) → AllByRecursion IsGoing goes → requests_of i (Waits i ticks request ∷ goes) ≡ request ∷ []
waits_requests i ticks request goes only = rw (mine i, goes_silent i goes only) refl

runs_line : (i ticks : ℕ) (goes : List Event) → AllByRecursion IsGoing goes → line_of i (Runs i ticks ∷ goes) ≡ ticks_of ticks
runs_line i ticks goes only = rw (mine i, goes_quiet i goes only) (append-nil (ticks_of ticks))

-- with its own event alone the instance has reached what it did
pub did_reached : (code : Code) (old : View) (r : Runner) (to : State) (ticks : ℕ) (request : Request) (answer : Answer) (refill : Option ℕ) → Stands code old r → unfetched_of old.unfetched r.instance ≡ None
    → Leads code (state_of r.machine) [] (ticks_of ticks ++ Ask request ∷ []) to → HasReached code (old.events ++ Did r.instance ticks request answer refill ∷ []) r.instance
did_reached code old r to ticks request answer refill h none leads =
    reached_on code old.events (Did r.instance ticks request answer refill ∷ []) r.instance (state_of r.machine) to (owed_nothing code old r none h)
    (subst (λ (t : List Item). Leads code (state_of r.machine) [] t to) (sym (did_line r.instance ticks request answer refill [] tt)) leads)

pub waits_reached : (code : Code) (old : View) (r : Runner) (to : State) (ticks : ℕ) (request : Request) → Stands code old r → unfetched_of old.unfetched r.instance ≡ None
    → Leads code (state_of r.machine) [] (ticks_of ticks ++ Ask request ∷ []) to → HasReached code (old.events ++ Waits r.instance ticks request ∷ []) r.instance
waits_reached code old r to ticks request h none leads =
    reached_on code old.events (Waits r.instance ticks request ∷ []) r.instance (state_of r.machine) to (owed_nothing code old r none h)
    (subst (λ (t : List Item). Leads code (state_of r.machine) [] t to) (sym (waits_line r.instance ticks request [] tt)) leads)

pub runs_reached : (code : Code) (old : View) (r : Runner) (to : State) (ticks : ℕ) → Stands code old r → unfetched_of old.unfetched r.instance ≡ None
    → Leads code (state_of r.machine) [] (ticks_of ticks) to → HasReached code (old.events ++ Runs r.instance ticks ∷ []) r.instance
runs_reached code old r to ticks h none leads =
    reached_on code old.events (Runs r.instance ticks ∷ []) r.instance (state_of r.machine) to (owed_nothing code old r none h)
    (subst (λ (t : List Item). Leads code (state_of r.machine) [] t to) (sym (runs_line r.instance ticks [] tt)) leads)

-- the instance stands behind what was noted, where what waits to be fetched is what it is owed
stands_noted : (code : Code) (old new : View) (i : ℕ) (m : Process) (more : List Event) (owed : List Answer) → new.events ≡ old.events ++ more → HasCome code (old.events ++ more) owed i (state_of m) → option_to_list (unfetched_of new.unfetched i) ≡ owed → RunsOn code m → Stands code new (record { instance = i; machine = m })
stands_noted code old new i m more owed events come waits runs = record {
  runs = runs;
  come = subst (λ (xs : List Event). HasCome code xs (option_to_list (unfetched_of new.unfetched i)) i (state_of m)) (sym events)
      (subst (λ (o : List Answer). HasCome code (old.events ++ more) o i (state_of m)) (sym waits) come);
}

-- an answer came at once
pub served_now : (code : Code) (old new : View) (r : Runner) (asking after : Process) (ticks : ℕ) (request : Request) (answer : Answer) (refill : Option ℕ)
    → Stands code old r → unfetched_of old.unfetched r.instance ≡ None → IsUp (state_of r.machine).mode
    → Leads code (state_of r.machine) [] (ticks_of ticks ++ Ask request ∷ []) (state_of asking) → WaitsWith request (state_of asking)
    → Grows old new (Did r.instance ticks request answer refill) → IsSound new.facts → IsRun new.facts new.events
    → Leads code (state_of asking) (answer ∷ []) [] (state_of after) → RunsOn code after → GoesOnBehind (state_of asking).mode (state_of after).mode
    → Stands code new (record { instance = r.instance; machine = after })
served_now code old new r asking after ticks request answer refill h none up leads waits g sound run gives runs going =
    let i = r.instance in
    let more : List Event = Did i ticks request answer refill ∷ g.goes in
    let asked : Leads code (state_of r.machine) [] (line_of i more) (state_of asking) = subst (λ (t : List Item). Leads code (state_of r.machine) [] t (state_of asking)) (sym (did_line i ticks request answer refill g.goes g.only)) leads in
    let count : length (requests_of i more) ≡ waiting_in (state_of asking).mode = let a = ap length (did_requests i ticks request answer refill g.goes g.only) in let b = one_waits request (state_of asking) waits in omega (arith, a, b) in
    let last : IsLastAsked (state_of asking).mode (line_of i old.events ++ line_of i more) =
    subst (λ (t : List Item). IsLastAsked (state_of asking).mode (line_of i old.events ++ t)) (sym (did_line i ticks request answer refill g.goes g.only)) (last_waits (state_of asking) (line_of i old.events) ticks request waits) in
    let come = come_on code old.events more i (state_of r.machine) (state_of asking) (owed_nothing code old r none h) (up_asks_none (state_of r.machine).mode (line_of i old.events) up h.come.last).0 asked count last in
    let one : length (answers_of i more) ≤ 1 = owed_one code new.facts (old.events ++ more) (answers_of i more) i (state_of asking) sound (subst (IsRun new.facts) g.events run) come in
    let told = did_answers i ticks request answer refill g.goes in
    let none_goes : answers_of i g.goes ≡ [] = nothing (answers_of i g.goes) (let e = ap length told in omega (arith, one, e)) in
    let given = come_answered code (old.events ++ more) answer i (state_of asking) (state_of after) (subst (λ (o : List Answer). HasCome code (old.events ++ more) o i (state_of asking)) (told ∙ ap (λ (t : List Answer). answer ∷ t) none_goes) come) (request, waits.0, waits.1) going gives in
    let kept : unfetched_of new.unfetched i ≡ None = ap (λ (xs : List (Option Answer)). unfetched_of xs i) g.unfetched ∙ (not_handed (handed_by old.unfetched (Did i ticks request answer refill)) g.goes i g.only none_goes ∙ (handed_did old.unfetched i ticks request answer refill i ∙ none)) in
    stands_noted code old new i after more [] g.events given (ap option_to_list kept) runs

-- what an instance is owed that asked, or only made ticks, is what waits to be fetched
owed_fetched : (code : Code) (old new : View) (i : ℕ) (event : Event) (g : Grows old new event) (s : State) → handed_by old.unfetched event ≡ old.unfetched → unfetched_of old.unfetched i ≡ None → i < length old.unfetched
    → answers_of i (event ∷ g.goes) ≡ answers_of i g.goes
    → IsSound new.facts → IsRun new.facts new.events
    → HasCome code (old.events ++ event ∷ g.goes) (answers_of i (event ∷ g.goes)) i s
    → option_to_list (unfetched_of new.unfetched i) ≡ answers_of i (event ∷ g.goes)
owed_fetched code old new i event g s same none low told sound run come =
    let one : length (answers_of i (event ∷ g.goes)) ≤ 1 = owed_one code new.facts (old.events ++ event ∷ g.goes) (answers_of i (event ∷ g.goes)) i s sound (subst (IsRun new.facts) g.events run) come in
    let few : length (option_to_list (unfetched_of old.unfetched i) ++ answers_of i g.goes) ≤ 1 = rw none (let e = ap length told in omega (arith, one, e)) in
    let after : option_to_list (unfetched_of (handed old.unfetched g.goes) i) ≡ option_to_list (unfetched_of old.unfetched i) ++ answers_of i g.goes = handed_goes old.unfetched g.goes i g.only low few in
    let new_is : new.unfetched ≡ handed old.unfetched g.goes = g.unfetched ∙ ap (λ (xs : List (Option Answer)). handed xs g.goes) same in
    ap (λ (xs : List (Option Answer)). option_to_list (unfetched_of xs i)) new_is ∙ (after ∙ (ap (λ (o : Option Answer). option_to_list o ++ answers_of i g.goes) none ∙ sym told))

-- the request waits
pub served_later : (code : Code) (old new : View) (r : Runner) (asking : Process) (ticks : ℕ) (request : Request)
    → Stands code old r → unfetched_of old.unfetched r.instance ≡ None → r.instance < length old.unfetched → IsUp (state_of r.machine).mode
    → Leads code (state_of r.machine) [] (ticks_of ticks ++ Ask request ∷ []) (state_of asking) → WaitsWith request (state_of asking)
    → Grows old new (Waits r.instance ticks request) → IsSound new.facts → IsRun new.facts new.events
    → RunsOn code asking
    → Stands code new (record { instance = r.instance; machine = asking })
served_later code old new r asking ticks request h none low up leads waits g sound run runs =
    let i = r.instance in
    let more : List Event = Waits i ticks request ∷ g.goes in
    let asked : Leads code (state_of r.machine) [] (line_of i more) (state_of asking) = subst (λ (t : List Item). Leads code (state_of r.machine) [] t (state_of asking)) (sym (waits_line i ticks request g.goes g.only)) leads in
    let count : length (requests_of i more) ≡ waiting_in (state_of asking).mode = let a = ap length (waits_requests i ticks request g.goes g.only) in let b = one_waits request (state_of asking) waits in omega (arith, a, b) in
    let last : IsLastAsked (state_of asking).mode (line_of i old.events ++ line_of i more) =
    subst (λ (t : List Item). IsLastAsked (state_of asking).mode (line_of i old.events ++ t)) (sym (waits_line i ticks request g.goes g.only)) (last_waits (state_of asking) (line_of i old.events) ticks request waits) in
    let come = come_on code old.events more i (state_of r.machine) (state_of asking) (owed_nothing code old r none h) (up_asks_none (state_of r.machine).mode (line_of i old.events) up h.come.last).0 asked count last in
    stands_noted code old new i asking more (answers_of i more) g.events come (owed_fetched code old new i (Waits i ticks request) g (state_of asking) refl none low refl sound run come) runs

-- the burst made all its ticks
pub served_paused : (code : Code) (old new : View) (r : Runner) (after : Process) (ticks : ℕ)
    → Stands code old r → unfetched_of old.unfetched r.instance ≡ None → r.instance < length old.unfetched → IsUp (state_of r.machine).mode
    → Leads code (state_of r.machine) [] (ticks_of ticks) (state_of after) → IsUp (state_of after).mode
    → Grows old new (Runs r.instance ticks) → IsSound new.facts → IsRun new.facts new.events
    → RunsOn code after
    → Stands code new (record { instance = r.instance; machine = after })
served_paused code old new r after ticks h none low up leads on g sound run runs =
    let i = r.instance in
    let more : List Event = Runs i ticks ∷ g.goes in
    let asked : Leads code (state_of r.machine) [] (line_of i more) (state_of after) = subst (λ (t : List Item). Leads code (state_of r.machine) [] t (state_of after)) (sym (runs_line i ticks g.goes g.only)) leads in
    let before = up_asks_none (state_of r.machine).mode (line_of i old.events) up h.come.last in
    let behind = none_asked_up (state_of after).mode (line_of i old.events ++ ticks_of ticks) on (ticks_ask_none (line_of i old.events) ticks before.1) in
    let count : length (requests_of i more) ≡ waiting_in (state_of after).mode = let a = ap length (goes_silent i g.goes g.only) in let b = behind.0 in omega (arith, a, b) in
    let last : IsLastAsked (state_of after).mode (line_of i old.events ++ line_of i more) =
    subst (λ (t : List Item). IsLastAsked (state_of after).mode (line_of i old.events ++ t)) (sym (runs_line i ticks g.goes g.only)) behind.1 in
    let come = come_on code old.events more i (state_of r.machine) (state_of after) (owed_nothing code old r none h) before.0 asked count last in
    stands_noted code old new i after more (answers_of i more) g.events come (owed_fetched code old new i (Runs i ticks) g (state_of after) refl none low refl sound run come) runs
