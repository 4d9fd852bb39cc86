-- How far an instance has come, once more was noted.
use Rattle.std.proofs.Common.{◌≡◌, ℕ, zero, suc, ◌≤◌, List, [], ◌∷◌, ◌++◌, length, length-append, sym, ap, ◌∙◌, subst, inl, inr, arith, append_assoc, append-nil, true, Some, refl}
use Rattle.std.specs.List.{flat_map}
use Rattle.std.proofs.lemmas.List.Concat.{flat_map-append}
use Rattle.std.proofs.lemmas.Option.{slice_get_within, slice_get_cases}
use Rattle.kernel_base.specs.declared.facts.Facts.{Facts}
use Rattle.kernel_base.specs.declared.request.Request.{Request}
use Rattle.kernel_base.specs.declared.answer.Answer.{Answer}
use Rattle.kernel_base.specs.declared.event.Event.{Event}
use Rattle.kernel_base.specs.Facts.{IsSound}
use Rattle.kernel_base.specs.declared.request.Request.TheVariants.{End}
use Rattle.world_model.specs.Session.{Item, Ask}
use Rattle.world_model.specs.Allowed.{IsRun}
use Rattle.world_model.specs.Journal.{items_by, line_of, requests_by, requests_of, answers_by, answers_of, Birth, births_by, first_birth, started_as, born_of}
use Rattle.world_model.proofs.RequestsAnswered.{given_answers_law}
use Rattle.code_types.specs.declared.code.Code.{Code}
use Rattle.code_types.specs.State.{State, Slot, Mode, Running, Called, Asking, Raising, Ended}
use Rattle.code_types.specs.Talk.{Leads, Reaches}
use Rattle.code_types.proofs.Shifts.{leads_on}
use Rattle.run_laws.specs.Laws.{HasReached}
use Rattle.machine_steps.specs.Answering.{takes_answer}
use Rattle.code_machine.specs.Running.{GoesOnBehind, IsUp}
use Rattle.serial_run.specs.Coming.{HasCome, IsLastAsked, AsksNoEnd, last_item, waiting_in}
use Rattle.serial_run.proofs.Phases.{other_asked}

pub line_more : (i : ℕ) (events more : List Event) → line_of i (events ++ more) ≡ line_of i events ++ line_of i more
line_more i events more = flat_map-append (items_by i) events more

pub requests_more : (i : ℕ) (events more : List Event) → requests_of i (events ++ more) ≡ requests_of i events ++ requests_of i more
requests_more i events more = flat_map-append (requests_by i) events more

pub answers_more : (i : ℕ) (events more : List Event) → answers_of i (events ++ more) ≡ answers_of i events ++ answers_of i more
answers_more i events more = flat_map-append (answers_by i) events more

-- the first birth stays the first
first_stays : (births more : List Birth) (birth : Birth) → first_birth births ≡ Some birth → first_birth (births ++ more) ≡ Some birth
first_stays [] more birth born = absurd (let f : ⊥ = cc in f)
first_stays (other ∷ births) more birth born = born

started_more : (i : ℕ) (events more : List Event) (birth : Birth) → started_as i events ≡ Some birth → started_as i (events ++ more) ≡ Some birth
started_more i events more birth born = ap first_birth (flat_map-append (births_by i) events more) ∙ first_stays (flat_map (births_by i) events) (flat_map (births_by i) more) birth born

-- who was born stays so
pub born_more : (i : ℕ) (events more : List Event) (birth : Birth) → born_of i events ≡ Some birth → born_of i (events ++ more) ≡ Some birth
born_more zero events more birth born = started_more zero events more birth born
born_more (suc zero) events more birth born = born
born_more (suc (suc i)) events more birth born = started_more (suc (suc i)) events more birth born

pub waits_for_one : (mode : Mode) → waiting_in mode ≤ 1
waits_for_one Running = omega arith
waits_for_one Called = omega arith
waits_for_one (Asking request slots) = omega arith
waits_for_one (Raising exception) = omega arith
waits_for_one Ended = omega arith

-- a request waits for its answer
abbrev pub WaitsFor : Mode → Type 0
WaitsFor mode = (request : Request) × (slots : List Slot) × (mode ≡ Asking request slots)

pub waits_count : (mode : Mode) → WaitsFor mode → waiting_in mode ≡ 1
waits_count mode (request, slots, is) = ap waiting_in is

-- where one waits a request does
pub waits_asking : (mode : Mode) → 1 ≤ waiting_in mode → WaitsFor mode
waits_asking Running one = absurd (let f : ⊥ = omega (arith, one) in f)
waits_asking Called one = absurd (let f : ⊥ = omega (arith, one) in f)
waits_asking (Asking request slots) one = (request, slots, refl)
waits_asking (Raising exception) one = absurd (let f : ⊥ = omega (arith, one) in f)
waits_asking Ended one = absurd (let f : ⊥ = omega (arith, one) in f)

-- a process that is up asked for no end
pub up_asks_none : (mode : Mode) (line : List Item) → IsUp mode → IsLastAsked mode line → (waiting_in mode ≡ 0) × AsksNoEnd line
up_asks_none Running line up last = (refl, last)
up_asks_none Called line up last = (refl, last)
up_asks_none (Asking request slots) line up last = absurd up
up_asks_none (Raising exception) line up last = (refl, last)
up_asks_none Ended line up last = absurd up

pub none_asked_up : (mode : Mode) (line : List Item) → IsUp mode → AsksNoEnd line → (waiting_in mode ≡ 0) × IsLastAsked mode line
none_asked_up Running line up none = (refl, none)
none_asked_up Called line up none = (refl, none)
none_asked_up (Asking request slots) line up none = absurd up
none_asked_up (Raising exception) line up none = (refl, none)
none_asked_up Ended line up none = absurd up

-- behind an answer: a process that asked for its end has ended, and any other is up
goes_on_behind : (request : Request) (slots : List Slot) (to : Mode) (line : List Item) → GoesOnBehind (Asking request slots) to → last_item line ≡ Some (Ask request) → (waiting_in to ≡ 0) × IsLastAsked to line
goes_on_behind (End how) slots to line going last = (ap waiting_in going, subst (λ (m : Mode). IsLastAsked m line) (sym going) (how, last))
goes_on_behind request slots to line going last = none_asked_up to line going (other_asked line request (λ is. is) last)

goes_on : (mode to : Mode) (line : List Item) → WaitsFor mode → GoesOnBehind mode to → IsLastAsked mode line → (waiting_in to ≡ 0) × IsLastAsked to line
goes_on mode to line (request, slots, is) going last = goes_on_behind request slots to line (subst (λ (m : Mode). GoesOnBehind m to) is going) (subst (λ (m : Mode). IsLastAsked m line) is last)

-- what takes an answer waits for it
pub takes_waits : (mode : Mode) (answer : Answer) → takes_answer mode answer ≡ true → WaitsFor mode
takes_waits Running answer takes = absurd (let f : ⊥ = cc in f)
takes_waits Called answer takes = absurd (let f : ⊥ = cc in f)
takes_waits (Asking request slots) answer takes = (request, slots, refl)
takes_waits (Raising exception) answer takes = absurd (let f : ⊥ = cc in f)
takes_waits Ended answer takes = absurd (let f : ⊥ = cc in f)

-- what is reached, and then led to
pub reaches_on : (code : Code) (instance process : ℕ) (arguments : List _) (answers more : List Answer) (trace behind : List Item) (from to : State)
    → Reaches code instance process arguments answers trace from → Leads code from more behind to → Reaches code instance process arguments (answers ++ more) (trace ++ behind) to
reaches_on code instance process arguments answers more trace behind from to r l = record {
  start = r.start;
  starts = r.starts;
  leads = leads_on code r.start from to answers more trace behind r.leads l;
}

-- more was noted in which the instance asked nothing and made no ticks
pub come_aside : (code : Code) (events more : List Event) (owed : List Answer) (i : ℕ) (s : State) → line_of i more ≡ [] → requests_of i more ≡ [] → HasCome code events owed i s → HasCome code (events ++ more) (owed ++ answers_of i more) i s
come_aside code events more owed i s quiet silent h =
    let line : line_of i (events ++ more) ≡ line_of i events = line_more i events more ∙ (ap (λ (t : List Item). line_of i events ++ t) quiet ∙ append-nil (line_of i events)) in
    let requests : requests_of i (events ++ more) ≡ requests_of i events = requests_more i events more ∙ (ap (λ (t : List Request). requests_of i events ++ t) silent ∙ append-nil (requests_of i events)) in
    record {
      birth = h.birth;
      born = born_more i events more h.birth h.born;
      given = h.given;
      answers = answers_more i events more ∙ (ap (λ (t : List Answer). t ++ answers_of i more) h.answers ∙ append_assoc h.given owed (answers_of i more));
      reached = subst (λ (t : List Item). Reaches code i h.birth.process h.birth.arguments h.given t s) (sym line) h.reached;
      asked = let e = ap length requests in let asked = h.asked in omega (arith, e, asked);
      last = subst (IsLastAsked s.mode) (sym line) h.last;
    }

-- the instance, which was owed nothing, went on, and reached what was noted
pub reached_on : (code : Code) (events more : List Event) (i : ℕ) (s to : State) → HasCome code events [] i s → Leads code s [] (line_of i more) to → HasReached code (events ++ more) i
reached_on code events more i s to h leads =
    let reached : Reaches code i h.birth.process h.birth.arguments (h.given ++ []) (line_of i events ++ line_of i more) to = reaches_on code i h.birth.process h.birth.arguments h.given [] (line_of i events) (line_of i more) s to h.reached leads in
    record {
      birth = h.birth;
      born = born_more i events more h.birth h.born;
      given = h.given;
      behind = answers_of i more;
      answers = answers_more i events more ∙ ap (λ (t : List Answer). t ++ answers_of i more) (h.answers ∙ append-nil h.given);
      state = to;
      reached = subst (λ (t : List Item). Reaches code i h.birth.process h.birth.arguments h.given t to) (sym (line_more i events more))
          (subst (λ (g : List Answer). Reaches code i h.birth.process h.birth.arguments g (line_of i events ++ line_of i more) to) (append-nil h.given) reached);
    }

-- it waited for nothing, and what it asked was noted
pub come_on : (code : Code) (events more : List Event) (i : ℕ) (s to : State) → HasCome code events [] i s → waiting_in s.mode ≡ 0 → Leads code s [] (line_of i more) to → length (requests_of i more) ≡ waiting_in to.mode → IsLastAsked to.mode (line_of i events ++ line_of i more)
    → HasCome code (events ++ more) (answers_of i more) i to
unfolding reached_on
come_on code events more i s to h up leads count last =
    let on = reached_on code events more i s to h leads in
    record {
      birth = h.birth;
      born = on.born;
      given = h.given;
      answers = on.answers;
      reached = on.reached;
      asked = let e = ap length (requests_more i events more) in let l = length-append (requests_of i events) (requests_of i more) in let asked = h.asked in omega (arith, e, l, asked, up, count);
      last = subst (IsLastAsked to.mode) (sym (line_more i events more)) last;
    }

-- the one answer that is owed is given
pub come_answered : (code : Code) (events : List Event) (answer : Answer) (i : ℕ) (s to : State) → HasCome code events (answer ∷ []) i s → WaitsFor s.mode → GoesOnBehind s.mode to.mode → Leads code s (answer ∷ []) [] to → HasCome code events [] i to
come_answered code events answer i s to h waits going leads =
    let reached : Reaches code i h.birth.process h.birth.arguments (h.given ++ answer ∷ []) (line_of i events ++ []) to = reaches_on code i h.birth.process h.birth.arguments h.given (answer ∷ []) (line_of i events) [] s to h.reached leads in
    record {
      birth = h.birth;
      born = h.born;
      given = h.given ++ answer ∷ [];
      answers = h.answers ∙ sym (append-nil (h.given ++ answer ∷ []));
      reached = subst (λ (t : List Item). Reaches code i h.birth.process h.birth.arguments (h.given ++ answer ∷ []) t to) (append-nil (line_of i events)) reached;
      asked = let one = waits_count s.mode waits in let none = (goes_on s.mode to.mode (line_of i events) waits going h.last).0 in let l = length-append h.given (answer ∷ []) in let asked = h.asked in omega (arith, one, none, l, asked);
      last = (goes_on s.mode to.mode (line_of i events) waits going h.last).1;
    }

-- an instance that is owed nothing has had all its answers
pub come_whole : (code : Code) (events : List Event) (i : ℕ) (s : State) (h : HasCome code events [] i s) → Reaches code i h.birth.process h.birth.arguments (answers_of i events) (line_of i events) s
come_whole code events i s h = subst (λ (g : List Answer). Reaches code i h.birth.process h.birth.arguments g (line_of i events) s) (sym (h.answers ∙ append-nil h.given)) h.reached

-- there are no more answers than requests
pub answered_few : (facts : Facts) (events : List Event) (i : ℕ) → IsSound facts → IsRun facts events → length (answers_of i events) ≤ length (requests_of i events)
answered_few facts events i sound run = elim ((slice_get_cases (answers_of i events) (length (requests_of i events))).1) [
  | inl (answer, inside, at, item) ↦ (
      let by = given_answers_law facts events i (length (requests_of i events)) answer sound run at in
      let within = slice_get_within (requests_of i events) (length (requests_of i events)) by.request by.asked in
      absurd (let f : ⊥ = omega (arith, within) in f))
  | inr (past, at) ↦ past
]

-- at most one answer is owed
pub owed_one : (code : Code) (facts : Facts) (events : List Event) (owed : List Answer) (i : ℕ) (s : State) → IsSound facts → IsRun facts events → HasCome code events owed i s → length owed ≤ 1
owed_one code facts events owed i s sound run h =
    let few = answered_few facts events i sound run in
    let e = ap length h.answers in
    let l = length-append h.given owed in
    let one = waits_for_one s.mode in
    let asked = h.asked in
    omega (arith, few, e, l, one, asked)
