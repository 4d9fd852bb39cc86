-- Where something doesn't fit, the code doesn't suit the facts.
use Rattle.std.proofs.Common.{◌≡◌, ℕ, zero, suc, ◌+◌, ◌≤◌, ◌<◌, List, [], ◌∷◌, ◌++◌, length, length-append, refl, sym, ap, ◌∙◌, subst, inl, inr, arith, append_assoc, append-nil, true, Option, Some, None, slice_get}
use Rattle.std.specs.Prelude.{IsFalse, IsSome, IsSomeAnd, IsTrue, option_to_list}
use Rattle.std.proofs.lemmas.List.{length_push}
use Rattle.std.proofs.lemmas.Option.{slice_get_cases, slice_get_within}
use Rattle.kernel_base.proofs.Layers.{slice_get-append_right}
use Rattle.kernel_base.specs.Facts.{FitsRequest, IsSound}
use Rattle.kernel_base.specs.declared.ends.Over.{Over as OverOf}
use Rattle.kernel_base.specs.declared.facts.Facts.{Facts}
use Rattle.kernel_base.specs.declared.request.Request.{Request}
use Rattle.kernel_base.specs.declared.answer.Answer.{Answer}
use Rattle.kernel_base.specs.declared.event.Event.{Event}
use Rattle.kernel_base.specs.declared.event.Event.TheVariants.{Did}
use Rattle.world_model.specs.declared.world.Phase.{Phase}
use Rattle.world_model.specs.declared.world.Phase.TheVariants.{Active, Waiting, Chosen, Ended}
use Rattle.world_model.specs.declared.world.World.{World}
use Rattle.world_model.specs.Session.{Item, Ask}
use Rattle.world_model.specs.Waiting.{phase_of, IsActive}
use Rattle.world_model.specs.World.{opening, world_of}
use Rattle.world_model.specs.Allowed.{IsAllowed, IsPossible, IsRun, MayAsk}
use Rattle.world_model.specs.Gives.{Gives}
use Rattle.world_model.specs.Journal.{ticks_of, line_of, requests_of, answers_by, answers_of, Birth, born_of}
use Rattle.world_model.specs.Laws.{IsAnsweredBy}
use Rattle.world_model.specs.Over.{over_of}
use Rattle.world_model.proofs.Ends.{over_law}
use Rattle.world_model.proofs.Given.{did_gives}
use Rattle.world_model.proofs.RequestsAnswered.{given_answers_law}
use Rattle.world_model.proofs.RunParts.{front_runs, next_allowed}
use Rattle.world_model.proofs.Well.{opening_well, run_well, some_active}
use Rattle.code_types.specs.declared.code.Code.{Code}
use Rattle.code_types.specs.Answers.{gives, fills_slot}
use Rattle.code_types.specs.State.{State, Slot, Mode, Running, Called, Asking, Raising}
use Rattle.code_types.specs.State.{Ended as EndedMode}
use Rattle.code_types.specs.Talk.{Leads, Reaches}
use Rattle.code_types.specs.Runs.{IsCodeRun, Suits}
use Rattle.code_types.proofs.AnswerTest.{gives_tells}
use Rattle.code_safety.proofs.Talking.{talk_exists}
use Rattle.run_laws.proofs.Births.{births_law}
use Rattle.kernel_steps.specs.View.{View, Commits, Grows, MayGoOn, Pauses, TakesNext, unfetched_of, world_seen}
use Rattle.kernel_steps.specs.Seated.{IsIdle}
use Rattle.kernel_steps.specs.declared.reply.New.{New}
use Rattle.kernel_steps.specs.declared.reply.Reply.{Reply}
use Rattle.kernel_steps.specs.declared.reply.Reply.TheVariants.{Now, Later, Over, Stranger}
use Rattle.machine_steps.specs.Answering.{takes_answer}
use Rattle.machine_steps.specs.declared.process.Process.{Process}
use Rattle.machine_steps.specs.Views.{state_of}
use Rattle.code_machine.specs.Running.{Bursts, IsUp}
use Rattle.code_machine.specs.declared.burst.Stop.TheVariants.{Asks}
use Rattle.serial_run.specs.declared.runner.Runner.{Runner}
use Rattle.serial_run.specs.Coming.{HasCome, AsksNoEnd, IsLastAsked, last_item, waiting_in}
use Rattle.serial_run.specs.Standing.{AllStand, Stands, IsAllTaken, IsAnswered}
use Rattle.serial_run.specs.Suiting.{CannotTake, RefusesReply, RestFrom}
use Rattle.serial_run.proofs.Coming.{WaitsFor, answered_few, answers_more, born_more, line_more, reaches_on, requests_more, up_asks_none, waits_asking, waits_count}
use Rattle.serial_run.proofs.Finishing.{all_made}
use Rattle.serial_run.proofs.Fronts.{born_made, event_run, made_born}
use Rattle.serial_run.proofs.LastAnswers.{answered_made, last_answer, last_request, silent_behind}
use Rattle.serial_run.proofs.Phases.{Tells, active_tells, journal_tells}
use Rattle.serial_run.proofs.Served.{did_line, did_reached, mine, owed_nothing}
use Rattle.serial_run.proofs.Taken.{born_at}

-- an answer that can come, and fills its slot, is taken
takes_fit : (mode : Mode) (request : Request) (slots : List Slot) (answer : Answer) → mode ≡ Asking request slots → Gives request answer → IsTrue (fills_slot slots answer) → IsFalse (takes_answer mode answer) → ⊥
takes_fit mode request slots answer asks can fills refuses =
    let given : gives request answer ≡ true = (gives_tells request answer).1 can in
    let full : fills_slot slots answer ≡ true = fills in
    let takes : takes_answer mode answer ≡ true = ap (λ (m : Mode). takes_answer m answer) asks ∙ rw (given, full) refl in
    let f : ⊥ = cc in f

no_request : (xs : List Request) → length xs ≤ 0 → xs ≡ []
no_request [] few = refl
no_request (x ∷ xs) few = absurd (let f : ⊥ = omega (arith, few) in f)

-- An answer that waits, and that its machine can't take: at the event that gave it it doesn't fill its slot.
pub unfit_answer : (code : Code) (v : View) (runners : List Runner) (k : ℕ) (r : Runner) → slice_get runners k ≡ Some r → CannotTake v r → AllStand code v runners → Suits code v.facts → ⊥
unfit_answer code v runners k r at cannot led suits =
    let i = r.instance in
    let s = state_of r.machine in
    let answer = cannot.answer in
    let come : HasCome code v.events (answer ∷ []) i s = subst (λ (o : Option Answer). HasCome code v.events (option_to_list o) i s) cannot.waits (led.stand k r at).come in
    let n = length come.given in
    let number = led.instances k r at in
    let few = answered_few v.facts v.events i led.sound led.run in
    let count : length (answers_of i v.events) ≡ n + 1 = ap length come.answers ∙ length_push come.given answer in
    let asked = come.asked in
    let waits : WaitsFor s.mode = waits_asking s.mode (omega (arith, few, count, asked)) in
    let one = waits_count s.mode waits in
    let last : last_item (line_of i v.events) ≡ Some (Ask waits.0) = subst (λ (m : Mode). IsLastAsked m (line_of i v.events)) waits.2 come.last in
    let cut = last_answer i v.events come.given answer come.answers in
    let front : List Event = cut.before ++ cut.event ∷ [] in
    let parts : v.events ≡ front ++ cut.behind = cut.parts ∙ sym (append_assoc cut.before (cut.event ∷ []) cut.behind) in
    let follow : IsCodeRun code v.facts front = led.follow front cut.behind parts in
    let few_front = answered_few v.facts front i led.sound follow.run in
    let gives_one : answers_of i (cut.event ∷ []) ≡ answer ∷ [] = ap (λ (t : List Answer). t ++ []) cut.gives in
    let count_front : length (answers_of i front) ≡ n + 1 = ap length (answers_more i cut.before (cut.event ∷ []) ∙ (ap (λ (t : List Answer). t ++ answers_of i (cut.event ∷ [])) cut.others ∙ ap (λ (t : List Answer). come.given ++ t) gives_one)) ∙ length_push come.given answer in
    let requests : length (requests_of i v.events) ≡ length (requests_of i front) + length (requests_of i cut.behind) =
    ap (λ (xs : List Event). length (requests_of i xs)) parts ∙ (ap length (requests_more i front cut.behind) ∙ length-append (requests_of i front) (requests_of i cut.behind)) in
    let silent : requests_of i cut.behind ≡ [] = no_request (requests_of i cut.behind) (omega (arith, few_front, count_front, requests, asked, one)) in
    let line : line_of i v.events ≡ line_of i front ++ line_of i cut.behind = ap (line_of i) parts ∙ line_more i front cut.behind in
    let quiet : line_of i cut.behind ≡ [] = silent_behind i (line_of i front) cut.behind waits.0 silent (ap last_item (sym line) ∙ last) in
    let same_line : line_of i v.events ≡ line_of i front = line ∙ (ap (λ (t : List Item). line_of i front ++ t) quiet ∙ append-nil (line_of i front)) in
    let next : IsAllowed v.facts (world_of v.facts cut.before) cut.event = next_allowed v.facts cut.before cut.event cut.behind (subst (IsRun v.facts) cut.parts led.run) in
    let before_run = (led.follow cut.before (cut.event ∷ cut.behind) cut.parts).run in
    let there = answered_made v.facts (world_of v.facts cut.before) cut.event i answer next.possible cut.gives in
    let born = made_born (world_of v.facts cut.before) cut.before i (births_law v.facts cut.before before_run) (omega (arith, number)) there in
    let later : born_of i v.events ≡ Some born.0 = ap (born_of i) cut.parts ∙ born_more i cut.before (cut.event ∷ cut.behind) born.0 born.1 in
    let both : Some born.0 ≡ Some come.birth = sym later ∙ come.born in
    let same_birth : born.0 ≡ come.birth = cc in
    let reaches : Reaches code i come.birth.process come.birth.arguments (answers_of i cut.before) (line_of i front) s =
    subst (λ (t : List Item). Reaches code i come.birth.process come.birth.arguments (answers_of i cut.before) t s) same_line
    (subst (λ (g : List Answer). Reaches code i come.birth.process come.birth.arguments g (line_of i v.events) s) (sym cut.others) come.reached) in
    let fills = suits.answers cut.before cut.event i come.birth answer waits.0 waits.1 s follow (born.1 ∙ ap Some same_birth) cut.gives reaches waits.2 in
    let place : slice_get (answers_of i v.events) n ≡ Some answer = ap (λ (xs : List Answer). slice_get xs n) come.answers ∙ slice_get-append_right come.given (answer ∷ []) n 0 answer (omega arith) refl in
    let by : IsAnsweredBy (requests_of i v.events) n answer = given_answers_law v.facts v.events i n answer led.sound led.run place in
    let mine : slice_get (requests_of i v.events) n ≡ Some waits.0 = last_request i v.events waits.0 n last (omega (arith, asked, one)) in
    let requests_same : Some by.request ≡ Some waits.0 = sym by.asked ∙ mine in
    let same_request : by.request ≡ waits.0 = cc in
    takes_fit s.mode waits.0 waits.1 answer waits.2 (subst (λ (q : Request). Gives q answer) same_request by.gives) fills cannot.refuses

-- A process that can't be started: it is no body of the code with as many parameters.
pub unfit_start : (code : Code) (old new : View) (runners : List Runner) (taken : New) → AllStand code old runners → TakesNext old new taken
    → (IsSomeAnd (slice_get code.bodies taken.process) (λ row. row.params ≡ length taken.scalars) → ⊥) → Suits code old.facts → ⊥
unfit_start code old new runners taken led t not suits =
    let birth : Birth = record { process = taken.process; arguments = taken.scalars } in
    not (suits.births old.events taken.instance birth (led.follow old.events [] (sym (append-nil old.events)))
    (born_at old.facts old.events old.taken taken.instance taken.process taken.scalars led.run led.first t.instance t.process t.scalars))

none_owed : (o : Option Answer) → length (option_to_list o) ≤ 0 → o ≡ None
none_owed None few = refl
none_owed (Some answer) few = absurd (let f : ⊥ = omega (arith, few) in f)

-- whose requests are all answered, and who didn't ask for an end, is active
up_active : (o : Option Phase) (a b : ℕ) (line : List Item) → (o ≡ None → ⊥) → Tells o a b line → a ≡ b → AsksNoEnd line → o ≡ Some Active
up_active None a b line there h same none = absurd (there refl)
up_active (Some Active) a b line there h same none = refl
up_active (Some (Waiting request send back)) a b line there h same none = absurd (let e = h.0 in let f : ⊥ = omega (arith, e, same) in f)
up_active (Some (Chosen answer back)) a b line there h same none = absurd (let e = h.0 in let f : ⊥ = omega (arith, e, same) in f)
up_active (Some (Ended how)) a b line there h same none = absurd (none how h)

made_there : (w : World) (i : ℕ) → i < length w.phases → phase_of w i ≡ None → ⊥
made_there w i low none = elim ((slice_get_cases w.phases i).1) [
  | inl (phase, inside, at, item) ↦ (let both : Some phase ≡ None = sym at ∙ none in let f : ⊥ = cc in f)
  | inr (past, at) ↦ (let f : ⊥ = omega (arith, low, past) in f)
]

-- Whose machine is up may go on.
goes_on : (code : Code) (v : View) (r : Runner) → IsSound v.facts → IsRun v.facts v.events → Stands code v r → IsUp (state_of r.machine).mode → MayGoOn v r.instance
goes_on code v r sound run h up =
    let i = r.instance in
    let owed = unfetched_of v.unfetched i in
    let come = h.come in
    let line = line_of i v.events in
    let w = world_of v.facts v.events in
    let resting = up_asks_none (state_of r.machine).mode line up come.last in
    let few = answered_few v.facts v.events i sound run in
    let count : length (answers_of i v.events) ≡ length come.given + length (option_to_list owed) = ap length come.answers ∙ length-append come.given (option_to_list owed) in
    let asked = come.asked in
    let zero_waits = resting.0 in
    let none : owed ≡ None = none_owed owed (omega (arith, few, count, asked, zero_waits)) in
    let nothing_owed : length (option_to_list owed) ≡ 0 = ap (λ (o : Option Answer). length (option_to_list o)) none in
    let made = born_made w v.events i come.birth (births_law v.facts v.events run) come.born in
    let tells = journal_tells v.facts v.events i sound run made.0 in
    record {
      active = up_active (phase_of w i) (length (requests_of i v.events)) (length (answers_of i v.events)) line (made_there w i made.1) tells (omega (arith, count, asked, zero_waits, nothing_owed)) resting.1;
      fetched = none;
    }

-- what is reached with a request that is asked
asked_reached : (code : Code) (v : View) (r : Runner) (asking : State) (ticks : ℕ) (request : Request) (h : HasCome code v.events [] r.instance (state_of r.machine))
    → Leads code (state_of r.machine) [] (ticks_of ticks ++ Ask request ∷ []) asking
    → Reaches code r.instance h.birth.process h.birth.arguments (answers_of r.instance v.events) (line_of r.instance v.events ++ (ticks_of ticks ++ Ask request ∷ [])) asking
asked_reached code v r asking ticks request h leads =
    subst (λ (g : List Answer). Reaches code r.instance h.birth.process h.birth.arguments g (line_of r.instance v.events ++ (ticks_of ticks ++ Ask request ∷ [])) asking) (sym h.answers)
    (reaches_on code r.instance h.birth.process h.birth.arguments h.given [] (line_of r.instance v.events) (ticks_of ticks ++ Ask request ∷ []) (state_of r.machine) asking h.reached leads)

not_over : (o : Option OverOf) → o ≡ None → IsSome o → ⊥
not_over o none some = let is : IsSome {T = OverOf} None = subst (λ (o : Option OverOf). IsSome o) none some in let f : ⊥ = cc in f

-- an answer that came at once doesn't fill its slot
unfit_now : (code : Code) (old new : View) (r : Runner) (asking : Process) (ticks : ℕ) (request : Request) (answer : Answer)
    → Stands code old r → IsUp (state_of r.machine).mode → Bursts code 256 (state_of r.machine) (state_of asking) (Asks ticks request)
    → Commits old new r.instance ticks request (Now answer) → IsFalse (takes_answer (state_of asking).mode answer)
    → IsSound new.facts → IsRun new.facts new.events → IsCodeRun code old.facts old.events → Suits code old.facts → ⊥
unfit_now code old new r asking ticks request answer h up bursts c refuses sound run follows suits =
    let i = r.instance in
    let refill : Option ℕ = c.2.0 in
    let event : Event = Did i ticks request answer refill in
    let g : Grows old new event = c.2.2 in
    let w = world_of old.facts old.events in
    let old_sound : IsSound old.facts = subst IsSound g.facts sound in
    let come = owed_nothing code old r c.1.goes.fetched h in
    let asks : MayAsk old.facts w i request = record { active = c.1.goes.active; fits = c.1.fits } in
    let may : IsPossible old.facts w event = (asks, c.2.1) in
    let well = run_well old.facts (opening old.facts) old.events follows.run (opening_well old.facts old_sound) in
    let can : Gives request answer = did_gives old.facts w i ticks request answer refill well may in
    let whole : IsRun old.facts (old.events ++ event ∷ g.goes) = subst (λ (x : Facts). IsRun x (old.events ++ event ∷ g.goes)) g.facts (subst (IsRun new.facts) g.events run) in
    let one : IsRun old.facts (old.events ++ event ∷ []) = front_runs old.facts (opening old.facts) (old.events ++ event ∷ []) g.goes (subst (IsRun old.facts) (sym (append_assoc old.events (event ∷ []) g.goes)) whole) in
    let more : IsCodeRun code old.facts (old.events ++ event ∷ []) =
    event_run code old.facts old.events event i come.birth (talk_exists code h.runs.stands.0) refl come.born (did_reached code old r (state_of asking) ticks request answer refill h c.1.goes.fetched bursts.1) one follows in
    let line : line_of i (old.events ++ event ∷ []) ≡ line_of i old.events ++ (ticks_of ticks ++ Ask request ∷ []) =
    line_more i old.events (event ∷ []) ∙ ap (λ (t : List Item). line_of i old.events ++ t) (did_line i ticks request answer refill [] tt) in
    let reaches : Reaches code i come.birth.process come.birth.arguments (answers_of i old.events) (line_of i (old.events ++ event ∷ [])) (state_of asking) =
    subst (λ (t : List Item). Reaches code i come.birth.process come.birth.arguments (answers_of i old.events) t (state_of asking)) (sym line)
    (asked_reached code old r (state_of asking) ticks request come bursts.1) in
    let its : answers_by i event ≡ answer ∷ [] = rw (mine i) refl in
    let fills = suits.answers old.events event i come.birth answer request bursts.2.0 (state_of asking) more come.born its reaches bursts.2.1 in
    takes_fit (state_of asking).mode request bursts.2.0 answer bursts.2.1 can fills refuses

-- A machine can't take what its request came to: the request doesn't fit, or its answer.
pub unfit_reply : (code : Code) (old new : View) (r : Runner) (asking : Process) (ticks : ℕ) (request : Request) (reply : Reply)
    → Stands code old r → IsUp (state_of r.machine).mode → Bursts code 256 (state_of r.machine) (state_of asking) (Asks ticks request)
    → Commits old new r.instance ticks request reply → RefusesReply asking reply
    → IsSound new.facts → IsRun new.facts new.events → IsCodeRun code old.facts old.events → over_of old.facts old.events ≡ None → Suits code old.facts → ⊥
unfit_reply code old new r asking ticks request (Now answer) h up bursts c refuses sound run follows is_open suits = unfit_now code old new r asking ticks request answer h up bursts c refuses sound run follows suits
unfit_reply code old new r asking ticks request Later h up bursts c refuses sound run follows is_open suits = refuses
unfit_reply code old new r asking ticks request Over h up bursts c refuses sound run follows is_open suits = not_over (over_of old.facts old.events) is_open c.0
unfit_reply code old new r asking ticks request Stranger h up bursts c refuses sound run follows is_open suits =
    let goes = goes_on code old r (subst IsSound c.2.facts sound) follows.run h up in
    let come = owed_nothing code old r goes.fetched h in
    let fits : FitsRequest old.facts request = suits.requests old.events r.instance come.birth ticks request (state_of asking) follows goes.active come.born (asked_reached code old r (state_of asking) ticks request come bursts.1) in
    c.1 (record { goes = goes; fits = fits })

-- a pause of a machine that may go on is always noted
pub unfit_pause : (code : Code) (old new : View) (r : Runner) (ticks : ℕ) (reply : Reply)
    → Stands code old r → IsUp (state_of r.machine).mode → Pauses old new r.instance ticks reply → (IsAnswered reply → ⊥)
    → IsSound new.facts → IsCodeRun code old.facts old.events → over_of old.facts old.events ≡ None → ⊥
unfit_pause code old new r ticks (Now answer) h up c not sound follows is_open = not tt
unfit_pause code old new r ticks Later h up c not sound follows is_open = c
unfit_pause code old new r ticks Over h up c not sound follows is_open = not_over (over_of old.facts old.events) is_open c.0
unfit_pause code old new r ticks Stranger h up c not sound follows is_open = c.1 (goes_on code old r (subst IsSound c.2.facts sound) follows.run h up)

-- what isn't waiting and didn't ask for its end is up
is_up_then : (mode : Mode) (line : List Item) → waiting_in mode ≡ 0 → IsLastAsked mode line → AsksNoEnd line → IsUp mode
is_up_then Running line waits last none = tt
is_up_then Called line waits last none = tt
is_up_then (Asking request slots) line waits last none = absurd (let f : ⊥ = omega (arith, waits) in f)
is_up_then (Raising exception) line waits last none = tt
is_up_then EndedMode line waits last none = absurd (none last.0 last.1)

-- one that is active, and has fetched its answers, can go
active_up : (code : Code) (v : View) (r : Runner) → IsSound v.facts → IsRun v.facts v.events → Stands code v r → 1 ≤ r.instance → IsActive (world_seen v) r.instance → unfetched_of v.unfetched r.instance ≡ None → IsUp (state_of r.machine).mode
active_up code v r sound run h some active none =
    let i = r.instance in
    let come = owed_nothing code v r none h in
    let line = line_of i v.events in
    let tells = active_tells (phase_of (world_seen v) i) (length (requests_of i v.events)) (length (answers_of i v.events)) line active (journal_tells v.facts v.events i sound run some) in
    let count : length (answers_of i v.events) ≡ length come.given + 0 = ap length come.answers ∙ length-append come.given [] in
    let asked = come.asked in
    let same = tells.0 in
    is_up_then (state_of r.machine).mode line (omega (arith, count, asked, same)) come.last tells.1

-- In a run that isn't over not all machines rest.
pub none_rests : (code : Code) (v : View) (runners : List Runner) → AllStand code v runners → IsAllTaken v → IsIdle (world_seen v) → over_of v.facts v.events ≡ None → RestFrom v runners 0 None → ⊥
none_rests code v runners led all idle is_open rest = elim (over_law v.facts v.events idle) [
  | inl (who, active) ↦ by_who who active
  | inr over ↦ not_over (over_of v.facts v.events) is_open over
]
  where
    by_who : (who : ℕ) → IsActive (world_seen v) who → ⊥
    by_who zero active = let f : ⊥ = (let well = run_well v.facts (opening v.facts) v.events led.run (opening_well v.facts led.sound) in let some = some_active (world_seen v).phases zero well.phases active in omega (arith, some)) in f
    by_who (suc k) active = elim ((slice_get_cases runners k).1) [
      | inl (r, inside, at, item) ↦ (
          let number = led.instances k r at in
          let resting = rest k r (omega arith) at in
          resting.down (active_up code v r led.sound led.run (led.stand k r at) (omega (arith, number)) (subst (IsActive (world_seen v)) (sym number) active) resting.fetched))
      | inr (past, at) ↦ (
          let low = slice_get_within (world_seen v).phases (suc k) Active active in
          let made = all_made code v runners led all in
          let f : ⊥ = omega (arith, low, made, past) in f)
    ]
