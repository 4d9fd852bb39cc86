-- What an event of a burst tells, and a burst that wasn't committed.
use Rattle.std.proofs.Common.{◌≡◌, ℕ, ◌<◌, List, [], ◌∷◌, ◌++◌, length, refl, sym, ◌∙◌, subst, inl, inr, arith, append-nil, true, Option, Some, Ok, Err, slice_get}
use Rattle.std.specs.Prelude.{◌==◌, IfOk}
use Rattle.std.proofs.lemmas.Bool.{eq-eqb}
use Rattle.std.proofs.lemmas.Option.{slice_get_within, same_Some}
use Rattle.std.specs.declared.result.Result.{Result}
use Rattle.chill_base.specs.declared.memory.Memory.{Memory}
use Rattle.kernel_base.specs.declared.request.Request.{Request}
use Rattle.kernel_base.specs.declared.answer.Answer.{Answer}
use Rattle.kernel_base.specs.declared.event.Event.{Event}
use Rattle.kernel_base.specs.declared.event.Event.TheVariants.{Did, Waits, Goes, Runs}
use Rattle.world_model.specs.Session.{Item, Ask}
use Rattle.world_model.specs.Journal.{ticks_of, line_of, answers_of}
use Rattle.code_types.specs.declared.code.Code.{Code}
use Rattle.code_types.specs.State.{State}
use Rattle.code_types.specs.Talk.{Leads}
use Rattle.kernel_steps.specs.View.{View, Grows}
use Rattle.kernel_steps.specs.declared.reply.Reply.{Reply}
use Rattle.kernel_steps.specs.declared.reply.Reply.TheVariants.{Now, Later, Over, Stranger}
use Rattle.machine_steps.specs.Views.{state_of}
use Rattle.code_machine.specs.Running.{RunsOn, Bursts}
use Rattle.code_machine.specs.declared.burst.Stop.{Stop}
use Rattle.code_machine.specs.declared.burst.Stop.TheVariants.{Asks, Paused}
use Rattle.serial_run.specs.Driven.{IsUncommitted}
use Rattle.worker_pool.specs.declared.log.Log.{Log}
use Rattle.worker_pool.specs.Logs.{HasLine, IsLog, MayNote}
use Rattle.worker_pool.specs.declared.desk.Outcome.{Outcome}
use Rattle.worker_pool.specs.declared.desk.Outcome.TheVariants.{Noted, Over as OutcomeOver, Stranger as OutcomeStranger}
use Rattle.worker_pool.specs.Notes.{IsStop, TellsOf, IsEventAt, IsOutcomeOf, NotesStop}

mine : (i : ℕ) → (i == i) ≡ true
mine i = eq-eqb i i refl

did_line : (i ticks : ℕ) (request : Request) (answer : Answer) (refill : Option ℕ) → line_of i (Did i ticks request answer refill ∷ []) ≡ ticks_of ticks ++ Ask request ∷ []
did_line i ticks request answer refill = rw (mine i) (append-nil (ticks_of ticks ++ Ask request ∷ []))

did_answers : (i ticks : ℕ) (request : Request) (answer : Answer) (refill : Option ℕ) → answers_of i (Did i ticks request answer refill ∷ []) ≡ answer ∷ []
did_answers i ticks request answer refill = rw (mine i) refl

waits_line : (i ticks : ℕ) (request : Request) → line_of i (Waits i ticks request ∷ []) ≡ ticks_of ticks ++ Ask request ∷ []
waits_line i ticks request = rw (mine i) (append-nil (ticks_of ticks ++ Ask request ∷ []))

runs_line : (i ticks : ℕ) → line_of i (Runs i ticks ∷ []) ≡ ticks_of ticks
runs_line i ticks = rw (mine i) (append-nil (ticks_of ticks))

-- a burst of this many ticks, and a request
asked_short : (ticks : ℕ) (request : Request) (line : List Item) → ticks < 256 → line ≡ ticks_of ticks ++ Ask request ∷ [] → IsUncommitted line
asked_short ticks request line low is = (ticks, omega (arith, low), inr (request, is))

paused_short : (ticks : ℕ) (line : List Item) → ticks ≡ 256 → line ≡ ticks_of ticks → IsUncommitted line
paused_short ticks line all is = (ticks, omega (arith, all), inl is)

did_may_note : (code : Code) (log : Log) (from : State) (ticks : ℕ) (request : Request) (answer : Answer) (refill : Option ℕ) → HasLine code log from → RunsOn code log.machine → ticks < 256 → Leads code from [] (ticks_of ticks ++ Ask request ∷ []) (state_of log.machine) → MayNote code log (Did log.instance ticks request answer refill)
did_may_note code log from ticks request answer refill line runs low leads =
    let is = did_line log.instance ticks request answer refill in
    record {
      runs = runs;
      left = from;
      line = line;
      short = asked_short ticks request (line_of log.instance (Did log.instance ticks request answer refill ∷ [])) low is;
      leads = subst (λ (t : List Item). Leads code from [] t (state_of log.machine)) (sym is) leads;
      answers = did_answers log.instance ticks request answer refill;
    }

waits_may_note : (code : Code) (log : Log) (from : State) (ticks : ℕ) (request : Request) → HasLine code log from → RunsOn code log.machine → ticks < 256 → Leads code from [] (ticks_of ticks ++ Ask request ∷ []) (state_of log.machine) → MayNote code log (Waits log.instance ticks request)
waits_may_note code log from ticks request line runs low leads =
    let is = waits_line log.instance ticks request in
    record {
      runs = runs;
      left = from;
      line = line;
      short = asked_short ticks request (line_of log.instance (Waits log.instance ticks request ∷ [])) low is;
      leads = subst (λ (t : List Item). Leads code from [] t (state_of log.machine)) (sym is) leads;
      answers = refl;
    }

runs_may_note : (code : Code) (log : Log) (from : State) (ticks : ℕ) → HasLine code log from → RunsOn code log.machine → ticks ≡ 256 → Leads code from [] (ticks_of ticks) (state_of log.machine) → MayNote code log (Runs log.instance ticks)
runs_may_note code log from ticks line runs all leads =
    let is = runs_line log.instance ticks in
    record {
      runs = runs;
      left = from;
      line = line;
      short = paused_short ticks (line_of log.instance (Runs log.instance ticks ∷ [])) all is;
      leads = subst (λ (t : List Item). Leads code from [] t (state_of log.machine)) (sym is) leads;
      answers = refl;
    }

-- the ticks of a whole burst are as many as it says
all_ticks : (code : Code) (from to : State) (ticks : ℕ) → ticks ≡ 256 → Leads code from [] (ticks_of 256) to → Leads code from [] (ticks_of ticks) to
all_ticks code from to ticks all leads = subst (λ (n : ℕ). Leads code from [] (ticks_of n) to) (sym all) leads

-- an event that tells of the burst may be noted
pub may_note : (code : Code) (log : Log) (from : State) (stop : Stop) (event : Event) → HasLine code log from → RunsOn code log.machine → Bursts code 256 from (state_of log.machine) stop → TellsOf log.instance stop event → MayNote code log event
may_note code log from (Asks ticks request) (Did w t r answer refill) line runs b is = rw (is.0, is.1, is.2) (did_may_note code log from ticks request answer refill line runs b.0 b.1)
may_note code log from (Asks ticks request) (Waits w t r) line runs b is = rw (is.0, is.1, is.2) (waits_may_note code log from ticks request line runs b.0 b.1)
may_note code log from (Asks ticks request) (Goes w answer) line runs b is = absurd is
may_note code log from (Asks ticks request) (Runs w t) line runs b is = absurd is
may_note code log from (Paused ticks) (Did w t r answer refill) line runs b is = absurd is
may_note code log from (Paused ticks) (Waits w t r) line runs b is = absurd is
may_note code log from (Paused ticks) (Goes w answer) line runs b is = absurd is
may_note code log from (Paused ticks) (Runs w t) line runs b is = rw (is.0, is.1) (runs_may_note code log from ticks line runs b.0 (all_ticks code from (state_of log.machine) ticks b.0 b.1))

-- a burst that wasn't committed
pub burst_is_log : (code : Code) (log : Log) (from : State) (stop : Stop) → HasLine code log from → Bursts code 256 from (state_of log.machine) stop → IsLog code log
burst_is_log code log from (Asks ticks request) line b = record {
  left = from;
  line = line;
  burst = ticks_of ticks ++ Ask request ∷ [];
  short = asked_short ticks request (ticks_of ticks ++ Ask request ∷ []) b.0 refl;
  leads = b.1;
}
burst_is_log code log from (Paused ticks) line b = record {
  left = from;
  line = line;
  burst = ticks_of ticks;
  short = paused_short ticks (ticks_of ticks) b.0 refl;
  leads = all_ticks code from (state_of log.machine) ticks b.0 b.1;
}

-- a burst that asks nothing has all its ticks
pub is_stop : (code : Code) (from to : State) (stop : Stop) → Bursts code 256 from to stop → IsStop stop
is_stop code from to (Asks ticks request) b = tt
is_stop code from to (Paused ticks) b = b.0

-- the event behind those that stood there
seam : (old : List Event) (event : Event) (goes : List Event) → slice_get (old ++ event ∷ goes) (length old) ≡ Some event
seam [] event goes = refl
seam (o ∷ old) event goes = seam old event goes

grown_at : (old new : View) (event : Event) → Grows old new event → slice_get new.events (length old.events) ≡ Some event
grown_at old new event g = subst (λ (xs : List Event). slice_get xs (length old.events) ≡ Some event) (sym g.events) (seam old.events event g.goes)

-- a reply to what was noted
abbrev pub IsNoting : Reply → Type 0
IsNoting (Now answer) = Unit {0}
IsNoting Later = Unit {0}
IsNoting Over = ⊥
IsNoting Stranger = ⊥

-- the event that was noted stands behind those that stood there
pub noted_there : (old new : View) (who : ℕ) (stop : Stop) (reply : Reply) → NotesStop old new who stop reply → IsNoting reply → (event : Event) × (slice_get new.events (length old.events) ≡ Some event) × TellsOf who stop event
noted_there old new who (Asks ticks request) (Now answer) n is = (Did who ticks request answer n.2.0, grown_at old new (Did who ticks request answer n.2.0) n.2.2, (refl, refl, refl))
noted_there old new who (Asks ticks request) Later n is = (Waits who ticks request, grown_at old new (Waits who ticks request) n.2.1, (refl, refl, refl))
noted_there old new who (Paused ticks) (Now answer) n is = (Runs who ticks, grown_at old new (Runs who ticks) n.3, (refl, refl))
noted_there old new who (Paused ticks) Later n is = absurd n
noted_there old new who (Asks ticks request) Over n is = absurd is
noted_there old new who (Asks ticks request) Stranger n is = absurd is
noted_there old new who (Paused ticks) Over n is = absurd is
noted_there old new who (Paused ticks) Stranger n is = absurd is

-- there is an event there
pub there_is : (old new : View) (who : ℕ) (stop : Stop) (reply : Reply) (place : ℕ) → place ≡ length old.events → NotesStop old new who stop reply → IsNoting reply → place < length new.events
there_is old new who stop reply place is n noting =
    let at = noted_there old new who stop reply n noting in
    subst (λ (k : ℕ). k < length new.events) (sym is) (slice_get_within new.events (length old.events) at.0 at.1)

-- which tells of the burst
pub tells_of : (old new : View) (who : ℕ) (stop : Stop) (reply : Reply) (place : ℕ) (result : Result Outcome Memory) → place ≡ length old.events → NotesStop old new who stop reply → IsNoting reply → IfOk result (λ outcome. IsEventAt new.events place outcome) → IfOk result (IsOutcomeOf who stop)
tells_of old new who stop reply place (Ok (Noted event)) is n noting there =
    let at = noted_there old new who stop reply n noting in
    let here : slice_get new.events (length old.events) ≡ Some event = subst (λ (k : ℕ). slice_get new.events k ≡ Some event) is there in
    let same : at.0 ≡ event = same_Some at.0 event (sym at.1 ∙ here) in
    subst (TellsOf who stop) same at.2
tells_of old new who stop reply place (Ok OutcomeOver) is n noting there = tt
tells_of old new who stop reply place (Ok OutcomeStranger) is n noting there = tt
tells_of old new who stop reply place (Err memory) is n noting there = tt
