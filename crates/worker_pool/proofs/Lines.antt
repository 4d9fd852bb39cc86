-- A log's line, once more was noted.
use Rattle.std.proofs.Common.{◌≡◌, ℕ, List, [], ◌∷◌, ◌++◌, ℤ, refl, sym, ap, ◌∙◌, subst, inl, arith, append-nil, true, Some, None, Ok, Err}
use Rattle.std.specs.Prelude.{◌==◌, option_to_list, IfOk}
use Rattle.std.proofs.lemmas.Bool.{eq-eqb}
use Rattle.std.specs.declared.result.Result.{Result}
use Rattle.chill_base.specs.declared.memory.Memory.{Memory}
use Rattle.kernel_base.specs.declared.answer.Answer.{Answer}
use Rattle.kernel_base.specs.declared.event.Event.{Event}
use Rattle.kernel_base.specs.declared.event.Event.TheVariants.{Goes}
use Rattle.world_model.specs.Session.{Item}
use Rattle.world_model.specs.Journal.{line_of, answers_of}
use Rattle.code_types.specs.declared.code.Code.{Code}
use Rattle.code_types.specs.State.{State}
use Rattle.code_types.specs.Talk.{Leads, Reaches}
use Rattle.code_types.proofs.Shifts.{leads_on}
use Rattle.machine_steps.specs.Views.{state_of}
use Rattle.code_machine.specs.Running.{RunsOn}
use Rattle.serial_run.proofs.Coming.{line_more, answers_more}
use Rattle.kernel_steps.specs.declared.reply.New.{New}
use Rattle.serial_run.specs.declared.runner.Runner.{Runner}
use Rattle.serial_run.specs.Standing.{StartsAs}
use Rattle.worker_pool.specs.declared.log.Fit.{Fit}
use Rattle.worker_pool.specs.declared.log.Fit.TheVariants.{Fits, Misfit}
use Rattle.worker_pool.specs.declared.log.Log.{Log}
use Rattle.worker_pool.specs.Logs.{HasLine, IsCurrent, IsLog, answer_at_once, MayNote, AfterNoting, HasNoted, HasTaken, NotesAnswer}

goes_answers : (i : ℕ) (answer : Answer) → answers_of i (Goes i answer ∷ []) ≡ answer ∷ []
goes_answers i answer = let own : (i == i) ≡ true = eq-eqb i i refl in rw own refl

-- nothing leads from a state to itself
pub stays_there : (code : Code) (s : State) → Leads code s [] [] s
stays_there code s = record { count = 0; ticks = 0; left = 0; by = refl }

-- what is reached, and then led to by what was noted
reaches_noted : (code : Code) (i process : ℕ) (arguments : List ℤ) (events more : List Event) (from to : State)
    → Reaches code i process arguments (answers_of i events) (line_of i events) from → Leads code from (answers_of i more) (line_of i more) to
    → Reaches code i process arguments (answers_of i (events ++ more)) (line_of i (events ++ more)) to
reaches_noted code i process arguments events more from to r l =
    subst (λ (t : List Item). Reaches code i process arguments (answers_of i (events ++ more)) t to) (sym (line_more i events more))
    (subst (λ (a : List Answer). Reaches code i process arguments a (line_of i events ++ line_of i more) to) (sym (answers_more i events more)) (record {
      start = r.start;
      starts = r.starts;
      leads = leads_on code r.start from to (answers_of i events) (answers_of i more) (line_of i events) (line_of i more) r.leads l;
    }))

-- the same of a log
has_line : (code : Code) (old new : Log) (event : Event) (from to : State) → HasNoted old new event → HasLine code old from → Leads code from (answers_of old.instance (event ∷ [])) (line_of old.instance (event ∷ [])) to → HasLine code new to
has_line code old new event from to n line leads =
    let there : Reaches code old.instance old.process old.scalars (answers_of old.instance (old.events ++ event ∷ [])) (line_of old.instance (old.events ++ event ∷ [])) to = reaches_noted code old.instance old.process old.scalars old.events (event ∷ []) from to line leads in
    let here : Reaches code new.instance new.process new.scalars (answers_of new.instance new.events) (line_of new.instance new.events) to = rw (n.instance, n.process, n.scalars, n.events) there in
    here

-- a burst, and the answer behind it
burst_answered : (code : Code) (from asking after : State) (line : List Item) (answers : List Answer) (answer : Answer) → Leads code from [] line asking → answers ≡ answer ∷ [] → Leads code asking (answer ∷ []) [] after → Leads code from answers line after
burst_answered code from asking after line answers answer made is taken =
    let both : Leads code from (answer ∷ []) (line ++ []) after = leads_on code from asking after [] (answer ∷ []) line [] made taken in
    subst (λ (a : List Answer). Leads code from a line after) (sym is) (subst (λ (t : List Item). Leads code from (answer ∷ []) t after) (append-nil line) both)

-- an event was noted whose answer the machine took
taken_is_current : (code : Code) (old new : Log) (event : Event) (answer : Answer) (left : State)
    → HasLine code old left → Leads code left [] (line_of old.instance (event ∷ [])) (state_of old.machine) → answers_of old.instance (event ∷ []) ≡ answer ∷ [] → RunsOn code old.machine
    → HasTaken old new event answer → IsCurrent code new
taken_is_current code old new event answer left line leads answers runs t = record {
  runs = t.runs code runs;
  line = has_line code old new event left (state_of new.machine) t.noted line (burst_answered code left (state_of old.machine) (state_of new.machine) (line_of old.instance (event ∷ [])) (answers_of old.instance (event ∷ [])) answer leads answers (t.leads code));
}

-- an event was noted that brought no answer
pub noted_is_current : (code : Code) (old new : Log) (event : Event) → answer_at_once event ≡ None → HasNoted old new event → new.machine ≡ old.machine → MayNote code old event → IsCurrent code new
noted_is_current code old new event none n same m =
    let answers : answers_of old.instance (event ∷ []) ≡ [] = m.answers ∙ ap option_to_list none in
    let line : HasLine code new (state_of old.machine) = has_line code old new event m.left (state_of old.machine) n m.line (subst (λ (a : List Answer). Leads code m.left a (line_of old.instance (event ∷ [])) (state_of old.machine)) (sym answers) m.leads) in
    record {
      runs = subst (RunsOn code) (sym same) m.runs;
      line = rw same line;
    }

-- a log that is current is one, and one that stands past its line by a burst
pub current_is_log : (code : Code) (log : Log) → IsCurrent code log → IsLog code log
current_is_log code log c = record {
  left = state_of log.machine;
  line = c.line;
  burst = [];
  short = (0, omega arith, inl refl);
  leads = stays_there code (state_of log.machine);
}

pub noting_is_log : (code : Code) (log : Log) (event : Event) → MayNote code log event → IsLog code log
noting_is_log code log event m = record {
  left = m.left;
  line = m.line;
  burst = line_of log.instance (event ∷ []);
  short = m.short;
  leads = m.leads;
}

-- an event is to be noted whose answer came at once
pub answer_noted : (old new : Log) (event : Event) (answer : Answer) (result : Result Fit Memory) → answer_at_once event ≡ Some answer → IfOk result (NotesAnswer old new event answer) → IfOk result (λ fit. (code : Code) → MayNote code old event → AfterNoting code fit new)
answer_noted old new event answer (Ok Fits) is t = λ code m. taken_is_current code old new event answer m.left m.line m.leads (m.answers ∙ ap option_to_list is) m.runs t
answer_noted old new event answer (Ok Misfit) is t = λ code m. subst (IsLog code) (sym t) (noting_is_log code old event m)
answer_noted old new event answer (Err memory) is t = tt

-- an answer came for which the process waited
pub answer_fetched : (old new : Log) (copy answer : Answer) (result : Result Fit Memory) → copy ≡ answer → IfOk result (NotesAnswer old new (Goes old.instance copy) answer) → IfOk result (λ fit. (code : Code) → IsCurrent code old → IsCurrent code new)
answer_fetched old new copy answer (Ok Fits) same t = λ code c. taken_is_current code old new (Goes old.instance copy) answer (state_of old.machine) c.line (stays_there code (state_of old.machine)) (goes_answers old.instance copy ∙ ap (λ (a : Answer). a ∷ []) same) c.runs t
answer_fetched old new copy answer (Ok Misfit) same t = λ code c. subst (IsCurrent code) (sym t) c
answer_fetched old new copy answer (Err memory) same t = tt

-- a process that was started, before its first event
pub started_is_current : (code : Code) (log : Log) (taken : New) (runner : Runner) → StartsAs code taken runner
    → log.instance ≡ runner.instance → log.process ≡ taken.process → log.scalars ≡ taken.scalars → log.events ≡ [] → log.machine ≡ runner.machine → IsCurrent code log
started_is_current code log taken runner s instance process scalars none machine =
    let reached : Reaches code taken.instance taken.process taken.scalars [] [] (state_of runner.machine) = record { start = state_of runner.machine; starts = s.starts; leads = stays_there code (state_of runner.machine) } in
    let there : Reaches code log.instance log.process log.scalars (answers_of log.instance log.events) (line_of log.instance log.events) (state_of log.machine) = rw (instance ∙ s.instance, process, scalars, none, machine) reached in
    record { runs = subst (RunsOn code) (sym machine) s.runs; line = there }
