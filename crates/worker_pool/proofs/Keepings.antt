-- The logs of a worker, once one was kept, or taken out.
use Rattle.std.proofs.Common.{◌≡◌, ℕ, ◌<◌, ◌-◌, List, [], ◌∷◌, ◌++◌, length, sym, subst, Option, Some, None, Ok, Err, All, arith}
use Rattle.std.specs.Prelude.{option_to_list, slice_set, slice_index_or, IfSome, OnOk}
use Rattle.std.specs.declared.result.Result.{Result}
use Rattle.std.specs.List.{swap_remove}
use Rattle.std.proofs.lemmas.List.Elements.{All-push, All-append, All-set, All-take, All-get_or, All-weaker, All-head, All-tail}
use Rattle.chill_base.specs.declared.memory.Memory.{Memory}
use Rattle.kernel_base.specs.declared.event.Event.{Event}
use Rattle.code_types.specs.declared.code.Code.{Code}
use Rattle.code_types.specs.State.{State}
use Rattle.machine_steps.specs.Views.{state_of}
use Rattle.code_machine.specs.Running.{IsUp, RunsOn, Bursts}
use Rattle.code_machine.specs.declared.burst.Stop.{Stop}
use Rattle.worker_pool.specs.declared.log.Log.{Log}
use Rattle.worker_pool.specs.declared.worker.Worker.{Worker}
use Rattle.worker_pool.specs.declared.worker.Turn.{Turn}
use Rattle.worker_pool.specs.declared.log.Fit.{Fit}
use Rattle.worker_pool.specs.declared.log.Fit.TheVariants.{Fits, Misfit}
use Rattle.worker_pool.specs.Logs.{HasLine, IsCurrent, IsLog, MayNote, AfterNoting}
use Rattle.worker_pool.specs.Notes.{IsOutcomeOf}
use Rattle.worker_pool.specs.declared.desk.Outcome.{Outcome}
use Rattle.worker_pool.specs.declared.desk.Outcome.TheVariants.{Noted, Over, Stranger}
use Rattle.worker_pool.specs.Keeping.{IsReady, HasLogs, MayTake}
use Rattle.worker_pool.proofs.Lines.{current_is_log}
use Rattle.worker_pool.proofs.Bursts.{may_note, burst_is_log}

-- one more log
pub all_pushed : (P : Log → Type 0) (old new : List Log) (log : Log) → new ≡ old ++ log ∷ [] → All P old → P log → All P new
all_pushed P old new log is all one = subst (All P) (sym is) (All-push P old log all one)

pub ready_of : (code : Code) (log : Log) → IsCurrent code log → IsUp (state_of log.machine).mode → IsReady code log
ready_of code log c up = record { current = c; up = up }

-- the first log is taken out, if there is one
pub rest_stay : (P : Log → Type 0) (old new : List Log) (taken : Option Log) → old ≡ option_to_list taken ++ new → All P old → All P new
rest_stay P old new None is all = subst (All P) is all
rest_stay P old new (Some log) is all = All-tail P log new (subst (All P) is all)

pub first_holds : (P : Log → Type 0) (old new : List Log) (taken : Option Log) → old ≡ option_to_list taken ++ new → All P old → IfSome taken P
first_holds P old new None is all = tt
first_holds P old new (Some log) is all = All-head P log new (subst (All P) is all)

-- a log is taken out, and the last one takes its place
pub taken_out : (P : Log → Type 0) (logs : List Log) (place : ℕ) (log : Log) → place < length logs → log ≡ slice_index_or logs place log → All P logs → P log
taken_out P logs place log low is all = subst P (sym is) (All-get_or P logs place log low all)

pub others_stay : (P : Log → Type 0) (logs : List Log) (place : ℕ) (log : Log) → place < length logs → All P logs → All P (swap_remove logs place log)
others_stay P logs place log low all =
    let last : P (slice_index_or logs (length logs - 1) log) = All-get_or P logs (length logs - 1) log (omega arith) all in
    All-take P (length logs - 1) (slice_set logs place (slice_index_or logs (length logs - 1) log)) (All-set P logs place (slice_index_or logs (length logs - 1) log) last all)

-- all logs of a worker
pub ready_are_logs : (code : Code) (logs : List Log) → All (IsReady code) logs → All (IsLog code) logs
ready_are_logs code logs all = All-weaker (IsReady code) (IsLog code) (λ log r. current_is_log code log r.current) logs all

pub current_are_logs : (code : Code) (logs : List Log) → All (IsCurrent code) logs → All (IsLog code) logs
current_are_logs code logs all = All-weaker (IsCurrent code) (IsLog code) (λ log c. current_is_log code log c) logs all

pub together : (code : Code) (all one two : List Log) → all ≡ one ++ two → All (IsLog code) one → All (IsLog code) two → All (IsLog code) all
together code all one two is a b = subst (All (IsLog code)) (sym is) (All-append (IsLog code) one two a b)

pub ready_items : (code : Code) (ready logs : List Log) → logs ≡ ready → All (IsReady code) ready → All (IsLog code) logs
ready_items code ready logs is all = subst (All (IsLog code)) (sym is) (ready_are_logs code ready all)

-- what holds of each code, where a log is current in place of only a log
pub done_too : (result : Result (Unit {0}) Memory) (old new : Worker) (log : Log) → OnOk result ((code : Code) → HasLogs code old → IsLog code log → HasLogs code new) → OnOk result ((code : Code) → HasLogs code old → IsCurrent code log → HasLogs code new)
done_too (Ok u) old new log kept = λ code h current. kept code h (current_is_log code log current)
done_too (Err memory) old new log kept = tt

-- a log was taken out, and given up
pub given_up : (result : Result Turn Memory) (old mid new : Worker) (log : Log) → ((code : Code) → HasLogs code old → HasLogs code mid) → ((code : Code) → HasLogs code old → IsLog code log) → OnOk result ((code : Code) → HasLogs code mid → IsLog code log → HasLogs code new) → OnOk result ((code : Code) → HasLogs code old → HasLogs code new)
given_up (Ok turn) old mid new log taken is kept = λ code h. kept code (taken code h) (is code h)
given_up (Err memory) old mid new log taken is kept = tt

-- behind an event that was noted, or not
pub kept_event : (old new : Worker) (before after : Log) (event : Event) (fit : Fit) → fit ≡ Fits → ((code : Code) → MayNote code before event → AfterNoting code fit after) → ((code : Code) → HasLogs code old → IsCurrent code after → HasLogs code new) → (code : Code) → HasLogs code old → MayNote code before event → HasLogs code new
kept_event old new before after event Fits is noted kept code h m = kept code h (noted code m)
kept_event old new before after event Misfit is noted kept code h m = absurd (let f : ⊥ = cc in f)

pub event_given_up : (result : Result Turn Memory) (old new : Worker) (before after : Log) (event : Event) (fit : Fit) → fit ≡ Misfit → ((code : Code) → MayNote code before event → AfterNoting code fit after) → OnOk result ((code : Code) → HasLogs code old → IsLog code after → HasLogs code new) → OnOk result ((code : Code) → HasLogs code old → MayNote code before event → HasLogs code new)
event_given_up (Ok turn) old new before after event Misfit is noted kept = λ code h m. kept code h (noted code m)
event_given_up (Ok turn) old new before after event Fits is noted kept = absurd (let f : ⊥ = cc in f)
event_given_up (Err memory) old new before after event fit is noted kept = tt

-- what holds of each code holds of one
pub at_code : (result : Result Turn Memory) (code : Code) (old new : Worker) → HasLogs code old → OnOk result ((code : Code) → HasLogs code old → HasLogs code new) → OnOk result (HasLogs code new)
at_code (Ok turn) code old new h kept = kept code h
at_code (Err memory) code old new h kept = tt

-- what an outcome is
pub outcome_noted : (result : Result Turn Memory) (old new : Worker) (log : Log) (outcome : Outcome) (event : Event) → outcome ≡ Noted event → OnOk result ((code : Code) → HasLogs code old → MayNote code log event → HasLogs code new) → OnOk result ((code : Code) → HasLogs code old → MayTake code log outcome → HasLogs code new)
outcome_noted result old new log outcome event is kept = rw is kept

pub outcome_over : (result : Result Turn Memory) (old new : Worker) (log : Log) (outcome : Outcome) → outcome ≡ Over → OnOk result ((code : Code) → HasLogs code old → IsLog code log → HasLogs code new) → OnOk result ((code : Code) → HasLogs code old → MayTake code log outcome → HasLogs code new)
outcome_over result old new log outcome is kept = rw is kept

pub outcome_strange : (result : Result Turn Memory) (old new : Worker) (log : Log) (outcome : Outcome) → outcome ≡ Stranger → OnOk result ((code : Code) → HasLogs code old → IsLog code log → HasLogs code new) → OnOk result ((code : Code) → HasLogs code old → MayTake code log outcome → HasLogs code new)
outcome_strange result old new log outcome is kept = rw is kept

-- what a burst came to may be taken
may_take : (code : Code) (log : Log) (from : State) (stop : Stop) (outcome : Outcome) → HasLine code log from → RunsOn code log.machine → Bursts code 256 from (state_of log.machine) stop → IsOutcomeOf log.instance stop outcome → MayTake code log outcome
may_take code log from stop (Noted event) line runs b is = may_note code log from stop event line runs b is
may_take code log from stop Over line runs b is = burst_is_log code log from stop line b
may_take code log from stop Stranger line runs b is = burst_is_log code log from stop line b

-- a burst was made
pub burst_made : (result : Result Turn Memory) (code : Code) (old new : Worker) (before after : Log) (stop : Stop) (outcome : Outcome) → HasLogs code old → HasLine code after (state_of before.machine) → RunsOn code after.machine → Bursts code 256 (state_of before.machine) (state_of after.machine) stop → IsOutcomeOf after.instance stop outcome → OnOk result ((code : Code) → HasLogs code old → MayTake code after outcome → HasLogs code new) → OnOk result (HasLogs code new)
burst_made (Ok turn) code old new before after stop outcome h line runs b is kept = kept code h (may_take code after (state_of before.machine) stop outcome line runs b is)
burst_made (Err memory) code old new before after stop outcome h line runs b is kept = tt
