-- What a burst and an answer make of a machine.
use Rattle.std.proofs.Common.{◌≡◌, ◌⊎◌, ℕ, ◌+◌, Bool, true, false, refl, sym, ap, ◌∙◌, subst, inl, inr, List, [], ◌∷◌, Option, Some}
use Rattle.std.specs.Prelude.{◌↔◌, IsTrue, MatchBool}
use Rattle.kernel_base.specs.declared.request.Request.{Request}
use Rattle.kernel_base.specs.declared.answer.Answer.{Answer}
use Rattle.code_types.specs.declared.code.Code.{Code}
use Rattle.code_types.specs.State.{State}
use Rattle.code_types.specs.Talk.{Leads}
use Rattle.machine_steps.specs.declared.process.Process.{Process}
use Rattle.machine_steps.specs.Answering.{takes_answer}
use Rattle.machine_steps.specs.Views.{state_of}
use Rattle.code_machine.specs.declared.burst.Stop.{Stop}
use Rattle.code_machine.specs.declared.burst.Stop.TheVariants.{Asks, Paused}
use Rattle.code_machine.specs.Running.{Bursts, GoesOnBehind, RunsOn}
use Rattle.run_checker.specs.Slots.{HasAsked, HasRun, Misses, Takes}

asked_by : (code : Code) (ticks : ℕ) (request : Request) (old new : Option Process) (from to : Process) (stop : Stop) → old ≡ Some from → new ≡ Some to → Bursts code (ticks + 1) (state_of from) (state_of to) stop → RunsOn code to
    → stop ≡ Asks ticks request → HasAsked code ticks request old new
asked_by code ticks request old new from to stop was is bursts runs same =
    let b : Bursts code (ticks + 1) (state_of from) (state_of to) (Asks ticks request) = subst (λ (s : Stop). Bursts code (ticks + 1) (state_of from) (state_of to) s) same bursts in
    record { from = from; to = to; was = was; is = is; runs = runs; leads = b.1; waits = b.2 }

-- what the burst of a machine tells, once it is held against what is wanted
pub told_asked : (code : Code) (ticks : ℕ) (request : Request) (old new : Option Process) (from to : Process) (stop : Stop) (yes : Bool) → old ≡ Some from → new ≡ Some to → Bursts code (ticks + 1) (state_of from) (state_of to) stop → RunsOn code to
    → (IsTrue yes ↔ (stop ≡ Asks ticks request)) → MatchBool yes (HasAsked code ticks request old new) (Misses code (ticks + 1) (Asks ticks request) old)
told_asked code ticks request old new from to stop true was is bursts runs told = asked_by code ticks request old new from to stop was is bursts runs (told.0 refl)
told_asked code ticks request old new from to stop false was is bursts runs told =
    inr (record { from = from; was = was; stop = stop; to = state_of to; bursts = bursts; other = λ e. let f : false ≡ true = told.1 e in let no : ⊥ = cc in no })

run_by : (code : Code) (ticks : ℕ) (old new : Option Process) (from to : Process) (stop : Stop) → old ≡ Some from → new ≡ Some to → Bursts code ticks (state_of from) (state_of to) stop → RunsOn code to → stop ≡ Paused ticks → HasRun code ticks old new
run_by code ticks old new from to stop was is bursts runs same =
    let b : Bursts code ticks (state_of from) (state_of to) (Paused ticks) = subst (λ (s : Stop). Bursts code ticks (state_of from) (state_of to) s) same bursts in
    record { from = from; to = to; was = was; is = is; runs = runs; leads = b.1; up = b.2 }

pub told_run : (code : Code) (ticks : ℕ) (old new : Option Process) (from to : Process) (stop : Stop) (yes : Bool) → old ≡ Some from → new ≡ Some to → Bursts code ticks (state_of from) (state_of to) stop → RunsOn code to
    → (IsTrue yes ↔ (stop ≡ Paused ticks)) → MatchBool yes (HasRun code ticks old new) (Misses code ticks (Paused ticks) old)
told_run code ticks old new from to stop true was is bursts runs told = run_by code ticks old new from to stop was is bursts runs (told.0 refl)
told_run code ticks old new from to stop false was is bursts runs told =
    inr (record { from = from; was = was; stop = stop; to = state_of to; bursts = bursts; other = λ e. let f : false ≡ true = told.1 e in let no : ⊥ = cc in no })

-- a machine that takes its answer
pub takes_on : (code : Code) (answer given : Answer) (ends : Bool) (old new : Option Process) (from to : Process) → old ≡ Some from → new ≡ Some to → given ≡ answer → ends ≡ false → takes_answer (state_of from).mode answer ≡ true
    → Leads code (state_of from) (given ∷ []) [] (state_of to) → (RunsOn code from → RunsOn code to) → GoesOnBehind (state_of from).mode (state_of to).mode → Takes code answer ends old new
takes_on code answer given ends old new from to was is same goes takes leads runs going =
    subst (λ (o : Option Process). Takes code answer ends o new) (sym was)
    (inl (record { to = to; is = is; takes = takes; leads = subst (λ (a : Answer). Leads code (state_of from) (a ∷ []) [] (state_of to)) same leads; runs = runs; going = going }, goes))
