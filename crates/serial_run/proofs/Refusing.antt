-- What the refusals of the parts tell of a run's.
use Rattle.std.proofs.Common.{◌≡◌, Ok, Err, List, [], sym, subst, append-nil, None}
use Rattle.std.specs.Prelude.{IfErr, IsErrAnd, OnErr}
use Rattle.std.specs.declared.result.Result.{Result}
use Rattle.kernel_base.specs.declared.facts.Facts.{Facts}
use Rattle.kernel_base.specs.declared.event.Event.{Event}
use Rattle.world_model.specs.Over.{over_of}
use Rattle.code_types.specs.declared.code.Code.{Code}
use Rattle.code_types.specs.Runs.{Suits}
use Rattle.kernel_steps.specs.View.{View, TakesNext}
use Rattle.kernel_steps.specs.declared.reply.New.{New}
use Rattle.serial_run.specs.declared.refusal.RunRefusal.{RunRefusal}
use Rattle.serial_run.specs.declared.refusal.RunRefusal.TheVariants.{Misfit, Memory}
use Rattle.serial_run.specs.declared.runner.Runner.{Runner}
use Rattle.serial_run.specs.Standing.{AllStand, KeepsJournal}
use Rattle.serial_run.specs.Suiting.{IsRefused, IsUnserved, IsUnstarted}
use Rattle.serial_run.proofs.Misfits.{unfit_start}

-- of an error that is known something else is known
pub if_err : {T E : Type 0} (r : Result T E) (P Q : E → Type 0) → IsErrAnd r P → ((e : E) → P e → Q e) → IfErr r Q
if_err (Ok x) P Q known gives = absurd known
if_err (Err e) P Q known gives = gives e known

pub on_err : {T E : Type 0} (r : Result T E) (P : Type 0) → P → OnErr r P
on_err (Ok x) P holds = tt
on_err (Err e) P holds = holds

-- the same of other facts that are equal
pub refused_by : (code : Code) (facts other : Facts) (refusal : RunRefusal) → other ≡ facts → IsRefused code other refusal → IsRefused code facts refusal
refused_by code facts other refusal same refused = subst (λ (x : Facts). IsRefused code x refusal) same refused

pub unstarted_refused : (code : Code) (old new : View) (runners : List Runner) (taken : New) (refusal : RunRefusal) → AllStand code old runners → TakesNext old new taken → IsUnstarted code taken refusal → IsRefused code old.facts refusal
unstarted_refused code old new runners taken Misfit led t not = unfit_start code old new runners taken led t not
unstarted_refused code old new runners taken Memory led t not = tt

-- a run isn't over where its journal is that of one that isn't
pub open_kept : (old mid : View) → KeepsJournal old mid → over_of old.facts old.events ≡ None → over_of mid.facts mid.events ≡ None
open_kept old mid k is_open = subst (λ (x : Facts). over_of x mid.events ≡ None) (sym k.facts) (subst (λ (xs : List Event). over_of old.facts xs ≡ None) (sym k.events) is_open)

pub unserved_refused : (code : Code) (old mid : View) (runners : List Runner) (refusal : RunRefusal) → KeepsJournal old mid → AllStand code mid runners → over_of old.facts old.events ≡ None → IsUnserved code mid refusal → IsRefused code old.facts refusal
unserved_refused code old mid runners Misfit k led is_open unserved = λ suits.
    unserved (led.follow mid.events [] (sym (append-nil mid.events))) (open_kept old mid k is_open)
    (subst (λ (x : Facts). Suits code x) (sym k.facts) suits)
unserved_refused code old mid runners Memory k led is_open unserved = tt
