use Rattle.std.proofs.Common.{subst, sym, ap, ◌∙◌, List, length, arith}
use Rattle.std.proofs.lemmas.List.{take_at}
use Rattle.serial_run.specs.declared.runner.Runner.{Runner}
use Rattle.serial_run.specs.Standing.{AllStand}
use Rattle.code_types.specs.Runs.{Suits}
use Rattle.serial_run.proofs.Finishing.{finished_fetched}
use Rattle.serial_run.proofs.Refusing.{on_err}
use Rattle.serial_run.proofs.serial.finish.Goals as goal

pub returns-clause-driven : goal.returns-clause-driven
returns-clause-driven c = finished_fetched c.args.guarded.now c.args.kernel c.fetch_all.new.kernel c.deref_mut.result.now c.fetch_all.new.runners c.from_vec.result c.into_events.result c.args.over
    (c.in_ok-fetch_all.ensures.stand c.args.guarded.now) c.in_ok-fetch_all.ensures.fetched c.fetch_all.ensures.journal (subst (λ (rs : List Runner). AllStand c.args.guarded.now c.args.kernel rs) (sym c.deref_mut.ensures.value) c.requires.stand) c.requires.all c.requires.over c.is_run.ensures.bursts c.into_events.ensures.events (c.from_vec.ensures ∙ take_at c.fetch_all.new.runners _ c.args.runners.len (let e = ap length c.deref_mut.ensures.value in omega (arith, e)))

pub returns-in_err-fetch_all-clause-misfit : goal.returns-in_err-fetch_all-clause-misfit
returns-in_err-fetch_all-clause-misfit c = on_err c.from_residual.result (Suits c.args.guarded.now c.args.kernel.facts → ⊥) (c.in_err-fetch_all.ensures.misfit c.args.guarded.now (subst (λ (rs : List Runner). AllStand c.args.guarded.now c.args.kernel rs) (sym c.deref_mut.ensures.value) c.requires.stand))
