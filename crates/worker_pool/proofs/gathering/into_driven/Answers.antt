use Rattle.std.proofs.Common.{subst, sym, List}
use Rattle.kernel_base.specs.declared.event.Event.{Event}
use Rattle.serial_run.specs.declared.runner.Runner.{Runner}
use Rattle.serial_run.specs.Driven.{IsDriven}
use Rattle.worker_pool.specs.Gather.{machines_of}
use Rattle.worker_pool.proofs.Gathered.{gathered}
use Rattle.worker_pool.proofs.gathering.into_driven.Goals as goal

pub returns-clause-run : goal.returns-clause-run
returns-clause-run c =
    subst (λ (ms : List Runner). IsDriven c.args.guarded.now c.args.pool.kernel.facts (record { events = c.into_events-events.result; machines = ms; over = c.args.over })) (sym c.in_ok-machines.ensures)
    (subst (λ (xs : List Event). IsDriven c.args.guarded.now c.args.pool.kernel.facts (record { events = xs; machines = machines_of c.args.pool.workers; over = c.args.over })) (sym c.into_events-events.ensures.events)
    (gathered c.args.guarded.now c.args.pool.kernel.facts c.args.pool.kernel.events c.args.pool.workers c.args.over c.code-code.ensures.agrees c.requires.pool.logs c.requires.pool.was_open c.is_run.ensures.run c.is_run.ensures.bursts c.requires.agrees c.requires.over))
