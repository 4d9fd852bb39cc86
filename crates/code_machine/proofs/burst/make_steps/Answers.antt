use Rattle.std.proofs.Common.{◌+◌, ◌-◌, ◌<◌, arith}
use Rattle.machine_steps.specs.Views.{state_of}
use Rattle.code_safety.proofs.StandingOn.{stands_after_tick}
use Rattle.code_machine.proofs.Bursting.{can_step, goes_on, ticks_on, asks_runs, pauses_runs, asks_bursts, pauses_bursts}
use Rattle.code_machine.proofs.Weighing.{goes_falls, makes_falls}
use Rattle.code_machine.proofs.burst.make_steps.Goals as goal

pub step-requires : goal.step-requires
step-requires c = can_step c.args.code.now c.args.most (state_of c.args.process.now) c.steps.ticks c.steps.process c.steps.room c.steps.invariant

pub steps-smaller-in-GoesOn : goal.steps-smaller-in-GoesOn
steps-smaller-in-GoesOn c = goes_falls c.args.code.now (c.args.most - c.steps.ticks) (state_of c.steps.process) (state_of c.step.new.process) c.steps.invariant.stands c.in-GoesOn.ensures.steps

pub steps-preserved-in-GoesOn : goal.steps-preserved-in-GoesOn
steps-preserved-in-GoesOn c = goes_on c.args.code.now c.args.most (state_of c.args.process.now) c.steps.ticks c.steps.process c.step.new.process c.steps.room c.step.new.room c.steps.invariant c.in-GoesOn.ensures.steps c.step.ensures.memory c.in-GoesOn.ensures.room

pub returns-then-ticks-most-clause-bursts : goal.returns-then-ticks-most-clause-bursts
returns-then-ticks-most-clause-bursts c = pauses_bursts c.args.code.now c.args.most (state_of c.args.process.now) c.steps.ticks c.steps.process c.step.new.process c.steps.room c.steps.invariant c.in-Ticks.ensures.steps c.if-ticks-most.true

pub returns-then-ticks-most-clause-runs : goal.returns-then-ticks-most-clause-runs
returns-then-ticks-most-clause-runs c = pauses_runs c.args.code.now c.args.most (state_of c.args.process.now) c.steps.ticks c.steps.process c.step.new.process c.steps.room c.steps.invariant c.in-Ticks.ensures.steps c.step.ensures.memory c.step.ensures.few

pub steps-smaller : goal.steps-smaller
steps-smaller c =
    let below : c.steps.ticks < c.args.most = c.steps.invariant.below in
    makes_falls c.args.code.now (c.args.most - c.steps.ticks) (c.args.most - (c.steps.ticks + 1)) (state_of c.steps.process) (state_of c.step.new.process)
    (stands_after_tick c.args.code.now (state_of c.steps.process) (state_of c.step.new.process) c.steps.invariant.stands c.in-Ticks.ensures.steps) (omega arith)

pub steps-preserved : goal.steps-preserved
steps-preserved c =
    let below : c.steps.ticks < c.args.most = c.steps.invariant.below in
    let other = c.if-ticks-most.false in
    ticks_on c.args.code.now c.args.most (state_of c.args.process.now) c.steps.ticks c.steps.process c.step.new.process c.steps.room c.step.new.room c.steps.invariant c.in-Ticks.ensures.steps c.step.ensures.memory c.in-Ticks.ensures.room (omega arith)

pub returns-in-Asks-clause-bursts : goal.returns-in-Asks-clause-bursts
returns-in-Asks-clause-bursts c = asks_bursts c.args.code.now c.args.most (state_of c.args.process.now) c.steps.ticks c.steps.process c.step.new.process c.steps.room c.in-Asks.request c.steps.invariant c.in-Asks.ensures.steps

pub returns-in-Asks-clause-runs : goal.returns-in-Asks-clause-runs
returns-in-Asks-clause-runs c = asks_runs c.args.code.now c.args.most (state_of c.args.process.now) c.steps.ticks c.steps.process c.step.new.process c.steps.room c.in-Asks.request c.steps.invariant c.in-Asks.ensures.steps c.step.ensures.memory c.step.ensures.few
