use Rattle.std.proofs.Common.{rules, subst, sym}
use Rattle.machine_steps.specs.declared.process.Doing.{Doing}
use Rattle.machine_steps.specs.Asking.{HasFewSlots}
use Rattle.machine_steps.specs.Views.{state_of}
use Rattle.code_safety.proofs.StandingOn.{stands_at_start}
use Rattle.code_machine.specs.Running.{HasRoomIn}
use Rattle.code_machine.proofs.starting.start_running.Goals as goal

pub returns-clause-runs : goal.returns-clause-runs
returns-clause-runs c =
    let code = c.args.guarded.now in
    let p = c.in_ok-started.started in
    record {
      stands = stands_at_start code c.code.ensures.agrees c.args.instance c.args.process c.args.scalars (state_of p) c.in_ok-started.ensures.starts;
      short = search rules;
      room = subst (λ (doing : Doing). HasRoomIn doing code p) (sym c.in_ok-started.ensures.running) c.in_ok-started.ensures.room;
      few = subst HasFewSlots (sym c.in_ok-started.ensures.running) tt;
    }
