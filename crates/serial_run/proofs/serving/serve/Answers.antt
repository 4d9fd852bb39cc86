use Rattle.std.proofs.Common.{◌≡◌, subst, sym}
use Rattle.machine_steps.specs.Views.{state_of}
use Rattle.code_machine.specs.Running.{Bursts}
use Rattle.code_machine.specs.declared.burst.Stop.{Stop}
use Rattle.serial_run.specs.declared.refusal.RunRefusal.{RunRefusal}
use Rattle.serial_run.specs.declared.refusal.RunRefusal.TheVariants as refusals
use Rattle.serial_run.specs.Suiting.{IsUnserved}
use Rattle.serial_run.proofs.Committing.{request_served, pause_served}
use Rattle.serial_run.proofs.Misfits.{unfit_reply, unfit_pause}
use Rattle.serial_run.proofs.Refusing.{if_err}
use Rattle.serial_run.proofs.serving.serve.Goals as goal

pub returns-in_ok-take_reply-in-Asks-clause-stands : goal.returns-in_ok-take_reply-in-Asks-clause-stands
returns-in_ok-take_reply-in-Asks-clause-stands c =
    (request_served c.args.guarded.now c.args.kernel.now c.commit.new.kernel c.args.runner.now c.burst.new.self c.take_reply.new.machine c.in-Asks.ticks c.in-Asks.request c.in_ok-reply-in-Asks.reply
    c.requires.stands c.requires.place c.requires.up
    (subst (λ (stop : Stop). Bursts c.args.guarded.now 256 (state_of c.args.runner.now.machine) (state_of c.burst.new.self) stop) c.in-Asks.is c.in_ok-ticks.ensures.bursts)
    c.burst.ensures.runs c.in_ok-reply-in-Asks.ensures.commits c.in_ok-take_reply-in-Asks.ensures.takes c.is_run.ensures.sound c.is_run.ensures.run).1

pub returns-in_ok-take_note-in-Paused-clause-stands : goal.returns-in_ok-take_note-in-Paused-clause-stands
returns-in_ok-take_note-in-Paused-clause-stands c =
    (pause_served c.args.guarded.now c.args.kernel.now c.pause.new.kernel c.args.runner.now c.burst.new.self c.in-Paused.ticks c.in_ok-reply-in-Paused.reply
    c.requires.stands c.requires.place c.requires.up
    (subst (λ (stop : Stop). Bursts c.args.guarded.now 256 (state_of c.args.runner.now.machine) (state_of c.burst.new.self) stop) c.in-Paused.is c.in_ok-ticks.ensures.bursts)
    c.burst.ensures.runs c.in_ok-reply-in-Paused.ensures.pauses c.in_ok-take_note-in-Paused.ensures.answered c.is_run-in-Paused.ensures.sound c.is_run-in-Paused.ensures.run).1

pub returns-in_ok-take_reply-in-Asks-clause-advances : goal.returns-in_ok-take_reply-in-Asks-clause-advances
returns-in_ok-take_reply-in-Asks-clause-advances c =
    (request_served c.args.guarded.now c.args.kernel.now c.commit.new.kernel c.args.runner.now c.burst.new.self c.take_reply.new.machine c.in-Asks.ticks c.in-Asks.request c.in_ok-reply-in-Asks.reply
    c.requires.stands c.requires.place c.requires.up
    (subst (λ (stop : Stop). Bursts c.args.guarded.now 256 (state_of c.args.runner.now.machine) (state_of c.burst.new.self) stop) c.in-Asks.is c.in_ok-ticks.ensures.bursts)
    c.burst.ensures.runs c.in_ok-reply-in-Asks.ensures.commits c.in_ok-take_reply-in-Asks.ensures.takes c.is_run.ensures.sound c.is_run.ensures.run).0

pub returns-in_ok-take_note-in-Paused-clause-advances : goal.returns-in_ok-take_note-in-Paused-clause-advances
returns-in_ok-take_note-in-Paused-clause-advances c =
    (pause_served c.args.guarded.now c.args.kernel.now c.pause.new.kernel c.args.runner.now c.burst.new.self c.in-Paused.ticks c.in_ok-reply-in-Paused.reply
    c.requires.stands c.requires.place c.requires.up
    (subst (λ (stop : Stop). Bursts c.args.guarded.now 256 (state_of c.args.runner.now.machine) (state_of c.burst.new.self) stop) c.in-Paused.is c.in_ok-ticks.ensures.bursts)
    c.burst.ensures.runs c.in_ok-reply-in-Paused.ensures.pauses c.in_ok-take_note-in-Paused.ensures.answered c.is_run-in-Paused.ensures.sound c.is_run-in-Paused.ensures.run).0

pub returns-in_err-take_reply-in-Asks-clause-unserved : goal.returns-in_err-take_reply-in-Asks-clause-unserved
returns-in_err-take_reply-in-Asks-clause-unserved c = if_err c.from_residual-in_err-take_reply-in-Asks.result _ (IsUnserved c.args.guarded.now c.args.kernel.now) c.from_residual-in_err-take_reply-in-Asks.ensures.1
    (λ refusal is.
    (let same : refusal ≡ refusals.Misfit = is in
    subst (λ (x : RunRefusal). IsUnserved c.args.guarded.now c.args.kernel.now x) (sym same)
    (λ follows is_open suits. unfit_reply c.args.guarded.now c.args.kernel.now c.commit.new.kernel c.args.runner.now c.burst.new.self c.in-Asks.ticks c.in-Asks.request c.in_ok-reply-in-Asks.reply
    c.requires.stands c.requires.up
    (subst (λ (stop : Stop). Bursts c.args.guarded.now 256 (state_of c.args.runner.now.machine) (state_of c.burst.new.self) stop) c.in-Asks.is c.in_ok-ticks.ensures.bursts)
    c.in_ok-reply-in-Asks.ensures.commits c.in_err-take_reply-in-Asks.ensures.misfit c.is_run.ensures.sound c.is_run.ensures.run follows is_open suits)))

pub returns-in_err-take_note-in-Paused-clause-unserved : goal.returns-in_err-take_note-in-Paused-clause-unserved
returns-in_err-take_note-in-Paused-clause-unserved c = if_err c.from_residual-in_err-take_note-in-Paused.result _ (IsUnserved c.args.guarded.now c.args.kernel.now) c.from_residual-in_err-take_note-in-Paused.ensures.1
    (λ refusal is.
    (let same : refusal ≡ refusals.Misfit = is in
    subst (λ (x : RunRefusal). IsUnserved c.args.guarded.now c.args.kernel.now x) (sym same)
    (λ follows is_open suits. unfit_pause c.args.guarded.now c.args.kernel.now c.pause.new.kernel c.args.runner.now c.in-Paused.ticks c.in_ok-reply-in-Paused.reply
    c.requires.stands c.requires.up c.in_ok-reply-in-Paused.ensures.pauses c.in_err-take_note-in-Paused.ensures.misfit c.is_run-in-Paused.ensures.sound follows is_open)))
