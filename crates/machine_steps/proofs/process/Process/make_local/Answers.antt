use Rattle.std.proofs.Common.{ap}
use Rattle.machine_frames.specs.declared.activation.Activation.{Activation}
use Rattle.machine_steps.proofs.LocalSteps.{local_goes, local_ticks, local_raises}
use Rattle.machine_steps.proofs.process.Process.make_local.Goals as goal

pub returns-in-GoesOn-clause-steps : goal.returns-in-GoesOn-clause-steps
returns-in-GoesOn-clause-steps c = local_goes c.args.code.now c.args.self.now c.act.new.top c.args.instr c.requires.running c.requires.here c.requires.can.operands c.in-GoesOn.ensures.does

pub returns-in-Ticks-clause-steps : goal.returns-in-Ticks-clause-steps
returns-in-Ticks-clause-steps c = local_ticks c.args.code.now c.args.self.now c.act.new.top c.args.instr c.requires.running c.requires.here c.requires.can.operands c.in-Ticks.ensures.does

pub returns-in-Raises-clause-steps : goal.returns-in-Raises-clause-steps
returns-in-Raises-clause-steps c = local_raises c.args.code.now c.args.self.now c.act.new.top c.args.instr c.in-Raises.exception c.requires.running c.requires.here c.requires.can.operands c.in-Raises.ensures.does

pub returns-in-Elsewhere-clause-steps : goal.returns-in-Elsewhere-clause-steps
returns-in-Elsewhere-clause-steps c = ap (λ (top : Activation). record c.args.self.now { top = top }) c.in-Elsewhere.ensures.does.1

pub returns-in-Elsewhere-clause-wants : goal.returns-in-Elsewhere-clause-wants
returns-in-Elsewhere-clause-wants c = c.in-Elsewhere.ensures.does.0
