use Rattle.std.proofs.Common.{arith}
use Rattle.machine_steps.proofs.CallSteps.{call_ticks, call_raises}
use Rattle.machine_steps.proofs.process.Process.call.Goals as goal

pub returns-then-few-clause-steps : goal.returns-then-few-clause-steps
returns-then-few-clause-steps c = call_ticks c.args.code.now c.args.self.now c.args.callee c.requires.running c.requires.here c.requires.found (omega arith)

pub returns-else-few-clause-steps : goal.returns-else-few-clause-steps
returns-else-few-clause-steps c = call_raises c.args.code.now c.args.self.now c.args.callee c.requires.running c.requires.here c.requires.found (omega arith)
