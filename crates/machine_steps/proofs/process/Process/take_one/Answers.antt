use Rattle.machine_steps.proofs.ReceivingSteps.{take_fails}
use Rattle.machine_steps.proofs.process.Process.take_one.Goals as goal

pub returns-in-None-clause-steps : goal.returns-in-None-clause-steps
returns-in-None-clause-steps c =
    rw (c.throw.ensures.process, c.throw.ensures.stepped) (take_fails c.args.code.now c.args.self.now c.args.count c.args.otherwise c.requires.running c.requires.here c.requires.found c.in-None.ensures.told)
