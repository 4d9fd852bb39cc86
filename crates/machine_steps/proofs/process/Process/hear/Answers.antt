use Rattle.machine_steps.proofs.ReceivingSteps.{hear_fails}
use Rattle.machine_steps.proofs.process.Process.hear.Goals as goal

pub returns-in-None-clause-steps : goal.returns-in-None-clause-steps
returns-in-None-clause-steps c =
    rw (c.throw.ensures.process, c.throw.ensures.stepped) (hear_fails c.args.code.now c.args.self.now c.args.count c.args.otherwise c.requires.running c.requires.here c.requires.found c.in-None.ensures.told)
