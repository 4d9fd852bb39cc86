use Rattle.std.proofs.Common.{ap, List, ℤ}
use Rattle.code_types.specs.Steps.{moved}
use Rattle.machine_frames.specs.Frames.{frame_of}
use Rattle.machine_steps.proofs.RaisingSteps.{land_step}
use Rattle.machine_steps.proofs.process.Process.land.Goals as goal

pub returns-clause-steps : goal.returns-clause-steps
returns-clause-steps c =
    land_step c.args.code.now c.args.self.now (record c.args.self.now.top { place = c.args.target; stack = c.truncate.new.self }) c.args.exception c.args.target c.args.height c.requires.raising c.requires.taken
    (ap (λ (stack : List ℤ). moved (frame_of c.args.self.now.top) c.args.target stack) c.truncate.ensures.items)
