use Rattle.std.proofs.Common.{subst}
use Rattle.kernel_steps.specs.Seated.{IsIdle}
use Rattle.kernel_steps.specs.View.{View, world_seen}
use Rattle.kernel_core.proofs.calls.Kernel.is_run.Goals as goal

pub returns-clause-idle : goal.returns-clause-idle
returns-clause-idle c = subst (λ (v : View). IsIdle (world_seen v)) c.self.view_is c.is_run.ensures.idle
