use Rattle.std.proofs.Common.{subst}
use Rattle.kernel_steps.specs.View.{View, view_of, Pauses}
use Rattle.kernel_core.proofs.calls.Kernel.pause.Goals as goal

pub returns : goal.returns
returns c = subst (λ (v : View). Pauses v (view_of c.pause.new.s) c.args.who c.args.ticks c.pause.result) c.self.view_is c.pause.ensures.pauses
