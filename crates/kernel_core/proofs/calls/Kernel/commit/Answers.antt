use Rattle.std.proofs.Common.{subst}
use Rattle.kernel_steps.specs.View.{View, view_of, Commits}
use Rattle.kernel_core.proofs.calls.Kernel.commit.Goals as goal

pub returns : goal.returns
returns c = subst (λ (v : View). Commits v (view_of c.commit.new.s) c.args.who c.args.ticks c.args.request c.commit.result) c.self.view_is c.commit.ensures.commits
