use Rattle.std.proofs.Common.{sym, subst}
use Rattle.kernel_base.specs.declared.event.Event.{Event}
use Rattle.worker_pool.specs.LogPlaces.{Begets}
use Rattle.worker_pool.proofs.log_births.start_in.Goals as goal

pub returns-in-Did : goal.returns-in-Did
returns-in-Did c = subst (λ (e : Event). Begets e c.start_with.result) (sym c.in-Did.is) (c.start_with.ensures c.in-Did.who c.in-Did.ticks c.in-Did.refill)
