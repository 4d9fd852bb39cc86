use Rattle.std.proofs.Common.{refl}
use Rattle.kernel_steps.proofs.Steps.{starts_new}
use Rattle.kernel_steps.proofs.seats.start.Goals as goal

pub returns-clause-seated : goal.returns-clause-seated
returns-clause-seated c = λ w scalars h.
    starts_new w c.args.seats.now _ c.args.process scalars c.start-instance.ensures.processes c.start-instance.ensures.phases refl c.push_reserved.ensures.items c.push_reserved-2.ensures.items c.push_reserved-3.ensures.items h
