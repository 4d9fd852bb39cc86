use Rattle.std.proofs.Common.{refl}
use Rattle.kernel_steps.proofs.Steps.{enters}
use Rattle.kernel_steps.proofs.seats.enter.Goals as goal

pub returns-clause-seated : goal.returns-clause-seated
returns-clause-seated c = λ w h active may.
    enters w c.args.seats.now _ c.args.who c.args.region active may (record { processes = refl; phases = refl; backs = refl; chosen = refl; fetch_each = refl }) refl c.lock-locked.ensures.occupants c.lock-locked.ensures.locks c.lock-locked.ensures.queues h
