use Rattle.kernel_steps.proofs.Delays.{sleeps_open}
use Rattle.kernel_steps.proofs.Beginning.{trades_open}
use Rattle.kernel_steps.proofs.opening.new_queues.Goals as goal

pub returns-clause-sleeps : goal.returns-clause-sleeps
returns-clause-sleeps c = sleeps_open c.args.facts.now c.in_ok-new.field-0 c.in_ok-new.ensures.lengths c.in_ok-new.ensures.delayed c.in_ok-new.ensures.waiting

pub returns-clause-trades : goal.returns-clause-trades
returns-clause-trades c = trades_open c.args.facts.now c.in_ok-new-2.field-0 c.in_ok-new-2.ensures.lengths c.in_ok-new-2.ensures.stored c.in_ok-new-2.ensures.nobody.0 c.in_ok-new-2.ensures.nobody.1
