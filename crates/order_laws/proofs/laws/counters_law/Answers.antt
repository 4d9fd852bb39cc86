use Rattle.order_laws.proofs.laws.counters_law.Goals as goal
use Rattle.order_laws.proofs.Counters.{counters_apart}
use Rattle.order_laws.proofs.TextCounters.{but_counters}
use Rattle.order_laws.proofs.CounterDepths.{counters_deep}
use Rattle.order_laws.proofs.CounterOrder.{counters_rise}
use Rattle.order_laws.proofs.Counted.{counted_law}

pub returns-clause-looked_up : goal.returns-clause-looked_up
returns-clause-looked_up c = counters_apart

pub returns-clause-text : goal.returns-clause-text
returns-clause-text c = but_counters

pub returns-clause-deep : goal.returns-clause-deep
returns-clause-deep c = counters_deep

pub returns-clause-rise : goal.returns-clause-rise
returns-clause-rise c = counters_rise

pub returns-clause-counted : goal.returns-clause-counted
returns-clause-counted c = counted_law
