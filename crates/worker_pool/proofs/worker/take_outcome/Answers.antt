use Rattle.worker_pool.proofs.Keepings.{outcome_noted, outcome_over, outcome_strange}
use Rattle.worker_pool.proofs.worker.take_outcome.Goals as goal

pub returns-in-Noted : goal.returns-in-Noted
returns-in-Noted c = outcome_noted c.take_event.result c.args.worker.now c.take_event.new.worker c.args.log c.args.outcome c.in-Noted.event c.in-Noted.is c.take_event.ensures

pub returns-in-Over : goal.returns-in-Over
returns-in-Over c = outcome_over c.give_up.result c.args.worker.now c.give_up.new.worker c.args.log c.args.outcome c.in-Over.is c.give_up.ensures

pub returns-in-Stranger : goal.returns-in-Stranger
returns-in-Stranger c = outcome_strange c.give_up-in-Stranger.result c.args.worker.now c.give_up-in-Stranger.new.worker c.args.log c.args.outcome c.in-Stranger.is c.give_up-in-Stranger.ensures
