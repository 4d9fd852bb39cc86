use Rattle.worker_pool.proofs.Keepings.{burst_made}
use Rattle.worker_pool.proofs.worker.make_burst.Goals as goal

pub returns : goal.returns
returns g c = burst_made c.take_outcome.result c.args.guarded.now _ c.take_outcome.new.worker c.args.log _ c.in_ok-stop.stop _ (record { ready = c.requires.logs.ready; waiting = c.requires.logs.waiting; done = c.requires.logs.done }) c.requires.ready.current.line c.burst.ensures.runs c.in_ok-stop.ensures.bursts c.in_ok-committed.ensures c.take_outcome.ensures
