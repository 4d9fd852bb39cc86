use Rattle.worker_pool.proofs.Keepings.{together, ready_items, current_are_logs}
use Rattle.worker_pool.proofs.worker.into_logs.Goals as goal

pub returns : goal.returns
returns c = λ code h. together code c.append-2.new.self.items c.append.new.self.items c.into_vec-ready.result.items c.in_ok-append-2.ensures.items (together code c.append.new.self.items c.args.worker.done.items c.args.worker.waiting.items c.in_ok-append.ensures.items h.done (current_are_logs code c.args.worker.waiting.items h.waiting)) (ready_items code c.args.worker.ready.items c.into_vec-ready.result.items c.into_vec-ready.ensures.items h.ready)
