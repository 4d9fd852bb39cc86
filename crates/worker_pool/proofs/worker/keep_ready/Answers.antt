use Rattle.worker_pool.specs.Keeping.{IsReady}
use Rattle.worker_pool.proofs.Keepings.{all_pushed, ready_of}
use Rattle.worker_pool.proofs.worker.keep_ready.Goals as goal

pub returns : goal.returns
returns c = λ code h current. record { ready = all_pushed (IsReady code) _ _ c.args.log c.in_ok-push_back.ensures.items h.ready (ready_of code c.args.log current c.requires); waiting = h.waiting; done = h.done }
