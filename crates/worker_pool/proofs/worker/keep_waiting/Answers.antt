use Rattle.worker_pool.specs.Logs.{IsCurrent}
use Rattle.worker_pool.proofs.Keepings.{all_pushed}
use Rattle.worker_pool.proofs.worker.keep_waiting.Goals as goal

pub returns : goal.returns
returns c = λ code h current. record { ready = h.ready; waiting = all_pushed (IsCurrent code) _ _ c.args.log c.in_ok-push.ensures.items h.waiting current; done = h.done }
