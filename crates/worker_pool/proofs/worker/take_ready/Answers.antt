use Rattle.worker_pool.specs.Keeping.{IsReady}
use Rattle.worker_pool.proofs.Keepings.{rest_stay, first_holds}
use Rattle.worker_pool.proofs.worker.take_ready.Goals as goal

pub returns-clause-logs : goal.returns-clause-logs
returns-clause-logs c = λ code h. record {
  ready = rest_stay (IsReady code) _ _ c.pop_front.result c.pop_front.ensures.items h.ready;
  waiting = h.waiting;
  done = h.done;
}

pub returns-clause-ready : goal.returns-clause-ready
returns-clause-ready c = λ code h. first_holds (IsReady code) _ _ c.pop_front.result c.pop_front.ensures.items h.ready
