use Rattle.worker_pool.specs.Logs.{IsCurrent}
use Rattle.std.proofs.Common.{subst, sym, All, ◌<◌, length, rules}
use Rattle.worker_pool.proofs.Keepings.{taken_out, others_stay}
use Rattle.worker_pool.proofs.worker.take_waiting.Goals as goal

pub returns : goal.returns
returns c =
    let low : c.args.place < length c.args.worker.now.waiting.items = search rules in
    λ code h. (record { ready = h.ready; waiting = subst (All (IsCurrent code)) (sym c.swap_remove.ensures.items) (others_stay (IsCurrent code) c.args.worker.now.waiting.items c.args.place c.swap_remove.result low h.waiting); done = h.done }, taken_out (IsCurrent code) c.args.worker.now.waiting.items c.args.place c.swap_remove.result low c.swap_remove.ensures.value h.waiting)
