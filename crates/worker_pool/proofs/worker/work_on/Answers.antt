use Rattle.std.proofs.lemmas.Result.{IfOk-weaker}
use Rattle.worker_pool.proofs.worker.work_on.Goals as goal

pub make_turns-requires-after_bounds : goal.make_turns-requires-after_bounds
make_turns-requires-after_bounds g c κs within = c.new-worker.ensures c.args.guarded.now

pub returns : goal.returns
returns g c = IfOk-weaker c.into_logs.result _ _ (λ logs all. all c.args.guarded.now (c.in_ok-take_last.ensures c.args.guarded.now c.in_ok-make_turns.ensures)) c.into_logs.ensures
