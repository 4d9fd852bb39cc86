use Rattle.std.proofs.Common.{arith}
use Rattle.std.proofs.lemmas.Grind.{common_steps}
use denote.Param.Send.{param_send, arg_send}
use Rattle.worker_pool.proofs.Crossing.{taken_send}
use Rattle.worker_pool.proofs.pool.fn.run_workers.scope.Goals.{in-Ok+in_ok-push-in-Ok, in-Err+in_ok-work-in-Err+in_ok-add_logs-in-Err}
use Rattle.worker_pool.proofs.pool.fn.run_workers.scope.Goals as goal

pub loop-worker-preserved : goal.loop-worker-preserved
loop-worker-preserved g c =
    elim c.match-spawn_with.branch [
      | in-Ok+in_ok-push-in-Ok w ↦ (rw w.all-is c.loop-worker.invariant.0, rw w.children-is (grind (arith, common_steps)))
      | in-Err+in_ok-work-in-Err+in_ok-add_logs-in-Err w ↦ (rw w.all-is (w.in_ok-add_logs-in-Err.ensures), rw w.children-is c.loop-worker.invariant.1)
    ]

pub spawn_with-requires-send-F : goal.spawn_with-requires-send-F
spawn_with-requires-send-F g c = λ κs within. search (taken_send g.row.R g.row.G c.requires.0 c.requires.1, param_send, arg_send) depth 10
