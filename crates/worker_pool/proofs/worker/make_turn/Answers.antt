use Rattle.std.proofs.Common.{subst}
use Rattle.std.specs.Prelude.{IfSome}
use Rattle.worker_pool.specs.Keeping.{IsReady}
use Rattle.worker_pool.proofs.worker.make_turn.Goals as goal

pub make_burst-requires-clause-logs : goal.make_burst-requires-clause-logs
make_burst-requires-clause-logs g c κs within = c.take_ready.ensures.logs c.args.guarded.now c.requires

pub make_burst-requires-clause-ready : goal.make_burst-requires-clause-ready
make_burst-requires-clause-ready g c κs within = subst (λ o. IfSome o (IsReady c.args.guarded.now)) c.in-Some.is (c.take_ready.ensures.ready c.args.guarded.now c.requires)

pub take_next-requires-in-None-clause-logs : goal.take_next-requires-in-None-clause-logs
take_next-requires-in-None-clause-logs g c = c.take_ready.ensures.logs c.args.guarded.now c.requires
