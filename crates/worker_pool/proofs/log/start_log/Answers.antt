use Rattle.std.proofs.Common.{refl}
use Rattle.worker_pool.proofs.Lines.{started_is_current}
use Rattle.worker_pool.proofs.log.start_log.Goals as goal

pub returns : goal.returns
returns c = started_is_current c.args.guarded.now _ c.args.new c.in_ok-runner.runner c.in_ok-runner.ensures.starts refl refl c.in_ok-scalars.ensures c.new.ensures refl
