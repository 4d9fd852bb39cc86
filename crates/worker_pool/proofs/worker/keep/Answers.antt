use Rattle.worker_pool.proofs.Keepings.{done_too}
use Rattle.worker_pool.proofs.worker.keep.Goals as goal

pub returns-else-waits : goal.returns-else-waits
returns-else-waits c = done_too c.keep_done.result c.args.worker.now c.keep_done.new.worker c.args.log c.keep_done.ensures
