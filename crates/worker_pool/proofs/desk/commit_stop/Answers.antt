use Rattle.worker_pool.proofs.Opening.{open_commit, open_pause}
use Rattle.worker_pool.proofs.desk.commit_stop.Goals as goal

pub returns-in-Asks-clause-open : goal.returns-in-Asks-clause-open
returns-in-Asks-clause-open c = open_commit c.args.kernel.now c.commit.new.kernel c.args.who c.in-Asks.ticks c.in-Asks.request c.commit.result c.commit.ensures.commits c.commit.ensures.keeps

pub returns-in-Paused-clause-open : goal.returns-in-Paused-clause-open
returns-in-Paused-clause-open c = open_pause c.args.kernel.now c.pause.new.kernel c.args.who c.in-Paused.ticks c.pause.result c.pause.ensures.pauses c.pause.ensures.keeps
