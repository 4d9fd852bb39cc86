use Rattle.serial_run.proofs.Committing.{commits_from}
use Rattle.serial_run.proofs.serving.commit.Goals as goal

pub returns-clause-commits : goal.returns-clause-commits
returns-clause-commits c = commits_from c.args.kernel.now c.room.new.self c.commit.new.self c.args.who c.args.ticks c.args.request c.commit.result c.in_ok-room.ensures.keeps c.commit.ensures
