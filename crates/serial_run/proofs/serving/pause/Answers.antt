use Rattle.serial_run.proofs.Committing.{pauses_from}
use Rattle.serial_run.proofs.serving.pause.Goals as goal

pub returns-clause-pauses : goal.returns-clause-pauses
returns-clause-pauses c = pauses_from c.args.kernel.now c.room.new.self c.pause.new.self c.args.who c.args.ticks c.pause.result c.in_ok-room.ensures.keeps c.pause.ensures
