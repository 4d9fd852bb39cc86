use Rattle.worker_pool.proofs.Keepings.{at_code}
use Rattle.worker_pool.proofs.worker.take_next.Goals as goal

pub returns-in-Answer : goal.returns-in-Answer
returns-in-Answer c = at_code c.take_answer.result c.args.guarded.now c.args.worker.now c.take_answer.new.worker c.requires.logs c.take_answer.ensures
