use Rattle.worker_pool.proofs.Lines.{answer_fetched}
use Rattle.worker_pool.proofs.log.go_on.Goals as goal

pub returns : goal.returns
returns c = answer_fetched c.args.log.now c.note_answer.new.log _ c.args.answer c.note_answer.result c.in_ok-copy.ensures c.note_answer.ensures
