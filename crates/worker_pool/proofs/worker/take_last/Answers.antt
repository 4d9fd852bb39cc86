use Rattle.worker_pool.proofs.worker.take_last.Goals as goal

pub answers-preserved : goal.answers-preserved
answers-preserved g c = (tt, tt, λ code h. c.in_ok-take_answer-in-Answer.ensures code (c.answers.invariant.2 code h))

pub returns-in-Over : goal.returns-in-Over
returns-in-Over g c = λ code h. c.in_ok-take_answer-in-Answer.ensures code (c.answers.invariant.2 code h)
