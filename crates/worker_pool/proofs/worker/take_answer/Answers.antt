use Rattle.worker_pool.proofs.Keepings.{given_up}
use Rattle.worker_pool.proofs.Lines.{current_is_log}
use Rattle.worker_pool.proofs.worker.take_answer.Goals as goal

pub returns-in_ok-keep-in-Fits : goal.returns-in_ok-keep-in-Fits
returns-in_ok-keep-in-Fits c = λ code h. c.in_ok-keep-in-Fits.ensures code (c.take_waiting-log.ensures code h).0 (c.in_ok-go_on.ensures code (c.take_waiting-log.ensures code h).1)

pub returns-in-Misfit : goal.returns-in-Misfit
returns-in-Misfit c = given_up c.give_up.result c.args.worker.now c.take_waiting-log.new.worker c.give_up.new.worker c.go_on.new.log (λ code h. (c.take_waiting-log.ensures code h).0) (λ code h. current_is_log code c.go_on.new.log (c.in_ok-go_on.ensures code (c.take_waiting-log.ensures code h).1)) c.give_up.ensures
