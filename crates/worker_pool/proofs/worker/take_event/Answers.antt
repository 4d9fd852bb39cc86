use Rattle.worker_pool.proofs.Keepings.{event_given_up, kept_event}
use Rattle.worker_pool.proofs.worker.take_event.Goals as goal

pub returns-in_ok-keep-in-Fits : goal.returns-in_ok-keep-in-Fits
returns-in_ok-keep-in-Fits c = kept_event c.args.worker.now c.keep.new.worker c.args.log c.note.new.log c.args.event c.in_ok-note.field-0 c.in-Fits.is c.in_ok-note.ensures c.in_ok-keep-in-Fits.ensures

pub returns-in-Misfit : goal.returns-in-Misfit
returns-in-Misfit c = event_given_up c.give_up.result c.args.worker.now c.give_up.new.worker c.args.log c.note.new.log c.args.event c.in_ok-note.field-0 c.in-Misfit.is c.in_ok-note.ensures c.give_up.ensures
