use Rattle.std.proofs.Common.{refl, sym, ◌∙◌}
use Rattle.worker_pool.proofs.Lines.{answer_noted, noted_is_current}
use Rattle.worker_pool.proofs.log.note.Goals as goal

pub returns-in-Some : goal.returns-in-Some
returns-in-Some c = answer_noted c.args.log.now c.note_answer.new.log c.args.event c.in-Some.answer c.note_answer.result (sym c.in_ok-answer.ensures ∙ c.in-Some.is) c.note_answer.ensures

pub returns-in_ok-push-in-None : goal.returns-in_ok-push-in-None
returns-in_ok-push-in-None c = λ code m. noted_is_current code c.args.log.now _ c.args.event (sym c.in_ok-answer.ensures ∙ c.in-None.is) (record { instance = refl; process = refl; scalars = refl; events = c.in_ok-push-in-None.ensures.ok }) refl m
