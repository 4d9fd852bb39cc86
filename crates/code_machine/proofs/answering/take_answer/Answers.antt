use Rattle.code_machine.proofs.AnswerRoom.{answer_leads, answer_room, answer_runs, goes_behind}
use Rattle.code_machine.proofs.answering.take_answer.Goals as goal

pub answer-requires-clause-room : goal.answer-requires-clause-room
answer-requires-clause-room c = answer_room c.requires.runs.0 c.args.process.now c.args.answer c.requires.runs.1 c.requires.can

pub returns-clause-leads : goal.returns-clause-leads
returns-clause-leads c = λ code. answer_leads code c.args.process.now c.answer.new.self c.args.answer c.requires.can c.answer.ensures.state

pub returns-clause-going : goal.returns-clause-going
returns-clause-going c = goes_behind c.args.process.now.doing c.answer.new.self.doing c.answer.ensures.going

pub returns-clause-runs : goal.returns-clause-runs
returns-clause-runs c = λ code runs. answer_runs code c.args.process.now c.answer.new.self c.args.answer runs c.requires.can c.answer.ensures.state c.answer.ensures.memory c.answer.ensures.few c.answer.ensures.going
