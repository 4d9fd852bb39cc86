use Rattle.code_machine.proofs.machine.Machine.answer.Goals as goal

pub returns-clause-runs : goal.returns-clause-runs
returns-clause-runs c = λ code runs. c.take_answer.ensures.runs code (rw c.self.view_is runs)
