use Rattle.code_types.proofs.laws.gives_law.Goals as goal
use Rattle.code_types.proofs.AnswerTest.{gives_tells}

pub returns : goal.returns
returns c = gives_tells
