-- Whether a process takes an answer.
use Rattle.std.specs.Prelude.{Bool, false}
use Rattle.kernel_base.specs.declared.answer.Answer.{Answer}
use Rattle.code_types.specs.Answers.{fits_request}
use Rattle.code_types.specs.State.{Mode, Running, Called, Asking, Raising, Ended}

-- a request waits, and the answer fits it
abbrev pub takes_answer : Mode → Answer → Bool
takes_answer Running answer = false
takes_answer Called answer = false
takes_answer (Asking request slots) answer = fits_request request slots answer
takes_answer (Raising exception) answer = false
takes_answer Ended answer = false
