-- What a process has done so far, and what it may still do. The meaning of a text and that of a code are told in these words.
use Rattle.std.specs.Prelude.{ℕ, zero, suc, List, [], ◌∷◌, ◌++◌}
use Rattle.kernel_base.specs.declared.request.Request.{Request}
use Rattle.kernel_base.specs.declared.answer.Answer.{Answer}

-- an item of a trace
pub data Item : Type 0 where
  Tick : Item
  Ask : Request → Item

-- the trace so far, the answers that are left, and the ticks that are left
pub record Session : Type 0 where
  pub trace : List Item
  pub answers : List Answer
  pub ticks : ℕ

-- what comes of a request: the first answer is used up, or there is none left
pub data Asked : Type 0 where
  Answered : Answer → Session → Asked
  Unanswered : List Item → Asked

abbrev pub first_answer : List Item → List Answer → ℕ → Asked
first_answer trace [] ticks = Unanswered trace
first_answer trace (answer ∷ answers) ticks = Answered answer (record { trace = trace; answers = answers; ticks = ticks })

abbrev pub ask : Request → Session → Asked
ask request s = first_answer (s.trace ++ Ask request ∷ []) s.answers s.ticks

-- what comes of a tick: there are ticks left, or it was the last
pub data Ticked : Type 0 where
  GoesOn : Session → Ticked
  Last : List Item → Ticked

abbrev pub tick_of : List Item → List Answer → ℕ → Ticked
tick_of trace answers zero = Last trace
tick_of trace answers (suc zero) = Last trace
tick_of trace answers (suc (suc n)) = GoesOn (record { trace = trace; answers = answers; ticks = suc n })

abbrev pub tick : Session → Ticked
tick s = tick_of (s.trace ++ Tick ∷ []) s.answers s.ticks

-- a process at its start, with these answers and this many ticks to make
abbrev pub session_of : List Answer → ℕ → Session
session_of answers ticks = record { trace = []; answers = answers; ticks = ticks }
