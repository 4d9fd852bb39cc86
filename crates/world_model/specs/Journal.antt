-- What is read off a journal: what an instance did, which answers it had, how it was born, and the output.
use Rattle.std.specs.Prelude.{ℕ, zero, suc, ◌==◌, List, [], ◌∷◌, ◌++◌, ℤ, replicate, if◌then◌else◌, Some, None}
use Rattle.std.specs.List.{flat_map}
use Rattle.std.specs.declared.option.Option.{Option}
use Rattle.kernel_base.specs.declared.request.Request.{Request}
use Rattle.kernel_base.specs.declared.request.Request.TheVariants.{Start, Put}
use Rattle.kernel_base.specs.declared.answer.Answer.{Answer}
use Rattle.kernel_base.specs.declared.answer.Answer.TheVariants.{Instance}
use Rattle.kernel_base.specs.declared.event.Event.{Event}
use Rattle.kernel_base.specs.declared.event.Event.TheVariants.{Did, Waits, Goes, Runs}
use Rattle.world_model.specs.Session.{Item, Tick, Ask}

-- so many ticks
abbrev pub ticks_of : ℕ → List Item
ticks_of count = replicate count Tick

-- what an event tells of the trace of instance i
abbrev pub items_by : ℕ → Event → List Item
items_by i (Did who ticks request answer refill) = if who == i then ticks_of ticks ++ Ask request ∷ [] else []
items_by i (Waits who ticks request) = if who == i then ticks_of ticks ++ Ask request ∷ [] else []
items_by i (Goes who answer) = []
items_by i (Runs who ticks) = if who == i then ticks_of ticks else []

-- the trace of instance i
abbrev pub line_of : ℕ → List Event → List Item
line_of i events = flat_map (items_by i) events

-- what an event tells of the requests of instance i
abbrev pub requests_by : ℕ → Event → List Request
requests_by i (Did who ticks request answer refill) = if who == i then request ∷ [] else []
requests_by i (Waits who ticks request) = if who == i then request ∷ [] else []
requests_by i (Goes who answer) = []
requests_by i (Runs who ticks) = []

-- the requests of instance i, in order
abbrev pub requests_of : ℕ → List Event → List Request
requests_of i events = flat_map (requests_by i) events

-- the answer that an event gives to instance i
abbrev pub answers_by : ℕ → Event → List Answer
answers_by i (Did who ticks request answer refill) = if who == i then answer ∷ [] else []
answers_by i (Waits who ticks request) = []
answers_by i (Goes who answer) = if who == i then answer ∷ [] else []
answers_by i (Runs who ticks) = []

-- the answers of instance i, in order
abbrev pub answers_of : ℕ → List Event → List Answer
answers_of i events = flat_map (answers_by i) events

-- a process and its arguments
pub record Birth : Type 0 where
  pub process : ℕ
  pub arguments : List ℤ

abbrev pub births_by : ℕ → Event → List Birth
births_by i (Did who ticks (Start process scalars) (Instance j) refill) = if j == i then record { process = process; arguments = scalars } ∷ [] else []
births_by i event = []

abbrev pub first_birth : List Birth → Option Birth
first_birth [] = None
first_birth (birth ∷ births) = Some birth

-- the process and the arguments of an instance that was started
abbrev pub started_as : ℕ → List Event → Option Birth
started_as i events = first_birth (flat_map (births_by i) events)

-- Instance 1 is process 0 without arguments; any other is as it was started.
abbrev pub born_of : ℕ → List Event → Option Birth
born_of (suc zero) events = Some (record { process = 0; arguments = [] })
born_of i events = started_as i events

abbrev pub put_by : Event → List ℕ
put_by (Did who ticks (Put bytes) answer refill) = bytes
put_by event = []

-- the output: the bytes that the events put, in order
abbrev pub output_of : List Event → List ℕ
output_of events = flat_map put_by events
