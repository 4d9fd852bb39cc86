-- What a process of the code does: which states it reaches, and its trace.
use Rattle.std.specs.Prelude.{◌≡◌, ℕ, ◌==◌, List, [], ◌∷◌, ℤ, length, slice_get, if◌then◌else◌, Some, None}
use Rattle.std.specs.declared.option.Option.{Option}
use Rattle.kernel_base.specs.declared.answer.Answer.{Answer}
use Rattle.world_model.specs.Session.{Item, Session, session_of}
use Rattle.code_types.specs.declared.code.BodyRow.{BodyRow}
use Rattle.code_types.specs.declared.code.Code.{Code}
use Rattle.code_types.specs.State.{State, Running}
use Rattle.code_types.specs.Steps.{At, Over, steps, new_frame}

abbrev pub start_in : ℕ → ℕ → List ℤ → Option BodyRow → Option State
start_in instance process arguments None = None
start_in instance process arguments (Some row) =
    if row.params == length arguments
    then Some (record { instance = instance; frames = new_frame process row arguments ∷ []; regions = []; mode = Running })
    else None

-- An instance at the first instruction of a body; none where there is no such body, or the arguments aren't as many as its
-- parameters.
abbrev pub start_of : Code → ℕ → ℕ → List ℤ → Option State
start_of code instance process arguments = start_in instance process arguments (slice_get code.bodies process)

-- From one state the code makes this trace, with all these answers used in order, and comes to another state.
pub record Leads (code : Code) (from : State) (answers : List Answer) (trace : List Item) (to : State) : Type 0 where
  pub count : ℕ
  pub ticks : ℕ
  pub left : ℕ
  pub by : steps code count (At from (session_of answers ticks)) ≡ At to (record { trace = trace; answers = []; ticks = left })

-- An instance that was started on a body with these arguments makes this trace, with all these answers used in order, and is
-- in this state.
pub record Reaches (code : Code) (instance process : ℕ) (arguments : List ℤ) (answers : List Answer) (trace : List Item) (state : State) : Type 0 where
  pub start : State
  pub starts : start_of code instance process arguments ≡ Some start
  pub leads : Leads code start answers trace state

-- the trace where a run is over
pub record Comes (code : Code) (start : State) (session : Session) (trace : List Item) : Type 0 where
  pub count : ℕ
  pub stands : State
  pub by : steps code count (At start session) ≡ Over stands trace

abbrev pub TalkFrom : Code → Option State → List Answer → ℕ → List Item → Type 0
TalkFrom code None answers n trace = trace ≡ []
TalkFrom code (Some start) answers n trace = Comes code start (session_of answers n) trace

-- The talk of the code: its trace up to the first request without an answer that fits, the n-th tick, or the end. It is empty
-- where nothing is started.
abbrev pub CodeTalk : Code → ℕ → ℕ → List ℤ → List Answer → ℕ → List Item → Type 0
CodeTalk code instance process arguments answers n trace = TalkFrom code (start_of code instance process arguments) answers n trace
