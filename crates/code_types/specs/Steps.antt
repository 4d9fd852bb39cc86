-- The single steps that a process makes of a code.
use Rattle.std.specs.Prelude.{ℕ, zero, suc, ◌+◌, ◌-◌, nat_le, List, [], ◌∷◌, ◌++◌, ℤ, pos, length, take, replicate, slice_get, if◌then◌else◌, Some, None}
use Rattle.std.specs.declared.option.Option.{Option}
use Rattle.kernel_base.specs.declared.ends.Exc.{Exc}
use Rattle.kernel_base.specs.declared.ends.How.TheVariants.{Normal, Raised}
use Rattle.kernel_base.specs.declared.request.Request.{Request}
use Rattle.kernel_base.specs.declared.request.Request.TheVariants.{End}
use Rattle.world_model.specs.Lists.{with_scalars}
use Rattle.world_model.specs.Session.{Item, Ask, Session, Asked, Answered, Unanswered, first_answer, Ticked, GoesOn, Last, tick}
use Rattle.code_types.specs.declared.instr.Instr.{Instr}
use Rattle.code_types.specs.declared.instr.Instr.TheVariants.{Call}
use Rattle.code_types.specs.declared.code.Handler.{Handler}
use Rattle.code_types.specs.declared.code.BodyRow.{BodyRow}
use Rattle.code_types.specs.declared.code.Code.{Code}
use Rattle.code_types.specs.Places.{listed_of, names_exception, taker, finds}
use Rattle.code_types.specs.Operands.{topmost, below_topmost}
use Rattle.code_types.specs.Actions.{Action, Pushes, Sets, GoesTo, TicksTo, Calls, Returns, Throws, Requests, Halts, action_of}
use Rattle.code_types.specs.Answers.{fits_request, answered, raised}
use Rattle.code_types.specs.State.{Frame, Slot, State, Mode, Running, Called, Asking, Raising, Ended}

-- What a state comes to in one step, whatever was answered before.
pub data Move : Type 0 where
  -- it goes on, and the trace stays
  Goes : State → Move
  -- a tick is made
  Makes : State → Move
  -- a request is asked
  Asks : Request → State → Move
  -- it waits for an answer
  Awaits : Request → List Slot → Move
  -- it has ended, or comes to what no code that agrees comes to
  Stays : Move

abbrev pub with_frames : State → List Frame → Mode → State
with_frames s frames mode = record s { frames = frames; mode = mode }

-- the frame goes on at a place with a stack
abbrev pub moved : Frame → ℕ → List ℤ → Frame
moved f place stack = record f { place = place; stack = stack }

-- the frame is left: its results go to the caller's stack, or the process ends normally
abbrev pub left_with : State → Frame → List Frame → List ℤ → Move
left_with s f [] results = Asks (End Normal) (record s { mode = Asking (End Normal) [] })
left_with s f (caller ∷ below) results = Goes (with_frames s (moved caller (caller.place + 1) (caller.stack ++ results) ∷ below) Running)

-- what an action makes of the state, where `rest` is the stack without the operands
abbrev pub made : State → Frame → List Frame → List ℤ → Action → Move
made s f below rest (Pushes numbers) = Goes (with_frames s (moved f (f.place + 1) (rest ++ numbers) ∷ below) Running)
made s f below rest (Sets first numbers) = Goes (with_frames s (record (moved f (f.place + 1) rest) { locals = with_scalars f.locals first numbers } ∷ below) Running)
made s f below rest (GoesTo place) = Goes (with_frames s (moved f place rest ∷ below) Running)
made s f below rest (TicksTo place) = Makes (with_frames s (moved f place rest ∷ below) Running)
made s f below rest Calls = Makes (record s { mode = Called })
made s f below rest (Returns results) = left_with s f below results
made s f below rest (Throws exception) = Goes (raised s exception)
made s f below rest (Requests request slots) = Asks request (with_frames s (moved f f.place rest ∷ below) (Asking request slots))
made s f below rest Halts = Stays

-- an instruction is made, where it finds its operands
abbrev pub executed : Code → State → Frame → List Frame → Option Instr → Move
executed code s f below None = Stays
executed code s f below (Some instr) =
    let count = finds code f.body instr in
    if nat_le count (length f.stack)
    then made s f below (below_topmost count f.stack) (action_of s f instr (topmost count f.stack))
    else Stays

-- a new frame of a body, whose first locals are the arguments and whose others are 0
abbrev pub new_frame : ℕ → BodyRow → List ℤ → Frame
new_frame body row arguments = record { body = body; place = row.first; stack = []; locals = arguments ++ replicate (row.locals - length arguments) (pos 0) }

-- the called body's frame is made, and its parameters are popped
abbrev pub entered : State → Frame → List Frame → ℕ → Option BodyRow → Move
entered s f below body None = Stays
entered s f below body (Some row) =
    if nat_le row.params (length f.stack)
    then Goes (with_frames s (new_frame body row (topmost row.params f.stack) ∷ moved f f.place (below_topmost row.params f.stack) ∷ below) Running)
    else Stays

-- the call whose tick is made
abbrev pub called : Code → State → Frame → List Frame → Option Instr → Move
called code s f below (Some (Call body)) = entered s f below body (slice_get code.bodies body)
called code s f below instr = Stays

-- An exception that no handler of its body takes is raised at the call where the body's list names it; elsewhere, and in
-- the first frame, it ends the process.
abbrev pub unhandled : Code → State → Exc → Frame → List Frame → Move
unhandled code s exception f [] = Asks (End (Raised exception)) (record s { mode = Asking (End (Raised exception)) [] })
unhandled code s exception f (caller ∷ below) =
    if names_exception (listed_of (slice_get code.bodies f.body)) exception
    then Goes (with_frames s (caller ∷ below) (Raising exception))
    else Asks (End (Raised exception)) (record s { mode = Asking (End (Raised exception)) [] })

-- the innermost handler takes the exception, with as many of the lowest numbers of the stack as its height
abbrev pub caught : Code → State → Exc → Frame → List Frame → Option Handler → Move
caught code s exception f below None = unhandled code s exception f below
caught code s exception f below (Some handler) = Goes (with_frames s (moved f handler.target (take handler.height f.stack) ∷ below) Running)

abbrev pub move_in : Code → State → Mode → List Frame → Move
move_in code s Ended frames = Stays
move_in code s (Asking request slots) frames = Awaits request slots
move_in code s Running [] = Stays
move_in code s Running (f ∷ below) = executed code s f below (slice_get code.instrs f.place)
move_in code s Called [] = Stays
move_in code s Called (f ∷ below) = called code s f below (slice_get code.instrs f.place)
move_in code s (Raising exception) [] = Stays
move_in code s (Raising exception) (f ∷ below) = caught code s exception f below (taker code.handlers f.place exception)

-- What a state comes to in one step of the code.
abbrev pub move : Code → State → Move
move code s = move_in code s s.mode s.frames

-- A run: a state with what was done so far and what may still be done, or the trace that it has come to, with the state in
-- which it is over.
pub data Run : Type 0 where
  At : State → Session → Run
  Over : State → List Item → Run

abbrev pub run_behind : State → Ticked → Run
run_behind s (GoesOn session) = At s session
run_behind s (Last trace) = Over s trace

-- an answer that doesn't fit ends the trace at its request
abbrev pub run_with : State → Request → List Slot → Asked → List Item → Run
run_with s request slots (Answered answer session) trace = if fits_request request slots answer then At (answered s request slots answer) session else Over s trace
run_with s request slots (Unanswered ended) trace = Over s ended

-- what a move makes of a run
abbrev pub run_after : State → Session → Move → Run
run_after s session (Goes next) = At next session
run_after s session (Makes next) = run_behind next (tick session)
run_after s session (Asks request next) = At next (record session { trace = session.trace ++ Ask request ∷ [] })
run_after s session (Awaits request slots) = run_with s request slots (first_answer session.trace session.answers session.ticks) session.trace
run_after s session Stays = Over s session.trace

-- One step of a run.
abbrev pub step : Code → Run → Run
step code (At s session) = run_after s session (move code s)
step code (Over s trace) = Over s trace

-- so many steps
abbrev pub steps : Code → ℕ → Run → Run
steps code zero run = run
steps code (suc count) run = steps code count (step code run)
