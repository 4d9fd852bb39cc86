-- What steps lead to, one after another, and that a process isn't stopped by a move that asks nothing.
use Rattle.std.proofs.Common.{◌≡◌, ℕ, ◌+◌, Bool, true, false, List, [], ◌∷◌, ◌++◌, ℤ, length, Some, None, subst, slice_get, append-nil, nat_le}
use Rattle.std.specs.Prelude.{if◌then◌else◌}
use Rattle.std.proofs.lemmas.List.{replicate_more}
use Rattle.std.specs.declared.option.Option.{Option}
use Rattle.kernel_base.specs.declared.ends.Exc.{Exc}
use Rattle.kernel_base.specs.declared.request.Request.{Request}
use Rattle.world_model.specs.Journal.{ticks_of}
use Rattle.world_model.specs.Session.{Item, Ask, Tick}
use Rattle.code_types.specs.declared.instr.Instr.{Instr}
use Rattle.code_types.specs.declared.instr.Instr.TheVariants.{Call}
use Rattle.code_types.specs.declared.code.BodyRow.{BodyRow}
use Rattle.code_types.specs.declared.code.Code.{Code}
use Rattle.code_types.specs.declared.code.Handler.{Handler}
use Rattle.code_types.specs.Actions.{Action, Pushes, Sets, GoesTo, TicksTo, Calls, Returns, Throws, Requests, Halts, action_of}
use Rattle.code_types.specs.Operands.{topmost, below_topmost}
use Rattle.code_types.specs.Places.{finds, listed_of, names_exception, taker}
use Rattle.code_types.specs.State.{Frame, State, Mode, Running, Called, Asking, Raising, Ended}
use Rattle.code_types.specs.Steps.{Move, Goes, Makes, Asks, Awaits, Stays, move, move_in, made, executed, left_with, called, entered, caught, unhandled}
use Rattle.code_types.specs.Talk.{Leads}
use Rattle.code_types.proofs.Shifts.{leads_on}
use Rattle.code_safety.specs.Leading.{LeadsBy, WaitsWith}
use Rattle.code_safety.proofs.SingleMoves.{move_leads}
use Rattle.code_machine.specs.Running.{IsUp}

-- a step more behind so many ticks
pub goes_more : (code : Code) (from s next : State) (ticks : ℕ) → Leads code from [] (ticks_of ticks) s → move code s ≡ Goes next → Leads code from [] (ticks_of ticks) next
goes_more code from s next ticks leads e =
    subst (λ (trace : List Item). Leads code from [] trace next) (append-nil (ticks_of ticks)) (leads_on code from s next [] [] (ticks_of ticks) [] leads (subst (LeadsBy code s) e (move_leads code s)))

pub makes_more : (code : Code) (from s next : State) (ticks : ℕ) → Leads code from [] (ticks_of ticks) s → move code s ≡ Makes next → Leads code from [] (ticks_of (ticks + 1)) next
makes_more code from s next ticks leads e =
    subst (λ (trace : List Item). Leads code from [] trace next) (replicate_more ticks Tick) (leads_on code from s next [] [] (ticks_of ticks) (Tick ∷ []) leads (subst (LeadsBy code s) e (move_leads code s)))

pub asks_more : (code : Code) (from s next : State) (ticks : ℕ) (request : Request) → Leads code from [] (ticks_of ticks) s → move code s ≡ Asks request next → Leads code from [] (ticks_of ticks ++ Ask request ∷ []) next × WaitsWith request next
asks_more code from s next ticks request leads e =
    let by = subst (LeadsBy code s) e (move_leads code s) in
    (leads_on code from s next [] [] (ticks_of ticks) (Ask request ∷ []) leads by.0, by.1)

-- behind a move that asks nothing a process isn't waiting, and hasn't ended
abbrev pub GoesUp : Move → Type 0
GoesUp (Goes next) = IsUp next.mode
GoesUp (Makes next) = IsUp next.mode
GoesUp (Asks request next) = Unit {0}
GoesUp (Awaits request slots) = Unit {0}
GoesUp Stays = Unit {0}

-- a move that is chosen by a test
either : (b : Bool) (x y : Move) → GoesUp x → GoesUp y → GoesUp (if b then x else y)
either true x y one other = one
either false x y one other = other

left_up : (s : State) (f : Frame) (below : List Frame) (results : List ℤ) → GoesUp (left_with s f below results)
left_up s f [] results = tt
left_up s f (caller ∷ below) results = tt

made_up : (s : State) (f : Frame) (below : List Frame) (rest : List ℤ) (action : Action) → GoesUp (made s f below rest action)
made_up s f below rest (Pushes numbers) = tt
made_up s f below rest (Sets first numbers) = tt
made_up s f below rest (GoesTo place) = tt
made_up s f below rest (TicksTo place) = tt
made_up s f below rest Calls = tt
made_up s f below rest (Returns results) = left_up s f below results
made_up s f below rest (Throws exception) = tt
made_up s f below rest (Requests request slots) = tt
made_up s f below rest Halts = tt

executed_up : (code : Code) (s : State) (f : Frame) (below : List Frame) (o : Option Instr) → GoesUp (executed code s f below o)
executed_up code s f below None = tt
executed_up code s f below (Some instr) =
    let count = finds code f.body instr in
    let action = action_of s f instr (topmost count f.stack) in
    either (nat_le count (length f.stack)) (made s f below (below_topmost count f.stack) action) Stays (made_up s f below (below_topmost count f.stack) action) tt

entered_up : (code : Code) (s : State) (f : Frame) (below : List Frame) (body : ℕ) (o : Option BodyRow) → GoesUp (entered s f below body o)
entered_up code s f below body None = tt
entered_up code s f below body (Some row) = either (nat_le row.params (length f.stack)) _ Stays tt tt

called_up : (code : Code) (s : State) (f : Frame) (below : List Frame) (o : Option Instr) → GoesUp (called code s f below o)
called_up code s f below None = tt
called_up code s f below (Some (Call body)) = entered_up code s f below body (slice_get code.bodies body)
called_up code s f below (Some instr) = tt

unhandled_up : (code : Code) (s : State) (exception : Exc) (f : Frame) (below : List Frame) → GoesUp (unhandled code s exception f below)
unhandled_up code s exception f [] = tt
unhandled_up code s exception f (caller ∷ below) = either (names_exception (listed_of (slice_get code.bodies f.body)) exception) _ _ tt tt

caught_up : (code : Code) (s : State) (exception : Exc) (f : Frame) (below : List Frame) (o : Option Handler) → GoesUp (caught code s exception f below o)
caught_up code s exception f below None = unhandled_up code s exception f below
caught_up code s exception f below (Some handler) = tt

move_in_up : (code : Code) (s : State) (mode : Mode) (frames : List Frame) → GoesUp (move_in code s mode frames)
move_in_up code s Ended frames = tt
move_in_up code s (Asking request slots) frames = tt
move_in_up code s Running [] = tt
move_in_up code s Running (f ∷ below) = executed_up code s f below (slice_get code.instrs f.place)
move_in_up code s Called [] = tt
move_in_up code s Called (f ∷ below) = called_up code s f below (slice_get code.instrs f.place)
move_in_up code s (Raising exception) [] = tt
move_in_up code s (Raising exception) (f ∷ below) = caught_up code s exception f below (taker code.handlers f.place exception)

pub move_up : (code : Code) (s : State) → GoesUp (move code s)
move_up code s = move_in_up code s s.mode s.frames
