-- What a single move leads to, and a single answer.
use Rattle.std.proofs.Common.{◌≡◌, refl, ◌∙◌, ap, ℕ, Bool, List, [], ◌∷◌, ℤ, length, nat_le, Option, Some, None, IsTrue, slice_get}
use Rattle.std.specs.Prelude.{if◌then◌else◌}
use Rattle.kernel_base.specs.declared.ends.Exc.{Exc}
use Rattle.kernel_base.specs.declared.ends.How.TheVariants.{Raised}
use Rattle.kernel_base.specs.declared.request.Request.{Request}
use Rattle.kernel_base.specs.declared.request.Request.TheVariants.{End}
use Rattle.kernel_base.specs.declared.answer.Answer.{Answer}
use Rattle.world_model.specs.Session.{session_of}
use Rattle.code_types.specs.declared.instr.Instr.{Instr}
use Rattle.code_types.specs.declared.instr.Instr.TheVariants.{Call}
use Rattle.code_types.specs.declared.code.Handler.{Handler}
use Rattle.code_types.specs.declared.code.BodyRow.{BodyRow}
use Rattle.code_types.specs.declared.code.Code.{Code}
use Rattle.code_types.specs.Places.{finds, listed_of, names_exception, taker}
use Rattle.code_types.specs.Operands.{topmost, below_topmost}
use Rattle.code_types.specs.Actions.{Action, Pushes, Sets, GoesTo, TicksTo, Calls, Returns, Throws, Requests, Halts, action_of}
use Rattle.code_types.specs.Answers.{answered, fits_request}
use Rattle.code_types.specs.State.{Frame, Slot, State, Mode, Running, Called, Asking, Raising, Ended}
use Rattle.code_types.specs.Steps.{Move, Goes, Makes, Asks, Awaits, Stays, with_frames, moved, new_frame, left_with, made, executed, entered, called, unhandled, caught, move_in, move, Run, At, Over, run_after}
use Rattle.code_types.specs.Talk.{Leads}
use Rattle.code_safety.specs.Leading.{WaitsWith, LeadsBy}
use Rattle.code_safety.proofs.ActionOutcomes.{by_test}

-- a move that asks leaves the process waiting
abbrev AskWaits : Move → Type 0
AskWaits (Goes next) = Unit {0}
AskWaits (Makes next) = Unit {0}
AskWaits (Asks request next) = WaitsWith request next
AskWaits (Awaits request slots) = Unit {0}
AskWaits Stays = Unit {0}

left_waits : (s : State) (f : Frame) (below : List Frame) (results : List ℤ) → AskWaits (left_with s f below results)
left_waits s f [] results = ([], refl)
left_waits s f (caller ∷ below) results = tt

made_waits : (s : State) (f : Frame) (below : List Frame) (rest : List ℤ) (action : Action) → AskWaits (made s f below rest action)
made_waits s f below rest (Pushes numbers) = tt
made_waits s f below rest (Sets first numbers) = tt
made_waits s f below rest (GoesTo place) = tt
made_waits s f below rest (TicksTo place) = tt
made_waits s f below rest Calls = tt
made_waits s f below rest (Returns results) = left_waits s f below results
made_waits s f below rest (Throws exception) = tt
made_waits s f below rest (Requests request slots) = (slots, refl)
made_waits s f below rest Halts = tt

executed_waits : (code : Code) (s : State) (f : Frame) (below : List Frame) (o : Option Instr) → AskWaits (executed code s f below o)
executed_waits code s f below None = tt
executed_waits code s f below (Some instr) =
    let count = finds code f.body instr in
    let action = action_of s f instr (topmost count f.stack) in
    by_test AskWaits (nat_le count (length f.stack)) (made s f below (below_topmost count f.stack) action) Stays (λ e. made_waits s f below (below_topmost count f.stack) action) (λ e. tt)

entered_waits : (s : State) (f : Frame) (below : List Frame) (callee : ℕ) (o : Option BodyRow) → AskWaits (entered s f below callee o)
entered_waits s f below callee None = tt
entered_waits s f below callee (Some row) =
    by_test AskWaits (nat_le row.params (length f.stack))
    (Goes (with_frames s (new_frame callee row (topmost row.params f.stack) ∷ moved f f.place (below_topmost row.params f.stack) ∷ below) Running)) Stays (λ e. tt) (λ e. tt)

called_waits : (code : Code) (s : State) (f : Frame) (below : List Frame) (o : Option Instr) → AskWaits (called code s f below o)
called_waits code s f below None = tt
called_waits code s f below (Some (Call callee)) = entered_waits s f below callee (slice_get code.bodies callee)
called_waits code s f below (Some instr) = tt

unhandled_waits : (code : Code) (s : State) (exception : Exc) (f : Frame) (below : List Frame) → AskWaits (unhandled code s exception f below)
unhandled_waits code s exception f [] = ([], refl)
unhandled_waits code s exception f (caller ∷ below) =
    by_test AskWaits (names_exception (listed_of (slice_get code.bodies f.body)) exception) (Goes (with_frames s (caller ∷ below) (Raising exception)))
    (Asks (End (Raised exception)) (record s { mode = Asking (End (Raised exception)) [] })) (λ e. tt) (λ e. ([], refl))

caught_waits : (code : Code) (s : State) (exception : Exc) (f : Frame) (below : List Frame) (o : Option Handler) → AskWaits (caught code s exception f below o)
caught_waits code s exception f below None = unhandled_waits code s exception f below
caught_waits code s exception f below (Some handler) = tt

move_waits : (code : Code) (s : State) (mode : Mode) (frames : List Frame) → AskWaits (move_in code s mode frames)
move_waits code s Ended frames = tt
move_waits code s (Asking request slots) frames = tt
move_waits code s Running [] = tt
move_waits code s Running (f ∷ below) = executed_waits code s f below (slice_get code.instrs f.place)
move_waits code s Called [] = tt
move_waits code s Called (f ∷ below) = called_waits code s f below (slice_get code.instrs f.place)
move_waits code s (Raising exception) [] = tt
move_waits code s (Raising exception) (f ∷ below) = caught_waits code s exception f below (taker code.handlers f.place exception)

leads_by : (code : Code) (s : State) (m : Move) → move code s ≡ m → AskWaits m → LeadsBy code s m
leads_by code s (Goes next) e waits = record { count = 1; ticks = 1; left = 1; by = ap (run_after s (session_of [] 1)) e }
leads_by code s (Makes next) e waits = record { count = 1; ticks = 2; left = 1; by = ap (run_after s (session_of [] 2)) e }
leads_by code s (Asks request next) e waits = (record { count = 1; ticks = 1; left = 1; by = ap (run_after s (session_of [] 1)) e }, waits)
leads_by code s (Awaits request slots) e waits = tt
leads_by code s Stays e waits = tt

pub move_leads : (code : Code) (s : State) → LeadsBy code s (move code s)
move_leads code s = leads_by code s (move code s) refl (move_waits code s s.mode s.frames)

pub answer_leads : (code : Code) (s : State) (request : Request) (slots : List Slot) (answer : Answer)
    → s.mode ≡ Asking request slots → IsTrue (fits_request request slots answer) → Leads code s (answer ∷ []) [] (answered s request slots answer)
answer_leads code s request slots answer e fits =
    let awaits : move code s ≡ Awaits request slots = ap (λ (m : Mode). move_in code s m s.frames) e in
    let after : Run = At (answered s request slots answer) (session_of [] 1) in
    record { count = 1; ticks = 1; left = 1; by = ap (run_after s (session_of (answer ∷ []) 1)) awaits ∙ ap (λ (b : Bool). if b then after else Over s []) fits }

pub no_move_leads : (code : Code) (s : State) → Leads code s [] [] s
no_move_leads code s = record { count = 0; ticks = 1; left = 1; by = refl }
