-- What stands well comes to what stands well.
use Rattle.std.proofs.Common.{◌≡◌, refl, ℕ, suc, ◌+◌, ◌-◌, ◌<◌, ◌≤◌, ◌⊎◌, inl, inr, List, [], ◌∷◌, ◌++◌, ℤ, length, take, Option, Some, None, nat_le, slice_get, subst, sym, ap, ◌∙◌, arith}
use Rattle.std.specs.Prelude.{IsFalse}
use Rattle.std.proofs.lemmas.List.{length-append, length-take, length-take-le, length-drop}
use Rattle.kernel_base.specs.declared.ends.Exc.{Exc}
use Rattle.kernel_base.specs.declared.ends.How.{How}
use Rattle.kernel_base.specs.declared.ends.How.TheVariants.{Normal, Raised}
use Rattle.kernel_base.specs.declared.request.Request.TheVariants.{End}
use Rattle.world_model.specs.Lists.{with_scalars}
use Rattle.code_guard.proofs.EachItem.{item_or_past}
use Rattle.code_types.specs.declared.instr.Instr.{Instr}
use Rattle.code_types.specs.declared.instr.Instr.TheVariants.{Check, Copy, Call}
use Rattle.code_types.specs.declared.code.Handler.{Handler}
use Rattle.code_types.specs.declared.code.BodyRow.{BodyRow}
use Rattle.code_types.specs.declared.code.Code.{Code}
use Rattle.code_types.specs.Places.{params_of, results_of, listed_of, names_exception, taker, finds, pops, pushes, height_after, is_last, jump_of}
use Rattle.code_types.specs.Operands.{topmost, below_topmost}
use Rattle.code_types.specs.Actions.{Action, Pushes, Sets, GoesTo, TicksTo, Calls, Returns, Throws, Requests, Halts, action_of, most_frames}
use Rattle.code_types.specs.Agreement.{Agrees, StandsIn, HasHeight, LeadsTo, IsNamed}
use Rattle.code_types.specs.State.{Frame, OpenRegion, State, Mode, Running, Called, Asking, Raising, Ended}
use Rattle.code_types.specs.Steps.{Goes, Asks, Stays, moved, new_frame, made, executed, entered, called, unhandled, caught, left_with, move_in, move}
use Rattle.code_safety.specs.Standing.{Stands, IsAtCall, IsCalling, IsUnpopped, IsHighIn, StandAtCalls, FramesStand, frames_due, StandsWell}
use Rattle.code_safety.specs.Laws.{MovesWell}
use Rattle.code_safety.proofs.BodyPlaces.{IsTold, next_told, jump_told, stands_told}
use Rattle.code_safety.proofs.ActionOutcomes.{by_test, le_true}
use Rattle.code_safety.proofs.Acts.{ActsWell, acts_well}
use Rattle.code_safety.proofs.Starting.{stands_first}
use Rattle.code_safety.proofs.Handling.{taken, lands}

-- a process with these frames
abbrev pub process : ℕ → List OpenRegion → Mode → List Frame → State
process instance regions mode frames = record { instance = instance; frames = frames; regions = regions; mode = mode }

-- no instruction pops more than it finds
pub pops_found : (code : Code) (body : ℕ) (instr : Instr) → pops code body instr ≤ finds code body instr
pops_found code body (Copy n) = omega arith
pops_found code body (Check low high) = omega arith
pops_found code body instr = omega arith

-- with other scalars in place of some there are as many
pub length-with_scalars : (scalars : List ℤ) (first : ℕ) (new : List ℤ) → first + length new ≤ length scalars → length (with_scalars scalars first new) ≡ length scalars
length-with_scalars scalars first new h = simp (length-append, length-take, length-drop) (omega arith)

pub length-below : (n : ℕ) (stack : List ℤ) → n ≤ length stack → length (below_topmost n stack) + n ≡ length stack
length-below n stack h = let long = length-take-le (length stack - n) stack (omega arith) in omega arith

pub length-topmost : (n : ℕ) (stack : List ℤ) → n ≤ length stack → length (topmost n stack) ≡ n
length-topmost n stack h = simp length-drop (omega arith)

-- a frame that comes to a place that is told, with a stack as high, runs well
pub runs_on : (code : Code) (agrees : Agrees code) (instance : ℕ) (regions : List OpenRegion) (g : Frame) (below : List Frame) (row : BodyRow) (height : ℕ)
    → slice_get code.bodies g.body ≡ Some row → IsTold code agrees.heights g.body row g.place height → length g.locals ≡ row.locals → length g.stack ≡ height
    → StandAtCalls code agrees.heights g.body below → length (g ∷ below) ≤ most_frames
    → StandsWell code agrees.heights (process instance regions Running (g ∷ below))
runs_on code agrees instance regions g below row height e told locals high calls few =
    record { frames = (stands_told code agrees g row height (λ instr h. length g.stack ≡ h) e told locals (λ instr. high), calls); few = few }

-- where an instruction leads, to a later place
leads_told : (code : Code) (agrees : Agrees code) (body : ℕ) (row : BodyRow) (place : ℕ) (instr : Instr) (height to : ℕ)
    → StandsIn code body row place instr → HasHeight agrees.heights place height → LeadsTo place instr to → place < to
    → IsTold code agrees.heights body row to (height_after code body instr height)
leads_told code agrees body row place instr height to at has (inl h) later = subst (λ (n : ℕ). IsTold code agrees.heights body row n (height_after code body instr height)) (sym h.1) (next_told code agrees body row place instr height at has h.0)
leads_told code agrees body row place instr height to at has (inr jumps) later = jump_told code agrees body row place instr height to at has jumps later

-- a process is about to end
ends_well : (code : Code) (heights : List ℕ) (instance : ℕ) (regions : List OpenRegion) (f : Frame) (below : List Frame) (how : How) (IsHigh : Instr → ℕ → Type 0)
    → Stands code heights f IsHigh → StandAtCalls code heights f.body below → length (f ∷ below) ≤ most_frames
    → StandsWell code heights (process instance regions (Asking (End how) []) (f ∷ below))
ends_well code heights instance regions f below how IsHigh st calls few =
    record { frames = (record { row = st.row; instr = st.instr; height = st.height; inside = st.inside; has = st.has; locals = st.locals; stack = tt }, calls); few = few }

-- the results of a call that is left go onto the caller's stack
returns_well : (code : Code) (agrees : Agrees code) (instance : ℕ) (regions : List OpenRegion) (f : Frame) (below : List Frame) (results : List ℤ)
    → Stands code agrees.heights f (IsHighIn code Running f) → StandAtCalls code agrees.heights f.body below → length (f ∷ below) ≤ most_frames
    → length results ≡ results_of (slice_get code.bodies f.body)
    → let s = process instance regions Running (f ∷ below) in MovesWell code agrees.heights s (left_with s f below results)
returns_well code agrees instance regions f [] results st calls few count = ends_well code agrees.heights instance regions f [] Normal (IsHighIn code Running f) st calls few
returns_well code agrees instance regions f (caller ∷ below) results st calls few count =
    let c = calls.0 in
    let on : IsFalse (is_last c.instr) = ap is_last c.stack.calls in
    let popped : pops code caller.body c.instr ≡ params_of (slice_get code.bodies f.body) = ap (pops code caller.body) c.stack.calls in
    let pushed : pushes code c.instr ≡ results_of (slice_get code.bodies f.body) = ap (pushes code) c.stack.calls in
    let left = c.stack.left in
    let more = length-append caller.stack results in
    let high : length (caller.stack ++ results) ≡ height_after code caller.body c.instr c.height = omega arith in
    runs_on code agrees instance regions (moved caller (caller.place + 1) (caller.stack ++ results)) below c.row (height_after code caller.body c.instr c.height)
    c.inside.is_body (next_told code agrees caller.body c.row caller.place c.instr c.height c.inside c.has on) c.locals high calls.1 (omega arith)

-- an action that is well leaves a process that stands well
made_well : (code : Code) (agrees : Agrees code) (instance : ℕ) (regions : List OpenRegion) (f : Frame) (below : List Frame) (rest : List ℤ) (action : Action)
    → (st : Stands code agrees.heights f (IsHighIn code Running f)) → StandAtCalls code agrees.heights f.body below → length (f ∷ below) ≤ most_frames
    → length rest + finds code f.body st.instr ≡ st.height → ActsWell code f (length (f ∷ below)) st.instr action
    → let s = process instance regions Running (f ∷ below) in MovesWell code agrees.heights s (made s f below rest action)
made_well code agrees instance regions f below rest (Pushes numbers) st calls few left well =
    let within = pops_found code f.body st.instr in
    let level = well.1 in
    let more = length-append rest numbers in
    let high : length (rest ++ numbers) ≡ height_after code f.body st.instr st.height = omega arith in
    runs_on code agrees instance regions (moved f (f.place + 1) (rest ++ numbers)) below st.row (height_after code f.body st.instr st.height)
    st.inside.is_body (next_told code agrees f.body st.row f.place st.instr st.height st.inside st.has well.0) st.locals high calls few
made_well code agrees instance regions f below rest (Sets first numbers) st calls few left well =
    let none = well.1 in
    let same = well.2 in
    let high : length rest ≡ height_after code f.body st.instr st.height = omega arith in
    let long = length-with_scalars f.locals first numbers well.3 in
    runs_on code agrees instance regions (record (moved f (f.place + 1) rest) { locals = with_scalars f.locals first numbers }) below st.row (height_after code f.body st.instr st.height)
    st.inside.is_body (next_told code agrees f.body st.row f.place st.instr st.height st.inside st.has well.0) (long ∙ st.locals) high calls few
made_well code agrees instance regions f below rest (GoesTo to) st calls few left well =
    let none = well.2 in
    let same = well.3 in
    let high : length rest ≡ height_after code f.body st.instr st.height = omega arith in
    runs_on code agrees instance regions (moved f to rest) below st.row (height_after code f.body st.instr st.height)
    st.inside.is_body (leads_told code agrees f.body st.row f.place st.instr st.height to st.inside st.has well.0 well.1) st.locals high calls few
made_well code agrees instance regions f below rest (TicksTo to) st calls few left again =
    let none : finds code f.body st.instr ≡ 0 = ap (finds code f.body) again in
    let within = agrees.jumps f.body st.row f.place st.instr st.inside to (ap jump_of again) in
    let has = agrees.are_heights.again f.body st.row f.place st.instr st.inside to st.height again st.has in
    let told : IsTold code agrees.heights f.body st.row to st.height = record { from = within.0; until = within.1; has = has } in
    runs_on code agrees instance regions (moved f to rest) below st.row st.height st.inside.is_body told st.locals (omega arith) calls few
made_well code agrees instance regions f below rest Calls st calls few left well =
    let at : IsAtCall f st.instr st.height = record { callee = well.0; calls = well.1; full = st.stack } in
    record { frames = (record { row = st.row; instr = st.instr; height = st.height; inside = st.inside; has = st.has; locals = st.locals; stack = at }, calls); few = well.2 }
made_well code agrees instance regions f below rest (Returns results) st calls few left well =
    returns_well code agrees instance regions f below results st calls few (well.1 ∙ ap (finds code f.body) well.0)
made_well code agrees instance regions f below rest (Throws exception) st calls few left well =
    let full = st.stack in
    let high : IsUnpopped code f st.instr st.height = omega arith in
    record { frames = (record { row = st.row; instr = st.instr; height = st.height; inside = st.inside; has = st.has; locals = st.locals; stack = high }, calls); few = few }
made_well code agrees instance regions f below rest (Requests request slots) st calls few left well =
    record { frames = (record { row = st.row; instr = st.instr; height = st.height; inside = st.inside; has = st.has; locals = st.locals; stack = well rest st.height left }, calls); few = few }
made_well code agrees instance regions f below rest Halts st calls few left well = absurd well

-- the operands of the instruction at the place are on the stack
operands_found : (code : Code) (agrees : Agrees code) (f : Frame) (st : Stands code agrees.heights f (IsHighIn code Running f)) → finds code f.body st.instr ≤ length f.stack
operands_found code agrees f st =
    let full = st.stack in
    let k = (agrees.are_heights.operands f.body st.row f.place st.instr st.inside st.height st.has).0 in
    omega arith

-- what the instruction at the place does is well
pub action_stands : (code : Code) (agrees : Agrees code) (instance : ℕ) (regions : List OpenRegion) (f : Frame) (below : List Frame)
    → (st : Stands code agrees.heights f (IsHighIn code Running f))
    → ActsWell code f (length (f ∷ below)) st.instr (action_of (process instance regions Running (f ∷ below)) f st.instr (topmost (finds code f.body st.instr) f.stack))
action_stands code agrees instance regions f below st =
    let count = finds code f.body st.instr in
    acts_well code st.row (process instance regions Running (f ∷ below)) f st.instr (topmost count f.stack)
    (agrees.named f.body st.row f.place st.instr st.inside) (agrees.forward f.body st.row f.place st.instr st.inside) st.locals
    (length-topmost count f.stack (operands_found code agrees f st))

-- the instruction at the place is made
executed_well : (code : Code) (agrees : Agrees code) (instance : ℕ) (regions : List OpenRegion) (f : Frame) (below : List Frame)
    → Stands code agrees.heights f (IsHighIn code Running f) → StandAtCalls code agrees.heights f.body below → length (f ∷ below) ≤ most_frames
    → let s = process instance regions Running (f ∷ below) in MovesWell code agrees.heights s (executed code s f below (slice_get code.instrs f.place))
executed_well code agrees instance regions f below st calls few =
    let s = process instance regions Running (f ∷ below) in
    let count = finds code f.body st.instr in
    let found = operands_found code agrees f st in
    let rest = below_topmost count f.stack in
    let left : length rest + count ≡ st.height = length-below count f.stack found ∙ st.stack in
    let action = action_of s f st.instr (topmost count f.stack) in
    let step : MovesWell code agrees.heights s (executed code s f below (Some st.instr)) =
    by_test (MovesWell code agrees.heights s) (nat_le count (length f.stack)) (made s f below rest action) Stays
    (λ e. made_well code agrees instance regions f below rest action st calls few left (action_stands code agrees instance regions f below st))
    (λ e. let yes = le_true count (length f.stack) found in absurd (let no : ⊥ = cc in no)) in
    subst (λ (o : Option Instr). MovesWell code agrees.heights s (executed code s f below o)) (sym st.inside.is_instr) step

-- the frame of a call is made
entered_well : (code : Code) (agrees : Agrees code) (instance : ℕ) (regions : List OpenRegion) (f : Frame) (below : List Frame) (callee : ℕ) (row : BodyRow)
    → (st : Stands code agrees.heights f (IsAtCall f)) → StandAtCalls code agrees.heights f.body below → suc (length (f ∷ below)) ≤ most_frames
    → st.instr ≡ Call callee → slice_get code.bodies callee ≡ Some row
    → let s = process instance regions Called (f ∷ below) in MovesWell code agrees.heights s (entered s f below callee (Some row))
entered_well code agrees instance regions f below callee row st calls few is_call is_body =
    let s = process instance regions Called (f ∷ below) in
    let count : finds code f.body st.instr ≡ row.params = ap (finds code f.body) is_call ∙ ap params_of is_body in
    let full = st.stack.full in
    let found : row.params ≤ length f.stack = (let k = (agrees.are_heights.operands f.body st.row f.place st.instr st.inside st.height st.has).0 in omega arith) in
    let params : params_of (slice_get code.bodies callee) ≡ row.params = ap params_of is_body in
    let short = length-below row.params f.stack found in
    let left : length (below_topmost row.params f.stack) + params_of (slice_get code.bodies callee) ≡ st.height = omega arith in
    let caller : Stands code agrees.heights (moved f f.place (below_topmost row.params f.stack)) (IsCalling code callee (moved f f.place (below_topmost row.params f.stack))) =
    record { row = st.row; instr = st.instr; height = st.height; inside = st.inside; has = st.has; locals = st.locals; stack = record { calls = is_call; left = left } } in
    by_test (MovesWell code agrees.heights s) (nat_le row.params (length f.stack))
    (Goes (process instance regions Running (new_frame callee row (topmost row.params f.stack) ∷ moved f f.place (below_topmost row.params f.stack) ∷ below))) Stays
    (λ e. record { frames = (stands_first code agrees callee row (topmost row.params f.stack) is_body (length-topmost row.params f.stack found), (caller, calls)); few = few })
    (λ e. let yes = le_true row.params (length f.stack) found in absurd (let no : ⊥ = cc in no))

called_well : (code : Code) (agrees : Agrees code) (instance : ℕ) (regions : List OpenRegion) (f : Frame) (below : List Frame)
    → Stands code agrees.heights f (IsAtCall f) → StandAtCalls code agrees.heights f.body below → suc (length (f ∷ below)) ≤ most_frames
    → let s = process instance regions Called (f ∷ below) in MovesWell code agrees.heights s (called code s f below (slice_get code.instrs f.place))
called_well code agrees instance regions f below st calls few =
    subst (λ (o : Option Instr). MovesWell code agrees.heights s (called code s f below o)) (sym (st.inside.is_instr ∙ ap Some st.stack.calls)) (by-row (item_or_past code.bodies callee))
  where
    s : State
    s = process instance regions Called (f ∷ below)

    callee : ℕ
    callee = st.stack.callee

    there : IsNamed code st.row (Call callee)
    there = subst (IsNamed code st.row) st.stack.calls (agrees.named f.body st.row f.place st.instr st.inside)

    by-row : ((x : BodyRow) × (slice_get code.bodies callee ≡ Some x)) ⊎ (length code.bodies ≤ callee) → MovesWell code agrees.heights s (entered s f below callee (slice_get code.bodies callee))
    by-row (inl h) = subst (λ (o : Option BodyRow). MovesWell code agrees.heights s (entered s f below callee o)) (sym h.1) (entered_well code agrees instance regions f below callee h.0 st calls few st.stack.calls h.1)
    by-row (inr h) = let low = there in absurd (omega arith)

-- an exception that no handler takes
unhandled_well : (code : Code) (agrees : Agrees code) (instance : ℕ) (regions : List OpenRegion) (exception : Exc) (f : Frame) (below : List Frame)
    → Stands code agrees.heights f (IsUnpopped code f) → StandAtCalls code agrees.heights f.body below → length (f ∷ below) ≤ most_frames
    → let s = process instance regions (Raising exception) (f ∷ below) in MovesWell code agrees.heights s (unhandled code s exception f below)
unhandled_well code agrees instance regions exception f [] st calls few = ends_well code agrees.heights instance regions f [] (Raised exception) (IsUnpopped code f) st calls few
unhandled_well code agrees instance regions exception f (caller ∷ below) st calls few =
    let s = process instance regions (Raising exception) (f ∷ caller ∷ below) in
    let c = calls.0 in
    let popped : pops code caller.body c.instr ≡ params_of (slice_get code.bodies f.body) = ap (pops code caller.body) c.stack.calls in
    let left = c.stack.left in
    let high : IsUnpopped code caller c.instr c.height = omega arith in
    by_test (MovesWell code agrees.heights s) (names_exception (listed_of (slice_get code.bodies f.body)) exception)
    (Goes (process instance regions (Raising exception) (caller ∷ below)))
    (Asks (End (Raised exception)) (process instance regions (Asking (End (Raised exception)) []) (f ∷ caller ∷ below)))
    (λ e. record { frames = (record { row = c.row; instr = c.instr; height = c.height; inside = c.inside; has = c.has; locals = c.locals; stack = high }, calls.1); few = omega arith })
    (λ e. ends_well code agrees.heights instance regions f (caller ∷ below) (Raised exception) (IsUnpopped code f) st calls few)

-- an exception goes to a handler, or isn't handled
caught_well : (code : Code) (agrees : Agrees code) (instance : ℕ) (regions : List OpenRegion) (exception : Exc) (f : Frame) (below : List Frame)
    → Stands code agrees.heights f (IsUnpopped code f) → StandAtCalls code agrees.heights f.body below → length (f ∷ below) ≤ most_frames
    → (o : Option Handler) → taker code.handlers f.place exception ≡ o
    → let s = process instance regions (Raising exception) (f ∷ below) in MovesWell code agrees.heights s (caught code s exception f below o)
caught_well code agrees instance regions exception f below st calls few None e = unhandled_well code agrees instance regions exception f below st calls few
caught_well code agrees instance regions exception f below st calls few (Some handler) e =
    let l = lands code agrees f.body st.row f.place st.instr st.height handler st.inside st.has (taken code.handlers f.place exception handler e) in
    let unpopped = st.stack in
    let keeps = l.keeps in
    let low : handler.height ≤ length f.stack = omega arith in
    runs_on code agrees instance regions (moved f handler.target (take handler.height f.stack)) below st.row handler.height
    st.inside.is_body (record { from = l.from; until = l.until; has = l.has }) st.locals (length-take-le handler.height f.stack low) calls few

moves_well_in : (code : Code) (agrees : Agrees code) (instance : ℕ) (regions : List OpenRegion) (mode : Mode) (frames : List Frame)
    → FramesStand code agrees.heights mode frames → frames_due mode (length frames) ≤ most_frames
    → let s = process instance regions mode frames in MovesWell code agrees.heights s (move_in code s mode frames)
moves_well_in code agrees instance regions Ended frames st few = refl
moves_well_in code agrees instance regions (Asking request slots) frames st few = refl
moves_well_in code agrees instance regions Running [] st few = absurd (let no : ⊥ = cc in no)
moves_well_in code agrees instance regions Running (f ∷ below) st few = executed_well code agrees instance regions f below st.0 st.1 few
moves_well_in code agrees instance regions Called [] st few = absurd (let no : ⊥ = cc in no)
moves_well_in code agrees instance regions Called (f ∷ below) st few = called_well code agrees instance regions f below st.0 st.1 few
moves_well_in code agrees instance regions (Raising exception) [] st few = absurd (let no : ⊥ = cc in no)
moves_well_in code agrees instance regions (Raising exception) (f ∷ below) st few = caught_well code agrees instance regions exception f below st.0 st.1 few (taker code.handlers f.place exception) refl

pub moves_well : (code : Code) (agrees : Agrees code) (s : State) → StandsWell code agrees.heights s → MovesWell code agrees.heights s (move code s)
moves_well code agrees s well = moves_well_in code agrees s.instance s.regions s.mode s.frames well.frames well.few
