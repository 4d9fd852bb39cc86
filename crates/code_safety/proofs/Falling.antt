-- Between two ticks code only goes forward.
use Rattle.std.proofs.Common.{◌≡◌, refl, ℕ, ◌+◌, ◌-◌, ◌*◌, ◌<◌, ◌≤◌, List, [], ◌∷◌, ℤ, length, Option, Some, None, nat_le, slice_get, subst, sym, ap, ◌∙◌, arith}
use Rattle.std.proofs.Math.Nat.{mul-le-mul_right}
use Rattle.std.proofs.lemmas.Option.{slice_get_within}
use Rattle.kernel_base.specs.declared.ends.Exc.{Exc}
use Rattle.kernel_base.specs.declared.ends.How.TheVariants.{Raised}
use Rattle.kernel_base.specs.declared.request.Request.TheVariants.{End}
use Rattle.code_types.specs.declared.instr.Instr.{Instr}
use Rattle.code_types.specs.declared.code.Handler.{Handler}
use Rattle.code_types.specs.declared.code.BodyRow.{BodyRow}
use Rattle.code_types.specs.declared.code.Code.{Code}
use Rattle.code_types.specs.Places.{listed_of, names_exception, taker, finds}
use Rattle.code_types.specs.Operands.{topmost, below_topmost}
use Rattle.code_types.specs.Actions.{Action, Pushes, Sets, GoesTo, TicksTo, Calls, Returns, Throws, Requests, Halts, action_of, most_frames}
use Rattle.code_types.specs.Agreement.{Agrees}
use Rattle.code_types.specs.State.{Frame, OpenRegion, State, Mode, Running, Called, Asking, Raising, Ended}
use Rattle.code_types.specs.Steps.{Goes, Asks, Stays, moved, new_frame, made, executed, entered, called, unhandled, caught, left_with, move_in, move}
use Rattle.code_safety.specs.Standing.{Stands, IsAtCall, IsUnpopped, IsHighIn, StandAtCalls, FramesStand, frames_due, StandsWell}
use Rattle.code_safety.specs.Weights.{frames_weight, mode_weight, most_weight, weight, Falls}
use Rattle.code_safety.proofs.ActionOutcomes.{by_test}
use Rattle.code_safety.proofs.Acts.{ActsWell}
use Rattle.code_safety.proofs.Handling.{taken, lands}
use Rattle.code_safety.proofs.MovePreservation.{process, action_stands}

-- a later place is less far from the end of the code
nearer : (length place later : ℕ) → place < later → place < length → 3 * (length - later) + 3 ≤ 3 * (length - place)
nearer length place later h k = omega arith

-- a frame that is left leaves weight
leaves : (length place : ℕ) → place < length → 3 ≤ 3 * (length - place)
leaves length place h = omega arith

in_the_code : (code : Code) (heights : List ℕ) (f : Frame) (IsHigh : Instr → ℕ → Type 0) → Stands code heights f IsHigh → f.place < length code.instrs
in_the_code code heights f IsHigh st = slice_get_within code.instrs f.place st.instr st.inside.is_instr

returns_fall : (code : Code) (agrees : Agrees code) (instance : ℕ) (regions : List OpenRegion) (f : Frame) (below : List Frame) (results : List ℤ)
    → f.place < length code.instrs → StandAtCalls code agrees.heights f.body below
    → let s = process instance regions Running (f ∷ below) in Falls code s (left_with s f below results)
returns_fall code agrees instance regions f [] results inside calls = omega arith
returns_fall code agrees instance regions f (caller ∷ below) results inside calls =
    let gone = leaves (length code.instrs) f.place inside in
    let on = nearer (length code.instrs) caller.place (caller.place + 1) (omega arith) (in_the_code code agrees.heights caller _ calls.0) in
    omega arith

made_falls : (code : Code) (agrees : Agrees code) (instance : ℕ) (regions : List OpenRegion) (f : Frame) (below : List Frame) (rest : List ℤ) (instr : Instr) (action : Action)
    → f.place < length code.instrs → StandAtCalls code agrees.heights f.body below → ActsWell code f (length (f ∷ below)) instr action
    → let s = process instance regions Running (f ∷ below) in Falls code s (made s f below rest action)
made_falls code agrees instance regions f below rest instr (Pushes numbers) inside calls well =
    let on = nearer (length code.instrs) f.place (f.place + 1) (omega arith) inside in omega arith
made_falls code agrees instance regions f below rest instr (Sets first numbers) inside calls well =
    let on = nearer (length code.instrs) f.place (f.place + 1) (omega arith) inside in omega arith
made_falls code agrees instance regions f below rest instr (GoesTo to) inside calls well =
    let on = nearer (length code.instrs) f.place to well.1 inside in omega arith
made_falls code agrees instance regions f below rest instr (TicksTo to) inside calls well = tt
made_falls code agrees instance regions f below rest instr Calls inside calls well = tt
made_falls code agrees instance regions f below rest instr (Returns results) inside calls well = returns_fall code agrees instance regions f below results inside calls
made_falls code agrees instance regions f below rest instr (Throws exception) inside calls well = omega arith
made_falls code agrees instance regions f below rest instr (Requests request slots) inside calls well = omega arith
made_falls code agrees instance regions f below rest instr Halts inside calls well = tt

executed_falls : (code : Code) (agrees : Agrees code) (instance : ℕ) (regions : List OpenRegion) (f : Frame) (below : List Frame)
    → Stands code agrees.heights f (IsHighIn code Running f) → StandAtCalls code agrees.heights f.body below
    → let s = process instance regions Running (f ∷ below) in Falls code s (executed code s f below (slice_get code.instrs f.place))
executed_falls code agrees instance regions f below st calls =
    let s = process instance regions Running (f ∷ below) in
    let count = finds code f.body st.instr in
    let action = action_of s f st.instr (topmost count f.stack) in
    let step : Falls code s (executed code s f below (Some st.instr)) =
    by_test (Falls code s) (nat_le count (length f.stack)) (made s f below (below_topmost count f.stack) action) Stays
    (λ e. made_falls code agrees instance regions f below (below_topmost count f.stack) st.instr action (in_the_code code agrees.heights f (IsHighIn code Running f) st) calls (action_stands code agrees instance regions f below st))
    (λ e. tt) in
    subst (λ (o : Option Instr). Falls code s (executed code s f below o)) (sym st.inside.is_instr) step

-- a whole frame weighs less than a call whose tick is made
entered_falls : (code : Code) (instance : ℕ) (regions : List OpenRegion) (f : Frame) (below : List Frame) (callee : ℕ) (o : Option BodyRow)
    → let s = process instance regions Called (f ∷ below) in Falls code s (entered s f below callee o)
entered_falls code instance regions f below callee None = tt
entered_falls code instance regions f below callee (Some row) =
    let s = process instance regions Called (f ∷ below) in
    by_test (Falls code s) (nat_le row.params (length f.stack))
    (Goes (process instance regions Running (new_frame callee row (topmost row.params f.stack) ∷ moved f f.place (below_topmost row.params f.stack) ∷ below))) Stays
    (λ e. omega arith) (λ e. tt)

called_falls : (code : Code) (agrees : Agrees code) (instance : ℕ) (regions : List OpenRegion) (f : Frame) (below : List Frame)
    → Stands code agrees.heights f (IsAtCall f)
    → let s = process instance regions Called (f ∷ below) in Falls code s (called code s f below (slice_get code.instrs f.place))
called_falls code agrees instance regions f below st =
    let s = process instance regions Called (f ∷ below) in
    subst (λ (o : Option Instr). Falls code s (called code s f below o)) (sym (st.inside.is_instr ∙ ap Some st.stack.calls)) (entered_falls code instance regions f below st.stack.callee (slice_get code.bodies st.stack.callee))

unhandled_falls : (code : Code) (instance : ℕ) (regions : List OpenRegion) (exception : Exc) (f : Frame) (below : List Frame)
    → f.place < length code.instrs
    → let s = process instance regions (Raising exception) (f ∷ below) in Falls code s (unhandled code s exception f below)
unhandled_falls code instance regions exception f [] inside = omega arith
unhandled_falls code instance regions exception f (caller ∷ below) inside =
    let s = process instance regions (Raising exception) (f ∷ caller ∷ below) in
    let gone = leaves (length code.instrs) f.place inside in
    by_test (Falls code s) (names_exception (listed_of (slice_get code.bodies f.body)) exception)
    (Goes (process instance regions (Raising exception) (caller ∷ below)))
    (Asks (End (Raised exception)) (process instance regions (Asking (End (Raised exception)) []) (f ∷ caller ∷ below)))
    (λ e. omega arith) (λ e. omega arith)

caught_falls : (code : Code) (agrees : Agrees code) (instance : ℕ) (regions : List OpenRegion) (exception : Exc) (f : Frame) (below : List Frame)
    → Stands code agrees.heights f (IsUnpopped code f) → (o : Option Handler) → taker code.handlers f.place exception ≡ o
    → let s = process instance regions (Raising exception) (f ∷ below) in Falls code s (caught code s exception f below o)
caught_falls code agrees instance regions exception f below st None e = unhandled_falls code instance regions exception f below (in_the_code code agrees.heights f (IsUnpopped code f) st)
caught_falls code agrees instance regions exception f below st (Some handler) e =
    let l = lands code agrees f.body st.row f.place st.instr st.height handler st.inside st.has (taken code.handlers f.place exception handler e) in
    let on = nearer (length code.instrs) f.place handler.target l.later (in_the_code code agrees.heights f (IsUnpopped code f) st) in
    omega arith

moves_fall_in : (code : Code) (agrees : Agrees code) (instance : ℕ) (regions : List OpenRegion) (mode : Mode) (frames : List Frame)
    → FramesStand code agrees.heights mode frames
    → let s = process instance regions mode frames in Falls code s (move_in code s mode frames)
moves_fall_in code agrees instance regions Ended frames st = tt
moves_fall_in code agrees instance regions (Asking request slots) frames st = tt
moves_fall_in code agrees instance regions Running [] st = tt
moves_fall_in code agrees instance regions Running (f ∷ below) st = executed_falls code agrees instance regions f below st.0 st.1
moves_fall_in code agrees instance regions Called [] st = tt
moves_fall_in code agrees instance regions Called (f ∷ below) st = called_falls code agrees instance regions f below st.0
moves_fall_in code agrees instance regions (Raising exception) [] st = tt
moves_fall_in code agrees instance regions (Raising exception) (f ∷ below) st = caught_falls code agrees instance regions exception f below st.0 (taker code.handlers f.place exception) refl

pub moves_fall : (code : Code) (agrees : Agrees code) (s : State) → StandsWell code agrees.heights s → Falls code s (move code s)
moves_fall code agrees s well = moves_fall_in code agrees s.instance s.regions s.mode s.frames well.frames

-- so many frames weigh at most as much as whole ones
frames_weigh : (code : Code) (frames : List Frame) → frames_weight code frames ≤ length frames * (3 * length code.instrs)
frames_weigh code [] = omega arith
frames_weigh code (f ∷ below) = let rest = frames_weigh code below in omega arith

weighs_in : (code : Code) (mode : Mode) (frames : List Frame) (count : ℕ) → length frames ≡ count → frames_due mode count ≤ most_frames → frames_weight code frames ≤ count * (3 * length code.instrs) → mode_weight code mode + frames_weight code frames ≤ most_weight code
weighs_in code Running frames count e few low = let whole = mul-le-mul_right (3 * length code.instrs) few in omega arith
weighs_in code Called frames count e few low = let less : count ≤ 249 = omega arith in let whole = mul-le-mul_right (3 * length code.instrs) less in omega arith
weighs_in code (Asking request slots) frames count e few low = let whole = mul-le-mul_right (3 * length code.instrs) few in omega arith
weighs_in code (Raising exception) frames count e few low = let whole = mul-le-mul_right (3 * length code.instrs) few in omega arith
weighs_in code Ended frames count e few low = let whole = mul-le-mul_right (3 * length code.instrs) few in omega arith

pub weighs : (code : Code) (agrees : Agrees code) (s : State) → StandsWell code agrees.heights s → weight code s ≤ most_weight code
weighs code agrees s well = weighs_in code s.mode s.frames (length s.frames) refl well.few (frames_weigh code s.frames)
