-- An answer that fits leaves a process that stands well.
use Rattle.std.proofs.Common.{◌≡◌, refl, ℕ, ◌+◌, ◌<◌, ◌≤◌, ◌⊎◌, inl, inr, List, [], ◌∷◌, ◌++◌, ℤ, length, IsTrue, subst, sym, ◌∙◌, arith}
use Rattle.std.specs.Prelude.{slice_index_or}
use Rattle.std.proofs.lemmas.Bool.{cases_lt, eqb-true}
use Rattle.std.proofs.lemmas.List.{length-append, get_or_past}
use Rattle.kernel_base.specs.declared.ends.Exc.{Exc}
use Rattle.kernel_base.specs.declared.request.Request.{Request}
use Rattle.kernel_base.specs.declared.request.Request.TheVariants.{End}
use Rattle.kernel_base.specs.declared.answer.Answer.{Answer}
use Rattle.kernel_base.specs.declared.answer.Answer.TheVariants.{Got, Fail}
use Rattle.code_types.specs.declared.code.Code.{Code}
use Rattle.code_types.specs.Places.{height_after, pushes}
use Rattle.code_types.specs.Actions.{most_frames}
use Rattle.code_types.specs.Agreement.{Agrees}
use Rattle.code_types.specs.Answers.{answered, fits_request, fills_slot, frame_after, goes_on, locals_after, no_slot, pushed_by, raised, regions_after}
use Rattle.code_types.specs.State.{Frame, Slot, OpenRegion, State, Mode, Asking, Raising}
use Rattle.code_safety.specs.Standing.{Stands, Waits, WaitsFor, IsUnpopped, StandAtCalls, FramesStand, frames_due, StandsWell}
use Rattle.code_safety.proofs.BodyPlaces.{next_told}
use Rattle.code_safety.proofs.ActionOutcomes.{Lie}
use Rattle.code_safety.proofs.AnswersBrought.{fits_parts}
use Rattle.code_safety.proofs.MovePreservation.{process, runs_on, length-with_scalars}

-- each slot lies in the locals, also that of no alternative
pub slot_lies_at : (locals : ℕ) (slots : List Slot) (k : ℕ) → Lie locals slots → let slot = slice_index_or slots k no_slot in slot.local + slot.count ≤ locals
slot_lies_at locals slots k lie = by-order (cases_lt k (length slots))
  where
    by-order : (k < length slots) ⊎ (length slots ≤ k) → let slot = slice_index_or slots k no_slot in slot.local + slot.count ≤ locals
    by-order (inl h) = lie k no_slot h
    by-order (inr h) = subst (λ (slot : Slot). slot.local + slot.count ≤ locals) (sym (get_or_past slots k no_slot h)) (omega arith)

-- what is got has its place in the locals, and there are as many as before
pub length-locals_after : (slots : List Slot) (answer : Answer) (locals : List ℤ) → Lie (length locals) slots → IsTrue (fills_slot slots answer) → length (locals_after slots answer locals) ≡ length locals
length-locals_after slots (Got alternative send scalars by) locals lie fills =
    let slot = slice_index_or slots alternative no_slot in
    let within = slot_lies_at (length locals) slots alternative lie in
    let count : length scalars ≡ slot.count = eqb-true (length scalars) slot.count fills in
    length-with_scalars locals slot.local scalars (omega arith)
length-locals_after slots answer locals lie fills = refl

-- the frame goes on behind the instruction that asked
goes_on_well : (code : Code) (agrees : Agrees code) (instance : ℕ) (regions : List OpenRegion) (request : Request) (slots : List Slot) (answer : Answer) (f : Frame) (below : List Frame)
    → (st : Stands code agrees.heights f (Waits code request slots f)) → StandAtCalls code agrees.heights f.body below → length (f ∷ below) ≤ most_frames
    → IsTrue (fills_slot slots answer) → length (pushed_by (length slots) answer) ≡ pushes code st.instr
    → let s = process instance regions (Asking request slots) (f ∷ below) in StandsWell code agrees.heights (goes_on s request slots answer (f ∷ below))
goes_on_well code agrees instance regions request slots answer f below st calls few fills pushed =
    let left = st.stack.left in
    let more = length-append f.stack (pushed_by (length slots) answer) in
    let high : length (f.stack ++ pushed_by (length slots) answer) ≡ height_after code f.body st.instr st.height = omega arith in
    runs_on code agrees instance (regions_after request (length (f ∷ below)) regions) (frame_after slots answer f) below st.row (height_after code f.body st.instr st.height)
    st.inside.is_body (next_told code agrees f.body st.row f.place st.instr st.height st.inside st.has st.stack.goes_on)
    (length-locals_after slots answer f.locals st.stack.lie fills ∙ st.locals) high calls few

-- an exception is raised at the instruction that asked
raised_well : (code : Code) (agrees : Agrees code) (instance : ℕ) (regions : List OpenRegion) (request : Request) (slots : List Slot) (exception : Exc) (f : Frame) (below : List Frame)
    → Stands code agrees.heights f (Waits code request slots f) → StandAtCalls code agrees.heights f.body below → length (f ∷ below) ≤ most_frames
    → StandsWell code agrees.heights (process instance regions (Raising exception) (f ∷ below))
raised_well code agrees instance regions request slots exception f below st calls few =
    let left = st.stack.left in
    let high : IsUnpopped code f st.instr st.height = omega arith in
    record { frames = (record { row = st.row; instr = st.instr; height = st.height; inside = st.inside; has = st.has; locals = st.locals; stack = high }, calls); few = few }

-- the state after an answer to a request that isn't that of the end
abbrev going_on : State → Request → List Slot → Answer → State
going_on s request slots (Fail exception) = raised s exception
going_on s request slots answer = goes_on s request slots answer s.frames

going_on_well : (code : Code) (agrees : Agrees code) (instance : ℕ) (regions : List OpenRegion) (request : Request) (slots : List Slot) (answer : Answer) (f : Frame) (below : List Frame)
    → Stands code agrees.heights f (Waits code request slots f) → StandAtCalls code agrees.heights f.body below → length (f ∷ below) ≤ most_frames
    → IsTrue (fits_request request slots answer)
    → let s = process instance regions (Asking request slots) (f ∷ below) in StandsWell code agrees.heights (going_on s request slots answer)
going_on_well code agrees instance regions request slots (Fail exception) f below st calls few fits = raised_well code agrees instance regions request slots exception f below st calls few
going_on_well code agrees instance regions request slots answer f below st calls few fits =
    goes_on_well code agrees instance regions request slots answer f below st calls few (fits_parts request slots answer fits).1 (st.stack.brings answer fits)

-- the answer to the request to end, and to any other
answered_in : (code : Code) (agrees : Agrees code) (instance : ℕ) (regions : List OpenRegion) (request : Request) (slots : List Slot) (answer : Answer) (f : Frame) (below : List Frame)
    → Stands code agrees.heights f (WaitsFor code request slots f) → StandAtCalls code agrees.heights f.body below → length (f ∷ below) ≤ most_frames
    → IsTrue (fits_request request slots answer)
    → let s = process instance regions (Asking request slots) (f ∷ below) in StandsWell code agrees.heights (answered s request slots answer)
answered_in code agrees instance regions (End how) slots answer f below st calls few fits = record { frames = refl; few = omega arith }
answered_in code agrees instance regions request slots (Fail exception) f below st calls few fits = going_on_well code agrees instance regions request slots (Fail exception) f below st calls few fits
answered_in code agrees instance regions request slots answer f below st calls few fits = going_on_well code agrees instance regions request slots answer f below st calls few fits

frames_answered : (code : Code) (agrees : Agrees code) (instance : ℕ) (regions : List OpenRegion) (request : Request) (slots : List Slot) (answer : Answer) (frames : List Frame)
    → FramesStand code agrees.heights (Asking request slots) frames → length frames ≤ most_frames → IsTrue (fits_request request slots answer)
    → StandsWell code agrees.heights (answered (process instance regions (Asking request slots) frames) request slots answer)
frames_answered code agrees instance regions request slots answer [] st few fits = absurd (let no : ⊥ = cc in no)
frames_answered code agrees instance regions request slots answer (f ∷ below) st few fits = answered_in code agrees instance regions request slots answer f below st.0 st.1 few fits

-- what an answer leaves names no mode
mode_given : (code : Code) (agrees : Agrees code) (instance : ℕ) (regions : List OpenRegion) (mode : Mode) (frames : List Frame) (request : Request) (slots : List Slot) (answer : Answer)
    → FramesStand code agrees.heights mode frames → frames_due mode (length frames) ≤ most_frames → mode ≡ Asking request slots → IsTrue (fits_request request slots answer)
    → StandsWell code agrees.heights (answered (process instance regions mode frames) request slots answer)
mode_given code agrees instance regions mode frames request slots answer st few e fits =
    subst (λ (m : Mode). StandsWell code agrees.heights (answered (process instance regions m frames) request slots answer)) (sym e)
    (frames_answered code agrees instance regions request slots answer frames
    (subst (λ (m : Mode). FramesStand code agrees.heights m frames) e st)
    (subst (λ (m : Mode). frames_due m (length frames) ≤ most_frames) e few) fits)

pub answers_well : (code : Code) (agrees : Agrees code) (s : State) (request : Request) (slots : List Slot) (answer : Answer)
    → StandsWell code agrees.heights s → s.mode ≡ Asking request slots → IsTrue (fits_request request slots answer)
    → StandsWell code agrees.heights (answered s request slots answer)
answers_well code agrees s request slots answer well e fits = mode_given code agrees s.instance s.regions s.mode s.frames request slots answer well.frames well.few e fits
