-- What stands well has what its next step asks.
use Rattle.std.proofs.Common.{◌≡◌, ◌≢◌, refl, ℕ, ◌+◌, ◌≤◌, ◌⊎◌, inl, inr, Bool, true, false, List, ◌∷◌, length, Some, IsTrue, slice_get, subst, sym, ap, ◌∙◌, arith}
use Rattle.std.proofs.lemmas.Bool.{eqb-true}
use Rattle.std.proofs.lemmas.Option.{same_Some, slice_get_within}
use Rattle.kernel_base.specs.declared.ends.Exc.{Exc}
use Rattle.kernel_base.specs.declared.ends.How.{How}
use Rattle.kernel_base.specs.declared.request.Request.{Request}
use Rattle.kernel_base.specs.declared.request.Request.TheVariants.{End}
use Rattle.kernel_base.specs.declared.answer.Answer.{Answer}
use Rattle.kernel_base.specs.declared.answer.Answer.TheVariants.{Got, Fail}
use Rattle.code_guard.proofs.EachItem.{all_at, item_or_past}
use Rattle.code_types.specs.declared.instr.Instr.{Instr}
use Rattle.code_types.specs.declared.instr.Instr.TheVariants.{Jump, Again, Call, Return, Raise, Stop, Finish}
use Rattle.code_types.specs.declared.code.Handler.{Handler}
use Rattle.code_types.specs.declared.code.BodyRow.{BodyRow}
use Rattle.code_types.specs.declared.code.Code.{Code}
use Rattle.code_types.specs.Places.{finds, pops, pushes, is_last, params_of, results_of, taker}
use Rattle.code_types.specs.Actions.{most_frames}
use Rattle.code_types.specs.Agreement.{Agrees, StandsIn, HasHeight, HoldsParams, IsNamed}
use Rattle.code_types.specs.Answers.{fits_request, fills_slot, pushed_by}
use Rattle.code_types.specs.State.{Frame, Slot, State, Mode, Running, Called, Asking, Raising}
use Rattle.code_safety.specs.Standing.{Stands, Waits, WaitsFor, Brings, IsAtCall, IsCalling, IsHighIn, FramesStand, frames_due, StandsWell}
use Rattle.code_safety.specs.Needs.{IsPlaced, CanMake, CanEnter, CanTake, CanLand, HasItsPlace, CanHold}
use Rattle.code_safety.proofs.BodyPlaces.{stands_at_place, next_told, in_code}
use Rattle.code_safety.proofs.AnswersBrought.{fits_parts}
use Rattle.code_safety.proofs.Answered.{slot_lies_at}
use Rattle.code_safety.proofs.ActionOutcomes.{Lie}
use Rattle.code_safety.proofs.MovePreservation.{pops_found}
use Rattle.code_safety.proofs.Handling.{taken, lands}

-- the innermost frame of a process in this mode, with those below it
frames_in : (code : Code) (agrees : Agrees code) (s : State) (mode : Mode) (f : Frame) (below : List Frame) → StandsWell code agrees.heights s → s.frames ≡ f ∷ below → s.mode ≡ mode → FramesStand code agrees.heights mode (f ∷ below)
frames_in code agrees s mode f below well e m = subst (λ (x : Mode). FramesStand code agrees.heights x (f ∷ below)) m (subst (FramesStand code agrees.heights s.mode) e well.frames)

few_in : (code : Code) (agrees : Agrees code) (s : State) (mode : Mode) (f : Frame) (below : List Frame) → StandsWell code agrees.heights s → s.frames ≡ f ∷ below → s.mode ≡ mode → frames_due mode (length (f ∷ below)) ≤ most_frames
few_in code agrees s mode f below well e m = subst (λ (x : Mode). frames_due x (length (f ∷ below)) ≤ most_frames) m (subst (λ (frames : List Frame). frames_due s.mode (length frames) ≤ most_frames) e well.few)

stands_placed : (code : Code) (heights : List ℕ) (f : Frame) (IsHigh : Instr → ℕ → Type 0) → Stands code heights f IsHigh → IsPlaced code f
stands_placed code heights f IsHigh st = record { body = slice_get_within code.bodies f.body st.row st.inside.is_body; place = slice_get_within code.instrs f.place st.instr st.inside.is_instr }

pub placed : (code : Code) (agrees : Agrees code) (s : State) (f : Frame) (below : List Frame) → StandsWell code agrees.heights s → s.frames ≡ f ∷ below → IsPlaced code f
placed code agrees s f below well e = stands_placed code agrees.heights f (IsHighIn code s.mode f) (frames_in code agrees s s.mode f below well e refl).0

-- an instruction after which control doesn't go on pushes nothing
last_pushes : (code : Code) (instr : Instr) → IsTrue (is_last instr) → pushes code instr ≡ 0
last_pushes code (Jump to) h = refl
last_pushes code (Again to) h = refl
last_pushes code Return h = refl
last_pushes code (Raise exception) h = refl
last_pushes code Stop h = refl
last_pushes code Finish h = refl
last_pushes code instr h = cc

-- the body's greatest height has room for what the instruction leaves
pub has_room : (code : Code) (agrees : Agrees code) (body : ℕ) (row : BodyRow) (place : ℕ) (instr : Instr) (height : ℕ) → StandsIn code body row place instr → HasHeight agrees.heights place height → height + pushes code instr ≤ row.height + pops code body instr
has_room code agrees body row place instr height at has = by-last (is_last instr) refl
  where
    by-last : (b : Bool) → is_last instr ≡ b → height + pushes code instr ≤ row.height + pops code body instr
    by-last true is = let none = last_pushes code instr is in let low = (agrees.are_heights.operands body row place instr at height has).1 in omega arith
    by-last false is =
        let told = next_told code agrees body row place instr height at has is in
        let next = stands_at_place code agrees body row (place + 1) at.is_body told.from told.until in
        let low = (agrees.are_heights.operands body row (place + 1) next.0 next.1 _ told.has).1 in
        let within = pops_found code body instr in
        let found = (agrees.are_heights.operands body row place instr at height has).0 in
        omega arith

pub can_make : (code : Code) (agrees : Agrees code) (s : State) (f : Frame) (below : List Frame) (instr : Instr)
    → StandsWell code agrees.heights s → s.frames ≡ f ∷ below → s.mode ≡ Running → slice_get code.instrs f.place ≡ Some instr → CanMake code f instr
can_make code agrees s f below instr well e m here =
    let st = (frames_in code agrees s Running f below well e m).0 in
    let same : st.instr ≡ instr = same_Some st.instr instr (sym st.inside.is_instr ∙ here) in
    let held = agrees.are_heights.operands f.body st.row f.place st.instr st.inside st.height st.has in
    let found = held.0 in
    let low = held.1 in
    let full = st.stack in
    let room = has_room code agrees f.body st.row f.place st.instr st.height st.inside st.has in
    subst (CanMake code f) same (record {
      row = st.row;
      is_body = st.inside.is_body;
      named = agrees.named f.body st.row f.place st.instr st.inside;
      locals = sym st.locals;
      operands = omega arith;
      high = omega arith;
      room = omega arith;
    })

pub can_enter : (code : Code) (agrees : Agrees code) (s : State) (f : Frame) (below : List Frame)
    → StandsWell code agrees.heights s → s.frames ≡ f ∷ below → s.mode ≡ Called → CanEnter code f (length below)
can_enter code agrees s f below well e m = by-row (item_or_past code.bodies callee)
  where
    st : Stands code agrees.heights f (IsAtCall f)
    st = (frames_in code agrees s Called f below well e m).0

    callee : ℕ
    callee = st.stack.callee

    there : IsNamed code st.row (Call callee)
    there = subst (IsNamed code st.row) st.stack.calls (agrees.named f.body st.row f.place st.instr st.inside)

    found : params_of (slice_get code.bodies callee) ≤ length f.stack
    found =
        let count : finds code f.body st.instr ≡ params_of (slice_get code.bodies callee) = ap (finds code f.body) st.stack.calls in
        let full = st.stack.full in
        let k = (agrees.are_heights.operands f.body st.row f.place st.instr st.inside st.height st.has).0 in
        omega arith

    by-row : ((x : BodyRow) × (slice_get code.bodies callee ≡ Some x)) ⊎ (length code.bodies ≤ callee) → CanEnter code f (length below)
    by-row (inl h) =
        let few = few_in code agrees s Called f below well e m in
        record {
          callee = callee;
          row = h.0;
          is_call = st.inside.is_instr ∙ ap Some st.stack.calls;
          is_body = h.1;
          operands = subst (λ (n : ℕ). n ≤ length f.stack) (ap params_of h.1) found;
          holds = all_at HoldsParams code.bodies callee h.0 agrees.params h.1;
          few = omega arith;
        }
    by-row (inr h) = let low = there in absurd (omega arith)

pub can_take : (code : Code) (agrees : Agrees code) (s : State) (f caller : Frame) (below : List Frame)
    → StandsWell code agrees.heights s → s.frames ≡ f ∷ caller ∷ below → CanTake code caller (results_of (slice_get code.bodies f.body)) × IsPlaced code caller
can_take code agrees s f caller below well e =
    let c = (frames_in code agrees s s.mode f (caller ∷ below) well e refl).1.0 in
    let popped : pops code caller.body c.instr ≡ params_of (slice_get code.bodies f.body) = ap (pops code caller.body) c.stack.calls in
    let pushed : pushes code c.instr ≡ results_of (slice_get code.bodies f.body) = ap (pushes code) c.stack.calls in
    let left = c.stack.left in
    let room = has_room code agrees caller.body c.row caller.place c.instr c.height c.inside c.has in
    (record { row = c.row; is_body = c.inside.is_body; room = omega arith }, stands_placed code agrees.heights caller (IsCalling code f.body caller) c)

pub can_land : (code : Code) (agrees : Agrees code) (s : State) (f : Frame) (below : List Frame) (exception : Exc) (handler : Handler)
    → StandsWell code agrees.heights s → s.frames ≡ f ∷ below → s.mode ≡ Raising exception → taker code.handlers f.place exception ≡ Some handler → CanLand code f handler
can_land code agrees s f below exception handler well e m takes_it =
    let st = (frames_in code agrees s (Raising exception) f below well e m).0 in
    let l = lands code agrees f.body st.row f.place st.instr st.height handler st.inside st.has (taken code.handlers f.place exception handler takes_it) in
    let unpopped = st.stack in
    let keeps = l.keeps in
    record { height = omega arith; target = in_code code agrees f.body handler.target l.until }

-- what is got lies where its slot begins
has_its_place : (slots : List Slot) (locals : ℕ) (answer : Answer) → Lie locals slots → IsTrue (fills_slot slots answer) → HasItsPlace slots locals answer
has_its_place slots locals (Got alternative send scalars by) lie fills =
    let within = slot_lies_at locals slots alternative lie in
    let count = eqb-true (length scalars) _ fills in
    omega arith
has_its_place slots locals answer lie fills = tt

-- what an answer pushes is no more than the instruction pushes
pushed_within : (code : Code) (instr : Instr) (count : ℕ) (answer : Answer) → Brings code instr count answer → length (pushed_by count answer) ≤ pushes code instr
pushed_within code instr count (Fail exception) brings = omega arith
pushed_within code instr count answer brings = omega arith

waits_unless_end : (code : Code) (request : Request) (slots : List Slot) (f : Frame) (instr : Instr) (height : ℕ) → ((how : How) → request ≢ End how) → WaitsFor code request slots f instr height → Waits code request slots f instr height
waits_unless_end code (End how) slots f instr height goes waits = absurd (goes how refl)
waits_unless_end code request slots f instr height goes waits = waits

pub can_hold : (code : Code) (agrees : Agrees code) (s : State) (f : Frame) (below : List Frame) (request : Request) (slots : List Slot) (answer : Answer)
    → StandsWell code agrees.heights s → s.frames ≡ f ∷ below → s.mode ≡ Asking request slots → ((how : How) → request ≢ End how) → IsTrue (fits_request request slots answer) → CanHold code f slots answer
can_hold code agrees s f below request slots answer well e m goes fits =
    let st = (frames_in code agrees s (Asking request slots) f below well e m).0 in
    let w = waits_unless_end code request slots f st.instr st.height goes st.stack in
    let left = w.left in
    let pushed = pushed_within code st.instr (length slots) answer (w.brings answer fits) in
    let room = has_room code agrees f.body st.row f.place st.instr st.height st.inside st.has in
    let low = (agrees.are_heights.operands f.body st.row f.place st.instr st.inside st.height st.has).1 in
    let many = w.few in
    record {
      row = st.row;
      is_body = st.inside.is_body;
      room = omega arith;
      got = has_its_place slots (length f.locals) answer w.lie (fits_parts request slots answer fits).1;
      few = omega arith;
    }
