-- A process that runs on its code has room for each answer that fits, and runs on.
use Rattle.std.proofs.Common.{◌≡◌, ◌≢◌, refl, ℕ, ◌+◌, ◌≤◌, List, ◌∷◌, ℤ, length, map, IsTrue, vec_capacity, Vec, Global, subst, sym, arith, ap, []}
use Rattle.std.proofs.lemmas.List.{length-map}
use Rattle.kernel_base.specs.declared.ends.How.{How}
use Rattle.kernel_base.specs.declared.answer.Answer.{Answer}
use Rattle.kernel_base.specs.declared.answer.Answer.TheVariants.{Value, Done, Woken, Got, Otherwise, Instance, Fail, Chose, Handed, Stored}
use Rattle.kernel_base.specs.declared.request.Request.{Request}
use Rattle.kernel_base.specs.declared.request.Request.TheVariants.{End}
use Rattle.code_guard.proofs.EachItem.{all_at}
use Rattle.code_types.specs.declared.code.BodyRow.{BodyRow}
use Rattle.code_types.specs.declared.code.Code.{Code}
use Rattle.code_types.specs.Answers.{fits_request, pushed_by}
use Rattle.code_types.specs.State.{Mode, Slot, State}
use Rattle.code_types.specs.State.{Asking as AskingMode}
use Rattle.code_types.specs.Talk.{Leads}
use Rattle.code_safety.specs.Needs.{HasItsPlace}
use Rattle.code_safety.specs.Standing.{StandsOn}
use Rattle.code_safety.proofs.SingleMoves.{answer_leads as answer_that_fits_leads}
use Rattle.code_safety.proofs.StandingOn.{stands_after_answer}
use Rattle.code_safety.proofs.Needing.{placed, can_hold}
use Rattle.machine_frames.specs.Frames.{frame_of}
use Rattle.machine_steps.specs.declared.process.Doing.{Doing}
use Rattle.machine_steps.specs.declared.process.Doing.TheVariants.{Running, Called, Asking, Raising, Ended}
use Rattle.machine_steps.specs.declared.process.Process.{Process}
use Rattle.machine_steps.specs.declared.process.SlotEntry.{SlotEntry}
use Rattle.machine_steps.specs.Answering.{takes_answer}
use Rattle.machine_steps.specs.Asking.{HasFewSlots, IsUpNow}
use Rattle.machine_steps.specs.Rooms.{HasRoomFor, IsRoomy, KeepsPlaces, KeepsUnlessEnded}
use Rattle.machine_steps.specs.Taking.{GoesOnBehind as GoesOnBehindNow, HasAnswerRoom, HoldsAnswer, IsAnswered, IsStored, after_answer, answered_in}
use Rattle.machine_steps.specs.Views.{callers_of, mode_of, slot_of, state_of}
use Rattle.code_machine.specs.Running.{GoesOnBehind, HasRoomIn, IsUp, RunsOn}

is_stored : (slots : List Slot) (locals : ℕ) (answer : Answer) → HasItsPlace slots locals answer → IsStored slots locals answer
is_stored slots locals (Value scalars) h = tt
is_stored slots locals Done h = tt
is_stored slots locals (Woken alternative by) h = tt
is_stored slots locals (Got alternative send scalars by) h = h
is_stored slots locals Otherwise h = tt
is_stored slots locals (Instance i) h = tt
is_stored slots locals (Fail exception) h = tt
is_stored slots locals (Chose p) h = tt
is_stored slots locals (Handed p) h = tt
is_stored slots locals Stored h = tt

-- a stack lies in its room
within : (v : Vec ℤ Global) → length v.items ≤ vec_capacity v
within v = omega (arith, v.ok)

-- the answer to a request to end brings nothing
ends_with_done : (how : How) (slots : List Slot) (answer : Answer) → IsTrue (fits_request (End how) slots answer) → answer ≡ Done
ends_with_done how slots Done h = refl
ends_with_done how slots answer h = cc

-- what holds of every request holds of an end and of each other
by_end : (P : Request → Type 0) → ((how : How) → P (End how)) → ((request : Request) → ((how : How) → request ≢ End how) → P request) → (request : Request) → P request
by_end P end other (End how) = end how
by_end P end other request = other request (λ how e. cc)

holds_end : (code : Code) (p : Process) (how : How) (slots : Vec SlotEntry Global) (answer : Answer)
    → RunsOn code p → p.doing ≡ Asking (End how) slots → IsTrue (fits_request (End how) (map slot_of slots.items) answer)
    → HoldsAnswer slots.items answer p
holds_end code p how slots answer runs asking fits =
    let framed : (state_of p).frames ≡ frame_of p.top ∷ callers_of p.below.items = rw asking refl in
    let at = placed code runs.stands.0 (state_of p) (frame_of p.top) (callers_of p.below.items) runs.stands.1 framed in
    let inside = at.place in
    let short = runs.short in
    let full = within p.top.stack in
    let few : HasFewSlots (Asking (End how) slots) = subst HasFewSlots asking runs.few in
    let room : HasRoomIn (Asking (End how) slots) code p = subst (λ (d : Doing). HasRoomIn d code p) asking runs.room in
    rw (ends_with_done how (map slot_of slots.items) answer fits) (record { stack = omega arith; store = tt; few = few; place = omega arith; regions = room.1 })

holds_other : (code : Code) (p : Process) (request : Request) (slots : Vec SlotEntry Global) (answer : Answer)
    → RunsOn code p → p.doing ≡ Asking request slots → ((how : How) → request ≢ End how) → IsTrue (fits_request request (map slot_of slots.items) answer)
    → HoldsAnswer slots.items answer p
holds_other code p request slots answer runs asking goes fits =
    let s = state_of p in
    let below = callers_of p.below.items in
    let framed : s.frames ≡ frame_of p.top ∷ below = rw asking refl in
    let mode : s.mode ≡ AskingMode request (map slot_of slots.items) = rw asking refl in
    let at = placed code runs.stands.0 s (frame_of p.top) below runs.stands.1 framed in
    let held = can_hold code runs.stands.0 s (frame_of p.top) below request (map slot_of slots.items) answer runs.stands.1 framed mode goes fits in
    let inside = at.place in
    let short = runs.short in
    let few : HasFewSlots (Asking request slots) = subst HasFewSlots asking runs.few in
    let room : HasRoomIn (Asking request slots) code p = subst (λ (d : Doing). HasRoomIn d code p) asking runs.room in
    let low = all_at (λ (r : BodyRow). r.height ≤ room.0.height) code.bodies p.top.body held.row room.0.heights held.is_body in
    let wide = room.0.room.top.stack in
    let count : length (map slot_of slots.items) ≡ length slots.items = simp length-map refl in
    let pushed : length p.top.stack.items + length (pushed_by (length slots.items) answer) ≤ held.row.height = subst (λ (n : ℕ). length p.top.stack.items + length (pushed_by n answer) ≤ held.row.height) count held.room in
    record { stack = omega arith; store = is_stored (map slot_of slots.items) (length p.top.locals.items) answer held.got; few = few; place = omega arith; regions = room.1 }

room_by_doing : (code : Code) (p : Process) (doing : Doing) (answer : Answer) → RunsOn code p → p.doing ≡ doing → IsTrue (takes_answer (mode_of doing) answer) → HasAnswerRoom doing answer p
room_by_doing code p Running answer runs is fits = tt
room_by_doing code p Called answer runs is fits = tt
room_by_doing code p (Asking request slots) answer runs is fits =
    by_end (λ (r : Request). p.doing ≡ Asking r slots → IsTrue (fits_request r (map slot_of slots.items) answer) → HoldsAnswer slots.items answer p)
    (λ how asking h. holds_end code p how slots answer runs asking h)
    (λ r goes asking h. holds_other code p r slots answer runs asking goes h)
    request is fits
room_by_doing code p (Raising exception) answer runs is fits = tt
room_by_doing code p Ended answer runs is fits = tt

-- there is room for an answer that fits
pub answer_room : (code : Code) (p : Process) (answer : Answer) → RunsOn code p → IsTrue (takes_answer (state_of p).mode answer) → HasAnswerRoom p.doing answer p
answer_room code p answer runs fits = room_by_doing code p p.doing answer runs refl fits

-- frames that stay where they were, and give up no room, have the room that they had
places_roomy : (height locals : ℕ) (old new : Process) → KeepsPlaces old new → IsRoomy height locals old → IsRoomy height locals new
places_roomy height locals old new k r =
    let stack = k.top.stack in
    let store = k.top.locals in
    let high = r.top.stack in
    let many = r.top.store in
    record {
      top = record { stack = omega arith; store = omega arith };
      below = rw k.below r.below;
      spare = rw k.spare r.spare;
      count = rw (k.below, k.spare) r.count;
      depth = rw k.below r.depth;
      unused = rw k.spare r.unused;
    }

places_stay : (code : Code) (old new : Process) → KeepsPlaces old new → HasRoomFor code old → HasRoomFor code new
places_stay code old new k r = record { height = r.height; locals = r.locals; heights = r.heights; stores = r.stores; room = places_roomy r.height r.locals old new k r.room }

-- no request waits behind an answer
none_waits : (request other : Request) (slots : Vec SlotEntry Global) → GoesOnBehindNow request (Asking other slots) → ⊥
none_waits (End how) other slots e = cc
none_waits request other slots up = up

none_waits_in : (old : Doing) (answer : Answer) (other : Request) (slots : Vec SlotEntry Global) → IsTrue (takes_answer (mode_of old) answer) → IsAnswered old (Asking other slots) → ⊥
none_waits_in Running answer other slots fits h = cc
none_waits_in Called answer other slots fits h = cc
none_waits_in (Asking request had) answer other slots fits h = none_waits request other slots h
none_waits_in (Raising exception) answer other slots fits h = cc
none_waits_in Ended answer other slots fits h = cc

room_after : (code : Code) (old new : Process) (answer : Answer) (doing : Doing) → IsTrue (takes_answer (state_of old).mode answer) → IsAnswered old.doing doing → KeepsUnlessEnded doing old new → HasRoomFor code old → HasRoomIn doing code new
room_after code old new answer Running fits going kept r = places_stay code old new kept r
room_after code old new answer Called fits going kept r = places_stay code old new kept r
room_after code old new answer (Asking request slots) fits going kept r = absurd (none_waits_in old.doing answer request slots fits going)
room_after code old new answer (Raising exception) fits going kept r = places_stay code old new kept r
room_after code old new answer Ended fits going kept r = tt

up_mode : (doing : Doing) → IsUpNow doing → IsUp (mode_of doing)
up_mode Running up = tt
up_mode Called up = tt
up_mode (Asking request slots) up = up
up_mode (Raising exception) up = tt
up_mode Ended up = up

behind : (request : Request) (slots : List Slot) (new : Doing) → GoesOnBehindNow request new → GoesOnBehind (AskingMode request slots) (mode_of new)
behind (End how) slots new e = ap mode_of e
behind request slots new up = up_mode new up

-- a process goes on behind an answer, or has ended
pub goes_behind : (old new : Doing) → IsAnswered old new → GoesOnBehind (mode_of old) (mode_of new)
goes_behind Running new h = tt
goes_behind Called new h = tt
goes_behind (Asking request slots) new h = behind request (map slot_of slots.items) new h
goes_behind (Raising exception) new h = tt
goes_behind Ended new h = tt

-- what an answer leaves stands well, and had room before
answered_by_doing : (code : Code) (p : Process) (doing : Doing) (answer : Answer) → RunsOn code p → p.doing ≡ doing → IsTrue (takes_answer (mode_of doing) answer)
    → StandsOn code (after_answer (state_of p) answer) × HasRoomFor code p
answered_by_doing code p Running answer runs is fits = absurd (let no : ⊥ = cc in no)
answered_by_doing code p Called answer runs is fits = absurd (let no : ⊥ = cc in no)
answered_by_doing code p (Asking request slots) answer runs is fits =
    let mode : (state_of p).mode ≡ AskingMode request (map slot_of slots.items) = rw is refl in
    let well = stands_after_answer code (state_of p) request (map slot_of slots.items) answer runs.stands mode fits in
    let room : HasRoomIn (Asking request slots) code p = subst (λ (d : Doing). HasRoomIn d code p) is runs.room in
    (subst (λ (m : Mode). StandsOn code (answered_in (state_of p) m answer)) (sym mode) well, room.0)
answered_by_doing code p (Raising exception) answer runs is fits = absurd (let no : ⊥ = cc in no)
answered_by_doing code p Ended answer runs is fits = absurd (let no : ⊥ = cc in no)

-- a process runs on behind an answer that fits
pub answer_runs : (code : Code) (old new : Process) (answer : Answer)
    → RunsOn code old
    → IsTrue (takes_answer (state_of old).mode answer)
    → state_of new ≡ after_answer (state_of old) answer
    → KeepsUnlessEnded new.doing old new → HasFewSlots new.doing → IsAnswered old.doing new.doing
    → RunsOn code new
answer_runs code old new answer runs fits state kept few going =
    let after = answered_by_doing code old old.doing answer runs refl fits in
    record {
      stands = subst (StandsOn code) (sym state) after.0;
      short = runs.short;
      room = room_after code old new answer new.doing fits going kept after.1;
      few = few;
    }

leads_by_doing : (code : Code) (s : State) (doing : Doing) (answer : Answer) → s.mode ≡ mode_of doing → IsTrue (takes_answer (mode_of doing) answer) → Leads code s (answer ∷ []) [] (after_answer s answer)
leads_by_doing code s Running answer is fits = absurd (let no : ⊥ = cc in no)
leads_by_doing code s Called answer is fits = absurd (let no : ⊥ = cc in no)
leads_by_doing code s (Asking request slots) answer is fits =
    subst (λ (m : Mode). Leads code s (answer ∷ []) [] (answered_in s m answer)) (sym is) (answer_that_fits_leads code s request (map slot_of slots.items) answer is fits)
leads_by_doing code s (Raising exception) answer is fits = absurd (let no : ⊥ = cc in no)
leads_by_doing code s Ended answer is fits = absurd (let no : ⊥ = cc in no)

-- the answer is the step that every code makes of a process that waits
pub answer_leads : (code : Code) (old new : Process) (answer : Answer)
    → IsTrue (takes_answer (state_of old).mode answer)
    → state_of new ≡ after_answer (state_of old) answer
    → Leads code (state_of old) (answer ∷ []) [] (state_of new)
answer_leads code old new answer fits state = subst (Leads code (state_of old) (answer ∷ []) []) (sym state) (leads_by_doing code (state_of old) old.doing answer refl fits)
