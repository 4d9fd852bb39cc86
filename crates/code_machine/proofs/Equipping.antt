-- A process that stands well, and has room, has what its next step asks.
use Rattle.std.proofs.Common.{◌≡◌, refl, ℕ, ◌+◌, ◌^◌, ◌<◌, ◌≤◌, ◌⊎◌, inl, inr, List, [], ◌∷◌, ◌++◌, All, length, Some, slice_get, vec_capacity, ap, ◌∙◌, arith}
use Rattle.std.specs.Prelude.{IsSomeAnd}
use Rattle.std.proofs.lemmas.List.{length-reverse, length-map}
use Rattle.std.proofs.lemmas.List.Elements.{All-pop}
use Rattle.std.proofs.lemmas.Option.{slice_get_within}
use Rattle.kernel_base.specs.declared.ends.Exc.{Exc}
use Rattle.code_guard.proofs.EachItem.{all_at, item_or_past}
use Rattle.code_types.specs.declared.instr.Instr.{Instr}
use Rattle.code_types.specs.declared.code.BodyRow.{BodyRow}
use Rattle.code_types.specs.declared.code.Code.{Code}
use Rattle.code_types.specs.Places.{finds}
use Rattle.code_types.specs.State.{Frame, Running as RunningMode, Called as CalledMode}
use Rattle.code_safety.specs.Standing.{StandsOn}
use Rattle.code_safety.proofs.Needing.{placed, can_make, can_enter, can_take}
use Rattle.machine_frames.specs.declared.activation.Activation.{Activation}
use Rattle.machine_frames.specs.Frames.{frame_of}
use Rattle.machine_steps.specs.declared.process.Doing.{Doing}
use Rattle.machine_steps.specs.declared.process.Doing.TheVariants.{Running, Called, Asking, Raising, Ended}
use Rattle.machine_steps.specs.declared.process.Process.{Process}
use Rattle.machine_steps.specs.declared.room.Room.{Room}
use Rattle.machine_steps.specs.Rooms.{HasLists, HasRoom, HasRoomFor}
use Rattle.machine_steps.specs.Views.{callers_of, mode_of, state_of}
use Rattle.machine_steps.proofs.CallSteps.{callers_push}
use Rattle.code_machine.specs.Equipment.{IsEquipped, IsEquippedIn, IsEquippedToEnter, IsEquippedToRaise, IsEquippedToStep}
use Rattle.code_machine.specs.Running.{IsUp}

-- room for fewer
lists_of_fewer : (most fewer : ℕ) (room : Room) → fewer ≤ most → HasLists most room → HasLists fewer room
lists_of_fewer most fewer room h lists = record {
  numbers = (lists.numbers.0, omega arith);
  kept_numbers = (lists.kept_numbers.0, omega arith);
  alternatives = (lists.alternatives.0, omega arith);
  kept_alternatives = (lists.kept_alternatives.0, omega arith);
  bytes = (lists.bytes.0, omega arith, lists.bytes.2);
  kept_bytes = (lists.kept_bytes.0, omega arith, lists.kept_bytes.2);
  slots = (lists.slots.0, omega arith);
}

-- a body of the code isn't higher than so much
row_low : (code : Code) (height body : ℕ) (row : BodyRow) → All (λ row. row.height ≤ height) code.bodies → slice_get code.bodies body ≡ Some row → row.height ≤ height
row_low code height body row all here = all_at (λ (r : BodyRow). r.height ≤ height) code.bodies body row all here

-- the number of frames below
callers_count : (below : List Activation) → length (callers_of below) ≡ length below
callers_count below = simp (length-reverse, length-map) refl

-- the innermost caller is the next frame
caller_next : (rest below : List Activation) (caller : Activation) → below ≡ rest ++ caller ∷ [] → callers_of below ≡ frame_of caller ∷ callers_of rest
caller_next rest below caller e = ap callers_of e ∙ callers_push rest caller

-- what is left below has room beside what isn't in use
spare_room : (code : Code) (p : Process) → HasRoomFor code p → length p.below.items + length p.spare.items ≤ vec_capacity p.spare
spare_room code p r = let count = r.room.count in let unused = r.room.unused in omega arith

-- a process that runs
equipped : (code : Code) (p : Process) (room : Room) (height : ℕ) (instr : Instr)
    → StandsOn code (state_of p) → length code.instrs < 2 ^ 64 → HasRoomFor code p → All (λ row. row.height ≤ height) code.bodies → HasLists height room
    → p.doing ≡ Running → slice_get code.instrs p.top.place ≡ Some instr
    → IsEquipped code instr p room
equipped code p room height instr stands short r heights lists running here =
    let s = state_of p in
    let top = frame_of p.top in
    let below = callers_of p.below.items in
    let framed : s.frames ≡ top ∷ below = rw running refl in
    let mode : s.mode ≡ RunningMode = rw running refl in
    let made = can_make code stands.0 s top below instr stands.1 framed mode here in
    let at = placed code stands.0 s top below stands.1 framed in
    let low = row_low code r.height p.top.body made.row r.heights made.is_body in
    let listed = row_low code height p.top.body made.row heights made.is_body in
    let wide = r.room.top.stack in
    let found = made.operands in
    let high = made.high in
    let put = made.room in
    let inside = at.place in
    record {
      running = running;
      here = here;
      can = record { row = made.row; locals = made.locals; named = made.named; operands = made.operands; room = omega arith; place = omega arith };
      there = at.body;
      lists = lists_of_fewer height (finds code p.top.body instr) room (omega arith) lists;
      returns = λ rest caller e.
          let framed_on : s.frames ≡ top ∷ frame_of caller ∷ callers_of rest = framed ∙ ap (λ (fs : List Frame). top ∷ fs) (caller_next rest p.below.items caller e) in
          let taken = can_take code stands.0 s top (frame_of caller) (callers_of rest) stands.1 framed_on in
          let both = All-pop (HasRoom r.height r.locals) p.below.items rest (Some caller) e r.room.below in
          let caller_low = row_low code r.height caller.body taken.0.row r.heights taken.0.is_body in
          let caller_wide = both.1.stack in
          let caller_room = taken.0.room in
          let caller_inside = taken.1.place in
          (omega arith, omega arith);
      spare = spare_room code p r;
    }

-- a process that runs, whatever its instruction is
equipped_here : (code : Code) (p : Process) (room : Room) (height : ℕ)
    → StandsOn code (state_of p) → length code.instrs < 2 ^ 64 → HasRoomFor code p → All (λ row. row.height ≤ height) code.bodies → HasLists height room
    → p.doing ≡ Running
    → IsSomeAnd (slice_get code.instrs p.top.place) (λ instr. IsEquipped code instr p room)
equipped_here code p room height stands short r heights lists running = by-item (item_or_past code.instrs p.top.place)
  where
    by-item : ((x : Instr) × (slice_get code.instrs p.top.place ≡ Some x)) ⊎ (length code.instrs ≤ p.top.place) → IsSomeAnd (slice_get code.instrs p.top.place) (λ instr. IsEquipped code instr p room)
    by-item (inl h) = rw h.1 (equipped code p room height h.0 stands short r heights lists running h.1)
    by-item (inr h) =
        let framed : (state_of p).frames ≡ frame_of p.top ∷ callers_of p.below.items = rw running refl in
        let inside = (placed code stands.0 (state_of p) (frame_of p.top) (callers_of p.below.items) stands.1 framed).place in
        absurd (omega arith)

-- a process that has made the tick of a call
equipped_to_enter : (code : Code) (p : Process) → StandsOn code (state_of p) → HasRoomFor code p → p.doing ≡ Called → IsEquippedToEnter code p
equipped_to_enter code p stands r called =
    let s = state_of p in
    let top = frame_of p.top in
    let below = callers_of p.below.items in
    let framed : s.frames ≡ top ∷ below = rw called refl in
    let mode : s.mode ≡ CalledMode = rw called refl in
    let can = can_enter code stands.0 s top below stands.1 framed mode in
    let count = callers_count p.below.items in
    let few = can.few in
    record {
      called = called;
      callee = can.callee;
      here = can.is_call;
      there = slice_get_within code.bodies can.callee can.row can.is_body;
      found = rw can.is_body can.operands;
      holds = rw can.is_body can.holds;
      few = omega arith;
      room = r;
    }

-- a process that has raised an exception
equipped_to_raise : (code : Code) (p : Process) (exception : Exc) → StandsOn code (state_of p) → HasRoomFor code p → p.doing ≡ Raising exception → IsEquippedToRaise code exception p
equipped_to_raise code p exception stands r raising =
    let framed : (state_of p).frames ≡ frame_of p.top ∷ callers_of p.below.items = rw raising refl in
    let at = placed code stands.0 (state_of p) (frame_of p.top) (callers_of p.below.items) stands.1 framed in
    record { raising = raising; there = at.body; spare = spare_room code p r }

by_doing : (code : Code) (p : Process) (room : Room) (height : ℕ) (doing : Doing)
    → StandsOn code (state_of p) → length code.instrs < 2 ^ 64 → HasRoomFor code p → All (λ row. row.height ≤ height) code.bodies → HasLists height room
    → p.doing ≡ doing → IsUp (mode_of doing)
    → IsEquippedIn doing code p room
by_doing code p room height Running stands short r heights lists is up = equipped_here code p room height stands short r heights lists is
by_doing code p room height Called stands short r heights lists is up = equipped_to_enter code p stands r is
by_doing code p room height (Asking request slots) stands short r heights lists is up = absurd up
by_doing code p room height (Raising exception) stands short r heights lists is up = equipped_to_raise code p exception stands r is
by_doing code p room height Ended stands short r heights lists is up = absurd up

-- a process that stands well, isn't waiting and hasn't ended, with room
pub equipped_to_step : (code : Code) (p : Process) (room : Room) (height : ℕ)
    → StandsOn code (state_of p) → length code.instrs < 2 ^ 64 → HasRoomFor code p → All (λ row. row.height ≤ height) code.bodies → HasLists height room
    → IsUp (state_of p).mode
    → IsEquippedToStep code p room
equipped_to_step code p room height stands short r heights lists up = by_doing code p room height p.doing stands short r heights lists refl up
