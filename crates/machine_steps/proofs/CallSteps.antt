-- Calls are the steps of the definitions.
use Rattle.std.proofs.Common.{◌≡◌, ℕ, ◌+◌, ◌<◌, ◌≤◌, List, [], ◌∷◌, ◌++◌, true, false, length, slice_get, Some, refl, ap, ◌∙◌, arith, rules, tests}
use Rattle.std.specs.Prelude.{nat_lt, nat_le, map}
use Rattle.std.proofs.lemmas.List.{length-reverse, length-map, map-append}
use Rattle.std.proofs.lemmas.List.{reverse-append}
use Rattle.kernel_base.specs.declared.ends.Exc.TheVariants.{Spacefail}
use Rattle.code_types.specs.declared.instr.Instr.TheVariants.{Call}
use Rattle.code_types.specs.declared.code.Code.{Code}
use Rattle.code_types.specs.Places.{params_of}
use Rattle.code_types.specs.declared.code.BodyRow.{BodyRow}
use Rattle.code_types.specs.Operands.{topmost, below_topmost}
use Rattle.code_types.specs.State.{Frame, Running, Called}
use Rattle.code_types.specs.Steps.{Goes, Makes, move, moved, new_frame}
use Rattle.machine_frames.specs.declared.activation.Activation.{Activation}
use Rattle.machine_frames.specs.Frames.{frame_of}
use Rattle.machine_steps.specs.declared.process.Process.{Process}
use Rattle.machine_steps.specs.declared.process.Doing.TheVariants.{Running as RunsNow, Called as CalledNow, Raising as RaisesNow}
use Rattle.machine_steps.specs.Views.{state_of, callers_of, region_of}
use Rattle.machine_steps.proofs.LocalSteps.{executed_at, process}

-- the number of frames
pub frames_count : (f : Frame) (below : List Activation) → length (f ∷ callers_of below) ≡ length below + 1
frames_count f below = simp (length-reverse, length-map) (omega arith)

lt_true : (m n : ℕ) → m < n → nat_lt m n ≡ true
lt_true m n h = search (rules, tests)

lt_false : (m n : ℕ) → n ≤ m → nat_lt m n ≡ false
lt_false m n h = search (rules, tests)

pub call_ticks : (code : Code) (m : Process) (callee : ℕ)
    → m.doing ≡ RunsNow
    → slice_get code.instrs m.top.place ≡ Some (Call callee)
    → params_of (slice_get code.bodies callee) ≤ length m.top.stack.items
    → length m.below.items + 1 < 250
    → move code (state_of m) ≡ Makes (state_of (record m { doing = CalledNow }))
call_ticks code m callee running here found few =
    let below = callers_of m.below.items in
    let count = frames_count (frame_of m.top) m.below.items in
    let yes : nat_lt (length (frame_of m.top ∷ below)) 250 ≡ true = lt_true _ _ (omega (arith, count)) in
    rw running (executed_at code m.instance (frame_of m.top) below (map region_of m.regions.items) (Call callee) here found ∙ rw yes refl)

pub call_raises : (code : Code) (m : Process) (callee : ℕ)
    → m.doing ≡ RunsNow
    → slice_get code.instrs m.top.place ≡ Some (Call callee)
    → params_of (slice_get code.bodies callee) ≤ length m.top.stack.items
    → 250 ≤ length m.below.items + 1
    → move code (state_of m) ≡ Goes (state_of (record m { doing = RaisesNow Spacefail }))
call_raises code m callee running here found many =
    let below = callers_of m.below.items in
    let count = frames_count (frame_of m.top) m.below.items in
    let no : nat_lt (length (frame_of m.top ∷ below)) 250 ≡ false = lt_false _ _ (omega (arith, count)) in
    rw running (executed_at code m.instance (frame_of m.top) below (map region_of m.regions.items) (Call callee) here found ∙ rw no refl)

-- one more frame below
pub callers_push : (below : List Activation) (a : Activation) → callers_of (below ++ a ∷ []) ≡ frame_of a ∷ callers_of below
callers_push below a = simp (map-append, reverse-append) refl

called_state : (m : Process) → m.doing ≡ CalledNow → state_of m ≡ process m.instance (frame_of m.top ∷ callers_of m.below.items) (map region_of m.regions.items) Called
called_state m called = rw called refl

le_true : (m n : ℕ) → m ≤ n → nat_le m n ≡ true
le_true m n h = search (rules, tests)

pub enter_step : (code : Code) (m : Process) (callee : ℕ) (row : BodyRow) (top caller : Frame)
    → m.doing ≡ CalledNow
    → slice_get code.instrs m.top.place ≡ Some (Call callee)
    → slice_get code.bodies callee ≡ Some row
    → row.params ≤ length m.top.stack.items
    → top ≡ new_frame callee row (topmost row.params m.top.stack.items)
    → caller ≡ moved (frame_of m.top) m.top.place (below_topmost row.params m.top.stack.items)
    → move code (state_of m) ≡ Goes (process m.instance (top ∷ caller ∷ callers_of m.below.items) (map region_of m.regions.items) Running)
enter_step code m callee row top caller called here there found begun left =
    let enough = le_true row.params (length m.top.stack.items) found in
    ap (move code) (called_state m called) ∙ rw (here, there, enough, begun, left) refl
