-- Places in a body, and where control comes to.
use Rattle.std.proofs.Common.{◌≡◌, refl, ℕ, ◌+◌, ◌<◌, ◌≤◌, ◌⊎◌, inl, inr, List, length, Some, IsTrue, slice_get, arith}
use Rattle.std.specs.Prelude.{IsFalse}
use Rattle.code_guard.proofs.EachItem.{item_or_past}
use Rattle.code_guard.proofs.Belonging.{end_inside}
use Rattle.code_types.specs.declared.instr.Instr.{Instr}
use Rattle.code_types.specs.declared.code.BodyRow.{BodyRow}
use Rattle.code_types.specs.declared.code.Code.{Code}
use Rattle.code_types.specs.Places.{end_of, height_after, is_last, jump_of}
use Rattle.code_types.specs.Agreement.{Agrees, StandsIn, HasHeight}
use Rattle.code_types.specs.State.{Frame}
use Rattle.code_safety.specs.Standing.{Stands}

-- a place of a body is in the code
pub in_code : (code : Code) (agrees : Agrees code) (body place : ℕ) → place < end_of code body → place < length code.instrs
in_code code agrees body place until = let h = end_inside code body agrees.bodies in omega arith

-- an instruction stands at each place of a body
pub stands_at_place : (code : Code) (agrees : Agrees code) (body : ℕ) (row : BodyRow) (place : ℕ) → slice_get code.bodies body ≡ Some row → row.first ≤ place → place < end_of code body → (instr : Instr) × StandsIn code body row place instr
stands_at_place code agrees body row place e from until = by-item (item_or_past code.instrs place)
  where
    by-item : ((x : Instr) × (slice_get code.instrs place ≡ Some x)) ⊎ (length code.instrs ≤ place) → (instr : Instr) × StandsIn code body row place instr
    by-item (inl h) = (h.0, record { is_body = e; from = from; until = until; is_instr = h.1 })
    by-item (inr h) = let low = in_code code agrees body place until in absurd (omega arith)

-- a frame of a body stands at a place whose height is known
pub stands_of : (code : Code) (agrees : Agrees code) (f : Frame) (row : BodyRow) (height : ℕ) (IsHigh : Instr → ℕ → Type 0)
    → slice_get code.bodies f.body ≡ Some row → row.first ≤ f.place → f.place < end_of code f.body
    → HasHeight agrees.heights f.place height → length f.locals ≡ row.locals
    → ((instr : Instr) → IsHigh instr height)
    → Stands code agrees.heights f IsHigh
stands_of code agrees f row height IsHigh e from until has locals high =
    let at = stands_at_place code agrees f.body row f.place e from until in
    record { row = row; instr = at.0; height = height; inside = at.1; has = has; locals = locals; stack = high at.0 }

-- a place that is told of a body, with the height there
pub record IsTold (code : Code) (heights : List ℕ) (body : ℕ) (row : BodyRow) (place height : ℕ) : Type 0 where
  pub from : row.first ≤ place
  pub until : place < end_of code body
  pub has : HasHeight heights place height

-- control that goes on stays in the body
pub next_told : (code : Code) (agrees : Agrees code) (body : ℕ) (row : BodyRow) (place : ℕ) (instr : Instr) (height : ℕ)
    → StandsIn code body row place instr → HasHeight agrees.heights place height → IsFalse (is_last instr)
    → IsTold code agrees.heights body row (place + 1) (height_after code body instr height)
next_told code agrees body row place instr height at has on =
    let from = at.from in
    record {
      from = omega arith;
      until = by-order (order (place + 1) (end_of code body) (let until = at.until in omega arith));
      has = agrees.are_heights.left body row place instr at (place + 1) height (omega arith) (inl (on, refl)) has;
    }
  where
    order : (m n : ℕ) → m ≤ n → (m < n) ⊎ (m ≡ n)
    order m n h = grind arith

    by-order : (place + 1 < end_of code body) ⊎ (place + 1 ≡ end_of code body) → place + 1 < end_of code body
    by-order (inl h) = h
    by-order (inr h) = let last : IsTrue (is_last instr) = agrees.ends body row place instr at h in absurd (let no : ⊥ = cc in no)

-- a jump to a later place stays in the body
pub jump_told : (code : Code) (agrees : Agrees code) (body : ℕ) (row : BodyRow) (place : ℕ) (instr : Instr) (height to : ℕ)
    → StandsIn code body row place instr → HasHeight agrees.heights place height → jump_of instr ≡ Some to → place < to
    → IsTold code agrees.heights body row to (height_after code body instr height)
jump_told code agrees body row place instr height to at has jumps later =
    let within = agrees.jumps body row place instr at to jumps in
    record {
      from = within.0;
      until = within.1;
      has = agrees.are_heights.left body row place instr at to height later (inr jumps) has;
    }

-- a frame that comes to a place that is told stands there
pub stands_told : (code : Code) (agrees : Agrees code) (f : Frame) (row : BodyRow) (height : ℕ) (IsHigh : Instr → ℕ → Type 0)
    → slice_get code.bodies f.body ≡ Some row → IsTold code agrees.heights f.body row f.place height → length f.locals ≡ row.locals
    → ((instr : Instr) → IsHigh instr height)
    → Stands code agrees.heights f IsHigh
stands_told code agrees f row height IsHigh e told locals high = stands_of code agrees f row height IsHigh e told.from told.until told.has locals high
