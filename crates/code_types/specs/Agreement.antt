-- When a code agrees.
use Rattle.std.specs.Prelude.{◌≡◌, ◌≢◌, ◌⊎◌, ℕ, ◌+◌, ◌<◌, ◌≤◌, IsTrue, IsFalse, List, length, slice_get, Some, IsSomeAnd, All}
use Rattle.code_types.specs.declared.instr.Instr.{Instr}
use Rattle.code_types.specs.declared.instr.Instr.TheVariants.{Local, SetLocal, LocalAt, SetLocalAt, Part, Jump, Unless, Again, Call, Start}
use Rattle.code_types.specs.declared.code.Handler.{Handler}
use Rattle.code_types.specs.declared.code.BodyRow.{BodyRow}
use Rattle.code_types.specs.declared.code.Code.{Code}
use Rattle.code_types.specs.Places.{end_of, pops, finds, height_after, is_last, jump_of}

-- an instruction of a body stands at a place
pub record StandsIn (code : Code) (body : ℕ) (row : BodyRow) (place : ℕ) (instr : Instr) : Type 0 where
  pub is_body : slice_get code.bodies body ≡ Some row
  pub from : row.first ≤ place
  pub until : place < end_of code body
  pub is_instr : slice_get code.instrs place ≡ Some instr

-- it holds of each instruction of each body
abbrev pub Everywhere : Code → (ℕ → BodyRow → ℕ → Instr → Type 0) → Type 0
Everywhere code P = (body : ℕ) (row : BodyRow) (place : ℕ) (instr : Instr) → StandsIn code body row place instr → P body row place instr

-- There is a body. The first instructions of the bodies rise from 0, and are in the code.
pub record BodiesRise (code : Code) : Type 0 where
  pub begin : IsSomeAnd (slice_get code.bodies 0) (λ row. row.first ≡ 0)
  pub rise : (body : ℕ) (row next : BodyRow) → slice_get code.bodies body ≡ Some row → slice_get code.bodies (body + 1) ≡ Some next → row.first < next.first
  pub inside : All (λ row. row.first < length code.instrs) code.bodies

-- no more parameters than locals
abbrev pub HoldsParams : BodyRow → Type 0
HoldsParams row = row.params ≤ row.locals

-- a body or a local that an instruction names is there, and a part lies in the numbers that it is a part of
abbrev pub IsNamed : Code → BodyRow → Instr → Type 0
IsNamed code row (Local first count) = first + count ≤ row.locals
IsNamed code row (SetLocal first count) = first + count ≤ row.locals
IsNamed code row (LocalAt first count) = first + count ≤ row.locals
IsNamed code row (SetLocalAt first count) = first + count ≤ row.locals
IsNamed code row (Part first count of) = first + count ≤ of
IsNamed code row (Call callee) = callee < length code.bodies
IsNamed code row (Start process count) = process < length code.bodies
IsNamed code row instr = Unit {0}

-- a jump stays in its body
abbrev pub StaysInBody : Code → ℕ → BodyRow → Instr → Type 0
StaysInBody code body row instr = (to : ℕ) → jump_of instr ≡ Some to → (row.first ≤ to) × (to < end_of code body)

-- Jump and Unless lead to a later place
abbrev pub LeadsForward : ℕ → Instr → Type 0
LeadsForward place (Jump to) = place < to
LeadsForward place (Unless to) = place < to
LeadsForward place instr = Unit {0}

-- a handler's range and target lie in this body, and the target is behind every instruction of the range
pub record HandlesIn (code : Code) (handler : Handler) (body : ℕ) : Type 0 where
  pub row : BodyRow
  pub is_body : slice_get code.bodies body ≡ Some row
  pub from : row.first ≤ handler.from
  pub ordered : handler.from ≤ handler.until
  pub behind : handler.until ≤ handler.target
  pub until : handler.target < end_of code body

abbrev pub HandlesInOneBody : Code → Handler → Type 0
HandlesInOneBody code handler = (body : ℕ) × HandlesIn code handler body

-- the height at a place
abbrev pub HasHeight : List ℕ → ℕ → ℕ → Type 0
HasHeight heights place height = slice_get heights place ≡ Some height

-- control comes from the instruction at one place to another, by going on or by jumping
abbrev pub LeadsTo : ℕ → Instr → ℕ → Type 0
LeadsTo place instr to = (IsFalse (is_last instr) × (to ≡ place + 1)) ⊎ (jump_of instr ≡ Some to)

-- no earlier instruction leads to the place
abbrev pub IsUnled : Code → ℕ → Type 0
IsUnled code to = (place : ℕ) (instr : Instr) → place < to → slice_get code.instrs place ≡ Some instr → LeadsTo place instr to → ⊥

-- no body begins at the place
abbrev pub IsNoBeginning : Code → ℕ → Type 0
IsNoBeginning code place = All (λ row. row.first ≢ place) code.bodies

-- no handler has this target
abbrev pub IsNoTarget : Code → ℕ → Type 0
IsNoTarget code place = All (λ handler. handler.target ≢ place) code.handlers

-- The heights of the stack at the places of a code. Where an instruction that earlier ones lead to is a handler's target, both
-- tell its height; where neither does, it is 0.
pub record AreHeights (code : Code) (heights : List ℕ) : Type 0 where
  pub count : length heights ≡ length code.instrs
  -- a body begins with height 0
  pub begin : All (λ row. HasHeight heights row.first 0) code.bodies
  -- each earlier instruction leaves its height
  pub left : Everywhere code (λ body row place instr. (to height : ℕ) → place < to → LeadsTo place instr to → HasHeight heights place height → HasHeight heights to (height_after code body instr height))
  -- a handler's target has the handler's height
  pub targets : All (λ handler. HasHeight heights handler.target handler.height) code.handlers
  -- any other has 0
  pub others : (place : ℕ) → place < length code.instrs → IsNoBeginning code place → IsUnled code place → IsNoTarget code place → HasHeight heights place 0
  -- Again leads back to a place of its own height
  pub again : Everywhere code (λ body row place instr. (to height : ℕ) → instr ≡ Again to → HasHeight heights place height → HasHeight heights to height)
  -- an instruction finds its operands, and no height passes the body's greatest
  pub operands : Everywhere code (λ body row place instr. (height : ℕ) → HasHeight heights place height → (finds code body instr ≤ height) × (height ≤ row.height))
  -- no instruction of a handler's range begins with less than the handler's height, or pops below it
  pub handled : All (λ handler. Everywhere code (λ body row place instr. (height : ℕ) → handler.from ≤ place → place < handler.until → HasHeight heights place height → handler.height + pops code body instr ≤ height)) code.handlers

-- the last instruction of a body doesn't go on
abbrev pub EndsThere : Code → ℕ → ℕ → Instr → Type 0
EndsThere code body place instr = place + 1 ≡ end_of code body → IsTrue (is_last instr)

-- A code agrees.
pub record Agrees (code : Code) : Type 0 where
  pub bodies : BodiesRise code
  pub params : All HoldsParams code.bodies
  pub named : Everywhere code (λ body row place instr. IsNamed code row instr)
  pub jumps : Everywhere code (λ body row place instr. StaysInBody code body row instr)
  pub forward : Everywhere code (λ body row place instr. LeadsForward place instr)
  pub handlers : All (HandlesInOneBody code) code.handlers
  pub ends : Everywhere code (λ body row place instr. EndsThere code body place instr)
  pub heights : List ℕ
  pub are_heights : AreHeights code heights
