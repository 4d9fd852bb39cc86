-- How the heights of a code are found.
use Rattle.std.specs.Prelude.{◌≡◌, ◌⊎◌, ℕ, ◌+◌, ◌<◌, ◌≤◌, Bool, true, false, IsFalse, nat_lt, List, length, slice_get, slice_set, if◌then◌else◌, Some, None, IsSomeAnd, All}
use Rattle.std.specs.declared.option.Option.{Option}
use Rattle.code_types.specs.declared.instr.Instr.{Instr}
use Rattle.code_types.specs.declared.instr.Instr.TheVariants.{Again}
use Rattle.code_types.specs.declared.code.Handler.{Handler}
use Rattle.code_types.specs.declared.code.BodyRow.{BodyRow}
use Rattle.code_types.specs.declared.code.Code.{Code}
use Rattle.code_types.specs.Places.{finds, pops, height_after, is_last, jump_of}
use Rattle.code_types.specs.Agreement.{Everywhere, HasHeight, LeadsTo, IsUnled, IsNoBeginning, IsNoTarget, AreHeights}

-- one of the first bodies, so many, begins at the place
pub record Begins (code : Code) (bodies place : ℕ) : Type 0 where
  pub body : ℕ
  pub row : BodyRow
  pub among : body < bodies
  pub is_body : slice_get code.bodies body ≡ Some row
  pub here : row.first ≡ place

-- one of the first handlers, so many, has this target
pub record IsTarget (code : Code) (handlers place : ℕ) : Type 0 where
  pub number : ℕ
  pub handler : Handler
  pub among : number < handlers
  pub is_handler : slice_get code.handlers number ≡ Some handler
  pub here : handler.target ≡ place

-- one of the first instructions, so many, leads to the place behind it
pub record IsLed (code : Code) (instrs place : ℕ) : Type 0 where
  pub from : ℕ
  pub instr : Instr
  pub among : from < instrs
  pub earlier : from < place
  pub is_instr : slice_get code.instrs from ≡ Some instr
  pub leads : LeadsTo from instr place

-- something of the first bodies, handlers and instructions tells the place's height
abbrev pub IsTold : Code → ℕ → ℕ → ℕ → ℕ → Type 0
IsTold code bodies handlers instrs place = Begins code bodies place ⊎ (IsTarget code handlers place ⊎ IsLed code instrs place)

-- What is known of the heights, where some places are told: none is known at the others, and any heights that the code has are
-- as is known.
pub record IsKnown (code : Code) (Told : ℕ → Type 0) (known : List (Option ℕ)) : Type 0 where
  pub count : length known ≡ length code.instrs
  pub forced : (heights : List ℕ) → AreHeights code heights → (place height : ℕ) → slice_get known place ≡ Some (Some height) → HasHeight heights place height
  pub untold : (place : ℕ) → slice_get known place ≡ Some None → Told place → ⊥
  pub unknown : (place : ℕ) → place < length code.instrs → (Told place → ⊥) → slice_get known place ≡ Some None

abbrev pub told_by_jump : ℕ → ℕ → Option ℕ → List (Option ℕ) → List (Option ℕ)
told_by_jump place height None known = known
told_by_jump place height (Some to) known = if nat_lt place to then slice_set known to (Some height) else known

abbrev pub told_by_going_on : ℕ → ℕ → Bool → List (Option ℕ) → List (Option ℕ)
told_by_going_on place height true known = known
told_by_going_on place height false known = slice_set known (place + 1) (Some height)

-- what is known once an instruction has told the height that it leaves
abbrev pub told_by : ℕ → Instr → ℕ → List (Option ℕ) → List (Option ℕ)
told_by place instr height known = told_by_jump place height (jump_of instr) (told_by_going_on place height (is_last instr) known)

-- an instruction finds its operands, and the height isn't above the body's greatest
abbrev pub HoldsOperands : Code → ℕ → Instr → ℕ → Type 0
HoldsOperands code body instr height = (finds code body instr ≤ height) × IsSomeAnd (slice_get code.bodies body) (λ row. height ≤ row.height)

-- The only heights that the code may have, as far as the first places go.
pub record AreOnly (code : Code) (places : ℕ) (heights : List ℕ) : Type 0 where
  pub count : length heights ≡ places
  pub forced : (others : List ℕ) → AreHeights code others → (place height : ℕ) → slice_get heights place ≡ Some height → HasHeight others place height
  pub others : (place : ℕ) → place < places → IsNoBeginning code place → IsUnled code place → IsNoTarget code place → HasHeight heights place 0

-- each instruction finds its operands, as far as the first places go
abbrev pub AllHoldOperands : Code → List ℕ → ℕ → List ℕ → Type 0
AllHoldOperands code owners places heights = (place body : ℕ) (instr : Instr) (height : ℕ) → place < places → slice_get owners place ≡ Some body → slice_get code.instrs place ≡ Some instr → slice_get heights place ≡ Some height → HoldsOperands code body instr height

-- the code has no heights
abbrev pub HasNoHeights : Code → Type 0
HasNoHeights code = (heights : List ℕ) → AreHeights code heights → ⊥

-- nothing is known of so many places
pub record IsUntold (count : ℕ) (known : List (Option ℕ)) : Type 0 where
  pub many : length known ≡ count
  pub none : (place : ℕ) (height : Option ℕ) → slice_get known place ≡ Some height → height ≡ None

-- the height that is known at a place, else 0
abbrev pub IsHeightAt : List (Option ℕ) → ℕ → ℕ → Type 0
IsHeightAt known place height = (slice_get known place ≡ Some (Some height)) ⊎ ((slice_get known place ≡ Some None) × (height ≡ 0))

-- what is found of the heights once the first places were visited
pub record IsFound (code : Code) (owners : List ℕ) (places : ℕ) (known : List (Option ℕ)) (heights : List ℕ) : Type 0 where
  pub is_known : IsKnown code (IsTold code (length code.bodies) (length code.handlers) places) known
  pub only : AreOnly code places heights
  pub operands : AllHoldOperands code owners places heights

-- what an instruction leaves of a height is what stands at the places to which it leads
pub record Leaves (heights : List ℕ) (place : ℕ) (instr : Instr) (height behind : ℕ) : Type 0 where
  pub on : IsFalse (is_last instr) → HasHeight heights (place + 1) behind
  pub jump : (to : ℕ) → jump_of instr ≡ Some to → place < to → HasHeight heights to behind
  pub again : (to : ℕ) → instr ≡ Again to → HasHeight heights to height

abbrev pub LeavesAt : Code → List ℕ → ℕ → ℕ → Instr → Type 0
LeavesAt code heights body place instr = (height : ℕ) → HasHeight heights place height → Leaves heights place instr height (height_after code body instr height)

-- an instruction doesn't pop below a handler's height, in the handler's range
abbrev pub KeepsHeight : Code → List ℕ → Handler → ℕ → ℕ → Instr → Type 0
KeepsHeight code heights handler body place instr = (height : ℕ) → handler.from ≤ place → place < handler.until → HasHeight heights place height → handler.height + pops code body instr ≤ height

-- what heights have to meet besides
pub record MeetRest (code : Code) (heights : List ℕ) : Type 0 where
  pub begin : All (λ row. HasHeight heights row.first 0) code.bodies
  pub targets : All (λ handler. HasHeight heights handler.target handler.height) code.handlers
  pub leaves : Everywhere code (λ body row place instr. LeavesAt code heights body place instr)
  pub handled : All (λ handler. Everywhere code (λ body row place instr. KeepsHeight code heights handler body place instr)) code.handlers

-- the code has heights
abbrev pub HasHeights : Code → Type 0
HasHeights code = (heights : List ℕ) × AreHeights code heights
