-- Closed code: control comes from each of its instructions to another one of it, or to one of its outlets.
use Rattle.std.specs.Prelude.{◌≡◌, ◌⊎◌, ℕ, ◌+◌, ◌-◌, ◌≤◌, ◌<◌, Bool, true, List, [], ◌∷◌, length, take, Some, IsTrue, IsFalse}
use Rattle.code_types.specs.declared.instr.Instr.{Instr}
use Rattle.code_types.specs.declared.code.Code.{Code}
use Rattle.code_types.specs.declared.code.Handler.{Handler}
use Rattle.code_types.specs.Places.{finds, is_last, jump_of}
use Rattle.code_types.specs.Agreement.{LeadsForward}
use Rattle.code_scheme.specs.BodyCode.{height_behind}
use Rattle.scheme_heights.specs.Stretches.{behind, IsNamedIn, Outlets, Led, none_led, led_behind}

-- Instructions that stand from a place on, and find a height, have this height at one of them.
pub record Meets (heads : Code) (at height : ℕ) (is : List Instr) (to k : ℕ) : Type 0 where
  pub from : at ≤ to
  pub until : to < at + length is
  pub same : behind heads height (take (to - at) is) ≡ k

-- at one of these instructions, or out
abbrev pub inside_or : Code → ℕ → ℕ → List Instr → Outlets → Outlets
inside_or heads at height is outlets to k = Meets heads at height is to k ⊎ outlets to k

-- An instruction at a place, which finds a height: it finds its operands, and control comes from it to these places alone.
-- Where it doesn't go on itself, a jump leads to the place behind it, or nothing is on the stack there.
pub record IsMove (heads : Code) (body : ℕ) (comes : Outlets) (led : Led) (at height : ℕ) (instr : Instr) : Type 0 where
  pub operands : finds heads body instr ≤ height
  pub named : IsNamedIn heads instr
  pub forward : LeadsForward at instr
  pub goes : IsFalse (is_last instr) → comes (at + 1) (height_behind heads instr height)
  pub jumps : (to : ℕ) → jump_of instr ≡ Some to → comes to (height_behind heads instr height)
  pub ended : IsTrue (is_last instr) → led_behind led instr (at + 1) ⊎ (height_behind heads instr height ≡ 0)

-- so is each of these instructions
abbrev pub AreMoves : Code → ℕ → Outlets → Led → ℕ → ℕ → List Instr → Type 0
AreMoves heads body comes led at height [] = Unit {0}
AreMoves heads body comes led at height (instr ∷ is) =
    IsMove heads body comes led at height instr × AreMoves heads body comes (led_behind led instr) (at + 1) (height_behind heads instr height) is

-- So many instructions, from one height to another. Control comes to their first one, or goes out at once where there is none.
pub record IsClosed (heads : Code) (body : ℕ) (outlets : Outlets) (at height : ℕ) (is : List Instr) (size next : ℕ) : Type 0 where
  pub moves : AreMoves heads body (inside_or heads at height is outlets) none_led at height is
  pub entry : inside_or heads at height is outlets at height
  pub count : length is ≡ size
  pub leaves : behind heads height is ≡ next

-- A handler row of instructions, for some of them or of those from a place before them on: its target is behind its range, and
-- nothing is on the stack there.
pub record IsRowIn (heads : Code) (low : ℕ) (outlets : Outlets) (at : ℕ) (is : List Instr) (row : Handler) : Type 0 where
  pub from : low ≤ row.from
  pub ordered : row.from ≤ row.until
  pub behind_range : row.until ≤ row.target
  pub level : row.height ≡ 0
  pub target : inside_or heads at 0 is outlets row.target 0

abbrev pub AreRowsIn : Code → ℕ → Outlets → ℕ → List Instr → List Handler → Type 0
AreRowsIn heads low outlets at is [] = Unit {0}
AreRowsIn heads low outlets at is (row ∷ rows) = IsRowIn heads low outlets at is row × AreRowsIn heads low outlets at is rows

-- Code of statements with its rows: nothing is on the stack before and behind it.
pub record IsBlock (heads : Code) (body : ℕ) (outlets : Outlets) (at : ℕ) (is : List Instr) (rows : List Handler) (size : ℕ) : Type 0 where
  pub closed : IsClosed heads body outlets at 0 is size 0
  pub handled : AreRowsIn heads at outlets at is rows

-- one of some places
abbrev pub IsOneOf : List ℕ → ℕ → Type 0
IsOneOf [] to = ⊥
IsOneOf (place ∷ places) to = (place ≡ to) ⊎ IsOneOf places to

-- Control goes out with nothing on the stack: to a place behind, where it comes there at all, or to one of the places to which
-- an EXIT leads.
abbrev pub leads_out : Bool → ℕ → List ℕ → Outlets
leads_out goes place exits to k = (k ≡ 0) × (((goes ≡ true) × (to ≡ place)) ⊎ IsOneOf exits to)
