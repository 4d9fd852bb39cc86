-- Stretches of code: instructions one behind the other that find their operands, and whose jumps lead on.
use Rattle.std.specs.Prelude.{◌≡◌, ◌⊎◌, ℕ, ◌+◌, ◌-◌, ◌≤◌, ◌<◌, List, [], ◌∷◌, length, take, Option, Some, None, IsTrue}
use Rattle.code_types.specs.declared.instr.Instr.{Instr}
use Rattle.code_types.specs.declared.instr.Instr.TheVariants.{Part, Call, Start}
use Rattle.code_types.specs.declared.code.Code.{Code}
use Rattle.code_types.specs.Places.{finds, is_last, jump_of}
use Rattle.code_types.specs.Agreement.{LeadsForward}
use Rattle.code_scheme.specs.BodyCode.{height_behind}

-- the height behind instructions, one behind the other
abbrev pub behind : Code → ℕ → List Instr → ℕ
behind heads height [] = height
behind heads height (instr ∷ is) = behind heads (height_behind heads instr height) is

-- a body that is named is there, and a part lies in the numbers that it is a part of
abbrev pub IsNamedIn : Code → Instr → Type 0
IsNamedIn heads (Part first count of) = first + count ≤ of
IsNamedIn heads (Call callee) = callee < length heads.bodies
IsNamedIn heads (Start process count) = process < length heads.bodies
IsNamedIn heads instr = Unit {0}

-- the outlets of a stretch: to which places its jumps lead, and with which heights
abbrev pub Outlets : Type 1
Outlets = ℕ → ℕ → Type 0

-- no jump leads out
abbrev pub no_outlets : Outlets
no_outlets to height = ⊥

-- places to which jumps before them lead
abbrev pub Led : Type 1
Led = ℕ → Type 0

abbrev pub none_led : Led
none_led to = ⊥

-- Instructions that stand from a place on, and find a height, have this height at another place among them or behind them.
pub record Lands (heads : Code) (at height : ℕ) (is : List Instr) (to k : ℕ) : Type 0 where
  pub from : at ≤ to
  pub until : to ≤ at + length is
  pub same : behind heads height (take (to - at) is) ≡ k

-- a jump leads on among the instructions behind it, or out
abbrev pub JumpsOn : Code → Outlets → ℕ → ℕ → List Instr → Option ℕ → Type 0
JumpsOn heads outlets at height is None = Unit {0}
JumpsOn heads outlets at height is (Some to) = Lands heads at height is to height ⊎ outlets to height

-- the places that are led to behind an instruction
abbrev pub led_behind : Led → Instr → Led
led_behind led instr to = led to ⊎ (jump_of instr ≡ Some to)

-- An instruction at a place, before others, which finds a height: it finds its operands, and its jump leads on. Where it doesn't
-- go on itself, a jump leads to the place behind it, or nothing is on the stack there.
pub record IsStep (heads : Code) (body : ℕ) (outlets : Outlets) (led : Led) (at height : ℕ) (instr : Instr) (is : List Instr) : Type 0 where
  pub operands : finds heads body instr ≤ height
  pub named : IsNamedIn heads instr
  pub forward : LeadsForward at instr
  pub jumps : JumpsOn heads outlets (at + 1) (height_behind heads instr height) is (jump_of instr)
  pub ended : IsTrue (is_last instr) → led_behind led instr (at + 1) ⊎ (height_behind heads instr height ≡ 0)

-- so is each of these instructions
abbrev pub AreSteps : Code → ℕ → Outlets → Led → ℕ → ℕ → List Instr → Type 0
AreSteps heads body outlets led at height [] = Unit {0}
AreSteps heads body outlets led at height (instr ∷ is) =
    IsStep heads body outlets led at height instr is × AreSteps heads body outlets (led_behind led instr) (at + 1) (height_behind heads instr height) is

-- A stretch of so many instructions, from one height to another.
pub record IsStretch (heads : Code) (body : ℕ) (outlets : Outlets) (at height : ℕ) (is : List Instr) (size next : ℕ) : Type 0 where
  pub steps : AreSteps heads body outlets none_led at height is
  pub count : length is ≡ size
  pub leaves : behind heads height is ≡ next
