-- What the numbers in a body name, and how many scalars that has.
use Rattle.std.specs.Prelude.{ℕ, ◌+◌, min, ℤ, pos, neg_ℤ, int_le, Bool, true, false, ◌&&◌, nat_eq, nat_lt, nat_le, List, [], ◌∷◌, length, slice_get, Option, Some, None}
use Rattle.std.specs.declared.alloc.Global.{Global}
use Rattle.std.specs.declared.rc.Rc.{Rc}
use Rattle.modes.specs.declared.mode.Mode.{Mode}
use Rattle.modes.specs.declared.mode.Bounds.{Bounds}
use Rattle.modes.specs.Bounds.{count_between}
use Rattle.modes.specs.ModeTree.{mode_tree}
use Rattle.modes.specs.Scalars.{scalars_of}
use Rattle.checked_program.specs.declared.expr.Base.{Base}
use Rattle.checked_program.specs.declared.expr.Base.TheVariants.{Shared, Local}
use Rattle.checked_program.specs.declared.program.Passing.{Passing}
use Rattle.checked_program.specs.declared.program.Passing.TheVariants.{In, Out, InOut}
use Rattle.checked_program.specs.declared.program.Sort.{Sort}
use Rattle.checked_program.specs.declared.program.Sort.TheVariants.{Process, Procedure}
use Rattle.checked_program.specs.declared.program.Checked.{Checked}
use Rattle.checked_program.specs.declared.program.Body.{Body}
use Rattle.checked_program.specs.declared.program.Parameter.{Parameter}
use Rattle.checked_program.specs.declared.program.LocationRow.{LocationRow}
use Rattle.checked_program.specs.declared.program.LocalRow.{LocalRow}
use Rattle.checked_program.specs.declared.program.BufferRow.{BufferRow}
use Rattle.checked_program.specs.declared.program.SignalRow.{SignalRow}

-- how many scalars a mode has, or 4,097 where it has more than 4,096
abbrev pub count_of : Rc Mode Global → ℕ
count_of m = min (scalars_of (mode_tree m.value)) 4097

-- there are some scalars, and so many
abbrev pub is_count : Option ℕ → ℕ → Bool
is_count None n = false
is_count (Some m) n = nat_eq m n

abbrev pub location_count : Option LocationRow → Option ℕ
location_count None = None
location_count (Some row) = Some (count_of row.mode)

abbrev pub local_count : Option LocalRow → Option ℕ
local_count None = None
local_count (Some row) = Some row.count

abbrev pub buffer_count : Option BufferRow → Option ℕ
buffer_count None = None
buffer_count (Some row) = Some (count_of row.element)

abbrev pub mode_count : Option (Rc Mode Global) → Option ℕ
mode_count None = None
mode_count (Some m) = Some (count_of m)

-- how many scalars the modes have together
abbrev pub counts_of : List (Rc Mode Global) → ℕ
counts_of [] = 0
counts_of (m ∷ ms) = count_of m + counts_of ms

abbrev pub signal_count : Option SignalRow → Option ℕ
signal_count None = None
signal_count (Some row) = Some (counts_of row.parts)

-- how many scalars a location that is declared has, where it is there
abbrev pub base_count : Base → Checked → Body → Option ℕ
base_count (Shared n) program body = location_count (slice_get program.locations n)
base_count (Local n) program body = local_count (slice_get body.locals n)

-- a value has bounds only where it is one scalar
abbrev pub bounds_fit : Option Bounds → ℕ → Bool
bounds_fit None n = true
bounds_fit (Some b) n = nat_eq n 1

-- a value of INT
abbrev pub is_int : ℤ → Bool
is_int z = int_le (neg_ℤ (pos 2147483648)) z && int_le z (pos 2147483647)

-- both bounds are values of INT; those of a text of no characters aren't in order
abbrev pub are_ints : Bounds → Bool
are_ints b = is_int b.low && is_int b.high

-- bounds of the members of a powerset that is one number: of at least 1 and at most 32 values of INT
abbrev pub are_members : Bounds → Bool
are_members b = are_ints b && (int_le b.low b.high && nat_le (count_between b.low b.high) 32)

abbrev pub is_procedure : Sort → Bool
is_procedure Procedure = true
is_procedure s = false

abbrev pub is_process : Sort → Bool
is_process Process = true
is_process s = false

abbrev pub same_passing : Passing → Passing → Bool
same_passing In In = true
same_passing Out Out = true
same_passing InOut InOut = true
same_passing p q = false

abbrev pub passes : Option Parameter → Passing → Bool
passes None how = false
passes (Some p) how = same_passing p.passing how

-- the parameter of this number passes so many scalars this way
abbrev pub is_passed : Body → ℕ → Passing → ℕ → Bool
is_passed callee number how n = passes (slice_get callee.parameters number) how && is_count (local_count (slice_get callee.locals number)) n

-- the exception of this number is one of the seven of the language or one of the user's
abbrev pub is_exception : ℕ → Checked → Bool
is_exception number program = nat_lt number (7 + length program.exceptions)
