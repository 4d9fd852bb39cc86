-- When the numbers of a program are in range.
use Rattle.std.specs.Prelude.{ℕ, ◌+◌, Bool, true, false, ◌&&◌, nat_eq, nat_lt, nat_le, List, [], ◌∷◌, map, length, slice_get, Option, Some, None, option_map, IsTrue}
use Rattle.std.specs.declared.alloc.Global.{Global}
use Rattle.std.specs.declared.rc.Rc.{Rc}
use Rattle.modes.specs.declared.mode.Mode.{Mode}
use Rattle.checked_program.specs.declared.program.Checked.{Checked}
use Rattle.checked_program.specs.declared.program.Body.{Body}
use Rattle.checked_program.specs.declared.program.LocationRow.{LocationRow}
use Rattle.checked_program.specs.declared.program.LocalRow.{LocalRow}
use Rattle.checked_program.specs.declared.program.BufferRow.{BufferRow}
use Rattle.checked_program.specs.declared.program.SignalRow.{SignalRow}
use Rattle.program_ranges.specs.Around.{count_of, is_process}
use Rattle.program_ranges.specs.ActionRanges.{all_exceptions}
use Rattle.program_ranges.specs.StatementRanges.{statements_hold, some_within, statement_in_range, handler_in_range}

-- a mode of at most 4,096 scalars
abbrev pub is_small : Rc Mode Global → Bool
is_small m = nat_lt (count_of m) 4097

abbrev pub all_small : List (Rc Mode Global) → Bool
all_small [] = true
all_small (m ∷ ms) = is_small m && all_small ms

abbrev pub some_small : Option (Rc Mode Global) → Bool
some_small None = true
some_small (Some m) = is_small m

-- there is a region of this number, where one is told
abbrev pub is_region : Option ℕ → Checked → Bool
is_region None program = true
is_region (Some r) program = nat_lt r program.regions

abbrev pub locations_fit : List LocationRow → Checked → Bool
locations_fit [] program = true
locations_fit (l ∷ ls) program = (is_small l.mode && is_region l.region program) && locations_fit ls program

abbrev pub buffers_fit : List BufferRow → Bool
buffers_fit [] = true
buffers_fit (b ∷ bs) = is_small b.element && buffers_fit bs

-- the body of a process
abbrev pub runs_process : Option Body → Bool
runs_process None = false
runs_process (Some body) = is_process body.sort

-- there is a process of this number, where one is told
abbrev pub is_receiver : Option ℕ → Checked → Bool
is_receiver None program = true
is_receiver (Some p) program = runs_process (slice_get program.bodies p)

abbrev pub signals_fit : List SignalRow → Checked → Bool
signals_fit [] program = true
signals_fit (s ∷ ss) program = (all_small s.parts && is_receiver s.process program) && signals_fit ss program

-- the local's first scalar is this one, and it has as many as its mode
abbrev pub local_fits : ℕ → LocalRow → Bool
local_fits first l = nat_eq l.first first && (is_small l.mode && nat_eq (count_of l.mode) l.count)

-- The locals have as many scalars as their modes, and follow each other, the first of them this scalar.
abbrev pub locals_fit : ℕ → List LocalRow → Bool
locals_fit first [] = true
locals_fit first (l ∷ ls) = local_fits first l && locals_fit (l.first + l.count) ls

-- a critical procedure has a region
abbrev pub has_region : Bool → Option ℕ → Bool
has_region true None = false
has_region critical region = true

-- the head of a body: its region, its parameters, which are its first locals, its locals, its result, and what it lists
abbrev pub head_fits : Body → Checked → Bool
head_fits body program = (is_region body.region program && has_region body.critical body.region) && ((nat_le (length body.parameters) (length body.locals) && locals_fit 0 body.locals) && (some_small body.result && all_exceptions body.listed program))

-- the statements of a body and its handler
abbrev pub inside_fits : Body → Checked → Bool
inside_fits body program = statements_hold true (map statement_in_range body.statements) 0 program body && some_within (option_map (λ h. handler_in_range h.value) body.handler) 0 program body

abbrev pub bodies_fit : List Body → Checked → Bool
bodies_fit [] program = true
bodies_fit (b ∷ bs) program = (head_fits b program && inside_fits b program) && bodies_fit bs program

-- The numbers of a program are in range.
pub record AreInRange (program : Checked) : Type 0 where
  pub locations : IsTrue (locations_fit program.locations program)
  pub buffers : IsTrue (buffers_fit program.buffers)
  pub signals : IsTrue (signals_fit program.signals program)
  -- there is a body, that of the outermost process
  pub outermost : IsTrue (nat_lt 0 (length program.bodies))
  pub bodies : IsTrue (bodies_fit program.bodies program)
