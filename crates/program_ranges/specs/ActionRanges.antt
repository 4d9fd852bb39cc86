-- When the numbers in actions that hold no statements are in range.
use Rattle.std.specs.Prelude.{ℕ, Bool, true, ◌&&◌, nat_lt, List, [], ◌∷◌, slice_get, Option, Some, None, option_map}
use Rattle.checked_program.specs.declared.expr.Base.{Base}
use Rattle.checked_program.specs.declared.expr.Received.{Received}
use Rattle.checked_program.specs.declared.program.Checked.{Checked}
use Rattle.checked_program.specs.declared.program.Body.{Body}
use Rattle.checked_program.specs.declared.statement.Control.{Control}
use Rattle.checked_program.specs.declared.statement.Control.TheVariants.{While, Forever, Members, Steps}
use Rattle.program_ranges.specs.Around.{is_count, mode_count, local_count, base_count, is_exception}
use Rattle.program_ranges.specs.ExprRanges.{Test, Counted, is_number, some_number, expr_ranges, received_ranges}

-- each of these locations is there and has so many scalars
abbrev pub names_fit : List Base → ℕ → Test
names_fit [] n program body = true
names_fit (b ∷ bs) n program body = is_count (base_count b program body) n && names_fit bs n program body

-- the local of this number is there and has so many scalars
abbrev pub is_local : ℕ → ℕ → Body → Bool
is_local k n body = is_count (local_count (slice_get body.locals k)) n

-- so are these locals
abbrev pub are_locals : List ℕ → ℕ → Body → Bool
are_locals [] n body = true
are_locals (k ∷ ks) n body = is_local k n body && are_locals ks n body

-- each of these is below a number
abbrev pub all_below : ℕ → List ℕ → Bool
all_below n [] = true
all_below n (x ∷ xs) = nat_lt x n && all_below n xs

-- there are exceptions of these numbers
abbrev pub all_exceptions : List ℕ → Checked → Bool
all_exceptions [] program = true
all_exceptions (x ∷ xs) program = is_exception x program && all_exceptions xs program

-- the body has a result of so many scalars
abbrev pub is_result : Counted → Test
is_result v program body = v.holds program body && is_count (mode_count body.result) v.count

abbrev pub some_result : Option Received → Test
some_result None program body = true
some_result (Some v) program body = is_result (received_ranges v) program body

-- the control of a DO, whose counter is a local of one scalar
abbrev pub control_in_range : Control → Test
control_in_range (While e) program body = is_number (expr_ranges e.value) program body
control_in_range Forever program body = true
control_in_range (Members counter set low condition) program body = is_local counter 1 body && (is_number (expr_ranges set.value) program body && some_number (option_map (λ e. expr_ranges e.value) condition) program body)
control_in_range (Steps counter start step end down condition) program body = is_local counter 1 body && (is_number (expr_ranges start.value) program body && (some_number (option_map (λ e. expr_ranges e.value) step) program body && (is_number (expr_ranges end.value) program body && some_number (option_map (λ e. expr_ranges e.value) condition) program body)))
