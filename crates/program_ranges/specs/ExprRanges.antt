-- When the numbers in expressions are in range.
use Rattle.std.specs.Prelude.{ℕ, ◌+◌, ◌-◌, ◌*◌, Bool, true, false, ◌&&◌, nat_eq, nat_lt, nat_le, List, [], ◌∷◌, length, slice_get, Option, Some, None, option_map}
use Rattle.modes.specs.Bounds.{count_between}
use Rattle.checked_program.specs.declared.program.Passing.TheVariants as passings
use Rattle.checked_program.specs.declared.program.Checked.{Checked}
use Rattle.checked_program.specs.declared.program.Body.{Body}
use Rattle.checked_program.specs.declared.expr.Binary.{Binary}
use Rattle.checked_program.specs.declared.expr.Binary.TheVariants.{Equal, NotEqual, Less, LessOrEqual, Greater, GreaterOrEqual, Member}
use Rattle.checked_program.specs.declared.expr.Argument.TheOpen as opens
use Rattle.checked_program.specs.declared.expr.Argument.{Argument, Argument-F, fold-Argument}
use Rattle.checked_program.specs.declared.expr.Operation.{Operation, Operation-F, fold-Operation}
use Rattle.checked_program.specs.declared.expr.Part.{Part, Part-F, fold-Part}
use Rattle.checked_program.specs.declared.expr.Call.{Call, Call-F, fold-Call}
use Rattle.checked_program.specs.declared.expr.Expr.{Expr, Expr-F, fold-Expr}
use Rattle.checked_program.specs.declared.expr.Location.{Location, Location-F, fold-Location}
use Rattle.checked_program.specs.declared.expr.Range.{Range, Range-F, fold-Range}
use Rattle.checked_program.specs.declared.expr.Received.{Received, Received-F, fold-Received}
use Rattle.checked_program.specs.declared.expr.Start.{Start, Start-F, fold-Start}
use Rattle.program_ranges.specs.Around.{is_count, base_count, buffer_count, mode_count, bounds_fit, are_ints, are_members, is_procedure, is_process, is_passed}

-- whether numbers are in range in a body of a program
abbrev pub Test : Type 0
Test = Checked → Body → Bool

-- a value or a location: how many scalars it has, and whether its numbers are in range
pub record Counted : Type 0 where
  pub count : ℕ
  pub holds : Test

-- a part: how many scalars it has, and whether it lies in so many
pub record Cut : Type 0 where
  pub count : ℕ
  pub fits : ℕ → Test

-- a call: the number of the body, and whether its numbers are in range
pub record Called : Type 0 where
  pub body : ℕ
  pub holds : Test

-- an argument: whether it is one for the parameter of this number of this procedure
abbrev pub ArgumentTest : Type 0
ArgumentTest = Body → ℕ → Test

-- what finds a value: whether that has so many scalars
abbrev pub OperationTest : Type 0
OperationTest = ℕ → Test

-- ---- lists

-- each holds
abbrev pub all_hold : List Test → Test
all_hold [] program body = true
all_hold (t ∷ ts) program body = t program body && all_hold ts program body

-- parts lead from so many scalars to so many
abbrev pub parts_lead : ℕ → List Cut → ℕ → Test
parts_lead of [] count program body = nat_eq of count
parts_lead of (c ∷ cs) count program body = c.fits of program body && parts_lead c.count cs count program body

-- values one behind the other, of so many scalars together
abbrev pub values_fill : List Counted → ℕ → Test
values_fill [] n program body = nat_eq n 0
values_fill (v ∷ vs) n program body = v.holds program body && (nat_le v.count n && values_fill vs (n - v.count) program body)

-- arguments for the parameters from this number on
abbrev pub arguments_fit : Body → ℕ → List ArgumentTest → Test
arguments_fit callee number [] program body = nat_eq number (length callee.parameters)
arguments_fit callee number (a ∷ as') program body = a callee number program body && arguments_fit callee (number + 1) as' program body

-- a value for the IN parameter of this number
abbrev pub is_taken : Body → ℕ → Counted → Test
is_taken callee number v program body = v.holds program body && is_passed callee number passings.In v.count

-- values for the parameters from this number on
abbrev pub values_fit : Body → ℕ → List Counted → Test
values_fit callee number [] program body = nat_eq number (length callee.parameters)
values_fit callee number (v ∷ vs) program body = is_taken callee number v program body && values_fit callee (number + 1) vs program body

-- ---- each kind

-- a value of one number
abbrev pub is_number : Counted → Test
is_number v program body = v.holds program body && nat_eq v.count 1

abbrev pub some_number : Option Counted → Test
some_number None program body = true
some_number (Some v) program body = is_number v program body

-- operands of so many scalars: of equally many where they are compared, else of one each; the bounds of IN
abbrev pub operands_fit : Binary → ℕ → ℕ → Bool
operands_fit Equal m n = nat_eq m n
operands_fit NotEqual m n = nat_eq m n
operands_fit Less m n = nat_eq m n
operands_fit LessOrEqual m n = nat_eq m n
operands_fit Greater m n = nat_eq m n
operands_fit GreaterOrEqual m n = nat_eq m n
operands_fit (Member b) m n = are_members b && (nat_eq m 1 && nat_eq n 1)
operands_fit o m n = nat_eq m 1 && nat_eq n 1

-- the parts lead from a location that is there to so many scalars
abbrev pub lies_in : Option ℕ → List Cut → ℕ → Test
lies_in None cs count program body = false
lies_in (Some n) cs count program body = parts_lead n cs count program body

abbrev pub call_fits : Option Body → List ArgumentTest → Test
call_fits None as' program body = false
call_fits (Some callee) as' program body = is_procedure callee.sort && arguments_fit callee 0 as' program body

abbrev pub start_fits : Option Body → List Counted → Test
start_fits None vs program body = false
start_fits (Some callee) vs program body = is_process callee.sort && values_fit callee 0 vs program body

-- how many scalars a procedure's result has, where it has one
abbrev pub result_count : Option Body → Option ℕ
result_count None = None
result_count (Some callee) = mode_count callee.result

abbrev pub operation_layer : Operation-F ArgumentTest OperationTest Cut Called Counted Counted Test Counted Test → OperationTest
operation_layer (opens.Constant xs) n program body = nat_eq n (length xs)
operation_layer opens.This n program body = nat_eq n 1
operation_layer (opens.Contents l) n program body = l.value.holds program body && nat_eq n l.value.count
operation_layer (opens.PartOf of parts) n program body = of.value.holds program body && parts_lead of.value.count parts n program body
operation_layer (opens.Receive b) n program body = is_count (buffer_count (slice_get program.buffers b)) n
operation_layer (opens.Start s) n program body = s.value program body && nat_eq n 1
operation_layer (opens.Call c) n program body = c.value.holds program body && is_count (result_count (slice_get program.bodies c.value.body)) n
operation_layer (opens.Powerset bounds rs) n program body = are_members bounds && (all_hold rs program body && nat_eq n 1)
operation_layer (opens.Parts vs) n program body = values_fill vs n program body
operation_layer (opens.Uniform m v) n program body = v.holds program body && (nat_lt 0 m && nat_eq n (m * v.count))
operation_layer (opens.Routine r e) n program body = is_number e.value program body && nat_eq n 1
operation_layer opens.GetInt n program body = nat_eq n 1
operation_layer (opens.Prefixed o e) n program body = is_number e.value program body && nat_eq n 1
operation_layer (opens.Binary o l r) n program body = l.value.holds program body && (r.value.holds program body && (operands_fit o l.value.count r.value.count && nat_eq n 1))

abbrev pub expr_layer : Expr-F ArgumentTest OperationTest Cut Called Counted Counted Test Counted Test → Counted
expr_layer e = record { count = e.count; holds = e.operation e.count }

abbrev pub range_layer : Range-F ArgumentTest OperationTest Cut Called Counted Counted Test Counted Test → Test
range_layer r program body = is_number r.first.value program body && some_number (option_map (λ e. e.value) r.last) program body

abbrev pub received_layer : Received-F ArgumentTest OperationTest Cut Called Counted Counted Test Counted Test → Counted
received_layer r = record { count = r.value.value.count; holds = λ program body. r.value.value.holds program body && bounds_fit r.bounds r.value.value.count }

abbrev pub location_layer : Location-F ArgumentTest OperationTest Cut Called Counted Counted Test Counted Test → Counted
location_layer l = record { count = l.count; holds = λ program body. lies_in (base_count l.base program body) l.parts l.count program body }

-- a field or an element lies in what it is a part of: the elements that can be named have no more scalars
abbrev pub part_layer : Part-F ArgumentTest OperationTest Cut Called Counted Counted Test Counted Test → Cut
part_layer (opens.Field first count) = record { count = count; fits = λ of program body. nat_le (first + count) of }
part_layer (opens.Element i bounds count) = record { count = count; fits = λ of program body. are_ints bounds && (is_number i.value program body && nat_le (count_between bounds.low bounds.high * count) of) }

abbrev pub start_layer : Start-F ArgumentTest OperationTest Cut Called Counted Counted Test Counted Test → Test
start_layer s program body = start_fits (slice_get program.bodies s.process) s.arguments program body

abbrev pub call_layer : Call-F ArgumentTest OperationTest Cut Called Counted Counted Test Counted Test → Called
call_layer c = record { body = c.body; holds = λ program body. call_fits (slice_get program.bodies c.body) c.arguments program body }

abbrev pub argument_layer : Argument-F ArgumentTest OperationTest Cut Called Counted Counted Test Counted Test → ArgumentTest
argument_layer (opens.In v) callee number program body = is_taken callee number v program body
argument_layer (opens.Out l bounds) callee number program body = l.holds program body && (is_passed callee number passings.Out l.count && bounds_fit bounds l.count)
argument_layer (opens.InOut l taken bounds) callee number program body = l.holds program body && (is_passed callee number passings.InOut l.count && (bounds_fit taken l.count && bounds_fit bounds l.count))

-- ---- values

unfoldable pub expr_ranges : Expr → Counted
expr_ranges = fold-Expr ArgumentTest OperationTest Cut Called Counted Counted Test Counted Test argument_layer operation_layer part_layer call_layer expr_layer location_layer range_layer received_layer start_layer

unfoldable pub operation_in_range : Operation → OperationTest
operation_in_range = fold-Operation ArgumentTest OperationTest Cut Called Counted Counted Test Counted Test argument_layer operation_layer part_layer call_layer expr_layer location_layer range_layer received_layer start_layer

unfoldable pub range_in_range : Range → Test
range_in_range = fold-Range ArgumentTest OperationTest Cut Called Counted Counted Test Counted Test argument_layer operation_layer part_layer call_layer expr_layer location_layer range_layer received_layer start_layer

unfoldable pub received_ranges : Received → Counted
received_ranges = fold-Received ArgumentTest OperationTest Cut Called Counted Counted Test Counted Test argument_layer operation_layer part_layer call_layer expr_layer location_layer range_layer received_layer start_layer

unfoldable pub location_ranges : Location → Counted
location_ranges = fold-Location ArgumentTest OperationTest Cut Called Counted Counted Test Counted Test argument_layer operation_layer part_layer call_layer expr_layer location_layer range_layer received_layer start_layer

unfoldable pub part_ranges : Part → Cut
part_ranges = fold-Part ArgumentTest OperationTest Cut Called Counted Counted Test Counted Test argument_layer operation_layer part_layer call_layer expr_layer location_layer range_layer received_layer start_layer

unfoldable pub start_in_range : Start → Test
start_in_range = fold-Start ArgumentTest OperationTest Cut Called Counted Counted Test Counted Test argument_layer operation_layer part_layer call_layer expr_layer location_layer range_layer received_layer start_layer

unfoldable pub call_ranges : Call → Called
call_ranges = fold-Call ArgumentTest OperationTest Cut Called Counted Counted Test Counted Test argument_layer operation_layer part_layer call_layer expr_layer location_layer range_layer received_layer start_layer

unfoldable pub argument_in_range : Argument → ArgumentTest
argument_in_range = fold-Argument ArgumentTest OperationTest Cut Called Counted Counted Test Counted Test argument_layer operation_layer part_layer call_layer expr_layer location_layer range_layer received_layer start_layer
