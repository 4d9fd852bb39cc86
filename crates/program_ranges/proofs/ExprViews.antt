-- What the definitions of ranges in expressions are of each value.
use Rattle.std.proofs.Common.{◌≡◌, ℕ, List, Option, Some, None, refl, ap, sym, ◌∙◌}
use Rattle.std.specs.Prelude.{ℤ, ◌+◌, ◌*◌, ◌&&◌, nat_eq, nat_lt, nat_le, length, map, slice_get, option_map}
use Rattle.std.specs.declared.alloc.Global.{Global}
use Rattle.std.specs.declared.boxed.Box.{Box}
use Rattle.modes.specs.declared.mode.Bounds.{Bounds}
use Rattle.modes.specs.Bounds.{count_between}
use Rattle.checked_program.specs.declared.program.Passing.TheVariants as passings
use Rattle.checked_program.specs.declared.program.Checked.{Checked}
use Rattle.checked_program.specs.declared.program.Body.{Body}
use Rattle.checked_program.specs.declared.expr.Binary.{Binary}
use Rattle.checked_program.specs.declared.expr.Prefix.{Prefix}
use Rattle.checked_program.specs.declared.expr.Routine.{Routine}
use Rattle.checked_program.specs.declared.expr.Argument.TheOpen as opens
use Rattle.checked_program.specs.declared.expr.Argument.{Argument, fold-Argument, fold-roll-Argument}
use Rattle.checked_program.specs.declared.expr.Argument.TheVariants as arguments
use Rattle.checked_program.specs.declared.expr.Operation.{Operation, fold-Operation, fold-roll-Operation}
use Rattle.checked_program.specs.declared.expr.Operation.TheVariants as operations
use Rattle.checked_program.specs.declared.expr.Part.{Part, fold-Part, fold-roll-Part}
use Rattle.checked_program.specs.declared.expr.Part.TheVariants as parts
use Rattle.checked_program.specs.declared.expr.Expr.{Expr, out-Expr, fold_out-Expr}
use Rattle.checked_program.specs.declared.expr.Call.{Call, out-Call, fold_out-Call}
use Rattle.checked_program.specs.declared.expr.Location.{Location, out-Location, fold_out-Location}
use Rattle.checked_program.specs.declared.expr.Range.{Range, out-Range, fold_out-Range, map-Range}
use Rattle.checked_program.specs.declared.expr.Received.{Received, out-Received, fold_out-Received}
use Rattle.checked_program.specs.declared.expr.Start.{Start, out-Start, fold_out-Start}
use Rattle.program_ranges.specs.Around.{is_count, base_count, buffer_count, bounds_fit, are_ints, are_members, is_passed}
use Rattle.program_ranges.specs.ExprRanges.{Test, Counted, Cut, Called, ArgumentTest, OperationTest, all_hold, parts_lead, values_fill, is_taken, is_number, some_number, operands_fit, lies_in, call_fits, start_fits, result_count, operation_layer, expr_layer, range_layer, received_layer, location_layer, part_layer, start_layer, call_layer, argument_layer, expr_ranges, operation_in_range, range_in_range, received_ranges, location_ranges, part_ranges, start_in_range, call_ranges, argument_in_range}

pub part_ranges-Field : (first : ℕ) (count : ℕ) → part_ranges (parts.Field first count) ≡ record { count = count; fits = λ of program body. nat_le (first + count) of }
unfolding expr_ranges operation_in_range range_in_range received_ranges location_ranges part_ranges start_in_range call_ranges argument_in_range
part_ranges-Field first count = ap (fold-Part ArgumentTest OperationTest Cut Called Counted Counted Test Counted Test argument_layer operation_layer part_layer call_layer expr_layer location_layer range_layer received_layer start_layer) (sym (parts.rolls-Field first count)) ∙ fold-roll-Part ArgumentTest OperationTest Cut Called Counted Counted Test Counted Test argument_layer operation_layer part_layer call_layer expr_layer location_layer range_layer received_layer start_layer (opens.Field first count)

pub part_ranges-Element : (i : Box Expr Global) (bounds : Bounds) (count : ℕ) → part_ranges (parts.Element i bounds count) ≡ record { count = count; fits = λ of program body. are_ints bounds && (is_number (expr_ranges i.value) program body && nat_le (count_between bounds.low bounds.high * count) of) }
unfolding expr_ranges operation_in_range range_in_range received_ranges location_ranges part_ranges start_in_range call_ranges argument_in_range
part_ranges-Element i bounds count = ap (fold-Part ArgumentTest OperationTest Cut Called Counted Counted Test Counted Test argument_layer operation_layer part_layer call_layer expr_layer location_layer range_layer received_layer start_layer) (sym (parts.rolls-Element i bounds count)) ∙ fold-roll-Part ArgumentTest OperationTest Cut Called Counted Counted Test Counted Test argument_layer operation_layer part_layer call_layer expr_layer location_layer range_layer received_layer start_layer (opens.Element i bounds count)

pub argument_in_range-In : (v : Received) (callee : Body) (number : ℕ) (program : Checked) (body : Body) → argument_in_range (arguments.In v) callee number program body ≡ is_taken callee number (received_ranges v) program body
unfolding expr_ranges operation_in_range range_in_range received_ranges location_ranges part_ranges start_in_range call_ranges argument_in_range
argument_in_range-In v callee number program body = ap (λ f. f callee number program body) (ap (fold-Argument ArgumentTest OperationTest Cut Called Counted Counted Test Counted Test argument_layer operation_layer part_layer call_layer expr_layer location_layer range_layer received_layer start_layer) (sym (arguments.rolls-In v)) ∙ fold-roll-Argument ArgumentTest OperationTest Cut Called Counted Counted Test Counted Test argument_layer operation_layer part_layer call_layer expr_layer location_layer range_layer received_layer start_layer (opens.In v))

pub argument_in_range-Out : (l : Location) (bounds : Option Bounds) (callee : Body) (number : ℕ) (program : Checked) (body : Body) → argument_in_range (arguments.Out l bounds) callee number program body ≡ (location_ranges l).holds program body && (is_passed callee number passings.Out (location_ranges l).count && bounds_fit bounds (location_ranges l).count)
unfolding expr_ranges operation_in_range range_in_range received_ranges location_ranges part_ranges start_in_range call_ranges argument_in_range
argument_in_range-Out l bounds callee number program body = ap (λ f. f callee number program body) (ap (fold-Argument ArgumentTest OperationTest Cut Called Counted Counted Test Counted Test argument_layer operation_layer part_layer call_layer expr_layer location_layer range_layer received_layer start_layer) (sym (arguments.rolls-Out l bounds)) ∙ fold-roll-Argument ArgumentTest OperationTest Cut Called Counted Counted Test Counted Test argument_layer operation_layer part_layer call_layer expr_layer location_layer range_layer received_layer start_layer (opens.Out l bounds))

pub argument_in_range-InOut : (l : Location) (taken : Option Bounds) (bounds : Option Bounds) (callee : Body) (number : ℕ) (program : Checked) (body : Body) → argument_in_range (arguments.InOut l taken bounds) callee number program body ≡ (location_ranges l).holds program body && (is_passed callee number passings.InOut (location_ranges l).count && (bounds_fit taken (location_ranges l).count && bounds_fit bounds (location_ranges l).count))
unfolding expr_ranges operation_in_range range_in_range received_ranges location_ranges part_ranges start_in_range call_ranges argument_in_range
argument_in_range-InOut l taken bounds callee number program body = ap (λ f. f callee number program body) (ap (fold-Argument ArgumentTest OperationTest Cut Called Counted Counted Test Counted Test argument_layer operation_layer part_layer call_layer expr_layer location_layer range_layer received_layer start_layer) (sym (arguments.rolls-InOut l taken bounds)) ∙ fold-roll-Argument ArgumentTest OperationTest Cut Called Counted Counted Test Counted Test argument_layer operation_layer part_layer call_layer expr_layer location_layer range_layer received_layer start_layer (opens.InOut l taken bounds))

pub operation_in_range-Constant : (xs : List ℤ) (n : ℕ) (program : Checked) (body : Body) → operation_in_range (operations.Constant xs) n program body ≡ nat_eq n (length xs)
unfolding expr_ranges operation_in_range range_in_range received_ranges location_ranges part_ranges start_in_range call_ranges argument_in_range
operation_in_range-Constant xs n program body = ap (λ f. f n program body) (ap (fold-Operation ArgumentTest OperationTest Cut Called Counted Counted Test Counted Test argument_layer operation_layer part_layer call_layer expr_layer location_layer range_layer received_layer start_layer) (sym (operations.rolls-Constant xs)) ∙ fold-roll-Operation ArgumentTest OperationTest Cut Called Counted Counted Test Counted Test argument_layer operation_layer part_layer call_layer expr_layer location_layer range_layer received_layer start_layer (opens.Constant xs))

pub operation_in_range-This : (n : ℕ) (program : Checked) (body : Body) → operation_in_range operations.This n program body ≡ nat_eq n 1
unfolding expr_ranges operation_in_range range_in_range received_ranges location_ranges part_ranges start_in_range call_ranges argument_in_range
operation_in_range-This n program body = ap (λ f. f n program body) (ap (fold-Operation ArgumentTest OperationTest Cut Called Counted Counted Test Counted Test argument_layer operation_layer part_layer call_layer expr_layer location_layer range_layer received_layer start_layer) (sym (operations.rolls-This)) ∙ fold-roll-Operation ArgumentTest OperationTest Cut Called Counted Counted Test Counted Test argument_layer operation_layer part_layer call_layer expr_layer location_layer range_layer received_layer start_layer opens.This)

pub operation_in_range-Contents : (l : Box Location Global) (n : ℕ) (program : Checked) (body : Body) → operation_in_range (operations.Contents l) n program body ≡ (location_ranges l.value).holds program body && nat_eq n (location_ranges l.value).count
unfolding expr_ranges operation_in_range range_in_range received_ranges location_ranges part_ranges start_in_range call_ranges argument_in_range
operation_in_range-Contents l n program body = ap (λ f. f n program body) (ap (fold-Operation ArgumentTest OperationTest Cut Called Counted Counted Test Counted Test argument_layer operation_layer part_layer call_layer expr_layer location_layer range_layer received_layer start_layer) (sym (operations.rolls-Contents l)) ∙ fold-roll-Operation ArgumentTest OperationTest Cut Called Counted Counted Test Counted Test argument_layer operation_layer part_layer call_layer expr_layer location_layer range_layer received_layer start_layer (opens.Contents l))

pub operation_in_range-PartOf : (of : Box Expr Global) (cuts : List Part) (n : ℕ) (program : Checked) (body : Body) → operation_in_range (operations.PartOf of cuts) n program body ≡ (expr_ranges of.value).holds program body && parts_lead (expr_ranges of.value).count (map part_ranges cuts) n program body
unfolding expr_ranges operation_in_range range_in_range received_ranges location_ranges part_ranges start_in_range call_ranges argument_in_range
operation_in_range-PartOf of cuts n program body = ap (λ f. f n program body) (ap (fold-Operation ArgumentTest OperationTest Cut Called Counted Counted Test Counted Test argument_layer operation_layer part_layer call_layer expr_layer location_layer range_layer received_layer start_layer) (sym (operations.rolls-PartOf of cuts)) ∙ fold-roll-Operation ArgumentTest OperationTest Cut Called Counted Counted Test Counted Test argument_layer operation_layer part_layer call_layer expr_layer location_layer range_layer received_layer start_layer (opens.PartOf of cuts))

pub operation_in_range-Receive : (b : ℕ) (n : ℕ) (program : Checked) (body : Body) → operation_in_range (operations.Receive b) n program body ≡ is_count (buffer_count (slice_get program.buffers b)) n
unfolding expr_ranges operation_in_range range_in_range received_ranges location_ranges part_ranges start_in_range call_ranges argument_in_range
operation_in_range-Receive b n program body = ap (λ f. f n program body) (ap (fold-Operation ArgumentTest OperationTest Cut Called Counted Counted Test Counted Test argument_layer operation_layer part_layer call_layer expr_layer location_layer range_layer received_layer start_layer) (sym (operations.rolls-Receive b)) ∙ fold-roll-Operation ArgumentTest OperationTest Cut Called Counted Counted Test Counted Test argument_layer operation_layer part_layer call_layer expr_layer location_layer range_layer received_layer start_layer (opens.Receive b))

pub operation_in_range-Start : (s : Box Start Global) (n : ℕ) (program : Checked) (body : Body) → operation_in_range (operations.Start s) n program body ≡ start_in_range s.value program body && nat_eq n 1
unfolding expr_ranges operation_in_range range_in_range received_ranges location_ranges part_ranges start_in_range call_ranges argument_in_range
operation_in_range-Start s n program body = ap (λ f. f n program body) (ap (fold-Operation ArgumentTest OperationTest Cut Called Counted Counted Test Counted Test argument_layer operation_layer part_layer call_layer expr_layer location_layer range_layer received_layer start_layer) (sym (operations.rolls-Start s)) ∙ fold-roll-Operation ArgumentTest OperationTest Cut Called Counted Counted Test Counted Test argument_layer operation_layer part_layer call_layer expr_layer location_layer range_layer received_layer start_layer (opens.Start s))

pub operation_in_range-Call : (c : Box Call Global) (n : ℕ) (program : Checked) (body : Body) → operation_in_range (operations.Call c) n program body ≡ (call_ranges c.value).holds program body && is_count (result_count (slice_get program.bodies (call_ranges c.value).body)) n
unfolding expr_ranges operation_in_range range_in_range received_ranges location_ranges part_ranges start_in_range call_ranges argument_in_range
operation_in_range-Call c n program body = ap (λ f. f n program body) (ap (fold-Operation ArgumentTest OperationTest Cut Called Counted Counted Test Counted Test argument_layer operation_layer part_layer call_layer expr_layer location_layer range_layer received_layer start_layer) (sym (operations.rolls-Call c)) ∙ fold-roll-Operation ArgumentTest OperationTest Cut Called Counted Counted Test Counted Test argument_layer operation_layer part_layer call_layer expr_layer location_layer range_layer received_layer start_layer (opens.Call c))

pub operation_in_range-Powerset : (bounds : Bounds) (rs : List Range) (n : ℕ) (program : Checked) (body : Body) → operation_in_range (operations.Powerset bounds rs) n program body ≡ are_members bounds && (all_hold (map range_in_range rs) program body && nat_eq n 1)
unfolding expr_ranges operation_in_range range_in_range received_ranges location_ranges part_ranges start_in_range call_ranges argument_in_range
operation_in_range-Powerset bounds rs n program body = ap (λ f. f n program body) (ap (fold-Operation ArgumentTest OperationTest Cut Called Counted Counted Test Counted Test argument_layer operation_layer part_layer call_layer expr_layer location_layer range_layer received_layer start_layer) (sym (operations.rolls-Powerset bounds rs)) ∙ fold-roll-Operation ArgumentTest OperationTest Cut Called Counted Counted Test Counted Test argument_layer operation_layer part_layer call_layer expr_layer location_layer range_layer received_layer start_layer (opens.Powerset bounds rs))

pub operation_in_range-Parts : (vs : List Received) (n : ℕ) (program : Checked) (body : Body) → operation_in_range (operations.Parts vs) n program body ≡ values_fill (map received_ranges vs) n program body
unfolding expr_ranges operation_in_range range_in_range received_ranges location_ranges part_ranges start_in_range call_ranges argument_in_range
operation_in_range-Parts vs n program body = ap (λ f. f n program body) (ap (fold-Operation ArgumentTest OperationTest Cut Called Counted Counted Test Counted Test argument_layer operation_layer part_layer call_layer expr_layer location_layer range_layer received_layer start_layer) (sym (operations.rolls-Parts vs)) ∙ fold-roll-Operation ArgumentTest OperationTest Cut Called Counted Counted Test Counted Test argument_layer operation_layer part_layer call_layer expr_layer location_layer range_layer received_layer start_layer (opens.Parts vs))

pub operation_in_range-Uniform : (m : ℕ) (v : Received) (n : ℕ) (program : Checked) (body : Body) → operation_in_range (operations.Uniform m v) n program body ≡ (received_ranges v).holds program body && (nat_lt 0 m && nat_eq n (m * (received_ranges v).count))
unfolding expr_ranges operation_in_range range_in_range received_ranges location_ranges part_ranges start_in_range call_ranges argument_in_range
operation_in_range-Uniform m v n program body = ap (λ f. f n program body) (ap (fold-Operation ArgumentTest OperationTest Cut Called Counted Counted Test Counted Test argument_layer operation_layer part_layer call_layer expr_layer location_layer range_layer received_layer start_layer) (sym (operations.rolls-Uniform m v)) ∙ fold-roll-Operation ArgumentTest OperationTest Cut Called Counted Counted Test Counted Test argument_layer operation_layer part_layer call_layer expr_layer location_layer range_layer received_layer start_layer (opens.Uniform m v))

pub operation_in_range-Routine : (r : Routine) (e : Box Expr Global) (n : ℕ) (program : Checked) (body : Body) → operation_in_range (operations.Routine r e) n program body ≡ is_number (expr_ranges e.value) program body && nat_eq n 1
unfolding expr_ranges operation_in_range range_in_range received_ranges location_ranges part_ranges start_in_range call_ranges argument_in_range
operation_in_range-Routine r e n program body = ap (λ f. f n program body) (ap (fold-Operation ArgumentTest OperationTest Cut Called Counted Counted Test Counted Test argument_layer operation_layer part_layer call_layer expr_layer location_layer range_layer received_layer start_layer) (sym (operations.rolls-Routine r e)) ∙ fold-roll-Operation ArgumentTest OperationTest Cut Called Counted Counted Test Counted Test argument_layer operation_layer part_layer call_layer expr_layer location_layer range_layer received_layer start_layer (opens.Routine r e))

pub operation_in_range-GetInt : (n : ℕ) (program : Checked) (body : Body) → operation_in_range operations.GetInt n program body ≡ nat_eq n 1
unfolding expr_ranges operation_in_range range_in_range received_ranges location_ranges part_ranges start_in_range call_ranges argument_in_range
operation_in_range-GetInt n program body = ap (λ f. f n program body) (ap (fold-Operation ArgumentTest OperationTest Cut Called Counted Counted Test Counted Test argument_layer operation_layer part_layer call_layer expr_layer location_layer range_layer received_layer start_layer) (sym (operations.rolls-GetInt)) ∙ fold-roll-Operation ArgumentTest OperationTest Cut Called Counted Counted Test Counted Test argument_layer operation_layer part_layer call_layer expr_layer location_layer range_layer received_layer start_layer opens.GetInt)

pub operation_in_range-Prefixed : (o : Prefix) (e : Box Expr Global) (n : ℕ) (program : Checked) (body : Body) → operation_in_range (operations.Prefixed o e) n program body ≡ is_number (expr_ranges e.value) program body && nat_eq n 1
unfolding expr_ranges operation_in_range range_in_range received_ranges location_ranges part_ranges start_in_range call_ranges argument_in_range
operation_in_range-Prefixed o e n program body = ap (λ f. f n program body) (ap (fold-Operation ArgumentTest OperationTest Cut Called Counted Counted Test Counted Test argument_layer operation_layer part_layer call_layer expr_layer location_layer range_layer received_layer start_layer) (sym (operations.rolls-Prefixed o e)) ∙ fold-roll-Operation ArgumentTest OperationTest Cut Called Counted Counted Test Counted Test argument_layer operation_layer part_layer call_layer expr_layer location_layer range_layer received_layer start_layer (opens.Prefixed o e))

pub operation_in_range-Binary : (o : Binary) (l : Box Expr Global) (r : Box Expr Global) (n : ℕ) (program : Checked) (body : Body) → operation_in_range (operations.Binary o l r) n program body ≡ (expr_ranges l.value).holds program body && ((expr_ranges r.value).holds program body && (operands_fit o (expr_ranges l.value).count (expr_ranges r.value).count && nat_eq n 1))
unfolding expr_ranges operation_in_range range_in_range received_ranges location_ranges part_ranges start_in_range call_ranges argument_in_range
operation_in_range-Binary o l r n program body = ap (λ f. f n program body) (ap (fold-Operation ArgumentTest OperationTest Cut Called Counted Counted Test Counted Test argument_layer operation_layer part_layer call_layer expr_layer location_layer range_layer received_layer start_layer) (sym (operations.rolls-Binary o l r)) ∙ fold-roll-Operation ArgumentTest OperationTest Cut Called Counted Counted Test Counted Test argument_layer operation_layer part_layer call_layer expr_layer location_layer range_layer received_layer start_layer (opens.Binary o l r))

pub expr_ranges-out : (e : Expr) → expr_ranges e ≡ record { count = (out-Expr e).count; holds = operation_in_range (out-Expr e).operation (out-Expr e).count }
unfolding expr_ranges operation_in_range range_in_range received_ranges location_ranges part_ranges start_in_range call_ranges argument_in_range
expr_ranges-out e = fold_out-Expr ArgumentTest OperationTest Cut Called Counted Counted Test Counted Test argument_layer operation_layer part_layer call_layer expr_layer location_layer range_layer received_layer start_layer e

range_fields : (e : Box Expr Global) (o : Option (Box Expr Global)) (program : Checked) (body : Body) → range_layer (map-Range Argument Operation Part Call Expr Location Range Received Start ArgumentTest OperationTest Cut Called Counted Counted Test Counted Test argument_in_range operation_in_range part_ranges call_ranges expr_ranges location_ranges range_in_range received_ranges start_in_range (record { first = e; last = o })) program body ≡ is_number (expr_ranges e.value) program body && some_number (option_map (λ e. expr_ranges e.value) o) program body
range_fields e None program body = refl
range_fields e (Some f) program body = refl

pub range_in_range-out : (r : Range) (program : Checked) (body : Body) → range_in_range r program body ≡ is_number (expr_ranges (out-Range r).first.value) program body && some_number (option_map (λ e. expr_ranges e.value) (out-Range r).last) program body
unfolding expr_ranges operation_in_range range_in_range received_ranges location_ranges part_ranges start_in_range call_ranges argument_in_range
range_in_range-out r program body = ap (λ f. f program body) (fold_out-Range ArgumentTest OperationTest Cut Called Counted Counted Test Counted Test argument_layer operation_layer part_layer call_layer expr_layer location_layer range_layer received_layer start_layer r) ∙ range_fields (out-Range r).first (out-Range r).last program body

pub received_ranges-out : (r : Received) → received_ranges r ≡ record { count = (expr_ranges (out-Received r).value.value).count; holds = λ program body. (expr_ranges (out-Received r).value.value).holds program body && bounds_fit (out-Received r).bounds (expr_ranges (out-Received r).value.value).count }
unfolding expr_ranges operation_in_range range_in_range received_ranges location_ranges part_ranges start_in_range call_ranges argument_in_range
received_ranges-out r = fold_out-Received ArgumentTest OperationTest Cut Called Counted Counted Test Counted Test argument_layer operation_layer part_layer call_layer expr_layer location_layer range_layer received_layer start_layer r

pub location_ranges-out : (l : Location) → location_ranges l ≡ record { count = (out-Location l).count; holds = λ program body. lies_in (base_count (out-Location l).base program body) (map part_ranges (out-Location l).parts) (out-Location l).count program body }
unfolding expr_ranges operation_in_range range_in_range received_ranges location_ranges part_ranges start_in_range call_ranges argument_in_range
location_ranges-out l = fold_out-Location ArgumentTest OperationTest Cut Called Counted Counted Test Counted Test argument_layer operation_layer part_layer call_layer expr_layer location_layer range_layer received_layer start_layer l

pub start_in_range-out : (s : Start) (program : Checked) (body : Body) → start_in_range s program body ≡ start_fits (slice_get program.bodies (out-Start s).process) (map received_ranges (out-Start s).arguments) program body
unfolding expr_ranges operation_in_range range_in_range received_ranges location_ranges part_ranges start_in_range call_ranges argument_in_range
start_in_range-out s program body = ap (λ f. f program body) (fold_out-Start ArgumentTest OperationTest Cut Called Counted Counted Test Counted Test argument_layer operation_layer part_layer call_layer expr_layer location_layer range_layer received_layer start_layer s)

pub call_ranges-out : (c : Call) → call_ranges c ≡ record { body = (out-Call c).body; holds = λ program body. call_fits (slice_get program.bodies (out-Call c).body) (map argument_in_range (out-Call c).arguments) program body }
unfolding expr_ranges operation_in_range range_in_range received_ranges location_ranges part_ranges start_in_range call_ranges argument_in_range
call_ranges-out c = fold_out-Call ArgumentTest OperationTest Cut Called Counted Counted Test Counted Test argument_layer operation_layer part_layer call_layer expr_layer location_layer range_layer received_layer start_layer c

pub ruleset expr_built = (part_ranges-Field, part_ranges-Element, argument_in_range-In, argument_in_range-Out, argument_in_range-InOut, operation_in_range-Constant, operation_in_range-This, operation_in_range-Contents, operation_in_range-PartOf, operation_in_range-Receive, operation_in_range-Start, operation_in_range-Call, operation_in_range-Powerset, operation_in_range-Parts, operation_in_range-Uniform, operation_in_range-Routine, operation_in_range-GetInt, operation_in_range-Prefixed, operation_in_range-Binary, expr_ranges-out, range_in_range-out, received_ranges-out, location_ranges-out, start_in_range-out, call_ranges-out)
