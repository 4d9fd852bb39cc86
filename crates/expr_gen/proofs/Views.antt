-- The trees of values that are built.
use Rattle.std.proofs.Common.{◌≡◌, ℕ, List, ℤ, Option, Some, None, refl, ap, sym, ◌∙◌}
use Rattle.std.specs.Prelude.{option_map}
use Rattle.std.specs.declared.alloc.Global.{Global}
use Rattle.std.specs.declared.boxed.Box.{Box}
use Rattle.modes.specs.declared.mode.Bounds.{Bounds}
use Rattle.modes.specs.ModeTree.{class_tree}
use Rattle.checked_program.specs.declared.expr.Binary.{Binary}
use Rattle.checked_program.specs.declared.expr.Prefix.{Prefix}
use Rattle.checked_program.specs.declared.expr.Routine.{Routine}
use Rattle.checked_program.specs.declared.expr.Argument.TheOpen as opens
use Rattle.checked_program.specs.declared.expr.Argument.{Argument, fold-Argument, fold-roll-Argument}
use Rattle.checked_program.specs.declared.expr.Argument.TheVariants as arguments
use Rattle.checked_program.specs.declared.expr.Operation.{Operation, fold-Operation, fold-roll-Operation}
use Rattle.checked_program.specs.declared.expr.Operation.TheVariants as operations
use Rattle.checked_program.specs.declared.expr.Part.{Part, fold-Part, fold-roll-Part}
use Rattle.checked_program.specs.declared.expr.Part.TheVariants as part_variants
use Rattle.checked_program.specs.declared.expr.Expr.{Expr, out-Expr, fold_out-Expr}
use Rattle.checked_program.specs.declared.expr.Call.{Call, out-Call, fold_out-Call}
use Rattle.checked_program.specs.declared.expr.Location.{Location, out-Location, fold_out-Location}
use Rattle.checked_program.specs.declared.expr.Range.{Range, out-Range, fold_out-Range, map-Range}
use Rattle.checked_program.specs.declared.expr.Received.{Received, out-Received, fold_out-Received}
use Rattle.checked_program.specs.declared.expr.Start.{Start, out-Start, fold_out-Start}
use Rattle.program_trees.specs.ExprTree.{ExprTree, expr, OperationTree, constant, own_instance, contents, part_of, receive, start, call, powerset, parts, uniform, routine, get_int, prefixed, binary, received, location, started, called, PartTree, one_field, one_element, RangeTree, range_of, ArgumentTree, taken, given, both, ReceivedTree, LocationTree, StartTree, CallTree, root_bounds, argument_layer, operation_layer, part_layer, call_layer, expr_layer, location_layer, range_layer, received_layer, start_layer, expr_tree, operation_tree, range_tree, received_tree, location_tree, part_tree, start_tree, call_tree, argument_tree, boxed_expr, received_of}
use Rattle.expr_gen.specs.Trees.{parts_of, ranges_of, arguments_of}

pub operation_tree-Constant : (xs : List ℤ) → operation_tree (operations.Constant xs) ≡ constant xs
unfolding expr_tree operation_tree range_tree received_tree location_tree part_tree start_tree call_tree argument_tree
operation_tree-Constant xs = ap (fold-Operation ArgumentTree OperationTree PartTree CallTree ExprTree LocationTree RangeTree ReceivedTree StartTree argument_layer operation_layer part_layer call_layer expr_layer location_layer range_layer received_layer start_layer) (sym (operations.rolls-Constant xs)) ∙ fold-roll-Operation ArgumentTree OperationTree PartTree CallTree ExprTree LocationTree RangeTree ReceivedTree StartTree argument_layer operation_layer part_layer call_layer expr_layer location_layer range_layer received_layer start_layer (opens.Constant xs)

pub operation_tree-This : operation_tree operations.This ≡ own_instance
unfolding expr_tree operation_tree range_tree received_tree location_tree part_tree start_tree call_tree argument_tree
operation_tree-This = ap (fold-Operation ArgumentTree OperationTree PartTree CallTree ExprTree LocationTree RangeTree ReceivedTree StartTree argument_layer operation_layer part_layer call_layer expr_layer location_layer range_layer received_layer start_layer) (sym operations.rolls-This) ∙ fold-roll-Operation ArgumentTree OperationTree PartTree CallTree ExprTree LocationTree RangeTree ReceivedTree StartTree argument_layer operation_layer part_layer call_layer expr_layer location_layer range_layer received_layer start_layer opens.This

pub operation_tree-Contents : (l : Box Location Global) → operation_tree (operations.Contents l) ≡ contents (location_tree l.value)
unfolding expr_tree operation_tree range_tree received_tree location_tree part_tree start_tree call_tree argument_tree
operation_tree-Contents l = ap (fold-Operation ArgumentTree OperationTree PartTree CallTree ExprTree LocationTree RangeTree ReceivedTree StartTree argument_layer operation_layer part_layer call_layer expr_layer location_layer range_layer received_layer start_layer) (sym (operations.rolls-Contents l)) ∙ fold-roll-Operation ArgumentTree OperationTree PartTree CallTree ExprTree LocationTree RangeTree ReceivedTree StartTree argument_layer operation_layer part_layer call_layer expr_layer location_layer range_layer received_layer start_layer (opens.Contents l)

pub operation_tree-PartOf : (of : Box Expr Global) (ps : List Part) → operation_tree (operations.PartOf of ps) ≡ part_of (boxed_expr of) (parts_of ps)
unfolding expr_tree operation_tree range_tree received_tree location_tree part_tree start_tree call_tree argument_tree
operation_tree-PartOf of ps = ap (fold-Operation ArgumentTree OperationTree PartTree CallTree ExprTree LocationTree RangeTree ReceivedTree StartTree argument_layer operation_layer part_layer call_layer expr_layer location_layer range_layer received_layer start_layer) (sym (operations.rolls-PartOf of ps)) ∙ fold-roll-Operation ArgumentTree OperationTree PartTree CallTree ExprTree LocationTree RangeTree ReceivedTree StartTree argument_layer operation_layer part_layer call_layer expr_layer location_layer range_layer received_layer start_layer (opens.PartOf of ps)

pub operation_tree-Receive : (b : ℕ) → operation_tree (operations.Receive b) ≡ receive b
unfolding expr_tree operation_tree range_tree received_tree location_tree part_tree start_tree call_tree argument_tree
operation_tree-Receive b = ap (fold-Operation ArgumentTree OperationTree PartTree CallTree ExprTree LocationTree RangeTree ReceivedTree StartTree argument_layer operation_layer part_layer call_layer expr_layer location_layer range_layer received_layer start_layer) (sym (operations.rolls-Receive b)) ∙ fold-roll-Operation ArgumentTree OperationTree PartTree CallTree ExprTree LocationTree RangeTree ReceivedTree StartTree argument_layer operation_layer part_layer call_layer expr_layer location_layer range_layer received_layer start_layer (opens.Receive b)

pub operation_tree-Start : (s : Box Start Global) → operation_tree (operations.Start s) ≡ start (start_tree s.value)
unfolding expr_tree operation_tree range_tree received_tree location_tree part_tree start_tree call_tree argument_tree
operation_tree-Start s = ap (fold-Operation ArgumentTree OperationTree PartTree CallTree ExprTree LocationTree RangeTree ReceivedTree StartTree argument_layer operation_layer part_layer call_layer expr_layer location_layer range_layer received_layer start_layer) (sym (operations.rolls-Start s)) ∙ fold-roll-Operation ArgumentTree OperationTree PartTree CallTree ExprTree LocationTree RangeTree ReceivedTree StartTree argument_layer operation_layer part_layer call_layer expr_layer location_layer range_layer received_layer start_layer (opens.Start s)

pub operation_tree-Call : (c : Box Call Global) → operation_tree (operations.Call c) ≡ call (call_tree c.value)
unfolding expr_tree operation_tree range_tree received_tree location_tree part_tree start_tree call_tree argument_tree
operation_tree-Call c = ap (fold-Operation ArgumentTree OperationTree PartTree CallTree ExprTree LocationTree RangeTree ReceivedTree StartTree argument_layer operation_layer part_layer call_layer expr_layer location_layer range_layer received_layer start_layer) (sym (operations.rolls-Call c)) ∙ fold-roll-Operation ArgumentTree OperationTree PartTree CallTree ExprTree LocationTree RangeTree ReceivedTree StartTree argument_layer operation_layer part_layer call_layer expr_layer location_layer range_layer received_layer start_layer (opens.Call c)

pub operation_tree-Powerset : (b : Bounds) (rs : List Range) → operation_tree (operations.Powerset b rs) ≡ powerset b (ranges_of rs)
unfolding expr_tree operation_tree range_tree received_tree location_tree part_tree start_tree call_tree argument_tree
operation_tree-Powerset b rs = ap (fold-Operation ArgumentTree OperationTree PartTree CallTree ExprTree LocationTree RangeTree ReceivedTree StartTree argument_layer operation_layer part_layer call_layer expr_layer location_layer range_layer received_layer start_layer) (sym (operations.rolls-Powerset b rs)) ∙ fold-roll-Operation ArgumentTree OperationTree PartTree CallTree ExprTree LocationTree RangeTree ReceivedTree StartTree argument_layer operation_layer part_layer call_layer expr_layer location_layer range_layer received_layer start_layer (opens.Powerset b rs)

pub operation_tree-Parts : (rs : List Received) → operation_tree (operations.Parts rs) ≡ parts (received_of rs)
unfolding expr_tree operation_tree range_tree received_tree location_tree part_tree start_tree call_tree argument_tree
operation_tree-Parts rs = ap (fold-Operation ArgumentTree OperationTree PartTree CallTree ExprTree LocationTree RangeTree ReceivedTree StartTree argument_layer operation_layer part_layer call_layer expr_layer location_layer range_layer received_layer start_layer) (sym (operations.rolls-Parts rs)) ∙ fold-roll-Operation ArgumentTree OperationTree PartTree CallTree ExprTree LocationTree RangeTree ReceivedTree StartTree argument_layer operation_layer part_layer call_layer expr_layer location_layer range_layer received_layer start_layer (opens.Parts rs)

pub operation_tree-Uniform : (m : ℕ) (r : Received) → operation_tree (operations.Uniform m r) ≡ uniform m (received_tree r)
unfolding expr_tree operation_tree range_tree received_tree location_tree part_tree start_tree call_tree argument_tree
operation_tree-Uniform m r = ap (fold-Operation ArgumentTree OperationTree PartTree CallTree ExprTree LocationTree RangeTree ReceivedTree StartTree argument_layer operation_layer part_layer call_layer expr_layer location_layer range_layer received_layer start_layer) (sym (operations.rolls-Uniform m r)) ∙ fold-roll-Operation ArgumentTree OperationTree PartTree CallTree ExprTree LocationTree RangeTree ReceivedTree StartTree argument_layer operation_layer part_layer call_layer expr_layer location_layer range_layer received_layer start_layer (opens.Uniform m r)

pub operation_tree-Routine : (r : Routine) (e : Box Expr Global) → operation_tree (operations.Routine r e) ≡ routine r (boxed_expr e)
unfolding expr_tree operation_tree range_tree received_tree location_tree part_tree start_tree call_tree argument_tree
operation_tree-Routine r e = ap (fold-Operation ArgumentTree OperationTree PartTree CallTree ExprTree LocationTree RangeTree ReceivedTree StartTree argument_layer operation_layer part_layer call_layer expr_layer location_layer range_layer received_layer start_layer) (sym (operations.rolls-Routine r e)) ∙ fold-roll-Operation ArgumentTree OperationTree PartTree CallTree ExprTree LocationTree RangeTree ReceivedTree StartTree argument_layer operation_layer part_layer call_layer expr_layer location_layer range_layer received_layer start_layer (opens.Routine r e)

pub operation_tree-GetInt : operation_tree operations.GetInt ≡ get_int
unfolding expr_tree operation_tree range_tree received_tree location_tree part_tree start_tree call_tree argument_tree
operation_tree-GetInt = ap (fold-Operation ArgumentTree OperationTree PartTree CallTree ExprTree LocationTree RangeTree ReceivedTree StartTree argument_layer operation_layer part_layer call_layer expr_layer location_layer range_layer received_layer start_layer) (sym operations.rolls-GetInt) ∙ fold-roll-Operation ArgumentTree OperationTree PartTree CallTree ExprTree LocationTree RangeTree ReceivedTree StartTree argument_layer operation_layer part_layer call_layer expr_layer location_layer range_layer received_layer start_layer opens.GetInt

pub operation_tree-Prefixed : (o : Prefix) (e : Box Expr Global) → operation_tree (operations.Prefixed o e) ≡ prefixed o (boxed_expr e)
unfolding expr_tree operation_tree range_tree received_tree location_tree part_tree start_tree call_tree argument_tree
operation_tree-Prefixed o e = ap (fold-Operation ArgumentTree OperationTree PartTree CallTree ExprTree LocationTree RangeTree ReceivedTree StartTree argument_layer operation_layer part_layer call_layer expr_layer location_layer range_layer received_layer start_layer) (sym (operations.rolls-Prefixed o e)) ∙ fold-roll-Operation ArgumentTree OperationTree PartTree CallTree ExprTree LocationTree RangeTree ReceivedTree StartTree argument_layer operation_layer part_layer call_layer expr_layer location_layer range_layer received_layer start_layer (opens.Prefixed o e)

pub operation_tree-Binary : (o : Binary) (l : Box Expr Global) (r : Box Expr Global) → operation_tree (operations.Binary o l r) ≡ binary o (boxed_expr l) (boxed_expr r)
unfolding expr_tree operation_tree range_tree received_tree location_tree part_tree start_tree call_tree argument_tree
operation_tree-Binary o l r = ap (fold-Operation ArgumentTree OperationTree PartTree CallTree ExprTree LocationTree RangeTree ReceivedTree StartTree argument_layer operation_layer part_layer call_layer expr_layer location_layer range_layer received_layer start_layer) (sym (operations.rolls-Binary o l r)) ∙ fold-roll-Operation ArgumentTree OperationTree PartTree CallTree ExprTree LocationTree RangeTree ReceivedTree StartTree argument_layer operation_layer part_layer call_layer expr_layer location_layer range_layer received_layer start_layer (opens.Binary o l r)

pub part_tree-Field : (first : ℕ) (count : ℕ) → part_tree (part_variants.Field first count) ≡ one_field first count
unfolding expr_tree operation_tree range_tree received_tree location_tree part_tree start_tree call_tree argument_tree
part_tree-Field first count = ap (fold-Part ArgumentTree OperationTree PartTree CallTree ExprTree LocationTree RangeTree ReceivedTree StartTree argument_layer operation_layer part_layer call_layer expr_layer location_layer range_layer received_layer start_layer) (sym (part_variants.rolls-Field first count)) ∙ fold-roll-Part ArgumentTree OperationTree PartTree CallTree ExprTree LocationTree RangeTree ReceivedTree StartTree argument_layer operation_layer part_layer call_layer expr_layer location_layer range_layer received_layer start_layer (opens.Field first count)

pub part_tree-Element : (e : Box Expr Global) (b : Bounds) (count : ℕ) → part_tree (part_variants.Element e b count) ≡ one_element (boxed_expr e) b count
unfolding expr_tree operation_tree range_tree received_tree location_tree part_tree start_tree call_tree argument_tree
part_tree-Element e b count = ap (fold-Part ArgumentTree OperationTree PartTree CallTree ExprTree LocationTree RangeTree ReceivedTree StartTree argument_layer operation_layer part_layer call_layer expr_layer location_layer range_layer received_layer start_layer) (sym (part_variants.rolls-Element e b count)) ∙ fold-roll-Part ArgumentTree OperationTree PartTree CallTree ExprTree LocationTree RangeTree ReceivedTree StartTree argument_layer operation_layer part_layer call_layer expr_layer location_layer range_layer received_layer start_layer (opens.Element e b count)

pub argument_tree-In : (r : Received) → argument_tree (arguments.In r) ≡ taken (received_tree r)
unfolding expr_tree operation_tree range_tree received_tree location_tree part_tree start_tree call_tree argument_tree
argument_tree-In r = ap (fold-Argument ArgumentTree OperationTree PartTree CallTree ExprTree LocationTree RangeTree ReceivedTree StartTree argument_layer operation_layer part_layer call_layer expr_layer location_layer range_layer received_layer start_layer) (sym (arguments.rolls-In r)) ∙ fold-roll-Argument ArgumentTree OperationTree PartTree CallTree ExprTree LocationTree RangeTree ReceivedTree StartTree argument_layer operation_layer part_layer call_layer expr_layer location_layer range_layer received_layer start_layer (opens.In r)

pub argument_tree-Out : (l : Location) (bounds : Option Bounds) → argument_tree (arguments.Out l bounds) ≡ given (location_tree l) bounds
unfolding expr_tree operation_tree range_tree received_tree location_tree part_tree start_tree call_tree argument_tree
argument_tree-Out l bounds = ap (fold-Argument ArgumentTree OperationTree PartTree CallTree ExprTree LocationTree RangeTree ReceivedTree StartTree argument_layer operation_layer part_layer call_layer expr_layer location_layer range_layer received_layer start_layer) (sym (arguments.rolls-Out l bounds)) ∙ fold-roll-Argument ArgumentTree OperationTree PartTree CallTree ExprTree LocationTree RangeTree ReceivedTree StartTree argument_layer operation_layer part_layer call_layer expr_layer location_layer range_layer received_layer start_layer (opens.Out l bounds)

pub argument_tree-InOut : (l : Location) (t : Option Bounds) (bounds : Option Bounds) → argument_tree (arguments.InOut l t bounds) ≡ both (location_tree l) t bounds
unfolding expr_tree operation_tree range_tree received_tree location_tree part_tree start_tree call_tree argument_tree
argument_tree-InOut l t bounds = ap (fold-Argument ArgumentTree OperationTree PartTree CallTree ExprTree LocationTree RangeTree ReceivedTree StartTree argument_layer operation_layer part_layer call_layer expr_layer location_layer range_layer received_layer start_layer) (sym (arguments.rolls-InOut l t bounds)) ∙ fold-roll-Argument ArgumentTree OperationTree PartTree CallTree ExprTree LocationTree RangeTree ReceivedTree StartTree argument_layer operation_layer part_layer call_layer expr_layer location_layer range_layer received_layer start_layer (opens.InOut l t bounds)

pub expr_tree-out : (e : Expr) → expr_tree e ≡ expr (out-Expr e).count (root_bounds (class_tree (out-Expr e).class)) (operation_tree (out-Expr e).operation)
unfolding expr_tree operation_tree range_tree received_tree location_tree part_tree start_tree call_tree argument_tree
expr_tree-out e = fold_out-Expr ArgumentTree OperationTree PartTree CallTree ExprTree LocationTree RangeTree ReceivedTree StartTree argument_layer operation_layer part_layer call_layer expr_layer location_layer range_layer received_layer start_layer e

pub received_tree-out : (r : Received) → received_tree r ≡ received (boxed_expr (out-Received r).value) (out-Received r).bounds
unfolding expr_tree operation_tree range_tree received_tree location_tree part_tree start_tree call_tree argument_tree
received_tree-out r = fold_out-Received ArgumentTree OperationTree PartTree CallTree ExprTree LocationTree RangeTree ReceivedTree StartTree argument_layer operation_layer part_layer call_layer expr_layer location_layer range_layer received_layer start_layer r

pub location_tree-out : (l : Location) → location_tree l ≡ location (out-Location l).base (parts_of (out-Location l).parts) (out-Location l).count
unfolding expr_tree operation_tree range_tree received_tree location_tree part_tree start_tree call_tree argument_tree
location_tree-out l = fold_out-Location ArgumentTree OperationTree PartTree CallTree ExprTree LocationTree RangeTree ReceivedTree StartTree argument_layer operation_layer part_layer call_layer expr_layer location_layer range_layer received_layer start_layer l

pub start_tree-out : (s : Start) → start_tree s ≡ started (out-Start s).process (received_of (out-Start s).arguments)
unfolding expr_tree operation_tree range_tree received_tree location_tree part_tree start_tree call_tree argument_tree
start_tree-out s = fold_out-Start ArgumentTree OperationTree PartTree CallTree ExprTree LocationTree RangeTree ReceivedTree StartTree argument_layer operation_layer part_layer call_layer expr_layer location_layer range_layer received_layer start_layer s

pub call_tree-out : (c : Call) → call_tree c ≡ called (out-Call c).body (arguments_of (out-Call c).arguments)
unfolding expr_tree operation_tree range_tree received_tree location_tree part_tree start_tree call_tree argument_tree
call_tree-out c = fold_out-Call ArgumentTree OperationTree PartTree CallTree ExprTree LocationTree RangeTree ReceivedTree StartTree argument_layer operation_layer part_layer call_layer expr_layer location_layer range_layer received_layer start_layer c

range_fields : (e : Box Expr Global) (o : Option (Box Expr Global)) → range_layer (map-Range Argument Operation Part Call Expr Location Range Received Start ArgumentTree OperationTree PartTree CallTree ExprTree LocationTree RangeTree ReceivedTree StartTree argument_tree operation_tree part_tree call_tree expr_tree location_tree range_tree received_tree start_tree (record { first = e; last = o })) ≡ range_of (boxed_expr e) (option_map boxed_expr o)
range_fields e None = refl
range_fields e (Some f) = refl

pub range_tree-out : (r : Range) → range_tree r ≡ range_of (boxed_expr (out-Range r).first) (option_map boxed_expr (out-Range r).last)
unfolding expr_tree operation_tree range_tree received_tree location_tree part_tree start_tree call_tree argument_tree
range_tree-out r = fold_out-Range ArgumentTree OperationTree PartTree CallTree ExprTree LocationTree RangeTree ReceivedTree StartTree argument_layer operation_layer part_layer call_layer expr_layer location_layer range_layer received_layer start_layer r ∙ range_fields (out-Range r).first (out-Range r).last

pub ruleset tree_built = (operation_tree-Constant, operation_tree-This, operation_tree-Contents, operation_tree-PartOf, operation_tree-Receive, operation_tree-Start, operation_tree-Call, operation_tree-Powerset, operation_tree-Parts, operation_tree-Uniform, operation_tree-Routine, operation_tree-GetInt, operation_tree-Prefixed, operation_tree-Binary, part_tree-Field, part_tree-Element, argument_tree-In, argument_tree-Out, argument_tree-InOut, expr_tree-out, received_tree-out, location_tree-out, start_tree-out, call_tree-out, range_tree-out)
