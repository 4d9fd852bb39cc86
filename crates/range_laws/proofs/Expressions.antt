-- What being in range says of expressions: one induction over all kinds of their nodes.
use Rattle.std.proofs.Common.{◌≡◌, ℕ, ◌+◌, ◌-◌, ◌*◌, ◌≤◌, List, [], ◌∷◌, map, Option, Some, None, refl, ap, sym, ◌∙◌, subst, IsTrue}
use Rattle.std.specs.Prelude.{true, ◌&&◌, nat_eq, nat_le, nat_lt, slice_get, length}
use Rattle.std.specs.declared.alloc.Global.{Global}
use Rattle.std.specs.declared.boxed.Box.{Box}
use Rattle.modes.specs.Bounds.{count_between}
use Rattle.checked_program.specs.declared.program.Checked.{Checked}
use Rattle.checked_program.specs.declared.program.Body.{Body}
use Rattle.checked_program.specs.declared.expr.Argument.TheOpen as opens
use Rattle.checked_program.specs.declared.expr.Argument.{Argument, Argument-F, map-Argument, roll-Argument, fold-roll-Argument}
use Rattle.checked_program.specs.declared.expr.Operation.{Operation, Operation-F, map-Operation, roll-Operation, fold-roll-Operation}
use Rattle.checked_program.specs.declared.expr.Part.{Part, Part-F, map-Part, roll-Part, fold-roll-Part}
use Rattle.checked_program.specs.declared.expr.Call.{Call, Call-F, map-Call, roll-Call, fold-roll-Call, ind-Call}
use Rattle.checked_program.specs.declared.expr.Expr.{Expr, Expr-F, map-Expr, roll-Expr, fold-roll-Expr, ind-Expr}
use Rattle.checked_program.specs.declared.expr.Location.{Location, Location-F, map-Location, roll-Location, fold-roll-Location, ind-Location}
use Rattle.checked_program.specs.declared.expr.Range.{Range, Range-F, map-Range, roll-Range, fold-roll-Range}
use Rattle.checked_program.specs.declared.expr.Received.{Received, Received-F, map-Received, roll-Received, fold-roll-Received, ind-Received}
use Rattle.checked_program.specs.declared.expr.Start.{Start, Start-F, map-Start, roll-Start, fold-roll-Start, ind-Start}
use Rattle.checked_program.specs.declared.program.Passing.TheVariants as passings
use Rattle.program_ranges.specs.Around.{is_count, base_count, bounds_fit, are_ints, are_members, is_procedure, is_process, is_passed}
use Rattle.program_ranges.specs.ExprRanges as tests
use Rattle.program_ranges.specs.ExprRanges.{Test, Counted, Cut, Called, ArgumentTest, OperationTest, argument_in_range, operation_in_range, part_ranges, call_ranges, expr_ranges, location_ranges, range_in_range, received_ranges, start_in_range, all_hold, parts_lead, values_fill, values_fit, arguments_fit, is_number, lies_in, result_count, call_fits, start_fits, operands_fit}
use Rattle.program_trees.specs.ExprTree as trees
use Rattle.program_trees.specs.ExprTree.{ArgumentTree, OperationTree, PartTree, CallTree, ExprTree, LocationTree, RangeTree, ReceivedTree, StartTree, ReceivedNodes, PartNodes, RangeNodes, ArgumentNodes, one_field, one_element, alone, between, taken, given, both, received_nodes, part_nodes, range_nodes, argument_nodes, count_of, received_count, location_count, argument_tree, operation_tree, part_tree, call_tree, expr_tree, location_tree, range_tree, received_tree, start_tree}
use Rattle.range_laws.specs.ExprInRange.{ExprInRange, OperationInRange, ReceivedInRange, AllInRange, ValuesInRange, PartsInRange, RangesInRange, LocationInRange, StartInRange, CallInRange, ArgumentsInRange, NumberInRange, PassedInRange, CallGives}
use Rattle.std.proofs.lemmas.Option.{slice_get_within}
use Rattle.checked_program.specs.declared.program.Passing.TheVariants.{In, Out, InOut}
use Rattle.program_trees.specs.ProgramTree.{BodyRowTree, CheckedTree, body_row_tree, checked_tree}
use Rattle.range_laws.proofs.Tests.{both_hold, equal, at_most, below}
use Rattle.range_laws.proofs.Rows.{base_told, passed_told, result_told, body_there}

-- ---- what is to be known of each kind

abbrev PartKnown : CheckedTree → BodyRowTree → ℕ → ℕ → PartTree → Type 0
PartKnown p body of count (one_field first n) = (n ≡ count) × (first + n ≤ of)
PartKnown p body of count (one_element e b n) = (n ≡ count) × (IsTrue (are_ints b) × NumberInRange p body e × (count_between b.low b.high * n ≤ of))

abbrev RangeKnown : CheckedTree → BodyRowTree → RangeTree → Type 0
RangeKnown p body (alone e) = NumberInRange p body e
RangeKnown p body (between e f) = NumberInRange p body e × NumberInRange p body f

abbrev ArgumentKnown : CheckedTree → BodyRowTree → BodyRowTree → ℕ → ArgumentTree → Type 0
ArgumentKnown p body callee k (taken r) = ReceivedInRange p body r × PassedInRange callee k In (received_count r)
ArgumentKnown p body callee k (given l bounds) = LocationInRange p body l × PassedInRange callee k Out (location_count l) × IsTrue (bounds_fit bounds (location_count l))
ArgumentKnown p body callee k (both l taken_by bounds) =
    LocationInRange p body l × PassedInRange callee k InOut (location_count l) × IsTrue (bounds_fit taken_by (location_count l)) × IsTrue (bounds_fit bounds (location_count l))

abbrev TellsArgument : ArgumentTest → ArgumentTree → Type 0
TellsArgument test t = (callee : Body) (number : ℕ) (program : Checked) (body : Body) → IsTrue (test callee number program body) → ArgumentKnown (checked_tree program) (body_row_tree body) (body_row_tree callee) number t

abbrev TellsOperation : OperationTest → OperationTree → Type 0
TellsOperation test t = (n : ℕ) (program : Checked) (body : Body) → IsTrue (test n program body) → OperationInRange (checked_tree program) (body_row_tree body) n t

abbrev TellsPart : Cut → PartTree → Type 0
TellsPart cut t = (of : ℕ) (program : Checked) (body : Body) → IsTrue (cut.fits of program body) → PartKnown (checked_tree program) (body_row_tree body) of cut.count t

abbrev TellsCall : Called → CallTree → Type 0
TellsCall call t = (program : Checked) (body : Body)
    → (IsTrue (call.holds program body) → CallInRange (checked_tree program) (body_row_tree body) t) × ((n : ℕ) → IsTrue (is_count (result_count (slice_get program.bodies call.body)) n) → CallGives (checked_tree program) t n)

abbrev TellsExpr : Counted → ExprTree → Type 0
TellsExpr counted t = (count_of t ≡ counted.count) × ((program : Checked) (body : Body) → IsTrue (counted.holds program body) → ExprInRange (checked_tree program) (body_row_tree body) t)

abbrev TellsLocation : Counted → LocationTree → Type 0
TellsLocation counted t = (location_count t ≡ counted.count) × ((program : Checked) (body : Body) → IsTrue (counted.holds program body) → LocationInRange (checked_tree program) (body_row_tree body) t)

abbrev TellsRange : Test → RangeTree → Type 0
TellsRange test t = (program : Checked) (body : Body) → IsTrue (test program body) → RangeKnown (checked_tree program) (body_row_tree body) t

abbrev TellsReceived : Counted → ReceivedTree → Type 0
TellsReceived counted t = (received_count t ≡ counted.count) × ((program : Checked) (body : Body) → IsTrue (counted.holds program body) → ReceivedInRange (checked_tree program) (body_row_tree body) t)

abbrev TellsStart : Test → StartTree → Type 0
TellsStart test t = (program : Checked) (body : Body) → IsTrue (test program body) → StartInRange (checked_tree program) (body_row_tree body) t

-- ---- nodes of which that is known

abbrev ToldArgument : Argument → Type 0
ToldArgument x = TellsArgument (argument_in_range x) (argument_tree x)

abbrev ToldOperation : Operation → Type 0
ToldOperation x = TellsOperation (operation_in_range x) (operation_tree x)

abbrev ToldPart : Part → Type 0
ToldPart x = TellsPart (part_ranges x) (part_tree x)

abbrev ToldCall : Call → Type 0
ToldCall x = TellsCall (call_ranges x) (call_tree x)

abbrev ToldExpr : Expr → Type 0
ToldExpr x = TellsExpr (expr_ranges x) (expr_tree x)

abbrev ToldLocation : Location → Type 0
ToldLocation x = TellsLocation (location_ranges x) (location_tree x)

abbrev ToldRange : Range → Type 0
ToldRange x = TellsRange (range_in_range x) (range_tree x)

abbrev ToldReceived : Received → Type 0
ToldReceived x = TellsReceived (received_ranges x) (received_tree x)

abbrev ToldStart : Start → Type 0
ToldStart x = TellsStart (start_in_range x) (start_tree x)

abbrev KnownArgument : Type 0
KnownArgument = (x : Argument) × ToldArgument x

abbrev KnownOperation : Type 0
KnownOperation = (x : Operation) × ToldOperation x

abbrev KnownPart : Type 0
KnownPart = (x : Part) × ToldPart x

abbrev KnownCall : Type 0
KnownCall = (x : Call) × ToldCall x

abbrev KnownExpr : Type 0
KnownExpr = (x : Expr) × ToldExpr x

abbrev KnownLocation : Type 0
KnownLocation = (x : Location) × ToldLocation x

abbrev KnownRange : Type 0
KnownRange = (x : Range) × ToldRange x

abbrev KnownReceived : Type 0
KnownReceived = (x : Received) × ToldReceived x

abbrev KnownStart : Type 0
KnownStart = (x : Start) × ToldStart x

abbrev bare_argument : KnownArgument → Argument
bare_argument x = x.0

abbrev bare_operation : KnownOperation → Operation
bare_operation x = x.0

abbrev bare_part : KnownPart → Part
bare_part x = x.0

abbrev bare_call : KnownCall → Call
bare_call x = x.0

abbrev bare_expr : KnownExpr → Expr
bare_expr x = x.0

abbrev bare_location : KnownLocation → Location
bare_location x = x.0

abbrev bare_range : KnownRange → Range
bare_range x = x.0

abbrev bare_received : KnownReceived → Received
bare_received x = x.0

abbrev bare_start : KnownStart → Start
bare_start x = x.0

abbrev plain_argument : Argument-F KnownArgument KnownOperation KnownPart KnownCall KnownExpr KnownLocation KnownRange KnownReceived KnownStart → Argument-F Argument Operation Part Call Expr Location Range Received Start
plain_argument y = map-Argument KnownArgument KnownOperation KnownPart KnownCall KnownExpr KnownLocation KnownRange KnownReceived KnownStart Argument Operation Part Call Expr Location Range Received Start bare_argument bare_operation bare_part bare_call bare_expr bare_location bare_range bare_received bare_start y

abbrev plain_operation : Operation-F KnownArgument KnownOperation KnownPart KnownCall KnownExpr KnownLocation KnownRange KnownReceived KnownStart → Operation-F Argument Operation Part Call Expr Location Range Received Start
plain_operation y = map-Operation KnownArgument KnownOperation KnownPart KnownCall KnownExpr KnownLocation KnownRange KnownReceived KnownStart Argument Operation Part Call Expr Location Range Received Start bare_argument bare_operation bare_part bare_call bare_expr bare_location bare_range bare_received bare_start y

abbrev plain_part : Part-F KnownArgument KnownOperation KnownPart KnownCall KnownExpr KnownLocation KnownRange KnownReceived KnownStart → Part-F Argument Operation Part Call Expr Location Range Received Start
plain_part y = map-Part KnownArgument KnownOperation KnownPart KnownCall KnownExpr KnownLocation KnownRange KnownReceived KnownStart Argument Operation Part Call Expr Location Range Received Start bare_argument bare_operation bare_part bare_call bare_expr bare_location bare_range bare_received bare_start y

abbrev plain_call : Call-F KnownArgument KnownOperation KnownPart KnownCall KnownExpr KnownLocation KnownRange KnownReceived KnownStart → Call-F Argument Operation Part Call Expr Location Range Received Start
plain_call y = map-Call KnownArgument KnownOperation KnownPart KnownCall KnownExpr KnownLocation KnownRange KnownReceived KnownStart Argument Operation Part Call Expr Location Range Received Start bare_argument bare_operation bare_part bare_call bare_expr bare_location bare_range bare_received bare_start y

abbrev plain_expr : Expr-F KnownArgument KnownOperation KnownPart KnownCall KnownExpr KnownLocation KnownRange KnownReceived KnownStart → Expr-F Argument Operation Part Call Expr Location Range Received Start
plain_expr y = map-Expr KnownArgument KnownOperation KnownPart KnownCall KnownExpr KnownLocation KnownRange KnownReceived KnownStart Argument Operation Part Call Expr Location Range Received Start bare_argument bare_operation bare_part bare_call bare_expr bare_location bare_range bare_received bare_start y

abbrev plain_location : Location-F KnownArgument KnownOperation KnownPart KnownCall KnownExpr KnownLocation KnownRange KnownReceived KnownStart → Location-F Argument Operation Part Call Expr Location Range Received Start
plain_location y = map-Location KnownArgument KnownOperation KnownPart KnownCall KnownExpr KnownLocation KnownRange KnownReceived KnownStart Argument Operation Part Call Expr Location Range Received Start bare_argument bare_operation bare_part bare_call bare_expr bare_location bare_range bare_received bare_start y

abbrev plain_range : Range-F KnownArgument KnownOperation KnownPart KnownCall KnownExpr KnownLocation KnownRange KnownReceived KnownStart → Range-F Argument Operation Part Call Expr Location Range Received Start
plain_range y = map-Range KnownArgument KnownOperation KnownPart KnownCall KnownExpr KnownLocation KnownRange KnownReceived KnownStart Argument Operation Part Call Expr Location Range Received Start bare_argument bare_operation bare_part bare_call bare_expr bare_location bare_range bare_received bare_start y

abbrev plain_received : Received-F KnownArgument KnownOperation KnownPart KnownCall KnownExpr KnownLocation KnownRange KnownReceived KnownStart → Received-F Argument Operation Part Call Expr Location Range Received Start
plain_received y = map-Received KnownArgument KnownOperation KnownPart KnownCall KnownExpr KnownLocation KnownRange KnownReceived KnownStart Argument Operation Part Call Expr Location Range Received Start bare_argument bare_operation bare_part bare_call bare_expr bare_location bare_range bare_received bare_start y

abbrev plain_start : Start-F KnownArgument KnownOperation KnownPart KnownCall KnownExpr KnownLocation KnownRange KnownReceived KnownStart → Start-F Argument Operation Part Call Expr Location Range Received Start
plain_start y = map-Start KnownArgument KnownOperation KnownPart KnownCall KnownExpr KnownLocation KnownRange KnownReceived KnownStart Argument Operation Part Call Expr Location Range Received Start bare_argument bare_operation bare_part bare_call bare_expr bare_location bare_range bare_received bare_start y

abbrev tests_of_argument : List KnownArgument → List ArgumentTest
tests_of_argument xs = map argument_in_range (map bare_argument xs)

abbrev trees_of_argument : List KnownArgument → List ArgumentTree
trees_of_argument xs = map argument_tree (map bare_argument xs)

abbrev tests_of_part : List KnownPart → List Cut
tests_of_part xs = map part_ranges (map bare_part xs)

abbrev trees_of_part : List KnownPart → List PartTree
trees_of_part xs = map part_tree (map bare_part xs)

abbrev tests_of_range : List KnownRange → List Test
tests_of_range xs = map range_in_range (map bare_range xs)

abbrev trees_of_range : List KnownRange → List RangeTree
trees_of_range xs = map range_tree (map bare_range xs)

abbrev tests_of_received : List KnownReceived → List Counted
tests_of_received xs = map received_ranges (map bare_received xs)

abbrev trees_of_received : List KnownReceived → List ReceivedTree
trees_of_received xs = map received_tree (map bare_received xs)

abbrev tested_argument : Argument-F KnownArgument KnownOperation KnownPart KnownCall KnownExpr KnownLocation KnownRange KnownReceived KnownStart → Argument-F ArgumentTest OperationTest Cut Called Counted Counted Test Counted Test
tested_argument y = map-Argument Argument Operation Part Call Expr Location Range Received Start ArgumentTest OperationTest Cut Called Counted Counted Test Counted Test argument_in_range operation_in_range part_ranges call_ranges expr_ranges location_ranges range_in_range received_ranges start_in_range (plain_argument y)

abbrev treed_argument : Argument-F KnownArgument KnownOperation KnownPart KnownCall KnownExpr KnownLocation KnownRange KnownReceived KnownStart → Argument-F ArgumentTree OperationTree PartTree CallTree ExprTree LocationTree RangeTree ReceivedTree StartTree
treed_argument y = map-Argument Argument Operation Part Call Expr Location Range Received Start ArgumentTree OperationTree PartTree CallTree ExprTree LocationTree RangeTree ReceivedTree StartTree argument_tree operation_tree part_tree call_tree expr_tree location_tree range_tree received_tree start_tree (plain_argument y)

abbrev tested_operation : Operation-F KnownArgument KnownOperation KnownPart KnownCall KnownExpr KnownLocation KnownRange KnownReceived KnownStart → Operation-F ArgumentTest OperationTest Cut Called Counted Counted Test Counted Test
tested_operation y = map-Operation Argument Operation Part Call Expr Location Range Received Start ArgumentTest OperationTest Cut Called Counted Counted Test Counted Test argument_in_range operation_in_range part_ranges call_ranges expr_ranges location_ranges range_in_range received_ranges start_in_range (plain_operation y)

abbrev treed_operation : Operation-F KnownArgument KnownOperation KnownPart KnownCall KnownExpr KnownLocation KnownRange KnownReceived KnownStart → Operation-F ArgumentTree OperationTree PartTree CallTree ExprTree LocationTree RangeTree ReceivedTree StartTree
treed_operation y = map-Operation Argument Operation Part Call Expr Location Range Received Start ArgumentTree OperationTree PartTree CallTree ExprTree LocationTree RangeTree ReceivedTree StartTree argument_tree operation_tree part_tree call_tree expr_tree location_tree range_tree received_tree start_tree (plain_operation y)

abbrev tested_part : Part-F KnownArgument KnownOperation KnownPart KnownCall KnownExpr KnownLocation KnownRange KnownReceived KnownStart → Part-F ArgumentTest OperationTest Cut Called Counted Counted Test Counted Test
tested_part y = map-Part Argument Operation Part Call Expr Location Range Received Start ArgumentTest OperationTest Cut Called Counted Counted Test Counted Test argument_in_range operation_in_range part_ranges call_ranges expr_ranges location_ranges range_in_range received_ranges start_in_range (plain_part y)

abbrev treed_part : Part-F KnownArgument KnownOperation KnownPart KnownCall KnownExpr KnownLocation KnownRange KnownReceived KnownStart → Part-F ArgumentTree OperationTree PartTree CallTree ExprTree LocationTree RangeTree ReceivedTree StartTree
treed_part y = map-Part Argument Operation Part Call Expr Location Range Received Start ArgumentTree OperationTree PartTree CallTree ExprTree LocationTree RangeTree ReceivedTree StartTree argument_tree operation_tree part_tree call_tree expr_tree location_tree range_tree received_tree start_tree (plain_part y)

abbrev tested_call : Call-F KnownArgument KnownOperation KnownPart KnownCall KnownExpr KnownLocation KnownRange KnownReceived KnownStart → Call-F ArgumentTest OperationTest Cut Called Counted Counted Test Counted Test
tested_call y = map-Call Argument Operation Part Call Expr Location Range Received Start ArgumentTest OperationTest Cut Called Counted Counted Test Counted Test argument_in_range operation_in_range part_ranges call_ranges expr_ranges location_ranges range_in_range received_ranges start_in_range (plain_call y)

abbrev treed_call : Call-F KnownArgument KnownOperation KnownPart KnownCall KnownExpr KnownLocation KnownRange KnownReceived KnownStart → Call-F ArgumentTree OperationTree PartTree CallTree ExprTree LocationTree RangeTree ReceivedTree StartTree
treed_call y = map-Call Argument Operation Part Call Expr Location Range Received Start ArgumentTree OperationTree PartTree CallTree ExprTree LocationTree RangeTree ReceivedTree StartTree argument_tree operation_tree part_tree call_tree expr_tree location_tree range_tree received_tree start_tree (plain_call y)

abbrev tested_expr : Expr-F KnownArgument KnownOperation KnownPart KnownCall KnownExpr KnownLocation KnownRange KnownReceived KnownStart → Expr-F ArgumentTest OperationTest Cut Called Counted Counted Test Counted Test
tested_expr y = map-Expr Argument Operation Part Call Expr Location Range Received Start ArgumentTest OperationTest Cut Called Counted Counted Test Counted Test argument_in_range operation_in_range part_ranges call_ranges expr_ranges location_ranges range_in_range received_ranges start_in_range (plain_expr y)

abbrev treed_expr : Expr-F KnownArgument KnownOperation KnownPart KnownCall KnownExpr KnownLocation KnownRange KnownReceived KnownStart → Expr-F ArgumentTree OperationTree PartTree CallTree ExprTree LocationTree RangeTree ReceivedTree StartTree
treed_expr y = map-Expr Argument Operation Part Call Expr Location Range Received Start ArgumentTree OperationTree PartTree CallTree ExprTree LocationTree RangeTree ReceivedTree StartTree argument_tree operation_tree part_tree call_tree expr_tree location_tree range_tree received_tree start_tree (plain_expr y)

abbrev tested_location : Location-F KnownArgument KnownOperation KnownPart KnownCall KnownExpr KnownLocation KnownRange KnownReceived KnownStart → Location-F ArgumentTest OperationTest Cut Called Counted Counted Test Counted Test
tested_location y = map-Location Argument Operation Part Call Expr Location Range Received Start ArgumentTest OperationTest Cut Called Counted Counted Test Counted Test argument_in_range operation_in_range part_ranges call_ranges expr_ranges location_ranges range_in_range received_ranges start_in_range (plain_location y)

abbrev treed_location : Location-F KnownArgument KnownOperation KnownPart KnownCall KnownExpr KnownLocation KnownRange KnownReceived KnownStart → Location-F ArgumentTree OperationTree PartTree CallTree ExprTree LocationTree RangeTree ReceivedTree StartTree
treed_location y = map-Location Argument Operation Part Call Expr Location Range Received Start ArgumentTree OperationTree PartTree CallTree ExprTree LocationTree RangeTree ReceivedTree StartTree argument_tree operation_tree part_tree call_tree expr_tree location_tree range_tree received_tree start_tree (plain_location y)

abbrev tested_range : Range-F KnownArgument KnownOperation KnownPart KnownCall KnownExpr KnownLocation KnownRange KnownReceived KnownStart → Range-F ArgumentTest OperationTest Cut Called Counted Counted Test Counted Test
tested_range y = map-Range Argument Operation Part Call Expr Location Range Received Start ArgumentTest OperationTest Cut Called Counted Counted Test Counted Test argument_in_range operation_in_range part_ranges call_ranges expr_ranges location_ranges range_in_range received_ranges start_in_range (plain_range y)

abbrev treed_range : Range-F KnownArgument KnownOperation KnownPart KnownCall KnownExpr KnownLocation KnownRange KnownReceived KnownStart → Range-F ArgumentTree OperationTree PartTree CallTree ExprTree LocationTree RangeTree ReceivedTree StartTree
treed_range y = map-Range Argument Operation Part Call Expr Location Range Received Start ArgumentTree OperationTree PartTree CallTree ExprTree LocationTree RangeTree ReceivedTree StartTree argument_tree operation_tree part_tree call_tree expr_tree location_tree range_tree received_tree start_tree (plain_range y)

abbrev tested_received : Received-F KnownArgument KnownOperation KnownPart KnownCall KnownExpr KnownLocation KnownRange KnownReceived KnownStart → Received-F ArgumentTest OperationTest Cut Called Counted Counted Test Counted Test
tested_received y = map-Received Argument Operation Part Call Expr Location Range Received Start ArgumentTest OperationTest Cut Called Counted Counted Test Counted Test argument_in_range operation_in_range part_ranges call_ranges expr_ranges location_ranges range_in_range received_ranges start_in_range (plain_received y)

abbrev treed_received : Received-F KnownArgument KnownOperation KnownPart KnownCall KnownExpr KnownLocation KnownRange KnownReceived KnownStart → Received-F ArgumentTree OperationTree PartTree CallTree ExprTree LocationTree RangeTree ReceivedTree StartTree
treed_received y = map-Received Argument Operation Part Call Expr Location Range Received Start ArgumentTree OperationTree PartTree CallTree ExprTree LocationTree RangeTree ReceivedTree StartTree argument_tree operation_tree part_tree call_tree expr_tree location_tree range_tree received_tree start_tree (plain_received y)

abbrev tested_start : Start-F KnownArgument KnownOperation KnownPart KnownCall KnownExpr KnownLocation KnownRange KnownReceived KnownStart → Start-F ArgumentTest OperationTest Cut Called Counted Counted Test Counted Test
tested_start y = map-Start Argument Operation Part Call Expr Location Range Received Start ArgumentTest OperationTest Cut Called Counted Counted Test Counted Test argument_in_range operation_in_range part_ranges call_ranges expr_ranges location_ranges range_in_range received_ranges start_in_range (plain_start y)

abbrev treed_start : Start-F KnownArgument KnownOperation KnownPart KnownCall KnownExpr KnownLocation KnownRange KnownReceived KnownStart → Start-F ArgumentTree OperationTree PartTree CallTree ExprTree LocationTree RangeTree ReceivedTree StartTree
treed_start y = map-Start Argument Operation Part Call Expr Location Range Received Start ArgumentTree OperationTree PartTree CallTree ExprTree LocationTree RangeTree ReceivedTree StartTree argument_tree operation_tree part_tree call_tree expr_tree location_tree range_tree received_tree start_tree (plain_start y)

-- ---- lists of nodes

parts_known : (ps : List KnownPart) (of n : ℕ) (program : Checked) (body : Body) → IsTrue (parts_lead of (tests_of_part ps) n program body) → PartsInRange (checked_tree program) (body_row_tree body) of (part_nodes (trees_of_part ps)) n
parts_known [] of n program body holds = equal of n holds
parts_known (p ∷ ps) of n program body holds =
    let parts = both_hold ((part_ranges p.0).fits of program body) (parts_lead (part_ranges p.0).count (tests_of_part ps) n program body) holds in
    with_part (part_tree p.0) of n (part_ranges p.0).count (part_nodes (trees_of_part ps)) (p.1 of program body parts.0) (parts_known ps (part_ranges p.0).count n program body parts.1) where
      with_part : (p : PartTree) (of n count : ℕ) (ps : PartNodes) → PartKnown (checked_tree program) (body_row_tree body) of count p → PartsInRange (checked_tree program) (body_row_tree body) count ps n → PartsInRange (checked_tree program) (body_row_tree body) of (trees.with_part p ps) n
      with_part (one_field first m) of n count ps known rest = (known.1, subst (λ k. PartsInRange (checked_tree program) (body_row_tree body) k ps n) (sym known.0) rest)
      with_part (one_element e b m) of n count ps known rest = (known.1, subst (λ k. PartsInRange (checked_tree program) (body_row_tree body) k ps n) (sym known.0) rest)

ranges_known : (rs : List KnownRange) (program : Checked) (body : Body) → IsTrue (all_hold (tests_of_range rs) program body) → RangesInRange (checked_tree program) (body_row_tree body) (range_nodes (trees_of_range rs))
ranges_known [] program body holds = tt
ranges_known (r ∷ rs) program body holds =
    let parts = both_hold (range_in_range r.0 program body) (all_hold (tests_of_range rs) program body) holds in
    with_range (range_tree r.0) (range_nodes (trees_of_range rs)) (r.1 program body parts.0) (ranges_known rs program body parts.1) where
      with_range : (r : RangeTree) (rs : RangeNodes) → RangeKnown (checked_tree program) (body_row_tree body) r → RangesInRange (checked_tree program) (body_row_tree body) rs → RangesInRange (checked_tree program) (body_row_tree body) (trees.with_range r rs)
      with_range (alone e) rs known rest = (known, rest)
      with_range (between e f) rs known rest = (known, rest)

arguments_known : (as' : List KnownArgument) (callee : Body) (number : ℕ) (program : Checked) (body : Body) → IsTrue (arguments_fit callee number (tests_of_argument as') program body) → ArgumentsInRange (checked_tree program) (body_row_tree body) (body_row_tree callee) number (argument_nodes (trees_of_argument as'))
arguments_known [] callee number program body holds = equal number (length callee.parameters) holds
arguments_known (a ∷ as') callee number program body holds =
    let parts = both_hold (argument_in_range a.0 callee number program body) (arguments_fit callee (number + 1) (tests_of_argument as') program body) holds in
    with_argument (argument_tree a.0) (argument_nodes (trees_of_argument as')) (a.1 callee number program body parts.0) (arguments_known as' callee (number + 1) program body parts.1) where
      with_argument : (a : ArgumentTree) (as' : ArgumentNodes) → ArgumentKnown (checked_tree program) (body_row_tree body) (body_row_tree callee) number a → ArgumentsInRange (checked_tree program) (body_row_tree body) (body_row_tree callee) (number + 1) as' → ArgumentsInRange (checked_tree program) (body_row_tree body) (body_row_tree callee) number (trees.with_argument a as')
      with_argument (taken r) as' known rest = (known, rest)
      with_argument (given l bounds) as' known rest = (known, rest)
      with_argument (both l taken_by bounds) as' known rest = (known, rest)

values_known : (vs : List KnownReceived) (n : ℕ) (program : Checked) (body : Body) → IsTrue (values_fill (tests_of_received vs) n program body) → ValuesInRange (checked_tree program) (body_row_tree body) (received_nodes (trees_of_received vs)) n
values_known [] n program body holds = equal n 0 holds
values_known (v ∷ vs) n program body holds =
    let counted = received_ranges v.0 in
    let parts = both_hold (counted.holds program body) (nat_le counted.count n && values_fill (tests_of_received vs) (n - counted.count) program body) holds in
    let more = both_hold (nat_le counted.count n) (values_fill (tests_of_received vs) (n - counted.count) program body) parts.1 in
    let rest = values_known vs (n - counted.count) program body more.1 in
    let both = subst (λ k. (k ≤ n) × ValuesInRange (checked_tree program) (body_row_tree body) (received_nodes (trees_of_received vs)) (n - k)) (sym v.1.0) (at_most counted.count n more.0, rest) in
    (v.1.1 program body parts.0, both.0, both.1)

taken_known : (vs : List KnownReceived) (callee : Body) (number : ℕ) (program : Checked) (body : Body) → IsTrue (values_fit callee number (tests_of_received vs) program body) → AllInRange (checked_tree program) (body_row_tree body) (received_nodes (trees_of_received vs))
taken_known [] callee number program body holds = tt
taken_known (v ∷ vs) callee number program body holds =
    let counted = received_ranges v.0 in
    let parts = both_hold (tests.is_taken callee number counted program body) (values_fit callee (number + 1) (tests_of_received vs) program body) holds in
    let one = both_hold (counted.holds program body) (is_passed callee number passings.In counted.count) parts.0 in
    (v.1.1 program body one.0, taken_known vs callee (number + 1) program body parts.1)

number_known : (e : KnownExpr) (program : Checked) (body : Body) → IsTrue (is_number (expr_ranges e.0) program body) → NumberInRange (checked_tree program) (body_row_tree body) (expr_tree e.0)
number_known e program body holds =
    let parts = both_hold ((expr_ranges e.0).holds program body) (nat_eq (expr_ranges e.0).count 1) holds in
    (e.1.1 program body parts.0, e.1.0 ∙ equal (expr_ranges e.0).count 1 parts.1)

-- ---- each kind

part_step : (y : Part-F KnownArgument KnownOperation KnownPart KnownCall KnownExpr KnownLocation KnownRange KnownReceived KnownStart) → TellsPart (tests.part_layer (tested_part y)) (trees.part_layer (treed_part y))
part_step (opens.Field first count) of program body holds = (refl, at_most (first + count) of holds)
part_step (opens.Element i bounds count) of program body holds =
    let whole = both_hold (are_ints bounds) (is_number (expr_ranges i.value.0) program body && nat_le (count_between bounds.low bounds.high * count) of) holds in
    let rest = both_hold (is_number (expr_ranges i.value.0) program body) (nat_le (count_between bounds.low bounds.high * count) of) whole.1 in
    (refl, (whole.0, number_known i.value program body rest.0, at_most (count_between bounds.low bounds.high * count) of rest.1))

argument_step : (y : Argument-F KnownArgument KnownOperation KnownPart KnownCall KnownExpr KnownLocation KnownRange KnownReceived KnownStart) → TellsArgument (tests.argument_layer (tested_argument y)) (trees.argument_layer (treed_argument y))
argument_step (opens.In v) callee number program body holds =
    let parts = both_hold ((received_ranges v.0).holds program body) (is_passed callee number passings.In (received_ranges v.0).count) holds in
    (v.1.1 program body parts.0, passed_told callee number passings.In (received_count (received_tree v.0)) (received_ranges v.0).count v.1.0 parts.1)
argument_step (opens.Out l bounds) callee number program body holds =
    let counted = location_ranges l.0 in
    let parts = both_hold (counted.holds program body) (is_passed callee number passings.Out counted.count && bounds_fit bounds counted.count) holds in
    let more = both_hold (is_passed callee number passings.Out counted.count) (bounds_fit bounds counted.count) parts.1 in
    (l.1.1 program body parts.0, passed_told callee number passings.Out (location_count (location_tree l.0)) counted.count l.1.0 more.0, subst (λ k. IsTrue (bounds_fit bounds k)) (sym l.1.0) more.1)
argument_step (opens.InOut l taken_by bounds) callee number program body holds =
    let counted = location_ranges l.0 in
    let parts = both_hold (counted.holds program body) (is_passed callee number passings.InOut counted.count && (bounds_fit taken_by counted.count && bounds_fit bounds counted.count)) holds in
    let more = both_hold (is_passed callee number passings.InOut counted.count) (bounds_fit taken_by counted.count && bounds_fit bounds counted.count) parts.1 in
    let fitting = both_hold (bounds_fit taken_by counted.count) (bounds_fit bounds counted.count) more.1 in
    (l.1.1 program body parts.0, passed_told callee number passings.InOut (location_count (location_tree l.0)) counted.count l.1.0 more.0, subst (λ k. IsTrue (bounds_fit taken_by k)) (sym l.1.0) fitting.0, subst (λ k. IsTrue (bounds_fit bounds k)) (sym l.1.0) fitting.1)

range_step : (y : Range-F KnownArgument KnownOperation KnownPart KnownCall KnownExpr KnownLocation KnownRange KnownReceived KnownStart) → TellsRange (tests.range_layer (tested_range y)) (trees.range_layer (treed_range y))
range_step y program body holds = to_last y.first y.last program body holds where
  to_last : (first : Box KnownExpr Global) (last : Option (Box KnownExpr Global)) → TellsRange (tests.range_layer (tested_range (record { first = first; last = last }))) (trees.range_layer (treed_range (record { first = first; last = last })))
  to_last first None program body holds = number_known first.value program body (both_hold (is_number (expr_ranges first.value.0) program body) true holds).0
  to_last first (Some last) program body holds =
      let parts = both_hold (is_number (expr_ranges first.value.0) program body) (is_number (expr_ranges last.value.0) program body) holds in
      (number_known first.value program body parts.0, number_known last.value program body parts.1)

received_step : (y : Received-F KnownArgument KnownOperation KnownPart KnownCall KnownExpr KnownLocation KnownRange KnownReceived KnownStart) → TellsReceived (tests.received_layer (tested_received y)) (trees.received_layer (treed_received y))
received_step y = (
  y.value.value.1.0,
  λ program body holds.
      let counted = expr_ranges y.value.value.0 in
      let parts = both_hold (counted.holds program body) (bounds_fit y.bounds counted.count) holds in
      (y.value.value.1.1 program body parts.0, subst (λ k. IsTrue (bounds_fit y.bounds k)) (sym y.value.value.1.0) parts.1),
)

location_step : (y : Location-F KnownArgument KnownOperation KnownPart KnownCall KnownExpr KnownLocation KnownRange KnownReceived KnownStart) → TellsLocation (tests.location_layer (tested_location y)) (trees.location_layer (treed_location y))
location_step y = (refl, λ program body holds. led (base_count y.base program body) program body refl holds) where
  led : (of : Option ℕ) (program : Checked) (body : Body) → base_count y.base program body ≡ of → IsTrue (lies_in of (tests_of_part y.parts) y.count program body) → LocationInRange (checked_tree program) (body_row_tree body) (trees.location y.base (part_nodes (trees_of_part y.parts)) y.count)
  led None program body is holds = absurd (let no : ⊥ = cc in no)
  led (Some of) program body is holds = (of, base_told y.base of program body is, parts_known y.parts of y.count program body holds)

start_step : (y : Start-F KnownArgument KnownOperation KnownPart KnownCall KnownExpr KnownLocation KnownRange KnownReceived KnownStart) → TellsStart (tests.start_layer (tested_start y)) (trees.start_layer (treed_start y))
start_step y program body holds = begun (slice_get program.bodies y.process) refl holds where
  begun : (callee : Option Body) → slice_get program.bodies y.process ≡ callee → IsTrue (start_fits callee (tests_of_received y.arguments) program body) → StartInRange (checked_tree program) (body_row_tree body) (trees.started y.process (received_nodes (trees_of_received y.arguments)))
  begun None is holds = absurd (let no : ⊥ = cc in no)
  begun (Some callee) is holds =
      (slice_get_within (checked_tree program).bodies y.process (body_row_tree callee) (body_there program y.process callee is), taken_known y.arguments callee 0 program body (both_hold (is_process callee.sort) (values_fit callee 0 (tests_of_received y.arguments) program body) holds).1)

call_step : (y : Call-F KnownArgument KnownOperation KnownPart KnownCall KnownExpr KnownLocation KnownRange KnownReceived KnownStart) → TellsCall (tests.call_layer (tested_call y)) (trees.call_layer (treed_call y))
call_step y program body = (λ holds. entered (slice_get program.bodies y.body) refl holds, λ n holds. gives (slice_get program.bodies y.body) n refl holds) where
  nodes : ArgumentNodes
  nodes = argument_nodes (trees_of_argument y.arguments)

  entered : (callee : Option Body) → slice_get program.bodies y.body ≡ callee → IsTrue (call_fits callee (tests_of_argument y.arguments) program body) → CallInRange (checked_tree program) (body_row_tree body) (trees.called y.body nodes)
  entered None is holds = absurd (let no : ⊥ = cc in no)
  entered (Some callee) is holds =
      (body_row_tree callee, body_there program y.body callee is, arguments_known y.arguments callee 0 program body (both_hold (is_procedure callee.sort) (arguments_fit callee 0 (tests_of_argument y.arguments) program body) holds).1)

  gives : (callee : Option Body) (n : ℕ) → slice_get program.bodies y.body ≡ callee → IsTrue (is_count (result_count callee) n) → CallGives (checked_tree program) (trees.called y.body nodes) n
  gives None n is holds = absurd (let no : ⊥ = cc in no)
  gives (Some callee) n is holds = (body_row_tree callee, body_there program y.body callee is, result_told callee.result n holds)

operation_step : (y : Operation-F KnownArgument KnownOperation KnownPart KnownCall KnownExpr KnownLocation KnownRange KnownReceived KnownStart) → TellsOperation (tests.operation_layer (tested_operation y)) (trees.operation_layer (treed_operation y))
operation_step (opens.Constant xs) n program body holds = equal n (length xs) holds
operation_step opens.This n program body holds = equal n 1 holds
operation_step (opens.Contents l) n program body holds =
    let counted = location_ranges l.value.0 in
    let parts = both_hold (counted.holds program body) (nat_eq n counted.count) holds in
    (l.value.1.1 program body parts.0, equal n counted.count parts.1 ∙ sym l.value.1.0)
operation_step (opens.PartOf of ps) n program body holds =
    let counted = expr_ranges of.value.0 in
    let parts = both_hold (counted.holds program body) (parts_lead counted.count (tests_of_part ps) n program body) holds in
    (of.value.1.1 program body parts.0, subst (λ k. PartsInRange (checked_tree program) (body_row_tree body) k (part_nodes (trees_of_part ps)) n) (sym of.value.1.0) (parts_known ps counted.count n program body parts.1))
operation_step (opens.Receive b) n program body holds = tt
operation_step (opens.Start s) n program body holds =
    let parts = both_hold (start_in_range s.value.0 program body) (nat_eq n 1) holds in
    (s.value.1 program body parts.0, equal n 1 parts.1)
operation_step (opens.Call c) n program body holds =
    let parts = both_hold ((call_ranges c.value.0).holds program body) (is_count (result_count (slice_get program.bodies (call_ranges c.value.0).body)) n) holds in
    let known = c.value.1 program body in
    (known.0 parts.0, known.1 n parts.1)
operation_step (opens.Powerset bounds rs) n program body holds =
    let parts = both_hold (are_members bounds) (all_hold (tests_of_range rs) program body && nat_eq n 1) holds in
    let more = both_hold (all_hold (tests_of_range rs) program body) (nat_eq n 1) parts.1 in
    (parts.0, ranges_known rs program body more.0, equal n 1 more.1)
operation_step (opens.Parts vs) n program body holds = values_known vs n program body holds
operation_step (opens.Uniform m v) n program body holds =
    let counted = received_ranges v.0 in
    let parts = both_hold (counted.holds program body) (nat_lt 0 m && nat_eq n (m * counted.count)) holds in
    let more = both_hold (nat_lt 0 m) (nat_eq n (m * counted.count)) parts.1 in
    (v.1.1 program body parts.0, below 0 m more.0, equal n (m * counted.count) more.1 ∙ ap (λ k. m * k) (sym v.1.0))
operation_step (opens.Routine r e) n program body holds =
    let parts = both_hold (is_number (expr_ranges e.value.0) program body) (nat_eq n 1) holds in
    (number_known e.value program body parts.0, equal n 1 parts.1)
operation_step opens.GetInt n program body holds = equal n 1 holds
operation_step (opens.Prefixed o e) n program body holds =
    let parts = both_hold (is_number (expr_ranges e.value.0) program body) (nat_eq n 1) holds in
    (number_known e.value program body parts.0, equal n 1 parts.1)
operation_step (opens.Binary o l r) n program body holds =
    let first = expr_ranges l.value.0 in
    let second = expr_ranges r.value.0 in
    let parts = both_hold (first.holds program body) (second.holds program body && (operands_fit o first.count second.count && nat_eq n 1)) holds in
    let more = both_hold (second.holds program body) (operands_fit o first.count second.count && nat_eq n 1) parts.1 in
    let last = both_hold (operands_fit o first.count second.count) (nat_eq n 1) more.1 in
    let operands = subst (λ k. IsTrue (operands_fit o k second.count)) (sym l.value.1.0) last.0 in
    (l.value.1.1 program body parts.0, r.value.1.1 program body more.0, subst (λ k. IsTrue (operands_fit o (count_of (expr_tree l.value.0)) k)) (sym r.value.1.0) operands, equal n 1 last.1)

expr_step : (y : Expr-F KnownArgument KnownOperation KnownPart KnownCall KnownExpr KnownLocation KnownRange KnownReceived KnownStart) → TellsExpr (tests.expr_layer (tested_expr y)) (trees.expr_layer (treed_expr y))
expr_step y = (refl, λ program body holds. y.operation.1 y.count program body holds)

-- ---- the induction

argument_rolled : (x : Argument-F Argument Operation Part Call Expr Location Range Received Start) (y : Argument-F KnownArgument KnownOperation KnownPart KnownCall KnownExpr KnownLocation KnownRange KnownReceived KnownStart) → plain_argument y ≡ x → ToldArgument (roll-Argument x)
unfolding argument_in_range operation_in_range part_ranges call_ranges expr_ranges location_ranges range_in_range received_ranges start_in_range argument_tree operation_tree part_tree call_tree expr_tree location_tree range_tree received_tree start_tree
argument_rolled x y is =
    subst (λ z. ToldArgument (roll-Argument z)) is
    (subst (λ t. TellsArgument (argument_in_range (roll-Argument (plain_argument y))) t) (sym (fold-roll-Argument ArgumentTree OperationTree PartTree CallTree ExprTree LocationTree RangeTree ReceivedTree StartTree trees.argument_layer trees.operation_layer trees.part_layer trees.call_layer trees.expr_layer trees.location_layer trees.range_layer trees.received_layer trees.start_layer (plain_argument y)))
    (subst (λ t. TellsArgument t (trees.argument_layer (treed_argument y))) (sym (fold-roll-Argument ArgumentTest OperationTest Cut Called Counted Counted Test Counted Test tests.argument_layer tests.operation_layer tests.part_layer tests.call_layer tests.expr_layer tests.location_layer tests.range_layer tests.received_layer tests.start_layer (plain_argument y)))
    (argument_step y)))

operation_rolled : (x : Operation-F Argument Operation Part Call Expr Location Range Received Start) (y : Operation-F KnownArgument KnownOperation KnownPart KnownCall KnownExpr KnownLocation KnownRange KnownReceived KnownStart) → plain_operation y ≡ x → ToldOperation (roll-Operation x)
unfolding argument_in_range operation_in_range part_ranges call_ranges expr_ranges location_ranges range_in_range received_ranges start_in_range argument_tree operation_tree part_tree call_tree expr_tree location_tree range_tree received_tree start_tree
operation_rolled x y is =
    subst (λ z. ToldOperation (roll-Operation z)) is
    (subst (λ t. TellsOperation (operation_in_range (roll-Operation (plain_operation y))) t) (sym (fold-roll-Operation ArgumentTree OperationTree PartTree CallTree ExprTree LocationTree RangeTree ReceivedTree StartTree trees.argument_layer trees.operation_layer trees.part_layer trees.call_layer trees.expr_layer trees.location_layer trees.range_layer trees.received_layer trees.start_layer (plain_operation y)))
    (subst (λ t. TellsOperation t (trees.operation_layer (treed_operation y))) (sym (fold-roll-Operation ArgumentTest OperationTest Cut Called Counted Counted Test Counted Test tests.argument_layer tests.operation_layer tests.part_layer tests.call_layer tests.expr_layer tests.location_layer tests.range_layer tests.received_layer tests.start_layer (plain_operation y)))
    (operation_step y)))

part_rolled : (x : Part-F Argument Operation Part Call Expr Location Range Received Start) (y : Part-F KnownArgument KnownOperation KnownPart KnownCall KnownExpr KnownLocation KnownRange KnownReceived KnownStart) → plain_part y ≡ x → ToldPart (roll-Part x)
unfolding argument_in_range operation_in_range part_ranges call_ranges expr_ranges location_ranges range_in_range received_ranges start_in_range argument_tree operation_tree part_tree call_tree expr_tree location_tree range_tree received_tree start_tree
part_rolled x y is =
    subst (λ z. ToldPart (roll-Part z)) is
    (subst (λ t. TellsPart (part_ranges (roll-Part (plain_part y))) t) (sym (fold-roll-Part ArgumentTree OperationTree PartTree CallTree ExprTree LocationTree RangeTree ReceivedTree StartTree trees.argument_layer trees.operation_layer trees.part_layer trees.call_layer trees.expr_layer trees.location_layer trees.range_layer trees.received_layer trees.start_layer (plain_part y)))
    (subst (λ t. TellsPart t (trees.part_layer (treed_part y))) (sym (fold-roll-Part ArgumentTest OperationTest Cut Called Counted Counted Test Counted Test tests.argument_layer tests.operation_layer tests.part_layer tests.call_layer tests.expr_layer tests.location_layer tests.range_layer tests.received_layer tests.start_layer (plain_part y)))
    (part_step y)))

call_rolled : (x : Call-F Argument Operation Part Call Expr Location Range Received Start) (y : Call-F KnownArgument KnownOperation KnownPart KnownCall KnownExpr KnownLocation KnownRange KnownReceived KnownStart) → plain_call y ≡ x → ToldCall (roll-Call x)
unfolding argument_in_range operation_in_range part_ranges call_ranges expr_ranges location_ranges range_in_range received_ranges start_in_range argument_tree operation_tree part_tree call_tree expr_tree location_tree range_tree received_tree start_tree
call_rolled x y is =
    subst (λ z. ToldCall (roll-Call z)) is
    (subst (λ t. TellsCall (call_ranges (roll-Call (plain_call y))) t) (sym (fold-roll-Call ArgumentTree OperationTree PartTree CallTree ExprTree LocationTree RangeTree ReceivedTree StartTree trees.argument_layer trees.operation_layer trees.part_layer trees.call_layer trees.expr_layer trees.location_layer trees.range_layer trees.received_layer trees.start_layer (plain_call y)))
    (subst (λ t. TellsCall t (trees.call_layer (treed_call y))) (sym (fold-roll-Call ArgumentTest OperationTest Cut Called Counted Counted Test Counted Test tests.argument_layer tests.operation_layer tests.part_layer tests.call_layer tests.expr_layer tests.location_layer tests.range_layer tests.received_layer tests.start_layer (plain_call y)))
    (call_step y)))

expr_rolled : (x : Expr-F Argument Operation Part Call Expr Location Range Received Start) (y : Expr-F KnownArgument KnownOperation KnownPart KnownCall KnownExpr KnownLocation KnownRange KnownReceived KnownStart) → plain_expr y ≡ x → ToldExpr (roll-Expr x)
unfolding argument_in_range operation_in_range part_ranges call_ranges expr_ranges location_ranges range_in_range received_ranges start_in_range argument_tree operation_tree part_tree call_tree expr_tree location_tree range_tree received_tree start_tree
expr_rolled x y is =
    subst (λ z. ToldExpr (roll-Expr z)) is
    (subst (λ t. TellsExpr (expr_ranges (roll-Expr (plain_expr y))) t) (sym (fold-roll-Expr ArgumentTree OperationTree PartTree CallTree ExprTree LocationTree RangeTree ReceivedTree StartTree trees.argument_layer trees.operation_layer trees.part_layer trees.call_layer trees.expr_layer trees.location_layer trees.range_layer trees.received_layer trees.start_layer (plain_expr y)))
    (subst (λ t. TellsExpr t (trees.expr_layer (treed_expr y))) (sym (fold-roll-Expr ArgumentTest OperationTest Cut Called Counted Counted Test Counted Test tests.argument_layer tests.operation_layer tests.part_layer tests.call_layer tests.expr_layer tests.location_layer tests.range_layer tests.received_layer tests.start_layer (plain_expr y)))
    (expr_step y)))

location_rolled : (x : Location-F Argument Operation Part Call Expr Location Range Received Start) (y : Location-F KnownArgument KnownOperation KnownPart KnownCall KnownExpr KnownLocation KnownRange KnownReceived KnownStart) → plain_location y ≡ x → ToldLocation (roll-Location x)
unfolding argument_in_range operation_in_range part_ranges call_ranges expr_ranges location_ranges range_in_range received_ranges start_in_range argument_tree operation_tree part_tree call_tree expr_tree location_tree range_tree received_tree start_tree
location_rolled x y is =
    subst (λ z. ToldLocation (roll-Location z)) is
    (subst (λ t. TellsLocation (location_ranges (roll-Location (plain_location y))) t) (sym (fold-roll-Location ArgumentTree OperationTree PartTree CallTree ExprTree LocationTree RangeTree ReceivedTree StartTree trees.argument_layer trees.operation_layer trees.part_layer trees.call_layer trees.expr_layer trees.location_layer trees.range_layer trees.received_layer trees.start_layer (plain_location y)))
    (subst (λ t. TellsLocation t (trees.location_layer (treed_location y))) (sym (fold-roll-Location ArgumentTest OperationTest Cut Called Counted Counted Test Counted Test tests.argument_layer tests.operation_layer tests.part_layer tests.call_layer tests.expr_layer tests.location_layer tests.range_layer tests.received_layer tests.start_layer (plain_location y)))
    (location_step y)))

range_rolled : (x : Range-F Argument Operation Part Call Expr Location Range Received Start) (y : Range-F KnownArgument KnownOperation KnownPart KnownCall KnownExpr KnownLocation KnownRange KnownReceived KnownStart) → plain_range y ≡ x → ToldRange (roll-Range x)
unfolding argument_in_range operation_in_range part_ranges call_ranges expr_ranges location_ranges range_in_range received_ranges start_in_range argument_tree operation_tree part_tree call_tree expr_tree location_tree range_tree received_tree start_tree
range_rolled x y is =
    subst (λ z. ToldRange (roll-Range z)) is
    (subst (λ t. TellsRange (range_in_range (roll-Range (plain_range y))) t) (sym (fold-roll-Range ArgumentTree OperationTree PartTree CallTree ExprTree LocationTree RangeTree ReceivedTree StartTree trees.argument_layer trees.operation_layer trees.part_layer trees.call_layer trees.expr_layer trees.location_layer trees.range_layer trees.received_layer trees.start_layer (plain_range y)))
    (subst (λ t. TellsRange t (trees.range_layer (treed_range y))) (sym (fold-roll-Range ArgumentTest OperationTest Cut Called Counted Counted Test Counted Test tests.argument_layer tests.operation_layer tests.part_layer tests.call_layer tests.expr_layer tests.location_layer tests.range_layer tests.received_layer tests.start_layer (plain_range y)))
    (range_step y)))

received_rolled : (x : Received-F Argument Operation Part Call Expr Location Range Received Start) (y : Received-F KnownArgument KnownOperation KnownPart KnownCall KnownExpr KnownLocation KnownRange KnownReceived KnownStart) → plain_received y ≡ x → ToldReceived (roll-Received x)
unfolding argument_in_range operation_in_range part_ranges call_ranges expr_ranges location_ranges range_in_range received_ranges start_in_range argument_tree operation_tree part_tree call_tree expr_tree location_tree range_tree received_tree start_tree
received_rolled x y is =
    subst (λ z. ToldReceived (roll-Received z)) is
    (subst (λ t. TellsReceived (received_ranges (roll-Received (plain_received y))) t) (sym (fold-roll-Received ArgumentTree OperationTree PartTree CallTree ExprTree LocationTree RangeTree ReceivedTree StartTree trees.argument_layer trees.operation_layer trees.part_layer trees.call_layer trees.expr_layer trees.location_layer trees.range_layer trees.received_layer trees.start_layer (plain_received y)))
    (subst (λ t. TellsReceived t (trees.received_layer (treed_received y))) (sym (fold-roll-Received ArgumentTest OperationTest Cut Called Counted Counted Test Counted Test tests.argument_layer tests.operation_layer tests.part_layer tests.call_layer tests.expr_layer tests.location_layer tests.range_layer tests.received_layer tests.start_layer (plain_received y)))
    (received_step y)))

start_rolled : (x : Start-F Argument Operation Part Call Expr Location Range Received Start) (y : Start-F KnownArgument KnownOperation KnownPart KnownCall KnownExpr KnownLocation KnownRange KnownReceived KnownStart) → plain_start y ≡ x → ToldStart (roll-Start x)
unfolding argument_in_range operation_in_range part_ranges call_ranges expr_ranges location_ranges range_in_range received_ranges start_in_range argument_tree operation_tree part_tree call_tree expr_tree location_tree range_tree received_tree start_tree
start_rolled x y is =
    subst (λ z. ToldStart (roll-Start z)) is
    (subst (λ t. TellsStart (start_in_range (roll-Start (plain_start y))) t) (sym (fold-roll-Start ArgumentTree OperationTree PartTree CallTree ExprTree LocationTree RangeTree ReceivedTree StartTree trees.argument_layer trees.operation_layer trees.part_layer trees.call_layer trees.expr_layer trees.location_layer trees.range_layer trees.received_layer trees.start_layer (plain_start y)))
    (subst (λ t. TellsStart t (trees.start_layer (treed_start y))) (sym (fold-roll-Start ArgumentTest OperationTest Cut Called Counted Counted Test Counted Test tests.argument_layer tests.operation_layer tests.part_layer tests.call_layer tests.expr_layer tests.location_layer tests.range_layer tests.received_layer tests.start_layer (plain_start y)))
    (start_step y)))

-- what being in range says of each expression, value, location, start and call
pub expr_told : (x : Expr) → TellsExpr (expr_ranges x) (expr_tree x)
expr_told = ind-Expr ToldArgument ToldOperation ToldPart ToldCall ToldExpr ToldLocation ToldRange ToldReceived ToldStart argument_rolled operation_rolled part_rolled call_rolled expr_rolled location_rolled range_rolled received_rolled start_rolled

pub location_told : (x : Location) → TellsLocation (location_ranges x) (location_tree x)
location_told = ind-Location ToldArgument ToldOperation ToldPart ToldCall ToldExpr ToldLocation ToldRange ToldReceived ToldStart argument_rolled operation_rolled part_rolled call_rolled expr_rolled location_rolled range_rolled received_rolled start_rolled

pub received_told : (x : Received) → TellsReceived (received_ranges x) (received_tree x)
received_told = ind-Received ToldArgument ToldOperation ToldPart ToldCall ToldExpr ToldLocation ToldRange ToldReceived ToldStart argument_rolled operation_rolled part_rolled call_rolled expr_rolled location_rolled range_rolled received_rolled start_rolled

pub start_told : (x : Start) → TellsStart (start_in_range x) (start_tree x)
start_told = ind-Start ToldArgument ToldOperation ToldPart ToldCall ToldExpr ToldLocation ToldRange ToldReceived ToldStart argument_rolled operation_rolled part_rolled call_rolled expr_rolled location_rolled range_rolled received_rolled start_rolled

pub call_told : (x : Call) → TellsCall (call_ranges x) (call_tree x)
call_told = ind-Call ToldArgument ToldOperation ToldPart ToldCall ToldExpr ToldLocation ToldRange ToldReceived ToldStart argument_rolled operation_rolled part_rolled call_rolled expr_rolled location_rolled range_rolled received_rolled start_rolled
