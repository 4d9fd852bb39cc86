-- When the numbers in statements are in range.
use Rattle.std.specs.Prelude.{ℕ, ◌+◌, min, Bool, true, false, ◌&&◌, nat_eq, nat_lt, List, [], ◌∷◌, length, Option, Some, None, option_map}
use Rattle.std.specs.declared.alloc.Global.{Global}
use Rattle.std.specs.declared.boxed.Box.{Box}
use Rattle.checked_program.specs.declared.expr.Binary.{Binary}
use Rattle.checked_program.specs.declared.expr.Location.{Location}
use Rattle.checked_program.specs.declared.statement.Action.{Action, Action-F, fold-Action}
use Rattle.checked_program.specs.declared.statement.Action.TheOpen as opens
use Rattle.checked_program.specs.declared.statement.CaseAlternative.{CaseAlternative, CaseAlternative-F, fold-CaseAlternative}
use Rattle.checked_program.specs.declared.statement.Choice.{Choice, Choice-F, fold-Choice}
use Rattle.checked_program.specs.declared.statement.DelayAlternative.{DelayAlternative, DelayAlternative-F, fold-DelayAlternative}
use Rattle.checked_program.specs.declared.statement.Handler.{Handler, Handler-F, fold-Handler}
use Rattle.checked_program.specs.declared.statement.HandlerAlternative.{HandlerAlternative, HandlerAlternative-F, fold-HandlerAlternative}
use Rattle.checked_program.specs.declared.statement.ReceiveAlternative.{ReceiveAlternative, ReceiveAlternative-F, fold-ReceiveAlternative}
use Rattle.checked_program.specs.declared.statement.Statement.{Statement, Statement-F, fold-Statement}
use Rattle.program_ranges.specs.declared.messages.Source.{Source}
use Rattle.program_ranges.specs.declared.messages.Source.TheVariants.{Buffers, Signals}
use Rattle.program_ranges.specs.Around.{is_exception}
use Rattle.program_ranges.specs.ExprRanges.{Test, Counted, is_number, operands_fit, expr_ranges, received_ranges, location_ranges, start_in_range, call_ranges}
use Rattle.program_ranges.specs.Messages.{parts_received, locals_follow, sent_in_range}
use Rattle.program_ranges.specs.ActionRanges.{names_fit, are_locals, all_below, all_exceptions, is_result, some_result, control_in_range}

-- whether numbers are in range within so many labelled statements of a body
abbrev pub LabelTest : Type 0
LabelTest = ℕ → Test

-- a statement, which may be an item: a module or a region stands among items alone
abbrev pub StatementTest : Type 0
StatementTest = Bool → LabelTest

-- an alternative of a RECEIVE CASE of buffers or of signals
abbrev pub ReceiveTest : Type 0
ReceiveTest = Source → LabelTest

-- an action: whether it is a module or a region, and whether its numbers are in range
pub record Acting : Type 0 where
  pub is_modulion : Bool
  pub holds : StatementTest

-- ---- lists

abbrev pub statements_hold : Bool → List StatementTest → LabelTest
statements_hold items [] labels program body = true
statements_hold items (s ∷ ss) labels program body = s items labels program body && statements_hold items ss labels program body

abbrev pub some_statements : Option (List StatementTest) → LabelTest
some_statements None labels program body = true
some_statements (Some ss) labels program body = statements_hold false ss labels program body

abbrev pub all_within : List LabelTest → LabelTest
all_within [] labels program body = true
all_within (t ∷ ts) labels program body = t labels program body && all_within ts labels program body

abbrev pub some_within : Option LabelTest → LabelTest
some_within None labels program body = true
some_within (Some t) labels program body = t labels program body

abbrev pub all_receive : Source → List ReceiveTest → LabelTest
all_receive source [] labels program body = true
all_receive source (t ∷ ts) labels program body = t source labels program body && all_receive source ts labels program body

-- ---- each kind

-- The location after SET gets one number.
abbrev pub is_set : Option (Box Location Global) → Test
is_set None program body = true
is_set (Some l) program body = (location_ranges l.value).holds program body && nat_eq (location_ranges l.value).count 1

-- an assignment with an operator
abbrev pub update_in_range : Counted → Binary → Counted → Test
update_in_range l o e program body = l.holds program body && (e.holds program body && (operands_fit o l.count e.count && nat_eq l.count 1))

-- How many labelled statements are around what a statement holds, held at 4,294,967,295. The name of a modulion is no label.
abbrev pub labels_inside : Bool → Bool → ℕ → ℕ
labels_inside true labelled n = n
labels_inside false false n = n
labels_inside false true n = min (n + 1) 4294967295

abbrev pub is_modulion : Action-F Acting LabelTest LabelTest LabelTest LabelTest LabelTest ReceiveTest StatementTest → Bool
is_modulion (opens.Module ss) = true
is_modulion (opens.Region r ss) = true
is_modulion a = false

abbrev pub action_holds : Action-F Acting LabelTest LabelTest LabelTest LabelTest LabelTest ReceiveTest StatementTest → StatementTest
action_holds opens.Nothing items labels program body = true
action_holds (opens.Declare names v) items labels program body = (received_ranges v).holds program body && names_fit names (received_ranges v).count program body
action_holds (opens.Lowest locals xs) items labels program body = are_locals locals (length xs) body
action_holds (opens.Module ss) items labels program body = items && statements_hold true ss labels program body
action_holds (opens.Region r ss) items labels program body = items && (nat_lt r program.regions && statements_hold false ss labels program body)
action_holds (opens.Assign l v) items labels program body = (location_ranges l).holds program body && ((received_ranges v).holds program body && nat_eq (location_ranges l).count (received_ranges v).count)
action_holds (opens.Update l o e bounds) items labels program body = update_in_range (location_ranges l) o (expr_ranges e.value) program body
action_holds (opens.Call c) items labels program body = (call_ranges c.value).holds program body
action_holds (opens.Routine r e) items labels program body = is_number (expr_ranges e.value) program body
action_holds (opens.Evaluate e) items labels program body = (expr_ranges e.value).holds program body
action_holds (opens.PutInt e) items labels program body = is_number (expr_ranges e.value) program body
action_holds (opens.PutText e) items labels program body = (expr_ranges e.value).holds program body
action_holds opens.PutLine items labels program body = true
action_holds (opens.Exit outwards) items labels program body = nat_lt outwards labels
action_holds (opens.Return v) items labels program body = some_result v program body
action_holds (opens.Result v) items labels program body = is_result (received_ranges v) program body
action_holds (opens.Assert e) items labels program body = is_number (expr_ranges e.value) program body
action_holds (opens.Cause x) items labels program body = is_exception x program
action_holds opens.Stop items labels program body = true
action_holds (opens.Start s) items labels program body = start_in_range s.value program body
action_holds (opens.Delay e priority) items labels program body = nat_lt e (length program.events)
action_holds (opens.Continue e) items labels program body = nat_lt e (length program.events)
action_holds (opens.Send s priority) items labels program body = sent_in_range s.value program body
action_holds (opens.If cs otherwise) items labels program body = all_within cs labels program body && statements_hold false otherwise labels program body
action_holds (opens.Case e as' otherwise) items labels program body = is_number (expr_ranges e.value) program body && (all_within as' labels program body && some_statements otherwise labels program body)
action_holds (opens.Do c ss) items labels program body = control_in_range c.value program body && statements_hold false ss labels program body
action_holds (opens.Begin ss) items labels program body = statements_hold false ss labels program body
action_holds (opens.DelayCase set priority as') items labels program body = is_set set program body && all_within as' labels program body
action_holds (opens.ReceiveBuffers set as' otherwise) items labels program body = is_set set program body && (all_receive Buffers as' labels program body && some_statements otherwise labels program body)
action_holds (opens.ReceiveSignals set as' otherwise) items labels program body = is_set set program body && (all_receive Signals as' labels program body && some_statements otherwise labels program body)

abbrev pub action_layer : Action-F Acting LabelTest LabelTest LabelTest LabelTest LabelTest ReceiveTest StatementTest → Acting
action_layer a = record { is_modulion = is_modulion a; holds = action_holds a }

abbrev pub case_layer : CaseAlternative-F Acting LabelTest LabelTest LabelTest LabelTest LabelTest ReceiveTest StatementTest → LabelTest
case_layer a labels program body = statements_hold false a.actions labels program body

abbrev pub choice_layer : Choice-F Acting LabelTest LabelTest LabelTest LabelTest LabelTest ReceiveTest StatementTest → LabelTest
choice_layer c labels program body = is_number (expr_ranges c.condition.value) program body && statements_hold false c.actions labels program body

abbrev pub delay_layer : DelayAlternative-F Acting LabelTest LabelTest LabelTest LabelTest LabelTest ReceiveTest StatementTest → LabelTest
delay_layer a labels program body = all_below (length program.events) a.events && statements_hold false a.actions labels program body

abbrev pub receive_layer : ReceiveAlternative-F Acting LabelTest LabelTest LabelTest LabelTest LabelTest ReceiveTest StatementTest → ReceiveTest
receive_layer a source labels program body = parts_received source a.source 0 a.received program body && (locals_follow None a.received body && statements_hold false a.actions labels program body)

abbrev pub handled_layer : HandlerAlternative-F Acting LabelTest LabelTest LabelTest LabelTest LabelTest ReceiveTest StatementTest → LabelTest
handled_layer a labels program body = all_exceptions a.exceptions program && statements_hold false a.actions labels program body

abbrev pub handler_layer : Handler-F Acting LabelTest LabelTest LabelTest LabelTest LabelTest ReceiveTest StatementTest → LabelTest
handler_layer h labels program body = all_within h.alternatives labels program body && some_statements h.otherwise labels program body

abbrev pub statement_layer : Statement-F Acting LabelTest LabelTest LabelTest LabelTest LabelTest ReceiveTest StatementTest → StatementTest
statement_layer s items labels program body = s.action.value.holds items (labels_inside s.action.value.is_modulion s.labelled labels) program body && some_within (option_map (λ h. h.value) s.handler) (labels_inside s.action.value.is_modulion s.labelled labels) program body

-- ---- values

unfoldable pub action_ranges : Action → Acting
action_ranges = fold-Action Acting LabelTest LabelTest LabelTest LabelTest LabelTest ReceiveTest StatementTest action_layer case_layer choice_layer delay_layer handler_layer handled_layer receive_layer statement_layer

unfoldable pub case_in_range : CaseAlternative → LabelTest
case_in_range = fold-CaseAlternative Acting LabelTest LabelTest LabelTest LabelTest LabelTest ReceiveTest StatementTest action_layer case_layer choice_layer delay_layer handler_layer handled_layer receive_layer statement_layer

unfoldable pub choice_in_range : Choice → LabelTest
choice_in_range = fold-Choice Acting LabelTest LabelTest LabelTest LabelTest LabelTest ReceiveTest StatementTest action_layer case_layer choice_layer delay_layer handler_layer handled_layer receive_layer statement_layer

unfoldable pub delay_in_range : DelayAlternative → LabelTest
delay_in_range = fold-DelayAlternative Acting LabelTest LabelTest LabelTest LabelTest LabelTest ReceiveTest StatementTest action_layer case_layer choice_layer delay_layer handler_layer handled_layer receive_layer statement_layer

unfoldable pub receive_in_range : ReceiveAlternative → ReceiveTest
receive_in_range = fold-ReceiveAlternative Acting LabelTest LabelTest LabelTest LabelTest LabelTest ReceiveTest StatementTest action_layer case_layer choice_layer delay_layer handler_layer handled_layer receive_layer statement_layer

unfoldable pub handled_in_range : HandlerAlternative → LabelTest
handled_in_range = fold-HandlerAlternative Acting LabelTest LabelTest LabelTest LabelTest LabelTest ReceiveTest StatementTest action_layer case_layer choice_layer delay_layer handler_layer handled_layer receive_layer statement_layer

unfoldable pub handler_in_range : Handler → LabelTest
handler_in_range = fold-Handler Acting LabelTest LabelTest LabelTest LabelTest LabelTest ReceiveTest StatementTest action_layer case_layer choice_layer delay_layer handler_layer handled_layer receive_layer statement_layer

unfoldable pub statement_in_range : Statement → StatementTest
statement_in_range = fold-Statement Acting LabelTest LabelTest LabelTest LabelTest LabelTest ReceiveTest StatementTest action_layer case_layer choice_layer delay_layer handler_layer handled_layer receive_layer statement_layer
