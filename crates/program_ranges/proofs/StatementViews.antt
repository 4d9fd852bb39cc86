-- What the definitions of ranges in statements are of each value.
use Rattle.std.proofs.Common.{◌≡◌, ℕ, Bool, List, Option, Some, None, refl, ap, sym, ◌∙◌}
use Rattle.std.specs.Prelude.{ℤ, true, false, ◌&&◌, nat_eq, nat_lt, length, map, option_map}
use Rattle.std.specs.declared.alloc.Global.{Global}
use Rattle.std.specs.declared.boxed.Box.{Box}
use Rattle.modes.specs.declared.mode.Bounds.{Bounds}
use Rattle.checked_program.specs.declared.program.Checked.{Checked}
use Rattle.checked_program.specs.declared.program.Body.{Body}
use Rattle.checked_program.specs.declared.expr.Binary.{Binary}
use Rattle.checked_program.specs.declared.expr.Routine.{Routine}
use Rattle.checked_program.specs.declared.expr.Base.{Base}
use Rattle.checked_program.specs.declared.expr.Expr.{Expr}
use Rattle.checked_program.specs.declared.expr.Call.{Call}
use Rattle.checked_program.specs.declared.expr.Location.{Location}
use Rattle.checked_program.specs.declared.expr.Received.{Received}
use Rattle.checked_program.specs.declared.expr.Start.{Start}
use Rattle.checked_program.specs.declared.statement.Sent.{Sent}
use Rattle.checked_program.specs.declared.statement.Control.{Control}
use Rattle.checked_program.specs.declared.statement.Action.{Action, fold-Action, fold-roll-Action}
use Rattle.checked_program.specs.declared.statement.Action.TheOpen as opens
use Rattle.checked_program.specs.declared.statement.Action.TheVariants as actions
use Rattle.checked_program.specs.declared.statement.CaseAlternative.{CaseAlternative, out-CaseAlternative, fold_out-CaseAlternative}
use Rattle.checked_program.specs.declared.statement.Choice.{Choice, out-Choice, fold_out-Choice}
use Rattle.checked_program.specs.declared.statement.DelayAlternative.{DelayAlternative, out-DelayAlternative, fold_out-DelayAlternative}
use Rattle.checked_program.specs.declared.statement.Handler.{Handler, out-Handler, fold_out-Handler, map-Handler}
use Rattle.checked_program.specs.declared.statement.HandlerAlternative.{HandlerAlternative, out-HandlerAlternative, fold_out-HandlerAlternative}
use Rattle.checked_program.specs.declared.statement.ReceiveAlternative.{ReceiveAlternative, out-ReceiveAlternative, fold_out-ReceiveAlternative}
use Rattle.checked_program.specs.declared.statement.Statement.{Statement, out-Statement, fold_out-Statement, map-Statement}
use Rattle.program_ranges.specs.declared.messages.Source.{Source}
use Rattle.program_ranges.specs.declared.messages.Source.TheVariants.{Buffers, Signals}
use Rattle.program_ranges.specs.Around.{is_exception}
use Rattle.program_ranges.specs.ExprRanges.{is_number, expr_ranges, received_ranges, location_ranges, start_in_range, call_ranges}
use Rattle.program_ranges.specs.Messages.{parts_received, locals_follow, sent_in_range}
use Rattle.program_ranges.specs.ActionRanges.{names_fit, are_locals, all_below, all_exceptions, is_result, some_result, control_in_range}
use Rattle.program_ranges.specs.StatementRanges.{LabelTest, StatementTest, ReceiveTest, Acting, statements_hold, some_statements, all_within, some_within, all_receive, is_set, update_in_range, labels_inside, action_layer, case_layer, choice_layer, delay_layer, handler_layer, handled_layer, receive_layer, statement_layer, action_ranges, case_in_range, choice_in_range, delay_in_range, receive_in_range, handled_in_range, handler_in_range, statement_in_range}

pub is_modulion-Nothing : (action_ranges actions.Nothing).is_modulion ≡ false
unfolding action_ranges case_in_range choice_in_range delay_in_range handler_in_range handled_in_range receive_in_range statement_in_range
is_modulion-Nothing = ap (λ a. a.is_modulion) (ap (fold-Action Acting LabelTest LabelTest LabelTest LabelTest LabelTest ReceiveTest StatementTest action_layer case_layer choice_layer delay_layer handler_layer handled_layer receive_layer statement_layer) (sym (actions.rolls-Nothing)) ∙ fold-roll-Action Acting LabelTest LabelTest LabelTest LabelTest LabelTest ReceiveTest StatementTest action_layer case_layer choice_layer delay_layer handler_layer handled_layer receive_layer statement_layer opens.Nothing)

pub holds-Nothing : (items : Bool) (labels : ℕ) (program : Checked) (body : Body) → (action_ranges actions.Nothing).holds items labels program body ≡ true
unfolding action_ranges case_in_range choice_in_range delay_in_range handler_in_range handled_in_range receive_in_range statement_in_range
holds-Nothing items labels program body = ap (λ a. a.holds items labels program body) (ap (fold-Action Acting LabelTest LabelTest LabelTest LabelTest LabelTest ReceiveTest StatementTest action_layer case_layer choice_layer delay_layer handler_layer handled_layer receive_layer statement_layer) (sym (actions.rolls-Nothing)) ∙ fold-roll-Action Acting LabelTest LabelTest LabelTest LabelTest LabelTest ReceiveTest StatementTest action_layer case_layer choice_layer delay_layer handler_layer handled_layer receive_layer statement_layer opens.Nothing)

pub is_modulion-Declare : (names : List Base) (v : Received) → (action_ranges (actions.Declare names v)).is_modulion ≡ false
unfolding action_ranges case_in_range choice_in_range delay_in_range handler_in_range handled_in_range receive_in_range statement_in_range
is_modulion-Declare names v = ap (λ a. a.is_modulion) (ap (fold-Action Acting LabelTest LabelTest LabelTest LabelTest LabelTest ReceiveTest StatementTest action_layer case_layer choice_layer delay_layer handler_layer handled_layer receive_layer statement_layer) (sym (actions.rolls-Declare names v)) ∙ fold-roll-Action Acting LabelTest LabelTest LabelTest LabelTest LabelTest ReceiveTest StatementTest action_layer case_layer choice_layer delay_layer handler_layer handled_layer receive_layer statement_layer (opens.Declare names v))

pub holds-Declare : (names : List Base) (v : Received) (items : Bool) (labels : ℕ) (program : Checked) (body : Body) → (action_ranges (actions.Declare names v)).holds items labels program body ≡ (received_ranges v).holds program body && names_fit names (received_ranges v).count program body
unfolding action_ranges case_in_range choice_in_range delay_in_range handler_in_range handled_in_range receive_in_range statement_in_range
holds-Declare names v items labels program body = ap (λ a. a.holds items labels program body) (ap (fold-Action Acting LabelTest LabelTest LabelTest LabelTest LabelTest ReceiveTest StatementTest action_layer case_layer choice_layer delay_layer handler_layer handled_layer receive_layer statement_layer) (sym (actions.rolls-Declare names v)) ∙ fold-roll-Action Acting LabelTest LabelTest LabelTest LabelTest LabelTest ReceiveTest StatementTest action_layer case_layer choice_layer delay_layer handler_layer handled_layer receive_layer statement_layer (opens.Declare names v))

pub is_modulion-Lowest : (locals : List ℕ) (xs : List ℤ) → (action_ranges (actions.Lowest locals xs)).is_modulion ≡ false
unfolding action_ranges case_in_range choice_in_range delay_in_range handler_in_range handled_in_range receive_in_range statement_in_range
is_modulion-Lowest locals xs = ap (λ a. a.is_modulion) (ap (fold-Action Acting LabelTest LabelTest LabelTest LabelTest LabelTest ReceiveTest StatementTest action_layer case_layer choice_layer delay_layer handler_layer handled_layer receive_layer statement_layer) (sym (actions.rolls-Lowest locals xs)) ∙ fold-roll-Action Acting LabelTest LabelTest LabelTest LabelTest LabelTest ReceiveTest StatementTest action_layer case_layer choice_layer delay_layer handler_layer handled_layer receive_layer statement_layer (opens.Lowest locals xs))

pub holds-Lowest : (locals : List ℕ) (xs : List ℤ) (items : Bool) (labels : ℕ) (program : Checked) (body : Body) → (action_ranges (actions.Lowest locals xs)).holds items labels program body ≡ are_locals locals (length xs) body
unfolding action_ranges case_in_range choice_in_range delay_in_range handler_in_range handled_in_range receive_in_range statement_in_range
holds-Lowest locals xs items labels program body = ap (λ a. a.holds items labels program body) (ap (fold-Action Acting LabelTest LabelTest LabelTest LabelTest LabelTest ReceiveTest StatementTest action_layer case_layer choice_layer delay_layer handler_layer handled_layer receive_layer statement_layer) (sym (actions.rolls-Lowest locals xs)) ∙ fold-roll-Action Acting LabelTest LabelTest LabelTest LabelTest LabelTest ReceiveTest StatementTest action_layer case_layer choice_layer delay_layer handler_layer handled_layer receive_layer statement_layer (opens.Lowest locals xs))

pub is_modulion-Module : (ss : List Statement) → (action_ranges (actions.Module ss)).is_modulion ≡ true
unfolding action_ranges case_in_range choice_in_range delay_in_range handler_in_range handled_in_range receive_in_range statement_in_range
is_modulion-Module ss = ap (λ a. a.is_modulion) (ap (fold-Action Acting LabelTest LabelTest LabelTest LabelTest LabelTest ReceiveTest StatementTest action_layer case_layer choice_layer delay_layer handler_layer handled_layer receive_layer statement_layer) (sym (actions.rolls-Module ss)) ∙ fold-roll-Action Acting LabelTest LabelTest LabelTest LabelTest LabelTest ReceiveTest StatementTest action_layer case_layer choice_layer delay_layer handler_layer handled_layer receive_layer statement_layer (opens.Module ss))

pub holds-Module : (ss : List Statement) (items : Bool) (labels : ℕ) (program : Checked) (body : Body) → (action_ranges (actions.Module ss)).holds items labels program body ≡ items && statements_hold true (map statement_in_range ss) labels program body
unfolding action_ranges case_in_range choice_in_range delay_in_range handler_in_range handled_in_range receive_in_range statement_in_range
holds-Module ss items labels program body = ap (λ a. a.holds items labels program body) (ap (fold-Action Acting LabelTest LabelTest LabelTest LabelTest LabelTest ReceiveTest StatementTest action_layer case_layer choice_layer delay_layer handler_layer handled_layer receive_layer statement_layer) (sym (actions.rolls-Module ss)) ∙ fold-roll-Action Acting LabelTest LabelTest LabelTest LabelTest LabelTest ReceiveTest StatementTest action_layer case_layer choice_layer delay_layer handler_layer handled_layer receive_layer statement_layer (opens.Module ss))

pub is_modulion-Region : (r : ℕ) (ss : List Statement) → (action_ranges (actions.Region r ss)).is_modulion ≡ true
unfolding action_ranges case_in_range choice_in_range delay_in_range handler_in_range handled_in_range receive_in_range statement_in_range
is_modulion-Region r ss = ap (λ a. a.is_modulion) (ap (fold-Action Acting LabelTest LabelTest LabelTest LabelTest LabelTest ReceiveTest StatementTest action_layer case_layer choice_layer delay_layer handler_layer handled_layer receive_layer statement_layer) (sym (actions.rolls-Region r ss)) ∙ fold-roll-Action Acting LabelTest LabelTest LabelTest LabelTest LabelTest ReceiveTest StatementTest action_layer case_layer choice_layer delay_layer handler_layer handled_layer receive_layer statement_layer (opens.Region r ss))

pub holds-Region : (r : ℕ) (ss : List Statement) (items : Bool) (labels : ℕ) (program : Checked) (body : Body) → (action_ranges (actions.Region r ss)).holds items labels program body ≡ items && (nat_lt r program.regions && statements_hold false (map statement_in_range ss) labels program body)
unfolding action_ranges case_in_range choice_in_range delay_in_range handler_in_range handled_in_range receive_in_range statement_in_range
holds-Region r ss items labels program body = ap (λ a. a.holds items labels program body) (ap (fold-Action Acting LabelTest LabelTest LabelTest LabelTest LabelTest ReceiveTest StatementTest action_layer case_layer choice_layer delay_layer handler_layer handled_layer receive_layer statement_layer) (sym (actions.rolls-Region r ss)) ∙ fold-roll-Action Acting LabelTest LabelTest LabelTest LabelTest LabelTest ReceiveTest StatementTest action_layer case_layer choice_layer delay_layer handler_layer handled_layer receive_layer statement_layer (opens.Region r ss))

pub is_modulion-Assign : (l : Location) (v : Received) → (action_ranges (actions.Assign l v)).is_modulion ≡ false
unfolding action_ranges case_in_range choice_in_range delay_in_range handler_in_range handled_in_range receive_in_range statement_in_range
is_modulion-Assign l v = ap (λ a. a.is_modulion) (ap (fold-Action Acting LabelTest LabelTest LabelTest LabelTest LabelTest ReceiveTest StatementTest action_layer case_layer choice_layer delay_layer handler_layer handled_layer receive_layer statement_layer) (sym (actions.rolls-Assign l v)) ∙ fold-roll-Action Acting LabelTest LabelTest LabelTest LabelTest LabelTest ReceiveTest StatementTest action_layer case_layer choice_layer delay_layer handler_layer handled_layer receive_layer statement_layer (opens.Assign l v))

pub holds-Assign : (l : Location) (v : Received) (items : Bool) (labels : ℕ) (program : Checked) (body : Body) → (action_ranges (actions.Assign l v)).holds items labels program body ≡ (location_ranges l).holds program body && ((received_ranges v).holds program body && nat_eq (location_ranges l).count (received_ranges v).count)
unfolding action_ranges case_in_range choice_in_range delay_in_range handler_in_range handled_in_range receive_in_range statement_in_range
holds-Assign l v items labels program body = ap (λ a. a.holds items labels program body) (ap (fold-Action Acting LabelTest LabelTest LabelTest LabelTest LabelTest ReceiveTest StatementTest action_layer case_layer choice_layer delay_layer handler_layer handled_layer receive_layer statement_layer) (sym (actions.rolls-Assign l v)) ∙ fold-roll-Action Acting LabelTest LabelTest LabelTest LabelTest LabelTest ReceiveTest StatementTest action_layer case_layer choice_layer delay_layer handler_layer handled_layer receive_layer statement_layer (opens.Assign l v))

pub is_modulion-Update : (l : Location) (o : Binary) (e : Box Expr Global) (bounds : Option Bounds) → (action_ranges (actions.Update l o e bounds)).is_modulion ≡ false
unfolding action_ranges case_in_range choice_in_range delay_in_range handler_in_range handled_in_range receive_in_range statement_in_range
is_modulion-Update l o e bounds = ap (λ a. a.is_modulion) (ap (fold-Action Acting LabelTest LabelTest LabelTest LabelTest LabelTest ReceiveTest StatementTest action_layer case_layer choice_layer delay_layer handler_layer handled_layer receive_layer statement_layer) (sym (actions.rolls-Update l o e bounds)) ∙ fold-roll-Action Acting LabelTest LabelTest LabelTest LabelTest LabelTest ReceiveTest StatementTest action_layer case_layer choice_layer delay_layer handler_layer handled_layer receive_layer statement_layer (opens.Update l o e bounds))

pub holds-Update : (l : Location) (o : Binary) (e : Box Expr Global) (bounds : Option Bounds) (items : Bool) (labels : ℕ) (program : Checked) (body : Body) → (action_ranges (actions.Update l o e bounds)).holds items labels program body ≡ update_in_range (location_ranges l) o (expr_ranges e.value) program body
unfolding action_ranges case_in_range choice_in_range delay_in_range handler_in_range handled_in_range receive_in_range statement_in_range
holds-Update l o e bounds items labels program body = ap (λ a. a.holds items labels program body) (ap (fold-Action Acting LabelTest LabelTest LabelTest LabelTest LabelTest ReceiveTest StatementTest action_layer case_layer choice_layer delay_layer handler_layer handled_layer receive_layer statement_layer) (sym (actions.rolls-Update l o e bounds)) ∙ fold-roll-Action Acting LabelTest LabelTest LabelTest LabelTest LabelTest ReceiveTest StatementTest action_layer case_layer choice_layer delay_layer handler_layer handled_layer receive_layer statement_layer (opens.Update l o e bounds))

pub is_modulion-Call : (c : Box Call Global) → (action_ranges (actions.Call c)).is_modulion ≡ false
unfolding action_ranges case_in_range choice_in_range delay_in_range handler_in_range handled_in_range receive_in_range statement_in_range
is_modulion-Call c = ap (λ a. a.is_modulion) (ap (fold-Action Acting LabelTest LabelTest LabelTest LabelTest LabelTest ReceiveTest StatementTest action_layer case_layer choice_layer delay_layer handler_layer handled_layer receive_layer statement_layer) (sym (actions.rolls-Call c)) ∙ fold-roll-Action Acting LabelTest LabelTest LabelTest LabelTest LabelTest ReceiveTest StatementTest action_layer case_layer choice_layer delay_layer handler_layer handled_layer receive_layer statement_layer (opens.Call c))

pub holds-Call : (c : Box Call Global) (items : Bool) (labels : ℕ) (program : Checked) (body : Body) → (action_ranges (actions.Call c)).holds items labels program body ≡ (call_ranges c.value).holds program body
unfolding action_ranges case_in_range choice_in_range delay_in_range handler_in_range handled_in_range receive_in_range statement_in_range
holds-Call c items labels program body = ap (λ a. a.holds items labels program body) (ap (fold-Action Acting LabelTest LabelTest LabelTest LabelTest LabelTest ReceiveTest StatementTest action_layer case_layer choice_layer delay_layer handler_layer handled_layer receive_layer statement_layer) (sym (actions.rolls-Call c)) ∙ fold-roll-Action Acting LabelTest LabelTest LabelTest LabelTest LabelTest ReceiveTest StatementTest action_layer case_layer choice_layer delay_layer handler_layer handled_layer receive_layer statement_layer (opens.Call c))

pub is_modulion-Routine : (r : Routine) (e : Box Expr Global) → (action_ranges (actions.Routine r e)).is_modulion ≡ false
unfolding action_ranges case_in_range choice_in_range delay_in_range handler_in_range handled_in_range receive_in_range statement_in_range
is_modulion-Routine r e = ap (λ a. a.is_modulion) (ap (fold-Action Acting LabelTest LabelTest LabelTest LabelTest LabelTest ReceiveTest StatementTest action_layer case_layer choice_layer delay_layer handler_layer handled_layer receive_layer statement_layer) (sym (actions.rolls-Routine r e)) ∙ fold-roll-Action Acting LabelTest LabelTest LabelTest LabelTest LabelTest ReceiveTest StatementTest action_layer case_layer choice_layer delay_layer handler_layer handled_layer receive_layer statement_layer (opens.Routine r e))

pub holds-Routine : (r : Routine) (e : Box Expr Global) (items : Bool) (labels : ℕ) (program : Checked) (body : Body) → (action_ranges (actions.Routine r e)).holds items labels program body ≡ is_number (expr_ranges e.value) program body
unfolding action_ranges case_in_range choice_in_range delay_in_range handler_in_range handled_in_range receive_in_range statement_in_range
holds-Routine r e items labels program body = ap (λ a. a.holds items labels program body) (ap (fold-Action Acting LabelTest LabelTest LabelTest LabelTest LabelTest ReceiveTest StatementTest action_layer case_layer choice_layer delay_layer handler_layer handled_layer receive_layer statement_layer) (sym (actions.rolls-Routine r e)) ∙ fold-roll-Action Acting LabelTest LabelTest LabelTest LabelTest LabelTest ReceiveTest StatementTest action_layer case_layer choice_layer delay_layer handler_layer handled_layer receive_layer statement_layer (opens.Routine r e))

pub is_modulion-Evaluate : (e : Box Expr Global) → (action_ranges (actions.Evaluate e)).is_modulion ≡ false
unfolding action_ranges case_in_range choice_in_range delay_in_range handler_in_range handled_in_range receive_in_range statement_in_range
is_modulion-Evaluate e = ap (λ a. a.is_modulion) (ap (fold-Action Acting LabelTest LabelTest LabelTest LabelTest LabelTest ReceiveTest StatementTest action_layer case_layer choice_layer delay_layer handler_layer handled_layer receive_layer statement_layer) (sym (actions.rolls-Evaluate e)) ∙ fold-roll-Action Acting LabelTest LabelTest LabelTest LabelTest LabelTest ReceiveTest StatementTest action_layer case_layer choice_layer delay_layer handler_layer handled_layer receive_layer statement_layer (opens.Evaluate e))

pub holds-Evaluate : (e : Box Expr Global) (items : Bool) (labels : ℕ) (program : Checked) (body : Body) → (action_ranges (actions.Evaluate e)).holds items labels program body ≡ (expr_ranges e.value).holds program body
unfolding action_ranges case_in_range choice_in_range delay_in_range handler_in_range handled_in_range receive_in_range statement_in_range
holds-Evaluate e items labels program body = ap (λ a. a.holds items labels program body) (ap (fold-Action Acting LabelTest LabelTest LabelTest LabelTest LabelTest ReceiveTest StatementTest action_layer case_layer choice_layer delay_layer handler_layer handled_layer receive_layer statement_layer) (sym (actions.rolls-Evaluate e)) ∙ fold-roll-Action Acting LabelTest LabelTest LabelTest LabelTest LabelTest ReceiveTest StatementTest action_layer case_layer choice_layer delay_layer handler_layer handled_layer receive_layer statement_layer (opens.Evaluate e))

pub is_modulion-PutInt : (e : Box Expr Global) → (action_ranges (actions.PutInt e)).is_modulion ≡ false
unfolding action_ranges case_in_range choice_in_range delay_in_range handler_in_range handled_in_range receive_in_range statement_in_range
is_modulion-PutInt e = ap (λ a. a.is_modulion) (ap (fold-Action Acting LabelTest LabelTest LabelTest LabelTest LabelTest ReceiveTest StatementTest action_layer case_layer choice_layer delay_layer handler_layer handled_layer receive_layer statement_layer) (sym (actions.rolls-PutInt e)) ∙ fold-roll-Action Acting LabelTest LabelTest LabelTest LabelTest LabelTest ReceiveTest StatementTest action_layer case_layer choice_layer delay_layer handler_layer handled_layer receive_layer statement_layer (opens.PutInt e))

pub holds-PutInt : (e : Box Expr Global) (items : Bool) (labels : ℕ) (program : Checked) (body : Body) → (action_ranges (actions.PutInt e)).holds items labels program body ≡ is_number (expr_ranges e.value) program body
unfolding action_ranges case_in_range choice_in_range delay_in_range handler_in_range handled_in_range receive_in_range statement_in_range
holds-PutInt e items labels program body = ap (λ a. a.holds items labels program body) (ap (fold-Action Acting LabelTest LabelTest LabelTest LabelTest LabelTest ReceiveTest StatementTest action_layer case_layer choice_layer delay_layer handler_layer handled_layer receive_layer statement_layer) (sym (actions.rolls-PutInt e)) ∙ fold-roll-Action Acting LabelTest LabelTest LabelTest LabelTest LabelTest ReceiveTest StatementTest action_layer case_layer choice_layer delay_layer handler_layer handled_layer receive_layer statement_layer (opens.PutInt e))

pub is_modulion-PutText : (e : Box Expr Global) → (action_ranges (actions.PutText e)).is_modulion ≡ false
unfolding action_ranges case_in_range choice_in_range delay_in_range handler_in_range handled_in_range receive_in_range statement_in_range
is_modulion-PutText e = ap (λ a. a.is_modulion) (ap (fold-Action Acting LabelTest LabelTest LabelTest LabelTest LabelTest ReceiveTest StatementTest action_layer case_layer choice_layer delay_layer handler_layer handled_layer receive_layer statement_layer) (sym (actions.rolls-PutText e)) ∙ fold-roll-Action Acting LabelTest LabelTest LabelTest LabelTest LabelTest ReceiveTest StatementTest action_layer case_layer choice_layer delay_layer handler_layer handled_layer receive_layer statement_layer (opens.PutText e))

pub holds-PutText : (e : Box Expr Global) (items : Bool) (labels : ℕ) (program : Checked) (body : Body) → (action_ranges (actions.PutText e)).holds items labels program body ≡ (expr_ranges e.value).holds program body
unfolding action_ranges case_in_range choice_in_range delay_in_range handler_in_range handled_in_range receive_in_range statement_in_range
holds-PutText e items labels program body = ap (λ a. a.holds items labels program body) (ap (fold-Action Acting LabelTest LabelTest LabelTest LabelTest LabelTest ReceiveTest StatementTest action_layer case_layer choice_layer delay_layer handler_layer handled_layer receive_layer statement_layer) (sym (actions.rolls-PutText e)) ∙ fold-roll-Action Acting LabelTest LabelTest LabelTest LabelTest LabelTest ReceiveTest StatementTest action_layer case_layer choice_layer delay_layer handler_layer handled_layer receive_layer statement_layer (opens.PutText e))

pub is_modulion-PutLine : (action_ranges actions.PutLine).is_modulion ≡ false
unfolding action_ranges case_in_range choice_in_range delay_in_range handler_in_range handled_in_range receive_in_range statement_in_range
is_modulion-PutLine = ap (λ a. a.is_modulion) (ap (fold-Action Acting LabelTest LabelTest LabelTest LabelTest LabelTest ReceiveTest StatementTest action_layer case_layer choice_layer delay_layer handler_layer handled_layer receive_layer statement_layer) (sym (actions.rolls-PutLine)) ∙ fold-roll-Action Acting LabelTest LabelTest LabelTest LabelTest LabelTest ReceiveTest StatementTest action_layer case_layer choice_layer delay_layer handler_layer handled_layer receive_layer statement_layer opens.PutLine)

pub holds-PutLine : (items : Bool) (labels : ℕ) (program : Checked) (body : Body) → (action_ranges actions.PutLine).holds items labels program body ≡ true
unfolding action_ranges case_in_range choice_in_range delay_in_range handler_in_range handled_in_range receive_in_range statement_in_range
holds-PutLine items labels program body = ap (λ a. a.holds items labels program body) (ap (fold-Action Acting LabelTest LabelTest LabelTest LabelTest LabelTest ReceiveTest StatementTest action_layer case_layer choice_layer delay_layer handler_layer handled_layer receive_layer statement_layer) (sym (actions.rolls-PutLine)) ∙ fold-roll-Action Acting LabelTest LabelTest LabelTest LabelTest LabelTest ReceiveTest StatementTest action_layer case_layer choice_layer delay_layer handler_layer handled_layer receive_layer statement_layer opens.PutLine)

pub is_modulion-Exit : (outwards : ℕ) → (action_ranges (actions.Exit outwards)).is_modulion ≡ false
unfolding action_ranges case_in_range choice_in_range delay_in_range handler_in_range handled_in_range receive_in_range statement_in_range
is_modulion-Exit outwards = ap (λ a. a.is_modulion) (ap (fold-Action Acting LabelTest LabelTest LabelTest LabelTest LabelTest ReceiveTest StatementTest action_layer case_layer choice_layer delay_layer handler_layer handled_layer receive_layer statement_layer) (sym (actions.rolls-Exit outwards)) ∙ fold-roll-Action Acting LabelTest LabelTest LabelTest LabelTest LabelTest ReceiveTest StatementTest action_layer case_layer choice_layer delay_layer handler_layer handled_layer receive_layer statement_layer (opens.Exit outwards))

pub holds-Exit : (outwards : ℕ) (items : Bool) (labels : ℕ) (program : Checked) (body : Body) → (action_ranges (actions.Exit outwards)).holds items labels program body ≡ nat_lt outwards labels
unfolding action_ranges case_in_range choice_in_range delay_in_range handler_in_range handled_in_range receive_in_range statement_in_range
holds-Exit outwards items labels program body = ap (λ a. a.holds items labels program body) (ap (fold-Action Acting LabelTest LabelTest LabelTest LabelTest LabelTest ReceiveTest StatementTest action_layer case_layer choice_layer delay_layer handler_layer handled_layer receive_layer statement_layer) (sym (actions.rolls-Exit outwards)) ∙ fold-roll-Action Acting LabelTest LabelTest LabelTest LabelTest LabelTest ReceiveTest StatementTest action_layer case_layer choice_layer delay_layer handler_layer handled_layer receive_layer statement_layer (opens.Exit outwards))

pub is_modulion-Return : (v : Option Received) → (action_ranges (actions.Return v)).is_modulion ≡ false
unfolding action_ranges case_in_range choice_in_range delay_in_range handler_in_range handled_in_range receive_in_range statement_in_range
is_modulion-Return v = ap (λ a. a.is_modulion) (ap (fold-Action Acting LabelTest LabelTest LabelTest LabelTest LabelTest ReceiveTest StatementTest action_layer case_layer choice_layer delay_layer handler_layer handled_layer receive_layer statement_layer) (sym (actions.rolls-Return v)) ∙ fold-roll-Action Acting LabelTest LabelTest LabelTest LabelTest LabelTest ReceiveTest StatementTest action_layer case_layer choice_layer delay_layer handler_layer handled_layer receive_layer statement_layer (opens.Return v))

pub holds-Return : (v : Option Received) (items : Bool) (labels : ℕ) (program : Checked) (body : Body) → (action_ranges (actions.Return v)).holds items labels program body ≡ some_result v program body
unfolding action_ranges case_in_range choice_in_range delay_in_range handler_in_range handled_in_range receive_in_range statement_in_range
holds-Return v items labels program body = ap (λ a. a.holds items labels program body) (ap (fold-Action Acting LabelTest LabelTest LabelTest LabelTest LabelTest ReceiveTest StatementTest action_layer case_layer choice_layer delay_layer handler_layer handled_layer receive_layer statement_layer) (sym (actions.rolls-Return v)) ∙ fold-roll-Action Acting LabelTest LabelTest LabelTest LabelTest LabelTest ReceiveTest StatementTest action_layer case_layer choice_layer delay_layer handler_layer handled_layer receive_layer statement_layer (opens.Return v))

pub is_modulion-Result : (v : Received) → (action_ranges (actions.Result v)).is_modulion ≡ false
unfolding action_ranges case_in_range choice_in_range delay_in_range handler_in_range handled_in_range receive_in_range statement_in_range
is_modulion-Result v = ap (λ a. a.is_modulion) (ap (fold-Action Acting LabelTest LabelTest LabelTest LabelTest LabelTest ReceiveTest StatementTest action_layer case_layer choice_layer delay_layer handler_layer handled_layer receive_layer statement_layer) (sym (actions.rolls-Result v)) ∙ fold-roll-Action Acting LabelTest LabelTest LabelTest LabelTest LabelTest ReceiveTest StatementTest action_layer case_layer choice_layer delay_layer handler_layer handled_layer receive_layer statement_layer (opens.Result v))

pub holds-Result : (v : Received) (items : Bool) (labels : ℕ) (program : Checked) (body : Body) → (action_ranges (actions.Result v)).holds items labels program body ≡ is_result (received_ranges v) program body
unfolding action_ranges case_in_range choice_in_range delay_in_range handler_in_range handled_in_range receive_in_range statement_in_range
holds-Result v items labels program body = ap (λ a. a.holds items labels program body) (ap (fold-Action Acting LabelTest LabelTest LabelTest LabelTest LabelTest ReceiveTest StatementTest action_layer case_layer choice_layer delay_layer handler_layer handled_layer receive_layer statement_layer) (sym (actions.rolls-Result v)) ∙ fold-roll-Action Acting LabelTest LabelTest LabelTest LabelTest LabelTest ReceiveTest StatementTest action_layer case_layer choice_layer delay_layer handler_layer handled_layer receive_layer statement_layer (opens.Result v))

pub is_modulion-Assert : (e : Box Expr Global) → (action_ranges (actions.Assert e)).is_modulion ≡ false
unfolding action_ranges case_in_range choice_in_range delay_in_range handler_in_range handled_in_range receive_in_range statement_in_range
is_modulion-Assert e = ap (λ a. a.is_modulion) (ap (fold-Action Acting LabelTest LabelTest LabelTest LabelTest LabelTest ReceiveTest StatementTest action_layer case_layer choice_layer delay_layer handler_layer handled_layer receive_layer statement_layer) (sym (actions.rolls-Assert e)) ∙ fold-roll-Action Acting LabelTest LabelTest LabelTest LabelTest LabelTest ReceiveTest StatementTest action_layer case_layer choice_layer delay_layer handler_layer handled_layer receive_layer statement_layer (opens.Assert e))

pub holds-Assert : (e : Box Expr Global) (items : Bool) (labels : ℕ) (program : Checked) (body : Body) → (action_ranges (actions.Assert e)).holds items labels program body ≡ is_number (expr_ranges e.value) program body
unfolding action_ranges case_in_range choice_in_range delay_in_range handler_in_range handled_in_range receive_in_range statement_in_range
holds-Assert e items labels program body = ap (λ a. a.holds items labels program body) (ap (fold-Action Acting LabelTest LabelTest LabelTest LabelTest LabelTest ReceiveTest StatementTest action_layer case_layer choice_layer delay_layer handler_layer handled_layer receive_layer statement_layer) (sym (actions.rolls-Assert e)) ∙ fold-roll-Action Acting LabelTest LabelTest LabelTest LabelTest LabelTest ReceiveTest StatementTest action_layer case_layer choice_layer delay_layer handler_layer handled_layer receive_layer statement_layer (opens.Assert e))

pub is_modulion-Cause : (x : ℕ) → (action_ranges (actions.Cause x)).is_modulion ≡ false
unfolding action_ranges case_in_range choice_in_range delay_in_range handler_in_range handled_in_range receive_in_range statement_in_range
is_modulion-Cause x = ap (λ a. a.is_modulion) (ap (fold-Action Acting LabelTest LabelTest LabelTest LabelTest LabelTest ReceiveTest StatementTest action_layer case_layer choice_layer delay_layer handler_layer handled_layer receive_layer statement_layer) (sym (actions.rolls-Cause x)) ∙ fold-roll-Action Acting LabelTest LabelTest LabelTest LabelTest LabelTest ReceiveTest StatementTest action_layer case_layer choice_layer delay_layer handler_layer handled_layer receive_layer statement_layer (opens.Cause x))

pub holds-Cause : (x : ℕ) (items : Bool) (labels : ℕ) (program : Checked) (body : Body) → (action_ranges (actions.Cause x)).holds items labels program body ≡ is_exception x program
unfolding action_ranges case_in_range choice_in_range delay_in_range handler_in_range handled_in_range receive_in_range statement_in_range
holds-Cause x items labels program body = ap (λ a. a.holds items labels program body) (ap (fold-Action Acting LabelTest LabelTest LabelTest LabelTest LabelTest ReceiveTest StatementTest action_layer case_layer choice_layer delay_layer handler_layer handled_layer receive_layer statement_layer) (sym (actions.rolls-Cause x)) ∙ fold-roll-Action Acting LabelTest LabelTest LabelTest LabelTest LabelTest ReceiveTest StatementTest action_layer case_layer choice_layer delay_layer handler_layer handled_layer receive_layer statement_layer (opens.Cause x))

pub is_modulion-Stop : (action_ranges actions.Stop).is_modulion ≡ false
unfolding action_ranges case_in_range choice_in_range delay_in_range handler_in_range handled_in_range receive_in_range statement_in_range
is_modulion-Stop = ap (λ a. a.is_modulion) (ap (fold-Action Acting LabelTest LabelTest LabelTest LabelTest LabelTest ReceiveTest StatementTest action_layer case_layer choice_layer delay_layer handler_layer handled_layer receive_layer statement_layer) (sym (actions.rolls-Stop)) ∙ fold-roll-Action Acting LabelTest LabelTest LabelTest LabelTest LabelTest ReceiveTest StatementTest action_layer case_layer choice_layer delay_layer handler_layer handled_layer receive_layer statement_layer opens.Stop)

pub holds-Stop : (items : Bool) (labels : ℕ) (program : Checked) (body : Body) → (action_ranges actions.Stop).holds items labels program body ≡ true
unfolding action_ranges case_in_range choice_in_range delay_in_range handler_in_range handled_in_range receive_in_range statement_in_range
holds-Stop items labels program body = ap (λ a. a.holds items labels program body) (ap (fold-Action Acting LabelTest LabelTest LabelTest LabelTest LabelTest ReceiveTest StatementTest action_layer case_layer choice_layer delay_layer handler_layer handled_layer receive_layer statement_layer) (sym (actions.rolls-Stop)) ∙ fold-roll-Action Acting LabelTest LabelTest LabelTest LabelTest LabelTest ReceiveTest StatementTest action_layer case_layer choice_layer delay_layer handler_layer handled_layer receive_layer statement_layer opens.Stop)

pub is_modulion-Start : (s : Box Start Global) → (action_ranges (actions.Start s)).is_modulion ≡ false
unfolding action_ranges case_in_range choice_in_range delay_in_range handler_in_range handled_in_range receive_in_range statement_in_range
is_modulion-Start s = ap (λ a. a.is_modulion) (ap (fold-Action Acting LabelTest LabelTest LabelTest LabelTest LabelTest ReceiveTest StatementTest action_layer case_layer choice_layer delay_layer handler_layer handled_layer receive_layer statement_layer) (sym (actions.rolls-Start s)) ∙ fold-roll-Action Acting LabelTest LabelTest LabelTest LabelTest LabelTest ReceiveTest StatementTest action_layer case_layer choice_layer delay_layer handler_layer handled_layer receive_layer statement_layer (opens.Start s))

pub holds-Start : (s : Box Start Global) (items : Bool) (labels : ℕ) (program : Checked) (body : Body) → (action_ranges (actions.Start s)).holds items labels program body ≡ start_in_range s.value program body
unfolding action_ranges case_in_range choice_in_range delay_in_range handler_in_range handled_in_range receive_in_range statement_in_range
holds-Start s items labels program body = ap (λ a. a.holds items labels program body) (ap (fold-Action Acting LabelTest LabelTest LabelTest LabelTest LabelTest ReceiveTest StatementTest action_layer case_layer choice_layer delay_layer handler_layer handled_layer receive_layer statement_layer) (sym (actions.rolls-Start s)) ∙ fold-roll-Action Acting LabelTest LabelTest LabelTest LabelTest LabelTest ReceiveTest StatementTest action_layer case_layer choice_layer delay_layer handler_layer handled_layer receive_layer statement_layer (opens.Start s))

pub is_modulion-Delay : (e : ℕ) (priority : ℕ) → (action_ranges (actions.Delay e priority)).is_modulion ≡ false
unfolding action_ranges case_in_range choice_in_range delay_in_range handler_in_range handled_in_range receive_in_range statement_in_range
is_modulion-Delay e priority = ap (λ a. a.is_modulion) (ap (fold-Action Acting LabelTest LabelTest LabelTest LabelTest LabelTest ReceiveTest StatementTest action_layer case_layer choice_layer delay_layer handler_layer handled_layer receive_layer statement_layer) (sym (actions.rolls-Delay e priority)) ∙ fold-roll-Action Acting LabelTest LabelTest LabelTest LabelTest LabelTest ReceiveTest StatementTest action_layer case_layer choice_layer delay_layer handler_layer handled_layer receive_layer statement_layer (opens.Delay e priority))

pub holds-Delay : (e : ℕ) (priority : ℕ) (items : Bool) (labels : ℕ) (program : Checked) (body : Body) → (action_ranges (actions.Delay e priority)).holds items labels program body ≡ nat_lt e (length program.events)
unfolding action_ranges case_in_range choice_in_range delay_in_range handler_in_range handled_in_range receive_in_range statement_in_range
holds-Delay e priority items labels program body = ap (λ a. a.holds items labels program body) (ap (fold-Action Acting LabelTest LabelTest LabelTest LabelTest LabelTest ReceiveTest StatementTest action_layer case_layer choice_layer delay_layer handler_layer handled_layer receive_layer statement_layer) (sym (actions.rolls-Delay e priority)) ∙ fold-roll-Action Acting LabelTest LabelTest LabelTest LabelTest LabelTest ReceiveTest StatementTest action_layer case_layer choice_layer delay_layer handler_layer handled_layer receive_layer statement_layer (opens.Delay e priority))

pub is_modulion-Continue : (e : ℕ) → (action_ranges (actions.Continue e)).is_modulion ≡ false
unfolding action_ranges case_in_range choice_in_range delay_in_range handler_in_range handled_in_range receive_in_range statement_in_range
is_modulion-Continue e = ap (λ a. a.is_modulion) (ap (fold-Action Acting LabelTest LabelTest LabelTest LabelTest LabelTest ReceiveTest StatementTest action_layer case_layer choice_layer delay_layer handler_layer handled_layer receive_layer statement_layer) (sym (actions.rolls-Continue e)) ∙ fold-roll-Action Acting LabelTest LabelTest LabelTest LabelTest LabelTest ReceiveTest StatementTest action_layer case_layer choice_layer delay_layer handler_layer handled_layer receive_layer statement_layer (opens.Continue e))

pub holds-Continue : (e : ℕ) (items : Bool) (labels : ℕ) (program : Checked) (body : Body) → (action_ranges (actions.Continue e)).holds items labels program body ≡ nat_lt e (length program.events)
unfolding action_ranges case_in_range choice_in_range delay_in_range handler_in_range handled_in_range receive_in_range statement_in_range
holds-Continue e items labels program body = ap (λ a. a.holds items labels program body) (ap (fold-Action Acting LabelTest LabelTest LabelTest LabelTest LabelTest ReceiveTest StatementTest action_layer case_layer choice_layer delay_layer handler_layer handled_layer receive_layer statement_layer) (sym (actions.rolls-Continue e)) ∙ fold-roll-Action Acting LabelTest LabelTest LabelTest LabelTest LabelTest ReceiveTest StatementTest action_layer case_layer choice_layer delay_layer handler_layer handled_layer receive_layer statement_layer (opens.Continue e))

pub is_modulion-Send : (s : Box Sent Global) (priority : ℕ) → (action_ranges (actions.Send s priority)).is_modulion ≡ false
unfolding action_ranges case_in_range choice_in_range delay_in_range handler_in_range handled_in_range receive_in_range statement_in_range
is_modulion-Send s priority = ap (λ a. a.is_modulion) (ap (fold-Action Acting LabelTest LabelTest LabelTest LabelTest LabelTest ReceiveTest StatementTest action_layer case_layer choice_layer delay_layer handler_layer handled_layer receive_layer statement_layer) (sym (actions.rolls-Send s priority)) ∙ fold-roll-Action Acting LabelTest LabelTest LabelTest LabelTest LabelTest ReceiveTest StatementTest action_layer case_layer choice_layer delay_layer handler_layer handled_layer receive_layer statement_layer (opens.Send s priority))

pub holds-Send : (s : Box Sent Global) (priority : ℕ) (items : Bool) (labels : ℕ) (program : Checked) (body : Body) → (action_ranges (actions.Send s priority)).holds items labels program body ≡ sent_in_range s.value program body
unfolding action_ranges case_in_range choice_in_range delay_in_range handler_in_range handled_in_range receive_in_range statement_in_range
holds-Send s priority items labels program body = ap (λ a. a.holds items labels program body) (ap (fold-Action Acting LabelTest LabelTest LabelTest LabelTest LabelTest ReceiveTest StatementTest action_layer case_layer choice_layer delay_layer handler_layer handled_layer receive_layer statement_layer) (sym (actions.rolls-Send s priority)) ∙ fold-roll-Action Acting LabelTest LabelTest LabelTest LabelTest LabelTest ReceiveTest StatementTest action_layer case_layer choice_layer delay_layer handler_layer handled_layer receive_layer statement_layer (opens.Send s priority))

pub is_modulion-If : (cs : List Choice) (otherwise : List Statement) → (action_ranges (actions.If cs otherwise)).is_modulion ≡ false
unfolding action_ranges case_in_range choice_in_range delay_in_range handler_in_range handled_in_range receive_in_range statement_in_range
is_modulion-If cs otherwise = ap (λ a. a.is_modulion) (ap (fold-Action Acting LabelTest LabelTest LabelTest LabelTest LabelTest ReceiveTest StatementTest action_layer case_layer choice_layer delay_layer handler_layer handled_layer receive_layer statement_layer) (sym (actions.rolls-If cs otherwise)) ∙ fold-roll-Action Acting LabelTest LabelTest LabelTest LabelTest LabelTest ReceiveTest StatementTest action_layer case_layer choice_layer delay_layer handler_layer handled_layer receive_layer statement_layer (opens.If cs otherwise))

pub holds-If : (cs : List Choice) (otherwise : List Statement) (items : Bool) (labels : ℕ) (program : Checked) (body : Body) → (action_ranges (actions.If cs otherwise)).holds items labels program body ≡ all_within (map choice_in_range cs) labels program body && statements_hold false (map statement_in_range otherwise) labels program body
unfolding action_ranges case_in_range choice_in_range delay_in_range handler_in_range handled_in_range receive_in_range statement_in_range
holds-If cs otherwise items labels program body = ap (λ a. a.holds items labels program body) (ap (fold-Action Acting LabelTest LabelTest LabelTest LabelTest LabelTest ReceiveTest StatementTest action_layer case_layer choice_layer delay_layer handler_layer handled_layer receive_layer statement_layer) (sym (actions.rolls-If cs otherwise)) ∙ fold-roll-Action Acting LabelTest LabelTest LabelTest LabelTest LabelTest ReceiveTest StatementTest action_layer case_layer choice_layer delay_layer handler_layer handled_layer receive_layer statement_layer (opens.If cs otherwise))

pub is_modulion-Case : (e : Box Expr Global) (as' : List CaseAlternative) (otherwise : Option (List Statement)) → (action_ranges (actions.Case e as' otherwise)).is_modulion ≡ false
unfolding action_ranges case_in_range choice_in_range delay_in_range handler_in_range handled_in_range receive_in_range statement_in_range
is_modulion-Case e as' otherwise = ap (λ a. a.is_modulion) (ap (fold-Action Acting LabelTest LabelTest LabelTest LabelTest LabelTest ReceiveTest StatementTest action_layer case_layer choice_layer delay_layer handler_layer handled_layer receive_layer statement_layer) (sym (actions.rolls-Case e as' otherwise)) ∙ fold-roll-Action Acting LabelTest LabelTest LabelTest LabelTest LabelTest ReceiveTest StatementTest action_layer case_layer choice_layer delay_layer handler_layer handled_layer receive_layer statement_layer (opens.Case e as' otherwise))

pub holds-Case : (e : Box Expr Global) (as' : List CaseAlternative) (otherwise : Option (List Statement)) (items : Bool) (labels : ℕ) (program : Checked) (body : Body) → (action_ranges (actions.Case e as' otherwise)).holds items labels program body ≡ is_number (expr_ranges e.value) program body && (all_within (map case_in_range as') labels program body && some_statements (option_map (map statement_in_range) otherwise) labels program body)
unfolding action_ranges case_in_range choice_in_range delay_in_range handler_in_range handled_in_range receive_in_range statement_in_range
holds-Case e as' None items labels program body = ap (λ a. a.holds items labels program body) (ap (fold-Action Acting LabelTest LabelTest LabelTest LabelTest LabelTest ReceiveTest StatementTest action_layer case_layer choice_layer delay_layer handler_layer handled_layer receive_layer statement_layer) (sym (actions.rolls-Case e as' None)) ∙ fold-roll-Action Acting LabelTest LabelTest LabelTest LabelTest LabelTest ReceiveTest StatementTest action_layer case_layer choice_layer delay_layer handler_layer handled_layer receive_layer statement_layer (opens.Case e as' None))
holds-Case e as' (Some given) items labels program body = ap (λ a. a.holds items labels program body) (ap (fold-Action Acting LabelTest LabelTest LabelTest LabelTest LabelTest ReceiveTest StatementTest action_layer case_layer choice_layer delay_layer handler_layer handled_layer receive_layer statement_layer) (sym (actions.rolls-Case e as' (Some given))) ∙ fold-roll-Action Acting LabelTest LabelTest LabelTest LabelTest LabelTest ReceiveTest StatementTest action_layer case_layer choice_layer delay_layer handler_layer handled_layer receive_layer statement_layer (opens.Case e as' (Some given)))

pub is_modulion-Do : (c : Box Control Global) (ss : List Statement) → (action_ranges (actions.Do c ss)).is_modulion ≡ false
unfolding action_ranges case_in_range choice_in_range delay_in_range handler_in_range handled_in_range receive_in_range statement_in_range
is_modulion-Do c ss = ap (λ a. a.is_modulion) (ap (fold-Action Acting LabelTest LabelTest LabelTest LabelTest LabelTest ReceiveTest StatementTest action_layer case_layer choice_layer delay_layer handler_layer handled_layer receive_layer statement_layer) (sym (actions.rolls-Do c ss)) ∙ fold-roll-Action Acting LabelTest LabelTest LabelTest LabelTest LabelTest ReceiveTest StatementTest action_layer case_layer choice_layer delay_layer handler_layer handled_layer receive_layer statement_layer (opens.Do c ss))

pub holds-Do : (c : Box Control Global) (ss : List Statement) (items : Bool) (labels : ℕ) (program : Checked) (body : Body) → (action_ranges (actions.Do c ss)).holds items labels program body ≡ control_in_range c.value program body && statements_hold false (map statement_in_range ss) labels program body
unfolding action_ranges case_in_range choice_in_range delay_in_range handler_in_range handled_in_range receive_in_range statement_in_range
holds-Do c ss items labels program body = ap (λ a. a.holds items labels program body) (ap (fold-Action Acting LabelTest LabelTest LabelTest LabelTest LabelTest ReceiveTest StatementTest action_layer case_layer choice_layer delay_layer handler_layer handled_layer receive_layer statement_layer) (sym (actions.rolls-Do c ss)) ∙ fold-roll-Action Acting LabelTest LabelTest LabelTest LabelTest LabelTest ReceiveTest StatementTest action_layer case_layer choice_layer delay_layer handler_layer handled_layer receive_layer statement_layer (opens.Do c ss))

pub is_modulion-Begin : (ss : List Statement) → (action_ranges (actions.Begin ss)).is_modulion ≡ false
unfolding action_ranges case_in_range choice_in_range delay_in_range handler_in_range handled_in_range receive_in_range statement_in_range
is_modulion-Begin ss = ap (λ a. a.is_modulion) (ap (fold-Action Acting LabelTest LabelTest LabelTest LabelTest LabelTest ReceiveTest StatementTest action_layer case_layer choice_layer delay_layer handler_layer handled_layer receive_layer statement_layer) (sym (actions.rolls-Begin ss)) ∙ fold-roll-Action Acting LabelTest LabelTest LabelTest LabelTest LabelTest ReceiveTest StatementTest action_layer case_layer choice_layer delay_layer handler_layer handled_layer receive_layer statement_layer (opens.Begin ss))

pub holds-Begin : (ss : List Statement) (items : Bool) (labels : ℕ) (program : Checked) (body : Body) → (action_ranges (actions.Begin ss)).holds items labels program body ≡ statements_hold false (map statement_in_range ss) labels program body
unfolding action_ranges case_in_range choice_in_range delay_in_range handler_in_range handled_in_range receive_in_range statement_in_range
holds-Begin ss items labels program body = ap (λ a. a.holds items labels program body) (ap (fold-Action Acting LabelTest LabelTest LabelTest LabelTest LabelTest ReceiveTest StatementTest action_layer case_layer choice_layer delay_layer handler_layer handled_layer receive_layer statement_layer) (sym (actions.rolls-Begin ss)) ∙ fold-roll-Action Acting LabelTest LabelTest LabelTest LabelTest LabelTest ReceiveTest StatementTest action_layer case_layer choice_layer delay_layer handler_layer handled_layer receive_layer statement_layer (opens.Begin ss))

pub is_modulion-DelayCase : (set : Option (Box Location Global)) (priority : ℕ) (as' : List DelayAlternative) → (action_ranges (actions.DelayCase set priority as')).is_modulion ≡ false
unfolding action_ranges case_in_range choice_in_range delay_in_range handler_in_range handled_in_range receive_in_range statement_in_range
is_modulion-DelayCase set priority as' = ap (λ a. a.is_modulion) (ap (fold-Action Acting LabelTest LabelTest LabelTest LabelTest LabelTest ReceiveTest StatementTest action_layer case_layer choice_layer delay_layer handler_layer handled_layer receive_layer statement_layer) (sym (actions.rolls-DelayCase set priority as')) ∙ fold-roll-Action Acting LabelTest LabelTest LabelTest LabelTest LabelTest ReceiveTest StatementTest action_layer case_layer choice_layer delay_layer handler_layer handled_layer receive_layer statement_layer (opens.DelayCase set priority as'))

pub holds-DelayCase : (set : Option (Box Location Global)) (priority : ℕ) (as' : List DelayAlternative) (items : Bool) (labels : ℕ) (program : Checked) (body : Body) → (action_ranges (actions.DelayCase set priority as')).holds items labels program body ≡ is_set set program body && all_within (map delay_in_range as') labels program body
unfolding action_ranges case_in_range choice_in_range delay_in_range handler_in_range handled_in_range receive_in_range statement_in_range
holds-DelayCase set priority as' items labels program body = ap (λ a. a.holds items labels program body) (ap (fold-Action Acting LabelTest LabelTest LabelTest LabelTest LabelTest ReceiveTest StatementTest action_layer case_layer choice_layer delay_layer handler_layer handled_layer receive_layer statement_layer) (sym (actions.rolls-DelayCase set priority as')) ∙ fold-roll-Action Acting LabelTest LabelTest LabelTest LabelTest LabelTest ReceiveTest StatementTest action_layer case_layer choice_layer delay_layer handler_layer handled_layer receive_layer statement_layer (opens.DelayCase set priority as'))

pub is_modulion-ReceiveBuffers : (set : Option (Box Location Global)) (as' : List ReceiveAlternative) (otherwise : Option (List Statement)) → (action_ranges (actions.ReceiveBuffers set as' otherwise)).is_modulion ≡ false
unfolding action_ranges case_in_range choice_in_range delay_in_range handler_in_range handled_in_range receive_in_range statement_in_range
is_modulion-ReceiveBuffers set as' otherwise = ap (λ a. a.is_modulion) (ap (fold-Action Acting LabelTest LabelTest LabelTest LabelTest LabelTest ReceiveTest StatementTest action_layer case_layer choice_layer delay_layer handler_layer handled_layer receive_layer statement_layer) (sym (actions.rolls-ReceiveBuffers set as' otherwise)) ∙ fold-roll-Action Acting LabelTest LabelTest LabelTest LabelTest LabelTest ReceiveTest StatementTest action_layer case_layer choice_layer delay_layer handler_layer handled_layer receive_layer statement_layer (opens.ReceiveBuffers set as' otherwise))

pub holds-ReceiveBuffers : (set : Option (Box Location Global)) (as' : List ReceiveAlternative) (otherwise : Option (List Statement)) (items : Bool) (labels : ℕ) (program : Checked) (body : Body) → (action_ranges (actions.ReceiveBuffers set as' otherwise)).holds items labels program body ≡ is_set set program body && (all_receive Buffers (map receive_in_range as') labels program body && some_statements (option_map (map statement_in_range) otherwise) labels program body)
unfolding action_ranges case_in_range choice_in_range delay_in_range handler_in_range handled_in_range receive_in_range statement_in_range
holds-ReceiveBuffers set as' None items labels program body = ap (λ a. a.holds items labels program body) (ap (fold-Action Acting LabelTest LabelTest LabelTest LabelTest LabelTest ReceiveTest StatementTest action_layer case_layer choice_layer delay_layer handler_layer handled_layer receive_layer statement_layer) (sym (actions.rolls-ReceiveBuffers set as' None)) ∙ fold-roll-Action Acting LabelTest LabelTest LabelTest LabelTest LabelTest ReceiveTest StatementTest action_layer case_layer choice_layer delay_layer handler_layer handled_layer receive_layer statement_layer (opens.ReceiveBuffers set as' None))
holds-ReceiveBuffers set as' (Some given) items labels program body = ap (λ a. a.holds items labels program body) (ap (fold-Action Acting LabelTest LabelTest LabelTest LabelTest LabelTest ReceiveTest StatementTest action_layer case_layer choice_layer delay_layer handler_layer handled_layer receive_layer statement_layer) (sym (actions.rolls-ReceiveBuffers set as' (Some given))) ∙ fold-roll-Action Acting LabelTest LabelTest LabelTest LabelTest LabelTest ReceiveTest StatementTest action_layer case_layer choice_layer delay_layer handler_layer handled_layer receive_layer statement_layer (opens.ReceiveBuffers set as' (Some given)))

pub is_modulion-ReceiveSignals : (set : Option (Box Location Global)) (as' : List ReceiveAlternative) (otherwise : Option (List Statement)) → (action_ranges (actions.ReceiveSignals set as' otherwise)).is_modulion ≡ false
unfolding action_ranges case_in_range choice_in_range delay_in_range handler_in_range handled_in_range receive_in_range statement_in_range
is_modulion-ReceiveSignals set as' otherwise = ap (λ a. a.is_modulion) (ap (fold-Action Acting LabelTest LabelTest LabelTest LabelTest LabelTest ReceiveTest StatementTest action_layer case_layer choice_layer delay_layer handler_layer handled_layer receive_layer statement_layer) (sym (actions.rolls-ReceiveSignals set as' otherwise)) ∙ fold-roll-Action Acting LabelTest LabelTest LabelTest LabelTest LabelTest ReceiveTest StatementTest action_layer case_layer choice_layer delay_layer handler_layer handled_layer receive_layer statement_layer (opens.ReceiveSignals set as' otherwise))

pub holds-ReceiveSignals : (set : Option (Box Location Global)) (as' : List ReceiveAlternative) (otherwise : Option (List Statement)) (items : Bool) (labels : ℕ) (program : Checked) (body : Body) → (action_ranges (actions.ReceiveSignals set as' otherwise)).holds items labels program body ≡ is_set set program body && (all_receive Signals (map receive_in_range as') labels program body && some_statements (option_map (map statement_in_range) otherwise) labels program body)
unfolding action_ranges case_in_range choice_in_range delay_in_range handler_in_range handled_in_range receive_in_range statement_in_range
holds-ReceiveSignals set as' None items labels program body = ap (λ a. a.holds items labels program body) (ap (fold-Action Acting LabelTest LabelTest LabelTest LabelTest LabelTest ReceiveTest StatementTest action_layer case_layer choice_layer delay_layer handler_layer handled_layer receive_layer statement_layer) (sym (actions.rolls-ReceiveSignals set as' None)) ∙ fold-roll-Action Acting LabelTest LabelTest LabelTest LabelTest LabelTest ReceiveTest StatementTest action_layer case_layer choice_layer delay_layer handler_layer handled_layer receive_layer statement_layer (opens.ReceiveSignals set as' None))
holds-ReceiveSignals set as' (Some given) items labels program body = ap (λ a. a.holds items labels program body) (ap (fold-Action Acting LabelTest LabelTest LabelTest LabelTest LabelTest ReceiveTest StatementTest action_layer case_layer choice_layer delay_layer handler_layer handled_layer receive_layer statement_layer) (sym (actions.rolls-ReceiveSignals set as' (Some given))) ∙ fold-roll-Action Acting LabelTest LabelTest LabelTest LabelTest LabelTest ReceiveTest StatementTest action_layer case_layer choice_layer delay_layer handler_layer handled_layer receive_layer statement_layer (opens.ReceiveSignals set as' (Some given)))

pub case_in_range-out : (a : CaseAlternative) (labels : ℕ) (program : Checked) (body : Body) → case_in_range a labels program body ≡ statements_hold false (map statement_in_range (out-CaseAlternative a).actions) labels program body
unfolding action_ranges case_in_range choice_in_range delay_in_range handler_in_range handled_in_range receive_in_range statement_in_range
case_in_range-out a labels program body = ap (λ f. f labels program body) (fold_out-CaseAlternative Acting LabelTest LabelTest LabelTest LabelTest LabelTest ReceiveTest StatementTest action_layer case_layer choice_layer delay_layer handler_layer handled_layer receive_layer statement_layer a)

pub choice_in_range-out : (c : Choice) (labels : ℕ) (program : Checked) (body : Body) → choice_in_range c labels program body ≡ is_number (expr_ranges (out-Choice c).condition.value) program body && statements_hold false (map statement_in_range (out-Choice c).actions) labels program body
unfolding action_ranges case_in_range choice_in_range delay_in_range handler_in_range handled_in_range receive_in_range statement_in_range
choice_in_range-out c labels program body = ap (λ f. f labels program body) (fold_out-Choice Acting LabelTest LabelTest LabelTest LabelTest LabelTest ReceiveTest StatementTest action_layer case_layer choice_layer delay_layer handler_layer handled_layer receive_layer statement_layer c)

pub delay_in_range-out : (a : DelayAlternative) (labels : ℕ) (program : Checked) (body : Body) → delay_in_range a labels program body ≡ all_below (length program.events) (out-DelayAlternative a).events && statements_hold false (map statement_in_range (out-DelayAlternative a).actions) labels program body
unfolding action_ranges case_in_range choice_in_range delay_in_range handler_in_range handled_in_range receive_in_range statement_in_range
delay_in_range-out a labels program body = ap (λ f. f labels program body) (fold_out-DelayAlternative Acting LabelTest LabelTest LabelTest LabelTest LabelTest ReceiveTest StatementTest action_layer case_layer choice_layer delay_layer handler_layer handled_layer receive_layer statement_layer a)

pub receive_in_range-out : (a : ReceiveAlternative) (source : Source) (labels : ℕ) (program : Checked) (body : Body) → receive_in_range a source labels program body ≡ parts_received source (out-ReceiveAlternative a).source 0 (out-ReceiveAlternative a).received program body && (locals_follow None (out-ReceiveAlternative a).received body && statements_hold false (map statement_in_range (out-ReceiveAlternative a).actions) labels program body)
unfolding action_ranges case_in_range choice_in_range delay_in_range handler_in_range handled_in_range receive_in_range statement_in_range
receive_in_range-out a source labels program body = ap (λ f. f source labels program body) (fold_out-ReceiveAlternative Acting LabelTest LabelTest LabelTest LabelTest LabelTest ReceiveTest StatementTest action_layer case_layer choice_layer delay_layer handler_layer handled_layer receive_layer statement_layer a)

pub handled_in_range-out : (a : HandlerAlternative) (labels : ℕ) (program : Checked) (body : Body) → handled_in_range a labels program body ≡ all_exceptions (out-HandlerAlternative a).exceptions program && statements_hold false (map statement_in_range (out-HandlerAlternative a).actions) labels program body
unfolding action_ranges case_in_range choice_in_range delay_in_range handler_in_range handled_in_range receive_in_range statement_in_range
handled_in_range-out a labels program body = ap (λ f. f labels program body) (fold_out-HandlerAlternative Acting LabelTest LabelTest LabelTest LabelTest LabelTest ReceiveTest StatementTest action_layer case_layer choice_layer delay_layer handler_layer handled_layer receive_layer statement_layer a)

handler_fields : (as' : List HandlerAlternative) (otherwise : Option (List Statement)) (labels : ℕ) (program : Checked) (body : Body) → handler_layer (map-Handler Action CaseAlternative Choice DelayAlternative Handler HandlerAlternative ReceiveAlternative Statement Acting LabelTest LabelTest LabelTest LabelTest LabelTest ReceiveTest StatementTest action_ranges case_in_range choice_in_range delay_in_range handler_in_range handled_in_range receive_in_range statement_in_range (record { alternatives = as'; otherwise = otherwise })) labels program body ≡ all_within (map handled_in_range as') labels program body && some_statements (option_map (map statement_in_range) otherwise) labels program body
handler_fields as' None labels program body = refl
handler_fields as' (Some ss) labels program body = refl

pub handler_in_range-out : (h : Handler) (labels : ℕ) (program : Checked) (body : Body) → handler_in_range h labels program body ≡ all_within (map handled_in_range (out-Handler h).alternatives) labels program body && some_statements (option_map (map statement_in_range) (out-Handler h).otherwise) labels program body
unfolding action_ranges case_in_range choice_in_range delay_in_range handler_in_range handled_in_range receive_in_range statement_in_range
handler_in_range-out h labels program body = ap (λ f. f labels program body) (fold_out-Handler Acting LabelTest LabelTest LabelTest LabelTest LabelTest ReceiveTest StatementTest action_layer case_layer choice_layer delay_layer handler_layer handled_layer receive_layer statement_layer h) ∙ handler_fields (out-Handler h).alternatives (out-Handler h).otherwise labels program body

statement_fields : (labelled : Bool) (a : Box Action Global) (handler : Option (Box Handler Global)) (items : Bool) (labels : ℕ) (program : Checked) (body : Body) → statement_layer (map-Statement Action CaseAlternative Choice DelayAlternative Handler HandlerAlternative ReceiveAlternative Statement Acting LabelTest LabelTest LabelTest LabelTest LabelTest ReceiveTest StatementTest action_ranges case_in_range choice_in_range delay_in_range handler_in_range handled_in_range receive_in_range statement_in_range (record { labelled = labelled; action = a; handler = handler })) items labels program body ≡ (action_ranges a.value).holds items (labels_inside (action_ranges a.value).is_modulion labelled labels) program body && some_within (option_map (λ h. handler_in_range h.value) handler) (labels_inside (action_ranges a.value).is_modulion labelled labels) program body
statement_fields labelled a None items labels program body = refl
statement_fields labelled a (Some h) items labels program body = refl

pub statement_in_range-out : (s : Statement) (items : Bool) (labels : ℕ) (program : Checked) (body : Body) → statement_in_range s items labels program body ≡ (action_ranges (out-Statement s).action.value).holds items (labels_inside (action_ranges (out-Statement s).action.value).is_modulion (out-Statement s).labelled labels) program body && some_within (option_map (λ h. handler_in_range h.value) (out-Statement s).handler) (labels_inside (action_ranges (out-Statement s).action.value).is_modulion (out-Statement s).labelled labels) program body
unfolding action_ranges case_in_range choice_in_range delay_in_range handler_in_range handled_in_range receive_in_range statement_in_range
statement_in_range-out s items labels program body = ap (λ f. f items labels program body) (fold_out-Statement Acting LabelTest LabelTest LabelTest LabelTest LabelTest ReceiveTest StatementTest action_layer case_layer choice_layer delay_layer handler_layer handled_layer receive_layer statement_layer s) ∙ statement_fields (out-Statement s).labelled (out-Statement s).action (out-Statement s).handler items labels program body

pub ruleset statement_built = (holds-Nothing, holds-Declare, holds-Lowest, holds-Module, holds-Region, holds-Assign, holds-Update, holds-Call, holds-Routine, holds-Evaluate, holds-PutInt, holds-PutText, holds-PutLine, holds-Exit, holds-Return, holds-Result, holds-Assert, holds-Cause, holds-Stop, holds-Start, holds-Delay, holds-Continue, holds-Send, holds-If, holds-Case, holds-Do, holds-Begin, holds-DelayCase, holds-ReceiveBuffers, holds-ReceiveSignals, case_in_range-out, choice_in_range-out, delay_in_range-out, receive_in_range-out, handled_in_range-out, handler_in_range-out, statement_in_range-out)

pub ruleset modulion_built = (is_modulion-Nothing, is_modulion-Declare, is_modulion-Lowest, is_modulion-Module, is_modulion-Region, is_modulion-Assign, is_modulion-Update, is_modulion-Call, is_modulion-Routine, is_modulion-Evaluate, is_modulion-PutInt, is_modulion-PutText, is_modulion-PutLine, is_modulion-Exit, is_modulion-Return, is_modulion-Result, is_modulion-Assert, is_modulion-Cause, is_modulion-Stop, is_modulion-Start, is_modulion-Delay, is_modulion-Continue, is_modulion-Send, is_modulion-If, is_modulion-Case, is_modulion-Do, is_modulion-Begin, is_modulion-DelayCase, is_modulion-ReceiveBuffers, is_modulion-ReceiveSignals)
