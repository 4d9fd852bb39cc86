use Rattle.std.proofs.Common.{◌≡◌, Bool, true, false, ap, sym, ◌∙◌, map, option_map}
use Rattle.std.specs.Prelude.{◌&&◌}
use Rattle.program_ranges.specs.declared.messages.Source.TheVariants.{Buffers, Signals}
use Rattle.program_ranges.specs.ExprRanges.{is_number, expr_ranges}
use Rattle.program_ranges.specs.StatementRanges.{statements_hold, some_statements, all_within, all_receive, action_ranges, case_in_range, receive_in_range, statement_in_range}
use Rattle.program_ranges.proofs.StatementViews.{holds-Case, holds-ReceiveBuffers, holds-ReceiveSignals}
use Rattle.program_ranges.proofs.statements.+statement.Goals as goal

-- the answer of the last of three tests, the others being met, is that of all
last_of : (x m n s q r t : Bool) → x ≡ m && (n && s) → q ≡ m → q ≡ true → r ≡ n → r ≡ true → t ≡ s → t ≡ x
last_of x m n s q r t view first met second met' third = third ∙ sym (view ∙ ap (λ y. y && (n && s)) (sym first ∙ met) ∙ ap (λ y. y && s) (sym second ∙ met'))

pub action_in_range-returns-in-Some : goal.action_in_range-returns-in-Some
action_in_range-returns-in-Some t c =
    last_of _ _ _ _ _ _ _
    (ap (λ a. (action_ranges a).holds c.args.items c.args.labels c.args.program.now c.args.body.now) c.in-Case.is ∙ holds-Case c.in-Case.selector c.in-Case.alternatives c.in-Case.otherwise c.args.items c.args.labels c.args.program.now c.args.body.now)
    (c.is_number-in-Case.ensures ∙ ap (λ e. is_number (expr_ranges e) c.args.program.now c.args.body.now) c.deref-in-Case.ensures)
    c.if-is_number.true
    (c.cases_in_range.ensures ∙ ap (λ xs. all_within (map case_in_range xs) c.args.labels c.args.program.now c.args.body.now) c.as_slice-then-is_number.ensures)
    c.if-cases_in_range.true
    (c.statements_hold-in-Some.ensures ∙ ap (λ xs. statements_hold false (map statement_in_range xs) c.args.labels c.args.program.now c.args.body.now) c.as_slice-in-Some.ensures ∙ ap (λ o. some_statements (option_map (map statement_in_range) o) c.args.labels c.args.program.now c.args.body.now) (sym c.in-Some.is))

pub action_in_range-returns-in-Some-otherwise : goal.action_in_range-returns-in-Some-otherwise
action_in_range-returns-in-Some-otherwise t c =
    last_of _ _ _ _ _ _ _
    (ap (λ a. (action_ranges a).holds c.args.items c.args.labels c.args.program.now c.args.body.now) c.in-ReceiveBuffers.is ∙ holds-ReceiveBuffers c.in-ReceiveBuffers.set c.in-ReceiveBuffers.alternatives c.in-ReceiveBuffers.otherwise c.args.items c.args.labels c.args.program.now c.args.body.now)
    c.is_set-in-ReceiveBuffers.ensures
    c.if-is_set-2.true
    (c.all_receive.ensures ∙ ap (λ xs. all_receive Buffers (map receive_in_range xs) c.args.labels c.args.program.now c.args.body.now) c.as_slice-then-is_set-2.ensures)
    c.if-all_receive.true
    (c.statements_hold-in-Some-otherwise.ensures ∙ ap (λ xs. statements_hold false (map statement_in_range xs) c.args.labels c.args.program.now c.args.body.now) c.as_slice-in-Some-otherwise.ensures ∙ ap (λ o. some_statements (option_map (map statement_in_range) o) c.args.labels c.args.program.now c.args.body.now) (sym c.in-Some-otherwise.is))

pub action_in_range-returns-in-Some-otherwise-2 : goal.action_in_range-returns-in-Some-otherwise-2
action_in_range-returns-in-Some-otherwise-2 t c =
    last_of _ _ _ _ _ _ _
    (ap (λ a. (action_ranges a).holds c.args.items c.args.labels c.args.program.now c.args.body.now) c.in-ReceiveSignals.is ∙ holds-ReceiveSignals c.in-ReceiveSignals.set c.in-ReceiveSignals.alternatives c.in-ReceiveSignals.otherwise c.args.items c.args.labels c.args.program.now c.args.body.now)
    c.is_set-in-ReceiveSignals.ensures
    c.if-is_set-3.true
    (c.all_receive-then-is_set-3.ensures ∙ ap (λ xs. all_receive Signals (map receive_in_range xs) c.args.labels c.args.program.now c.args.body.now) c.as_slice-then-is_set-3.ensures)
    c.if-all_receive-2.true
    (c.statements_hold-in-Some-otherwise-2.ensures ∙ ap (λ xs. statements_hold false (map statement_in_range xs) c.args.labels c.args.program.now c.args.body.now) c.as_slice-in-Some-otherwise-2.ensures ∙ ap (λ o. some_statements (option_map (map statement_in_range) o) c.args.labels c.args.program.now c.args.body.now) (sym c.in-Some-otherwise-2.is))
