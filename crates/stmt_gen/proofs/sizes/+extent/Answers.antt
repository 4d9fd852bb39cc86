use Rattle.std.proofs.Common.{◌≤◌, ◌∙◌, ap, List, Option, arith, rules}
use Rattle.checked_program.specs.declared.statement.Action.TheVariants as actions
use Rattle.checked_program.specs.declared.statement.Statement.{Statement}
use Rattle.stmt_gen.proofs.Extents.{last_joined, handled_counted, choices_counted, cases_counted, delays_counted, receives_counted, guarded_counted, if_counted, case_counted, statements_none}
use Rattle.code_scheme.specs.StatementSize.{cases_size, receives_size}
use Rattle.action_gen.specs.Putting.{site_tree}
use Rattle.action_gen.specs.Trees.{cases_of, receives_of}
use Rattle.stmt_gen.proofs.sizes.+extent.Goals as goal

pub statements_size-returns : goal.statements_size-returns
statements_size-returns t c =
    omega (arith, statements_none (site_tree c.args.site.now) c.args.statements.now c.loop-statement.statement-index c.loop-statement-test.false, c.loop-statement.invariant.counted, c.loop-statement.invariant.few)

pub statement_size-returns-in-Some : goal.statement_size-returns-in-Some
statement_size-returns-in-Some t c =
    let few : c.then-in-Some.result.size ≤ 4294967295 = search (rules, arith) in
    guarded_counted _ c.args.statement.now c.in-Some.handler c.deref.result.now c.deref-in-Some.result.now c.deref-in-Some-2.result.now c.none.result c.then.result c.then-in-Some.result c.action_size-size.result c.handled_size.result c.action_goes_on.result
    c.in-Some.is c.deref.ensures c.deref-in-Some.ensures c.deref-in-Some-2.ensures c.action_size-size.ensures c.action_goes_on.ensures c.handled_size.ensures c.none.ensures c.then.ensures c.then-in-Some.ensures few

pub action_size-returns-in-If : goal.action_size-returns-in-If
action_size-returns-in-If t c =
    let few : c.then.result.size ≤ 4294967295 = search (rules, arith) in
    if_counted _ c.args.action.now c.in-If.choices c.as_slice.result.now c.in-If.otherwise c.as_slice-in-If.result.now c.choices_joined.result c.then.result c.statements_size.result
    c.in-If.is c.as_slice.ensures c.as_slice-in-If.ensures c.choices_joined.ensures c.statements_size.ensures c.then.ensures few

pub choices_joined-loop-choice-preserved : goal.choices_joined-loop-choice-preserved
choices_joined-loop-choice-preserved t c =
    choices_counted _ c.args.choices.now c.loop-choice.choice-index c.choice-item.result c.as_slice.result.now _ c.loop-choice.joined c.then-joined.result c.choice_size.result c.go_on.result
    c.loop-choice-test.true c.choice-item.is c.as_slice.ensures c.choice_size.ensures c.go_on.ensures c.then-joined.ensures c.loop-choice.invariant

pub handled_joined-loop-alternative-preserved : goal.handled_joined-loop-alternative-preserved
handled_joined-loop-alternative-preserved t c =
    handled_counted _ c.args.alternatives.now c.loop-alternative.alternative-index c.alternative-item.result c.as_slice-actions.result.now _ c.loop-alternative.joined c.then-joined.result c.statements_size.result c.go_on.result
    c.loop-alternative-test.true c.alternative-item.is c.as_slice-actions.ensures c.statements_size.ensures c.go_on.ensures c.then-joined.ensures c.loop-alternative.invariant

pub cases_joined-loop-alternative-preserved : goal.cases_joined-loop-alternative-preserved
cases_joined-loop-alternative-preserved t c =
    cases_counted _ c.args.alternatives.now c.loop-alternative.alternative-index c.alternative-item.result c.as_slice-actions.result.now _ c.loop-alternative.joined c.then-joined.result c.as_slice.result.now c.labels_size-size.result c.chosen_size.result c.saturating_add.result c.go_on.result
    c.loop-alternative-test.true c.alternative-item.is c.as_slice-actions.ensures c.as_slice.ensures c.labels_size-size.ensures c.chosen_size.ensures c.saturating_add.ensures c.go_on.ensures c.then-joined.ensures c.loop-alternative.invariant

pub delays_joined-loop-alternative-preserved : goal.delays_joined-loop-alternative-preserved
delays_joined-loop-alternative-preserved t c =
    delays_counted _ c.args.alternatives.now c.loop-alternative.alternative-index c.alternative-item.result c.as_slice-actions.result.now _ c.loop-alternative.joined c.then-joined.result c.chosen_size.result c.saturating_add.result c.go_on.result
    c.loop-alternative-test.true c.alternative-item.is c.as_slice-actions.ensures c.chosen_size.ensures c.saturating_add.ensures c.go_on.ensures c.then-joined.ensures c.loop-alternative.invariant

pub receives_joined-loop-alternative-preserved : goal.receives_joined-loop-alternative-preserved
receives_joined-loop-alternative-preserved t c =
    receives_counted _ c.args.alternatives.now c.loop-alternative.alternative-index c.alternative-item.result c.as_slice-actions.result.now _ c.loop-alternative.joined c.then-joined.result c.chosen_size.result c.saturating_add.result c.go_on.result
    c.loop-alternative-test.true c.alternative-item.is c.as_slice-actions.ensures c.chosen_size.ensures c.saturating_add.ensures c.go_on.ensures c.then-joined.ensures c.loop-alternative.invariant

pub alternatives_size-returns : goal.alternatives_size-returns
alternatives_size-returns t c n e =
    let few : c.then.result.size ≤ 4294967295 = search (rules, arith) in
    last_joined c.handled_joined.result c.then.result _ c.args.last n c.handled_joined.ensures c.then.ensures e few

pub case_size-returns : goal.case_size-returns
case_size-returns t c n e =
    let few : c.then.result.size ≤ 4294967295 = search (rules, arith) in
    omega (arith, last_joined c.cases_joined.result c.then.result (cases_size (site_tree c.args.site.now) (cases_of c.args.alternatives.now)) c.args.last n c.cases_joined.ensures c.then.ensures e few, c.expr_size.ensures, c.saturating_add.ensures, c.saturating_add-2.ensures)

pub receive_case_size-returns : goal.receive_case_size-returns
receive_case_size-returns t c n e =
    let few : c.then.result.size ≤ 4294967295 = search (rules, arith) in
    omega (arith, last_joined c.receives_joined.result c.then.result (receives_size (site_tree c.args.site.now) (receives_of c.args.alternatives.now)) c.args.last n c.receives_joined.ensures c.then.ensures e few, c.receive_wait_size.ensures, c.saturating_add.ensures)

pub choosing_size-returns-in-Some : goal.choosing_size-returns-in-Some
choosing_size-returns-in-Some t c chosen =
    case_counted (site_tree c.args.site.now) c.args.action.now c.in-Case.selector c.in-Case.alternatives c.as_slice-in-Some.result.now c.in-Some.actions c.as_slice.result.now c.deref.result.now c.statements_size-last.result c.case_size.result
    (c.in-Case.is ∙ ap (λ (o : Option (List Statement)). actions.Case c.in-Case.selector c.in-Case.alternatives o) c.in-Some.is)
    c.as_slice-in-Some.ensures c.as_slice.ensures c.deref.ensures c.statements_size-last.ensures c.case_size.ensures
