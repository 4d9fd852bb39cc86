use Rattle.std.proofs.Common.{ℕ, ◌+◌, ◌≡◌, ◌≤◌, true, false, length, refl, sym, ap, ◌∙◌, arith}
use Rattle.std.proofs.lemmas.Result.{on_ok_weaker}
use Rattle.checked_program.specs.declared.statement.DelayAlternative.{DelayAlternative, out-DelayAlternative}
use Rattle.checked_program.specs.declared.statement.ReceiveAlternative.{ReceiveAlternative, out-ReceiveAlternative}
use Rattle.program_trees.specs.StatementTree.{statement_tree, action_tree, handler_tree}
use Rattle.code_scheme.specs.Pieces.{capped}
use Rattle.code_scheme.specs.StatementGoing.{go_on, leave_size}
use Rattle.code_scheme.specs.StatementSize.{statement_size, handler_size, action_size}
use Rattle.stmt_gen.specs.Holding.{site_around}
use Rattle.stmt_gen.proofs.Front.{still_front, front_on, front_as}
use Rattle.stmt_gen.proofs.Held.{statements_begin, statements_turn, statements_stop, statements_end, unlabelled, labelled, with_handler, without_handler, handler_told, handled_begin, handled_turn, handled_end, else_told, no_else, joining_told, chosen_told, choice_told, choices_begin, choices_turn, choices_end, cases_begin, cases_turn, loop_again, loop_left, delays_begin, delays_turn, delays_end, receives_begin, receives_turn, receives_end, receive_told, plain_told, action_told, if_told, do_told, begin_told, case_told, delay_told, buffers_told, signals_told, else_written, cases_end, else_unlabelled, raise_unlabelled}
use Rattle.stmt_gen.proofs.statements.+statement.Goals as goal

pub put_statements-loop-statement-init : goal.put_statements-loop-statement-init
put_statements-loop-statement-init t c = record { left = statements_begin c.args.around.now c.args.statements.now c.args.draft.now; keeps = front_as refl }

pub put_statements-loop-statement-preserved : goal.put_statements-loop-statement-preserved
put_statements-loop-statement-preserved t c = record {
  left = statements_turn c.args.around.now c.args.statements.now c.loop-statement.statement-index c.statement-item.result c.loop-statement-test.true c.statement-item.is
      (sym c.goes_on.ensures ∙ c.if-not-goes_on.false) c.loop-statement.invariant.left c.in_ok-put_statement.ensures.puts;
  keeps = front_on c.loop-statement.invariant.keeps c.in_ok-put_statement.ensures.keeps;
}

pub put_statements-returns-then-not-goes_on-clause-puts : goal.put_statements-returns-then-not-goes_on-clause-puts
put_statements-returns-then-not-goes_on-clause-puts t c =
    statements_stop c.args.around.now c.args.statements.now c.loop-statement.statement-index c.statement-item.result c.loop-statement-test.true c.statement-item.is
    (sym c.goes_on.ensures ∙ c.if-not-goes_on.true) c.loop-statement.invariant.left c.in_ok-put_statement.ensures.puts

pub put_statements-returns-clause-puts : goal.put_statements-returns-clause-puts
put_statements-returns-clause-puts t c = statements_end c.args.around.now c.args.statements.now c.loop-statement.statement-index c.loop-statement-test.false c.loop-statement.invariant.left

pub put_statement-returns-then-not-statement-clause-puts : goal.put_statement-returns-then-not-statement-clause-puts
put_statement-returns-then-not-statement-clause-puts t c =
    on_ok_weaker c.put_guarded.result (λ q. unlabelled c.args.around.now c.args.statement.now c.if-not-statement.true q) c.put_guarded.ensures.puts

pub put_statement-returns-clause-puts : goal.put_statement-returns-clause-puts
put_statement-returns-clause-puts t c =
    let there = c.in_ok-behind.ensures (statement_size (site_around c.args.around.now) (statement_tree c.args.statement.now)) c.statement_size.ensures in
    on_ok_weaker c.put_guarded-2.result (λ q. labelled c.args.around.now _ c.args.statement.now c.in_ok-behind.behind c.if-not-statement.false refl refl (c.deref.ensures.value ∙ c.in_ok-exits.ensures) there q) c.put_guarded-2.ensures.puts

pub put_guarded-returns-in-Some-clause-puts : goal.put_guarded-returns-in-Some-clause-puts
put_guarded-returns-in-Some-clause-puts t c =
    let from : c.in_ok-from.from ≡ length c.args.draft.now.code.instrs = omega (arith, c.in_ok-from.ensures 0 refl) in
    on_ok_weaker c.put_handler.result (λ q. with_handler c.args.around.now c.args.statement.now c.deref.result.now c.deref-in-Some.result.now c.in-Some.handler c.deref-in-Some-2.result.now c.action_goes_on-comes.result c.in_ok-from.from
    c.deref.ensures c.deref-in-Some.ensures c.in-Some.is c.deref-in-Some-2.ensures from c.action_goes_on-comes.ensures c.in_ok-put_action.ensures.puts q) c.put_handler.ensures.puts

pub put_guarded-returns-in-None-clause-puts : goal.put_guarded-returns-in-None-clause-puts
put_guarded-returns-in-None-clause-puts t c = without_handler c.args.around.now c.args.statement.now c.deref.result.now c.deref.ensures c.in-None.is c.in_ok-put_action.ensures.puts

pub put_handler-returns-in-Some-clause-puts : goal.put_handler-returns-in-Some-clause-puts
put_handler-returns-in-Some-clause-puts t c =
    let jump = c.leaving_size-jump.ensures (handler_size (site_around c.args.around.now) (handler_tree c.args.handler.now)) c.handled_size-size.ensures in
    let until : c.in_ok-until.until ≡ length c.args.draft.now.code.instrs = omega (arith, c.in_ok-until.ensures 0 refl) in
    let behind = c.in_ok-behind.ensures (leave_size c.args.comes (handler_size (site_around c.args.around.now) (handler_tree c.args.handler.now)) + handler_size (site_around c.args.around.now) (handler_tree c.args.handler.now))
    (omega (arith, jump, c.handled_size-size.ensures, c.saturating_add.ensures)) in
    let target = c.in_ok-target_behind.ensures (leave_size c.args.comes (handler_size (site_around c.args.around.now) (handler_tree c.args.handler.now))) (omega (arith, jump)) in
    on_ok_weaker c.put_statements.result (λ q. handler_told c.args.around.now c.args.handler.now c.as_slice.result.now _ _ c.args.comes c.in_ok-behind.behind c.as_slice.ensures refl until target behind
    c.in_ok-put_rows.ensures.puts c.in_ok-put_leaving.ensures.puts c.in_ok-put_handled.ensures.puts
    (else_told c.args.around.now _ c.in-Some.actions c.as_slice-in-Some.result.now c.in-Some.is c.as_slice-in-Some.ensures q)) c.put_statements.ensures.puts

pub put_handler-returns-in-None-clause-puts : goal.put_handler-returns-in-None-clause-puts
put_handler-returns-in-None-clause-puts t c =
    let jump = c.leaving_size-jump.ensures (handler_size (site_around c.args.around.now) (handler_tree c.args.handler.now)) c.handled_size-size.ensures in
    let until : c.in_ok-until.until ≡ length c.args.draft.now.code.instrs = omega (arith, c.in_ok-until.ensures 0 refl) in
    let behind = c.in_ok-behind.ensures (leave_size c.args.comes (handler_size (site_around c.args.around.now) (handler_tree c.args.handler.now)) + handler_size (site_around c.args.around.now) (handler_tree c.args.handler.now))
    (omega (arith, jump, c.handled_size-size.ensures, c.saturating_add.ensures)) in
    let target = c.in_ok-target_behind.ensures (leave_size c.args.comes (handler_size (site_around c.args.around.now) (handler_tree c.args.handler.now))) (omega (arith, jump)) in
    handler_told c.args.around.now c.args.handler.now c.as_slice.result.now _ _ c.args.comes c.in_ok-behind.behind c.as_slice.ensures refl until target behind
    c.in_ok-put_rows.ensures.puts c.in_ok-put_leaving.ensures.puts c.in_ok-put_handled.ensures.puts (no_else c.args.around.now _ _ c.in-None.is)

pub put_handled-loop-alternative-init : goal.put_handled-loop-alternative-init
put_handled-loop-alternative-init t c = record { left = handled_begin c.args.around.now c.args.alternatives.now c.args.behind c.args.draft.now; keeps = front_as refl }

pub put_handled-loop-alternative-preserved : goal.put_handled-loop-alternative-preserved
put_handled-loop-alternative-preserved t c = record {
  left = handled_turn c.args.around.now c.args.alternatives.now c.loop-alternative.alternative-index c.alternative-item.result c.as_slice.result.now c.args.behind
      c.loop-alternative-test.true c.alternative-item.is c.as_slice.ensures c.loop-alternative.invariant.left c.in_ok-put_joining.ensures.puts;
  keeps = front_on c.loop-alternative.invariant.keeps c.in_ok-put_joining.ensures.keeps;
}

pub put_handled-returns-clause-puts : goal.put_handled-returns-clause-puts
put_handled-returns-clause-puts t c = handled_end c.args.around.now c.args.alternatives.now c.loop-alternative.alternative-index c.args.behind c.loop-alternative-test.false c.loop-alternative.invariant.left

pub put_joining-returns-clause-puts : goal.put_joining-returns-clause-puts
put_joining-returns-clause-puts t c =
    on_ok_weaker c.put_leaving.result (λ q. joining_told c.args.around.now c.args.actions.now c.args.actions.now c.go_on.result c.args.behind c.go_on.ensures c.in_ok-put_statements.ensures.puts q) c.put_leaving.ensures.puts

pub put_chosen-returns-clause-puts : goal.put_chosen-returns-clause-puts
put_chosen-returns-clause-puts t c =
    on_ok_weaker c.put_joining.result (λ q. chosen_told c.args.around.now c.args.actions.now c.args.behind c.next_place.result c.go_on.result c.go_on.ensures
    (λ n rest is. c.next_place.ensures n rest (c.chosen_size-size.ensures ∙ ap (λ (k : ℕ). capped k) (sym is))) c.in_ok-put.ensures.puts q) c.put_joining.ensures.puts

pub put_action-returns-then-not-holds_statements-clause-puts : goal.put_action-returns-then-not-holds_statements-clause-puts
put_action-returns-then-not-holds_statements-clause-puts t c =
    let none = sym c.holds_statements.ensures ∙ c.if-not-holds_statements.true in
    on_ok_weaker c.put_plain.result (λ q. action_told c.args.around.now c.args.action.now _ refl (plain_told c.args.around.now c.args.action.now _ none q)) (c.put_plain.ensures.puts none)

pub put_action-returns-then-is_structured-clause-puts : goal.put_action-returns-then-is_structured-clause-puts
put_action-returns-then-is_structured-clause-puts t c =
    let there = c.in_ok-behind.ensures (action_size (site_around c.args.around.now) (action_tree c.args.action.now)) c.action_size.ensures in
    on_ok_weaker c.put_structured.result (λ q. action_told c.args.around.now c.args.action.now c.in_ok-behind.behind there q) c.put_structured.ensures.puts

pub put_action-returns-else-is_structured-clause-puts : goal.put_action-returns-else-is_structured-clause-puts
put_action-returns-else-is_structured-clause-puts t c =
    let there = c.in_ok-behind.ensures (action_size (site_around c.args.around.now) (action_tree c.args.action.now)) c.action_size.ensures in
    on_ok_weaker c.put_waiting.result (λ q. action_told c.args.around.now c.args.action.now c.in_ok-behind.behind there q) c.put_waiting.ensures.puts

pub put_structured-returns-in_ok-put_choices-in-If-clause-puts : goal.put_structured-returns-in_ok-put_choices-in-If-clause-puts
put_structured-returns-in_ok-put_choices-in-If-clause-puts t c =
    on_ok_weaker c.put_statements.result (λ q. (if_told c.args.around.now c.args.action.now c.in-If.choices c.as_slice.result.now c.in-If.otherwise c.as_slice-in-If.result.now c.args.behind c.in-If.is c.as_slice.ensures c.as_slice-in-If.ensures
    c.in_ok-put_choices-in-If.ensures.puts q)) c.put_statements.ensures.puts

pub put_structured-returns-in-Do-clause-puts : goal.put_structured-returns-in-Do-clause-puts
put_structured-returns-in-Do-clause-puts t c =
    on_ok_weaker c.put_do.result (λ q. (do_told c.args.around.now c.args.action.now c.in-Do.control c.deref.result.now c.in-Do.actions c.as_slice-in-Do.result.now c.args.behind c.in-Do.is c.deref.ensures c.as_slice-in-Do.ensures q)) c.put_do.ensures.puts

pub put_structured-returns-in-Begin-clause-puts : goal.put_structured-returns-in-Begin-clause-puts
put_structured-returns-in-Begin-clause-puts t c =
    on_ok_weaker c.put_statements-in-Begin.result (λ q. (begin_told c.args.around.now c.args.action.now c.in-Begin.actions c.as_slice-in-Begin.result.now c.args.behind c.in-Begin.is c.as_slice-in-Begin.ensures q)) c.put_statements-in-Begin.ensures.puts

pub put_structured-returns-in-Some-clause-puts : goal.put_structured-returns-in-Some-clause-puts
put_structured-returns-in-Some-clause-puts t c =
    on_ok_weaker c.put_statements-in-Some.result (λ q. (case_told c.args.around.now c.args.action.now c.in-Case.selector c.deref-in-Case.result.now c.in-Case.alternatives c.as_slice-in-Case.result.now c.in-Case.otherwise c.in-Case.otherwise c.args.behind
    c.in-Case.is c.deref-in-Case.ensures c.as_slice-in-Case.ensures refl c.in_ok-put_selector-in-Case.ensures.puts c.in_ok-put_cases-in-Case.ensures.puts
    (else_unlabelled c.args.around.now c.in-Case.otherwise c.in-Some.actions c.as_slice-in-Some.result.now c.in-Some.is c.as_slice-in-Some.ensures q))) c.put_statements-in-Some.ensures.puts

pub put_structured-returns-in-None-clause-puts : goal.put_structured-returns-in-None-clause-puts
put_structured-returns-in-None-clause-puts t c =
    on_ok_weaker c.put.result (λ q. (case_told c.args.around.now c.args.action.now c.in-Case.selector c.deref-in-Case.result.now c.in-Case.alternatives c.as_slice-in-Case.result.now c.in-Case.otherwise c.in-Case.otherwise c.args.behind
    c.in-Case.is c.deref-in-Case.ensures c.as_slice-in-Case.ensures refl c.in_ok-put_selector-in-Case.ensures.puts c.in_ok-put_cases-in-Case.ensures.puts
    (raise_unlabelled c.args.around.now c.in-Case.otherwise c.in-None.is q))) c.put.ensures.puts

pub put_waiting-returns-in_ok-chosen-in-DelayCase-clause-puts : goal.put_waiting-returns-in_ok-chosen-in-DelayCase-clause-puts
put_waiting-returns-in_ok-chosen-in-DelayCase-clause-puts t c =
    on_ok_weaker c.put_delays.result (λ q. delay_told c.args.around.now c.args.action.now c.in-DelayCase.set c.in-DelayCase.priority c.in-DelayCase.alternatives c.as_slice.result.now c.as_slice-in-DelayCase.result.now c.in_ok-chosen-in-DelayCase.chosen c.args.behind
    c.in-DelayCase.is c.as_slice.ensures c.as_slice-in-DelayCase.ensures c.in_ok-chosen-in-DelayCase.ensures c.in_ok-put_delay_wait-in-DelayCase.ensures.puts q) c.put_delays.ensures.puts

pub put_waiting-returns-in-Some-clause-puts : goal.put_waiting-returns-in-Some-clause-puts
put_waiting-returns-in-Some-clause-puts t c =
    on_ok_weaker c.put_statements.result (λ q. (buffers_told c.args.around.now c.args.action.now c.in-ReceiveBuffers.alternatives c.as_slice-in-ReceiveBuffers.result.now c.in-ReceiveBuffers.otherwise c.in-ReceiveBuffers.otherwise _
    c.in-ReceiveBuffers.is c.as_slice-in-ReceiveBuffers.ensures refl refl (c.is_some.ensures ∙ else_written c.in-ReceiveBuffers.otherwise) c.in_ok-put_receive_case-in-ReceiveBuffers.ensures.puts
    (else_told c.args.around.now c.in-ReceiveBuffers.otherwise c.in-Some.actions c.as_slice-in-Some.result.now c.in-Some.is c.as_slice-in-Some.ensures q))) c.put_statements.ensures.puts

pub put_waiting-returns-in-None-clause-puts : goal.put_waiting-returns-in-None-clause-puts
put_waiting-returns-in-None-clause-puts t c =
    buffers_told c.args.around.now c.args.action.now c.in-ReceiveBuffers.alternatives c.as_slice-in-ReceiveBuffers.result.now c.in-ReceiveBuffers.otherwise c.in-ReceiveBuffers.otherwise _
    c.in-ReceiveBuffers.is c.as_slice-in-ReceiveBuffers.ensures refl refl (c.is_some.ensures ∙ else_written c.in-ReceiveBuffers.otherwise) c.in_ok-put_receive_case-in-ReceiveBuffers.ensures.puts (no_else c.args.around.now c.in-ReceiveBuffers.otherwise _ c.in-None.is)

pub put_waiting-returns-in-Some-otherwise-clause-puts : goal.put_waiting-returns-in-Some-otherwise-clause-puts
put_waiting-returns-in-Some-otherwise-clause-puts t c =
    on_ok_weaker c.put_statements-in-Some-otherwise.result (λ q. (signals_told c.args.around.now c.args.action.now c.in-ReceiveSignals.alternatives c.as_slice-in-ReceiveSignals.result.now c.in-ReceiveSignals.otherwise c.in-ReceiveSignals.otherwise _
    c.in-ReceiveSignals.is c.as_slice-in-ReceiveSignals.ensures refl refl (c.is_some-in-ReceiveSignals.ensures ∙ else_written c.in-ReceiveSignals.otherwise) c.in_ok-put_receive_case-in-ReceiveSignals.ensures.puts
    (else_told c.args.around.now c.in-ReceiveSignals.otherwise c.in-Some-otherwise.actions c.as_slice-in-Some-otherwise.result.now c.in-Some-otherwise.is c.as_slice-in-Some-otherwise.ensures q))) c.put_statements-in-Some-otherwise.ensures.puts

pub put_waiting-returns-in-None-otherwise-clause-puts : goal.put_waiting-returns-in-None-otherwise-clause-puts
put_waiting-returns-in-None-otherwise-clause-puts t c =
    signals_told c.args.around.now c.args.action.now c.in-ReceiveSignals.alternatives c.as_slice-in-ReceiveSignals.result.now c.in-ReceiveSignals.otherwise c.in-ReceiveSignals.otherwise _
    c.in-ReceiveSignals.is c.as_slice-in-ReceiveSignals.ensures refl refl (c.is_some-in-ReceiveSignals.ensures ∙ else_written c.in-ReceiveSignals.otherwise) c.in_ok-put_receive_case-in-ReceiveSignals.ensures.puts (no_else c.args.around.now c.in-ReceiveSignals.otherwise _ c.in-None-otherwise.is)

pub put_receive_case-returns-clause-puts : goal.put_receive_case-returns-clause-puts
put_receive_case-returns-clause-puts t c =
    let fits : c.args.wait.behind ≤ 4294967295 = omega arith in
    on_ok_weaker c.put_receives.result (λ q. receive_told c.args.around.now c.args.alternatives.now c.args.otherwise.now c.args.wait _ c.otherwise_size-last.result c.saturating_sub-nothing.result
    fits (c.otherwise_size-last.ensures 0 refl) c.saturating_sub-nothing.ensures c.in_ok-chosen.ensures refl c.in_ok-put_receive_wait.ensures.puts q) c.put_receives.ensures.puts

pub put_choices-loop-choice-init : goal.put_choices-loop-choice-init
put_choices-loop-choice-init t c = record { left = choices_begin c.args.around.now c.args.choices.now c.args.behind c.args.draft.now; keeps = front_as refl }

pub put_choices-loop-choice-preserved : goal.put_choices-loop-choice-preserved
put_choices-loop-choice-preserved t c = record {
  left = choices_turn c.args.around.now c.args.choices.now c.loop-choice.choice-index c.choice-item.result c.args.behind c.loop-choice-test.true c.choice-item.is
      c.loop-choice.invariant.left c.in_ok-put_choice.ensures.puts;
  keeps = front_on c.loop-choice.invariant.keeps c.in_ok-put_choice.ensures.keeps;
}

pub put_choices-returns-clause-puts : goal.put_choices-returns-clause-puts
put_choices-returns-clause-puts t c = choices_end c.args.around.now c.args.choices.now c.loop-choice.choice-index c.args.behind c.loop-choice-test.false c.loop-choice.invariant.left

pub put_choice-returns-clause-puts : goal.put_choice-returns-clause-puts
put_choice-returns-clause-puts t c =
    on_ok_weaker c.put_joining.result (λ q. choice_told c.args.around.now c.args.choice.now c.deref.result.now c.as_slice-actions.result.now c.args.behind c.next_place.result c.go_on.result
    c.deref.ensures c.as_slice-actions.ensures c.go_on.ensures
    (λ n rest is. c.next_place.ensures n rest (c.choice_size-size.ensures ∙ ap (λ (k : ℕ). capped k) (sym is))) c.in_ok-put_condition.ensures.puts q) c.put_joining.ensures.puts

pub put_cases-loop-alternative-init : goal.put_cases-loop-alternative-init
put_cases-loop-alternative-init t c = record { left = cases_begin c.args.around.now c.args.alternatives.now c.args.behind c.args.draft.now; keeps = front_as refl }

pub put_cases-loop-alternative-preserved : goal.put_cases-loop-alternative-preserved
put_cases-loop-alternative-preserved t c = record {
  left = cases_turn c.args.around.now c.args.alternatives.now c.loop-alternative.alternative-index c.alternative-item.result c.as_slice.result.now c.as_slice-in-loop-alternative.result.now c.args.behind
      c.loop-alternative-test.true c.alternative-item.is c.as_slice.ensures c.as_slice-in-loop-alternative.ensures c.loop-alternative.invariant.left c.in_ok-put_labels.ensures.puts c.in_ok-put_chosen.ensures.puts;
  keeps = front_on c.loop-alternative.invariant.keeps (front_on (still_front c.in_ok-put_labels.ensures.keeps) c.in_ok-put_chosen.ensures.keeps);
}

pub put_cases-returns-clause-puts : goal.put_cases-returns-clause-puts
put_cases-returns-clause-puts t c = cases_end c.args.around.now c.args.alternatives.now c.loop-alternative.alternative-index c.args.behind c.loop-alternative-test.false c.loop-alternative.invariant.left

pub put_do-returns-then-go_on-clause-puts : goal.put_do-returns-then-go_on-clause-puts
put_do-returns-then-go_on-clause-puts t c =
    let again : c.in_ok-again.again ≡ length c.put_before_turns.new.draft.code.instrs = omega (arith, c.in_ok-again.ensures 0 refl) in
    on_ok_weaker c.put.result (λ q. loop_again c.args.around.now _ c.args.control.now c.args.actions.now c.locals_kept.result c.args.behind c.in_ok-again.again c.put_before_turns.new.draft c.put_turn_test.new.draft c.put_statements.new.draft
    c.in_ok-inside.ensures c.locals_kept.ensures (sym c.go_on.ensures ∙ c.if-go_on.true) again c.in_ok-put_before_turns.ensures.puts c.in_ok-put_turn_test.ensures.puts c.in_ok-put_statements.ensures.puts q) c.put.ensures.puts

pub put_do-returns-else-go_on-clause-puts : goal.put_do-returns-else-go_on-clause-puts
put_do-returns-else-go_on-clause-puts t c =
    loop_left c.args.around.now _ c.args.control.now c.args.actions.now c.locals_kept.result c.args.behind c.put_before_turns.new.draft c.put_turn_test.new.draft
    c.in_ok-inside.ensures c.locals_kept.ensures (sym c.go_on.ensures ∙ c.if-go_on.false) c.in_ok-put_before_turns.ensures.puts c.in_ok-put_turn_test.ensures.puts c.in_ok-put_statements.ensures.puts

pub put_delays-loop-number-init : goal.put_delays-loop-number-init
put_delays-loop-number-init t c = record { left = delays_begin c.args.around.now c.args.alternatives.now c.args.chosen c.args.behind c.args.draft.now; keeps = front_as refl }

pub put_delays-loop-number-preserved : goal.put_delays-loop-number-preserved
put_delays-loop-number-preserved t c = record {
  left = delays_turn c.args.around.now c.args.alternatives.now c.args.chosen c.loop-number.number c.index-alternatives-number.result c.as_slice.result.now c.args.behind
      c.loop-number-test.true c.index-alternatives-number.is (c.as_slice.ensures ∙ ap (λ (v : DelayAlternative). (out-DelayAlternative v).actions) (sym c.index-alternatives-number.is)) c.loop-number.invariant.left c.in_ok-put_is_chosen.ensures.puts c.in_ok-put_chosen.ensures.puts;
  keeps = front_on c.loop-number.invariant.keeps (front_on (still_front c.in_ok-put_is_chosen.ensures.keeps) c.in_ok-put_chosen.ensures.keeps);
}

pub put_delays-returns-clause-puts : goal.put_delays-returns-clause-puts
put_delays-returns-clause-puts t c = delays_end c.args.around.now c.args.alternatives.now c.args.chosen c.loop-number.number c.args.behind c.loop-number-test.false c.loop-number.invariant.left

pub put_receives-loop-number-init : goal.put_receives-loop-number-init
put_receives-loop-number-init t c = record { left = receives_begin c.args.around.now c.args.alternatives.now c.args.kept c.args.draft.now; keeps = front_as refl }

pub put_receives-loop-number-preserved : goal.put_receives-loop-number-preserved
put_receives-loop-number-preserved t c = record {
  left = receives_turn c.args.around.now c.args.alternatives.now c.args.kept c.loop-number.number c.index-alternatives-number.result c.as_slice.result.now
      c.loop-number-test.true c.index-alternatives-number.is (c.as_slice.ensures ∙ ap (λ (v : ReceiveAlternative). (out-ReceiveAlternative v).actions) (sym c.index-alternatives-number.is)) c.loop-number.invariant.left c.in_ok-put_is_chosen.ensures.puts c.in_ok-put_chosen.ensures.puts;
  keeps = front_on c.loop-number.invariant.keeps (front_on (still_front c.in_ok-put_is_chosen.ensures.keeps) c.in_ok-put_chosen.ensures.keeps);
}

pub put_receives-returns-clause-puts : goal.put_receives-returns-clause-puts
put_receives-returns-clause-puts t c = receives_end c.args.around.now c.args.alternatives.now c.args.kept c.loop-number.number c.loop-number-test.false c.loop-number.invariant.left
