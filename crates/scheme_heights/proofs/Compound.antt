-- The code of actions that hold statements.
use Rattle.std.proofs.Common.{◌≡◌, ◌+◌, ℕ, suc, true, [], refl, subst, arith, Option}
use Rattle.std.specs.Prelude.{◌||◌}
use Rattle.code_types.specs.declared.instr.Instr.TheVariants as i
use Rattle.program_trees.specs.ExprTree.{ExprTree, LocationTree}
use Rattle.program_trees.specs.StatementTree.{ControlTree, if_then, case_of, do_loop, begin_end, delay_case, receive_buffers, receive_signals, StatementNodes, ChoiceNodes, CaseNodes, DelayNodes, ReceiveNodes, OtherwiseNode}
use Rattle.code_scheme.specs.ExprSizes.{expr_size}
use Rattle.code_scheme.specs.StatementSite.{Standing, taking}
use Rattle.code_scheme.specs.StatementGoing.{has_end, go_on, otherwise_goes_on, some_case_goes_on}
use Rattle.code_scheme.specs.StatementLoops.{before_turns, before_turns_size, turn_test, turn_test_size, locals_kept, control_size}
use Rattle.code_scheme.specs.StatementWaits.{from_buffers, of_signals, chosen_in, has_else, delay_wait_size, receive_wait_size}
use Rattle.code_scheme.specs.StatementSize.{turn_back_size, statements_size, otherwise_size, choices_size, cases_size, delays_size, receives_size}
use Rattle.code_scheme.specs.StatementCode.{no_code, no_label_code, statements_code, otherwise_code, receives_code}
use Rattle.code_scheme.specs.StatementRows.{statements_rows, otherwise_rows}
use Rattle.code_scheme.specs.BodyCode.{heads_of}
use Rattle.scheme_heights.specs.Closed.{IsBlock, leads_out}
use Rattle.scheme_heights.proofs.Parts.{sized, end, cons}
use Rattle.scheme_heights.proofs.PlainActions.{taken_stretch}
use Rattle.scheme_heights.proofs.Waits.{delay_wait_stretch}
use Rattle.scheme_heights.proofs.Loops.{before_outlets_of, before_turns_stretch, test_outlets, turn_test_stretch}
use Rattle.scheme_heights.proofs.Blocks.{plain_block, resized_block, lead_block, loop_block}
use Rattle.scheme_heights.proofs.Choosing.{StandsBefore, firsts_into, place_same, receive_block, receives_more, tests_into}
use Rattle.scheme_heights.proofs.Holding.{ActionHolds, CasesHold, ChoicesHold, DelaysHold, OtherwiseHolds, ReceivesHold, StatementsHold}

pub if_holds : (cs : ChoiceNodes) (ss : StatementNodes) → ChoicesHold cs → StatementsHold ss → ActionHolds (if_then cs ss)
if_holds cs ss parts_known known = record {
  holds =
      λ w body at bound stands low fits.
      let m = statements_size w.site ss in
      let place = at + choices_size w.site cs m in
      parts_known.holds w body at place bound m (statements_code w ss) (statements_rows w.site ss) (go_on ss) stands refl low fits.0
      (λ p last. place_same (heads_of w.site.program) body w.exits (go_on ss) p m _ _ (p + m) place last (known.holds w body p bound stands (omega (arith, last, low)) fits.1));
}

pub case_holds : (e : ExprTree) (cs : CaseNodes) (o : OtherwiseNode) → CasesHold cs → OtherwiseHolds o → ActionHolds (case_of e cs o)
case_holds e cs o parts_known else_known = record {
  holds =
      λ w body at bound stands low fits.
      let m = otherwise_size w.site o 1 in
      let size = cases_size w.site cs m in
      let place = at + (expr_size e + suc size) in
      let one' = fits.0.1 in
      let p = at + (expr_size e + 1) in
      let selector = plain_block w.exits (taken_stretch w body at 0 e (i.SetLocal w.free 1) fits.0.0 (λ q. sized 1 refl (cons (omega (arith, one')) tt tt refl refl (end (omega (arith, one')))))) in
      let rest = parts_known.holds w body p place bound m (otherwise_code w o no_label_code) (otherwise_rows w.site o) (otherwise_goes_on o) stands (omega arith) low fits.1
      (λ q last. else_known.labels w body q place bound stands last low fits.2) in
      resized_block (expr_size e + suc size) (omega arith)
      (lead_block (heads_of w.site.program) body w.exits (otherwise_goes_on o || some_case_goes_on cs) at p (expr_size e + 1) size place _ _ [] _ refl selector rest);
}

pub loop_holds : (c : ControlTree) (ss : StatementNodes) → StatementsHold ss → ActionHolds (do_loop c ss)
loop_holds c ss known = record {
  holds =
      λ w body at bound stands low fits.
      let n = before_turns_size c in
      let m = turn_test_size c in
      let k = statements_size w.site ss in
      let place = at + (control_size c + (k + turn_back_size (go_on ss))) in
      let inner : Standing = taking w (locals_kept c) in
      let within : StandsBefore body bound inner = record { is_body = stands.is_body; exits = stands.exits } in
      let here : at + control_size c ≡ at + n + m = omega arith in
      let actions = subst (λ (x : ℕ). IsBlock (heads_of w.site.program) body (leads_out (go_on ss) (x + k) w.exits) x (statements_code inner ss (at + control_size c)) (statements_rows w.site ss (at + control_size c)) k) here (known.holds inner body (at + control_size c) bound within (omega (arith, low)) fits.1) in
      loop_block (heads_of w.site.program) body w.exits (go_on ss) (has_end c) (before_outlets_of c place (at + n)) (test_outlets c place) at n m k place (before_turns w c place at) (turn_test w c place (at + n)) (statements_code inner ss (at + control_size c)) (statements_rows w.site ss (at + control_size c))
      (firsts_into w body (at + n) c place (omega arith)) (tests_into w c place) (before_turns_stretch w body at c place fits.0 (omega arith)) (turn_test_stretch w body (at + n) c place fits.0 (omega arith)) actions;
}

pub begin_holds : (ss : StatementNodes) → StatementsHold ss → ActionHolds (begin_end ss)
begin_holds ss known = record { holds = known.holds }

pub delay_holds : (set : Option LocationTree) (priority : ℕ) (ds : DelayNodes) → DelaysHold ds → ActionHolds (delay_case set priority ds)
delay_holds set priority ds parts_known = record {
  holds =
      λ w body at bound stands low fits.
      let n = delay_wait_size set ds in
      let m = delays_size w.site ds in
      lead_block (heads_of w.site.program) body w.exits true at (at + n) n m (at + (n + m)) _ _ [] _ refl (plain_block w.exits (delay_wait_stretch w body at 0 set priority ds fits.0))
      (parts_known.holds w body (chosen_in w.free set) 0 (at + n) (at + (n + m)) bound stands (omega arith) low fits.1);
}

pub buffers_hold : (set : Option LocationTree) (rs : ReceiveNodes) (o : OtherwiseNode) → ReceivesHold rs → OtherwiseHolds o → ActionHolds (receive_buffers set rs o)
buffers_hold set rs o parts_known else_known = record {
  holds =
      λ w body at bound stands low fits.
      let m = otherwise_size w.site o 0 in
      let n = receive_wait_size set rs (has_else o) in
      let size = receives_size w.site rs m in
      let place = at + (n + size) in
      let rest = parts_known.holds w body (chosen_in w.free set) 0 (at + n) place bound m (otherwise_code w o no_code) (otherwise_rows w.site o) stands (omega arith) low fits.1 (λ p last. else_known.received w body p place bound stands last low fits.2) in
      receive_block w body from_buffers set rs (has_else o) at size m place (receives_code w (chosen_in w.free set) 0 rs place m (otherwise_code w o no_code)) _ fits.0 (receives_more w.site rs m) refl rest.0 rest.1;
}

pub signals_hold : (set : Option LocationTree) (rs : ReceiveNodes) (o : OtherwiseNode) → ReceivesHold rs → OtherwiseHolds o → ActionHolds (receive_signals set rs o)
signals_hold set rs o parts_known else_known = record {
  holds =
      λ w body at bound stands low fits.
      let m = otherwise_size w.site o 0 in
      let n = receive_wait_size set rs (has_else o) in
      let size = receives_size w.site rs m in
      let place = at + (n + size) in
      let rest = parts_known.holds w body (chosen_in w.free set) 0 (at + n) place bound m (otherwise_code w o no_code) (otherwise_rows w.site o) stands (omega arith) low fits.1 (λ p last. else_known.received w body p place bound stands last low fits.2) in
      receive_block w body of_signals set rs (has_else o) at size m place (receives_code w (chosen_in w.free set) 0 rs place m (otherwise_code w o no_code)) _ fits.0 (receives_more w.site rs m) refl rest.0 rest.1;
}
