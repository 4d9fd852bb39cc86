-- Each exception that the code of statements and handlers raises is one of the program: CAUSE names one of it, and the others are of
-- the language.
use Rattle.std.proofs.Common.{◌≡◌, ◌+◌, ◌-◌, ◌<◌, ◌≤◌, ℕ, zero, suc, Bool, true, false, List, [], ◌∷◌, length, refl, subst, arith, Option, Some, slice_get}
use Rattle.std.specs.Prelude.{slice_index_or}
use Rattle.modes.specs.declared.mode.Bounds.{Bounds}
use Rattle.code_types.specs.declared.instr.Instr.{Instr}
use Rattle.code_types.specs.declared.instr.Instr.TheVariants as i
use Rattle.program_trees.specs.ExprTree.{ExprTree, LocationTree, count_of}
use Rattle.program_trees.specs.StatementTree.{ControlTree, StatementTree, statement, ActionTree, do_nothing, declare, set_lowest, module_at, region_at, assign, update, perform, drop_routine, evaluate, put_int, put_text, put_line, exit_from, return_with, set_result, assert_that, cause, stop, start_of, delay, continue_at, send, if_then, case_of, do_loop, begin_end, delay_case, receive_buffers, receive_signals, StatementNodes, no_statements, more_statements, ChoiceNodes, no_choices, more_choices, CaseNodes, no_cases, more_cases, DelayNodes, no_delays, more_delays, ReceiveNodes, no_receives, more_receives, OtherwiseNode, no_otherwise, otherwise, HandledNodes, no_handled, more_handled, HandlerNode, no_handler, handler}
use Rattle.code_scheme.specs.Pieces.{are_same}
use Rattle.code_scheme.specs.ExprSizes.{expr_size, condition_size}
use Rattle.code_scheme.specs.StatementSite.{layout, Standing, taking}
use Rattle.code_scheme.specs.StatementGoing.{go_on, goes_on, action_goes_on, leave_size, leave_code}
use Rattle.code_scheme.specs.StatementLoops.{control_size, before_turns_size, locals_kept}
use Rattle.code_scheme.specs.StatementWaits.{from_buffers, of_signals, chosen_in, has_else, is_chosen_code, delay_wait_size, receive_wait_size}
use Rattle.code_scheme.specs.StatementSize.{label_code, more_labels_code, labels_code, labels_size, turn_back_size, statements_size, statement_size, handler_size, handled_size, otherwise_size, choices_size, cases_size, delays_size, receives_size, action_size}
use Rattle.code_scheme.specs.StatementCode.{CodeAt, no_code, no_label_code, labelled_around, next_place, joining, chosen, behind_handler, turn_back_code, statements_code, statement_code, handler_code, handled_code, otherwise_code, action_code, choices_code, cases_code, delays_code, receives_code}
use Rattle.code_scheme.specs.BodyItems.{language_exceptions, initialising_code}
use Rattle.code_laws.specs.StatementsInRange.{labels_with, FitsStatements, FitsStatement, FitsHandler, FitsHandled, FitsOtherwise, FitsAction, FitsChoices, FitsCases, FitsDelays, FitsReceives}
use Rattle.body_code_laws.specs.Initialisations.{RaisesKnown}
use Rattle.body_code_laws.proofs.RaisedParts.{IsRaisedBelow, AllRaisedBelow, RaisesBelow, RaisesOwn, none_raises, both_raises, plain_raises, one_raises, this_raises, if_raises, wider}
use Rattle.body_code_laws.proofs.RaisedActions.{condition_raises, declare_raises, lowest_raises, assign_raises, update_raises, result_raises, return_raises, perform_raises, routine_dropped_raises, taken_raises, start_of_raises, assert_raises, delay_raises, send_raises, control_raises, delay_wait_raises, receive_wait_raises}

-- how many exceptions the program has
abbrev exceptions : Standing → ℕ
exceptions w = language_exceptions + length w.site.program.exceptions

-- exceptions of the program
abbrev RaisesItsOwn : Standing → List Instr → Type 0
RaisesItsOwn w is = RaisesBelow (exceptions w) is

own_known : (w : Standing) (is : List Instr) → RaisesOwn is → RaisesItsOwn w is
own_known w is known = wider is (let e : 7 ≤ 7 + length w.site.program.exceptions = omega arith in e) known

-- ---- parts

leave_code_raises : {bound : ℕ} (goes : Bool) (rest place : ℕ) → RaisesBelow bound (leave_code goes rest place)
leave_code_raises false rest place = none_raises
leave_code_raises true zero place = none_raises
leave_code_raises true (suc rest) place = plain_raises (i.Jump place ∷ []) refl

joining_raises : {bound : ℕ} (actions : List Instr) (goes : Bool) (rest place : ℕ) → RaisesBelow bound actions → RaisesBelow bound (joining actions goes rest place)
joining_raises actions goes rest place known = both_raises actions (leave_code goes rest place) known (leave_code_raises goes rest place)

-- code from each place on
abbrev RaisesAt : Standing → CodeAt → Type 0
RaisesAt w code = (at : ℕ) → RaisesItsOwn w (code at)

chosen_raises : (w : Standing) (actions : CodeAt) (size : ℕ) (goes : Bool) (rest place at : ℕ) → RaisesAt w actions → RaisesItsOwn w (chosen actions size goes rest place at)
chosen_raises w actions size goes rest place at known = one_raises (i.Unless (next_place at (suc size) goes rest)) (joining (actions (at + 1)) goes rest place) refl (joining_raises (actions (at + 1)) goes rest place (known (at + 1)))

label_raises : {bound : ℕ} (kept : ℕ) (b : Bounds) → RaisesBelow bound (label_code kept b)
label_raises kept b = if_raises (are_same b.low b.high) _ _ (plain_raises (i.Local kept 1 ∷ i.Push b.low ∷ i.Same 1 ∷ []) refl) (plain_raises (i.Local kept 1 ∷ i.Push b.low ∷ i.Less 1 ∷ i.Push b.high ∷ i.Local kept 1 ∷ i.Less 1 ∷ i.Or ∷ i.Not ∷ []) refl)

more_labels_raises : {bound : ℕ} (kept : ℕ) (bs : List Bounds) → RaisesBelow bound (more_labels_code kept bs)
more_labels_raises kept [] = none_raises
more_labels_raises kept (b ∷ bs) = both_raises _ _ (label_raises kept b) (one_raises i.Or _ refl (more_labels_raises kept bs))

labels_raises : {bound : ℕ} (kept : ℕ) (bs : List Bounds) → RaisesBelow bound (labels_code kept bs)
labels_raises kept [] = plain_raises (labels_code kept []) refl
labels_raises kept (b ∷ bs) = both_raises _ _ (label_raises kept b) (more_labels_raises kept bs)

turn_back_raises : {bound : ℕ} (goes : Bool) (turns : ℕ) → RaisesBelow bound (turn_back_code goes turns)
turn_back_raises goes turns = if_raises goes (i.Again turns ∷ []) [] (plain_raises (i.Again turns ∷ []) refl) none_raises

-- ---- what is told of each kind of node

record StatementsRaise (ss : StatementNodes) : Type 0 where
  known : (w : Standing) (n : ℕ) → FitsStatements w.site n ss → RaisesAt w (statements_code w ss)

record StatementRaises (s : StatementTree) : Type 0 where
  known : (w : Standing) (n : ℕ) → FitsStatement w.site n s → RaisesAt w (statement_code w s)

record HandlerRaises (h : HandlerNode) : Type 0 where
  known : (w : Standing) (n : ℕ) (comes : Bool) → FitsHandler w.site n h → RaisesAt w (handler_code w h comes)

record HandledRaise (hs : HandledNodes) : Type 0 where
  known : (w : Standing) (n place last : ℕ) (rest : CodeAt) → FitsHandled w.site n hs → RaisesAt w rest → RaisesAt w (handled_code w hs place last rest)

record OtherwiseRaises (o : OtherwiseNode) : Type 0 where
  known : (w : Standing) (n : ℕ) (rest : CodeAt) → FitsOtherwise w.site n o → RaisesAt w rest → RaisesAt w (otherwise_code w o rest)

record ActionRaises (a : ActionTree) : Type 0 where
  known : (w : Standing) (n : ℕ) → FitsAction w.site n a → RaisesAt w (action_code w a)

record ChoicesRaise (cs : ChoiceNodes) : Type 0 where
  known : (w : Standing) (n place last : ℕ) (rest : CodeAt) → FitsChoices w.site n cs → RaisesAt w rest → RaisesAt w (choices_code w cs place last rest)

record CasesRaise (cs : CaseNodes) : Type 0 where
  known : (w : Standing) (n place last : ℕ) (rest : CodeAt) → FitsCases w.site n cs → RaisesAt w rest → RaisesAt w (cases_code w cs place last rest)

record DelaysRaise (ds : DelayNodes) : Type 0 where
  known : (w : Standing) (n kept k place : ℕ) → FitsDelays w.site n ds → RaisesAt w (delays_code w kept k ds place)

record ReceivesRaise (rs : ReceiveNodes) : Type 0 where
  known : (w : Standing) (n kept k place last : ℕ) (rest : CodeAt) → FitsReceives w.site n rs → RaisesAt w rest → RaisesAt w (receives_code w kept k rs place last rest)

nothing_at : (w : Standing) → RaisesAt w no_code
nothing_at w at = none_raises

no_label_at : (w : Standing) → RaisesAt w no_label_code
no_label_at w at = this_raises 1 (let e : 1 < 7 + length w.site.program.exceptions = omega arith in e)

more_statements_raise : (s : StatementTree) (ss : StatementNodes) → StatementRaises s → StatementsRaise ss → StatementsRaise (more_statements s ss)
more_statements_raise s ss first rest = record { known = λ w n fits at. both_raises _ _ (first.known w n fits.0 at) (if_raises (goes_on s) _ [] (rest.known w n fits.1 (at + statement_size w.site s)) none_raises) }

-- a label changes no site
around_raises : (labelled : Bool) (w : Standing) (behind : ℕ) (is : List Instr) → RaisesItsOwn (labelled_around labelled w behind) is → RaisesItsOwn w is
around_raises false w behind is known = known
around_raises true w behind is known = known

around_action : (labelled : Bool) (w : Standing) (n behind : ℕ) (a : ActionTree) → FitsAction w.site n a → FitsAction (labelled_around labelled w behind).site n a
around_action false w n behind a fits = fits
around_action true w n behind a fits = fits

around_handler : (labelled : Bool) (w : Standing) (n behind : ℕ) (h : HandlerNode) → FitsHandler w.site n h → FitsHandler (labelled_around labelled w behind).site n h
around_handler false w n behind h fits = fits
around_handler true w n behind h fits = fits

whole_raises : (labelled : Bool) (a : ActionTree) (h : HandlerNode) → ActionRaises a → HandlerRaises h → StatementRaises (statement labelled a h)
whole_raises labelled a h action handled = record {
  known = λ w n fits at.
      let behind = at + statement_size w.site (statement labelled a h) in
      let around = labelled_around labelled w behind in
      let m = labels_with labelled n in
      both_raises _ _ (around_raises labelled w behind _ (action.known around m (around_action labelled w m behind a fits.0) at))
      (around_raises labelled w behind _ (handled.known around m (action_goes_on a) (around_handler labelled w m behind h fits.1) (at + action_size w.site a)));
}

handler_raises : (hs : HandledNodes) (o : OtherwiseNode) → HandledRaise hs → OtherwiseRaises o → HandlerRaises (handler hs o)
handler_raises hs o alternatives other = record {
  known = λ w n comes fits at.
      both_raises _ _ (leave_code_raises comes (handler_size w.site (handler hs o)) (behind_handler comes (handler_size w.site (handler hs o)) at))
      (alternatives.known w n (behind_handler comes (handler_size w.site (handler hs o)) at) (otherwise_size w.site o 0) (otherwise_code w o no_code) fits.0 (other.known w n no_code fits.1 (nothing_at w)) (at + leave_size comes (handler_size w.site (handler hs o))));
}

more_handled_raise : (names : List ℕ) (ss : StatementNodes) (hs : HandledNodes) → StatementsRaise ss → HandledRaise hs → HandledRaise (more_handled names ss hs)
more_handled_raise names ss hs first others = record {
  known = λ w n place last rest fits behind at.
      both_raises _ _ (joining_raises (statements_code w ss at) (go_on ss) (handled_size w.site hs last) place (first.known w n fits.0 at))
      (others.known w n place last rest fits.1 behind (next_place at (statements_size w.site ss) (go_on ss) (handled_size w.site hs last)));
}

more_choices_raise : (e : ExprTree) (ss : StatementNodes) (cs : ChoiceNodes) → StatementsRaise ss → ChoicesRaise cs → ChoicesRaise (more_choices e ss cs)
more_choices_raise e ss cs first others = record {
  known = λ w n place last rest fits behind at.
      let p = next_place at (condition_size e false + statements_size w.site ss) (go_on ss) (choices_size w.site cs last) in
      both_raises _ _ (own_known w _ (condition_raises (layout w.site) w.free e false p at))
      (both_raises _ _ (joining_raises (statements_code w ss (at + condition_size e false)) (go_on ss) (choices_size w.site cs last) place (first.known w n fits.1 (at + condition_size e false))) (others.known w n place last rest fits.2 behind p));
}

more_cases_raise : (labels : List Bounds) (ss : StatementNodes) (cs : CaseNodes) → StatementsRaise ss → CasesRaise cs → CasesRaise (more_cases labels ss cs)
more_cases_raise labels ss cs first others = record {
  known = λ w n place last rest fits behind at.
      both_raises _ _ (labels_raises w.free labels)
      (both_raises _ _ (chosen_raises w (statements_code w ss) (statements_size w.site ss) (go_on ss) (cases_size w.site cs last) place (at + labels_size labels) (first.known w n fits.0))
      (others.known w n place last rest fits.1 behind (next_place at (labels_size labels + suc (statements_size w.site ss)) (go_on ss) (cases_size w.site cs last))));
}

more_delays_raise : (es : List ℕ) (ss : StatementNodes) (ds : DelayNodes) → StatementsRaise ss → DelaysRaise ds → DelaysRaise (more_delays es ss ds)
more_delays_raise es ss ds first others = record {
  known = λ w n kept k place fits at.
      both_raises _ _ (plain_raises (is_chosen_code kept k) refl)
      (both_raises _ _ (chosen_raises w (statements_code w ss) (statements_size w.site ss) (go_on ss) (delays_size w.site ds) place (at + 3) (first.known w n fits.1))
      (others.known w n kept (suc k) place fits.2 (next_place at (3 + suc (statements_size w.site ss)) (go_on ss) (delays_size w.site ds))));
}

more_receives_raise : (source : ℕ) (ks : List ℕ) (ss : StatementNodes) (rs : ReceiveNodes) → StatementsRaise ss → ReceivesRaise rs → ReceivesRaise (more_receives source ks ss rs)
more_receives_raise source ks ss rs first others = record {
  known = λ w n kept k place last rest fits behind at.
      both_raises _ _ (plain_raises (is_chosen_code kept k) refl)
      (both_raises _ _ (chosen_raises w (statements_code w ss) (statements_size w.site ss) (go_on ss) (receives_size w.site rs last) place (at + 3) (first.known w n fits.2))
      (others.known w n kept (suc k) place last rest fits.3 behind (next_place at (3 + suc (statements_size w.site ss)) (go_on ss) (receives_size w.site rs last))));
}

if_then_raises : (cs : ChoiceNodes) (ss : StatementNodes) → ChoicesRaise cs → StatementsRaise ss → ActionRaises (if_then cs ss)
if_then_raises cs ss parts last = record {
  known = λ w n fits at. parts.known w n (at + choices_size w.site cs (statements_size w.site ss)) (statements_size w.site ss) (statements_code w ss) fits.0 (last.known w n fits.1) at;
}

case_raises : (e : ExprTree) (cs : CaseNodes) (o : OtherwiseNode) → CasesRaise cs → OtherwiseRaises o → ActionRaises (case_of e cs o)
case_raises e cs o parts other = record {
  known = λ w n fits at.
      both_raises _ _ (own_known w _ (taken_raises w e (i.SetLocal w.free 1) at refl))
      (parts.known w n (at + (expr_size e + suc (cases_size w.site cs (otherwise_size w.site o 1)))) (otherwise_size w.site o 1) (otherwise_code w o no_label_code) fits.1 (other.known w n no_label_code fits.2 (no_label_at w)) (at + (expr_size e + 1)));
}

loop_raises : (c : ControlTree) (ss : StatementNodes) → StatementsRaise ss → ActionRaises (do_loop c ss)
loop_raises c ss actions = record {
  known = λ w n fits at.
      both_raises _ _ (own_known w _ (control_raises w c (at + (control_size c + (statements_size w.site ss + turn_back_size (go_on ss)))) at))
      (both_raises _ _ (actions.known (taking w (locals_kept c)) n fits.1 (at + control_size c)) (turn_back_raises (go_on ss) (at + before_turns_size c)));
}

delay_case_raises : (set : Option LocationTree) (priority : ℕ) (ds : DelayNodes) → DelaysRaise ds → ActionRaises (delay_case set priority ds)
delay_case_raises set priority ds parts = record {
  known = λ w n fits at.
      both_raises _ _ (own_known w _ (delay_wait_raises w set priority ds at))
      (parts.known w n (chosen_in w.free set) 0 (at + (delay_wait_size set ds + delays_size w.site ds)) fits.2 (at + delay_wait_size set ds));
}

buffers_raise : (set : Option LocationTree) (rs : ReceiveNodes) (o : OtherwiseNode) → ReceivesRaise rs → OtherwiseRaises o → ActionRaises (receive_buffers set rs o)
buffers_raise set rs o parts other = record {
  known = λ w n fits at.
      let m = otherwise_size w.site o 0 in
      let wait = receive_wait_size set rs (has_else o) in
      let place = at + (wait + receives_size w.site rs m) in
      both_raises _ _ (own_known w _ (receive_wait_raises w from_buffers set rs (has_else o) (place - m) at))
      (parts.known w n (chosen_in w.free set) 0 place m (otherwise_code w o no_code) fits.1 (other.known w n no_code fits.2 (nothing_at w)) (at + wait));
}

signals_raise : (set : Option LocationTree) (rs : ReceiveNodes) (o : OtherwiseNode) → ReceivesRaise rs → OtherwiseRaises o → ActionRaises (receive_signals set rs o)
signals_raise set rs o parts other = record {
  known = λ w n fits at.
      let m = otherwise_size w.site o 0 in
      let wait = receive_wait_size set rs (has_else o) in
      let place = at + (wait + receives_size w.site rs m) in
      both_raises _ _ (own_known w _ (receive_wait_raises w of_signals set rs (has_else o) (place - m) at))
      (parts.known w n (chosen_in w.free set) 0 place m (otherwise_code w o no_code) fits.1 (other.known w n no_code fits.2 (nothing_at w)) (at + wait));
}

-- an action that raises exceptions of the language alone
own_action : (a : ActionTree) → ((w : Standing) (at : ℕ) → RaisesOwn (action_code w a at)) → ActionRaises a
own_action a own = record { known = λ w n fits at. own_known w (action_code w a at) (own w at) }

mutual
  statements_raise : (ss : StatementNodes) → StatementsRaise ss
  statements_raise no_statements = record { known = λ w n fits at. none_raises }
  statements_raise (more_statements s ss) = more_statements_raise s ss (statement_raises s) (statements_raise ss)

  statement_raises : (s : StatementTree) → StatementRaises s
  statement_raises (statement labelled a h) = whole_raises labelled a h (action_raises a) (handler_node_raises h)

  handler_node_raises : (h : HandlerNode) → HandlerRaises h
  handler_node_raises no_handler = record { known = λ w n comes fits at. none_raises }
  handler_node_raises (handler hs o) = handler_raises hs o (handled_raise hs) (otherwise_raises o)

  handled_raise : (hs : HandledNodes) → HandledRaise hs
  handled_raise no_handled = record { known = λ w n place last rest fits behind. behind }
  handled_raise (more_handled names ss hs) = more_handled_raise names ss hs (statements_raise ss) (handled_raise hs)

  otherwise_raises : (o : OtherwiseNode) → OtherwiseRaises o
  otherwise_raises no_otherwise = record { known = λ w n rest fits behind. behind }
  otherwise_raises (otherwise ss) = record { known = λ w n rest fits behind. (let all = statements_raise ss in all.known w n fits) }

  action_raises : (a : ActionTree) → ActionRaises a
  action_raises do_nothing = own_action do_nothing (λ w at. none_raises)
  action_raises (declare names r) = own_action (declare names r) (λ w. declare_raises w names r)
  action_raises (set_lowest locals xs) = own_action (set_lowest locals xs) (λ w at. lowest_raises (layout w.site) locals xs)
  action_raises (module_at ss) = own_action (module_at ss) (λ w at. none_raises)
  action_raises (region_at r ss) = own_action (region_at r ss) (λ w at. none_raises)
  action_raises (assign l r) = own_action (assign l r) (λ w. assign_raises w l r)
  action_raises (update l o e bounds) = own_action (update l o e bounds) (λ w. update_raises w l o e bounds)
  action_raises (perform c) = own_action (perform c) (λ w. perform_raises w c)
  action_raises (drop_routine r e) = own_action (drop_routine r e) (λ w. routine_dropped_raises w r e)
  action_raises (evaluate e) = own_action (evaluate e) (λ w at. taken_raises w e (i.Pop (count_of e)) at refl)
  action_raises (put_int e) = own_action (put_int e) (λ w at. taken_raises w e i.PutInt at refl)
  action_raises (put_text e) = own_action (put_text e) (λ w at. taken_raises w e (i.PutText (count_of e)) at refl)
  action_raises put_line = own_action put_line (λ w at. plain_raises (i.PutLine ∷ []) refl)
  action_raises (exit_from k) = own_action (exit_from k) (λ w at. plain_raises (i.Jump (slice_index_or w.exits k 0) ∷ []) refl)
  action_raises (return_with r) = own_action (return_with r) (λ w. return_raises w r)
  action_raises (set_result r) = own_action (set_result r) (λ w. result_raises w r)
  action_raises (assert_that e) = own_action (assert_that e) (λ w. assert_raises w e)
  action_raises (cause x) = record { known = λ w n fits at. this_raises x fits }
  action_raises stop = own_action stop (λ w at. plain_raises (i.Stop ∷ []) refl)
  action_raises (start_of t) = own_action (start_of t) (λ w. start_of_raises w t)
  action_raises (delay e priority) = own_action (delay e priority) (λ w at. delay_raises e priority)
  action_raises (continue_at e) = own_action (continue_at e) (λ w at. plain_raises (i.Continue e ∷ []) refl)
  action_raises (send sent priority) = own_action (send sent priority) (λ w. send_raises w sent priority)
  action_raises (if_then cs ss) = if_then_raises cs ss (choices_raise cs) (statements_raise ss)
  action_raises (case_of e cs o) = case_raises e cs o (cases_raise cs) (otherwise_raises o)
  action_raises (do_loop c ss) = loop_raises c ss (statements_raise ss)
  action_raises (begin_end ss) = record { known = (let all = statements_raise ss in all.known) }
  action_raises (delay_case set priority ds) = delay_case_raises set priority ds (delays_raise ds)
  action_raises (receive_buffers set rs o) = buffers_raise set rs o (receives_raise rs) (otherwise_raises o)
  action_raises (receive_signals set rs o) = signals_raise set rs o (receives_raise rs) (otherwise_raises o)

  choices_raise : (cs : ChoiceNodes) → ChoicesRaise cs
  choices_raise no_choices = record { known = λ w n place last rest fits behind. behind }
  choices_raise (more_choices e ss cs) = more_choices_raise e ss cs (statements_raise ss) (choices_raise cs)

  cases_raise : (cs : CaseNodes) → CasesRaise cs
  cases_raise no_cases = record { known = λ w n place last rest fits behind. behind }
  cases_raise (more_cases labels ss cs) = more_cases_raise labels ss cs (statements_raise ss) (cases_raise cs)

  delays_raise : (ds : DelayNodes) → DelaysRaise ds
  delays_raise no_delays = record { known = λ w n kept k place fits at. none_raises }
  delays_raise (more_delays es ss ds) = more_delays_raise es ss ds (statements_raise ss) (delays_raise ds)

  receives_raise : (rs : ReceiveNodes) → ReceivesRaise rs
  receives_raise no_receives = record { known = λ w n kept k place last rest fits behind. behind }
  receives_raise (more_receives source ks ss rs) = more_receives_raise source ks ss rs (statements_raise ss) (receives_raise rs)

-- ---- the whole

-- the instruction at an index, where it raises an exception
raised_at : (bound k e : ℕ) (is : List Instr) → AllRaisedBelow bound is → slice_get is k ≡ Some (i.Raise e) → e < bound
raised_at bound k e [] known there = absurd (let no : ⊥ = cc in no)
raised_at bound zero e (instr ∷ is) known there = subst (IsRaisedBelow bound) (let same : instr ≡ i.Raise e = cc in same) known.0
raised_at bound (suc k) e (instr ∷ is) known there = raised_at bound k e is known.1 there

initialising_raises : (w : Standing) (ss : StatementNodes) (h : HandlerNode) (n at : ℕ) → FitsStatements w.site n ss → FitsHandler w.site n h → RaisesItsOwn w (initialising_code w ss h at)
initialising_raises w ss h n at statements_fit handler_fits =
    let first = statements_raise ss in
    let handled = handler_node_raises h in
    both_raises _ _ (first.known w n statements_fit at) (handled.known w n true handler_fits (at + statements_size w.site ss))

pub raises_known : RaisesKnown
raises_known w ss h at k e outermost statements_fit handler_fits there =
    let all = initialising_raises w ss h 0 at statements_fit handler_fits in
    raised_at (exceptions w) k e (initialising_code w ss h at) all.all there
