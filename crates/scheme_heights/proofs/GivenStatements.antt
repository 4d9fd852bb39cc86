-- What a wait is for is pushed by Thing: statements, items, bodies and programs.
use Rattle.std.proofs.Common.{◌+◌, ◌-◌, ℕ, zero, suc, Bool, true, false, List, [], ◌∷◌, ℤ, length, drop, refl, Option, Some, None}
use Rattle.std.specs.Prelude.{slice_index_or}
use Rattle.modes.specs.declared.mode.Bounds.{Bounds}
use Rattle.modes.specs.ModeTree.{ModeTree}
use Rattle.modes.specs.Scalars.{lowest_of}
use Rattle.code_types.specs.declared.instr.Instr.{Instr}
use Rattle.code_types.specs.declared.instr.Instr.TheVariants as i
use Rattle.program_trees.specs.ExprTree.{ExprTree, LocationTree, count_of}
use Rattle.program_trees.specs.ProgramTree.{LocalRowTree, BodyRowTree, CheckedTree}
use Rattle.program_trees.specs.StatementTree.{ControlTree, StatementTree, statement, ActionTree, do_nothing, declare, set_lowest, module_at, region_at, assign, update, perform, drop_routine, evaluate, put_int, put_text, put_line, exit_from, return_with, set_result, assert_that, cause, stop, start_of, delay, continue_at, send, if_then, case_of, do_loop, begin_end, delay_case, receive_buffers, receive_signals, StatementNodes, no_statements, more_statements, ChoiceNodes, no_choices, more_choices, CaseNodes, no_cases, more_cases, DelayNodes, no_delays, more_delays, ReceiveNodes, no_receives, more_receives, OtherwiseNode, no_otherwise, otherwise, HandledNodes, no_handled, more_handled, HandlerNode, no_handler, handler}
use Rattle.code_scheme.specs.Pieces.{are_same}
use Rattle.code_scheme.specs.ExprSizes.{expr_size, condition_size}
use Rattle.code_scheme.specs.StatementSite.{Site, layout, Standing, taking, declared_scalars}
use Rattle.code_scheme.specs.StatementGoing.{go_on, goes_on, action_goes_on, leave_size, leave_code}
use Rattle.code_scheme.specs.StatementPlain.{entered_by, way_out_code}
use Rattle.code_scheme.specs.StatementLoops.{control_size, before_turns_size, locals_kept}
use Rattle.code_scheme.specs.StatementWaits.{from_buffers, of_signals, chosen_in, has_else, is_chosen_code, delay_wait_size, receive_wait_size}
use Rattle.code_scheme.specs.StatementSize.{label_code, more_labels_code, labels_code, labels_size, turn_back_size, statements_size, statement_size, handler_size, handled_size, otherwise_size, choices_size, cases_size, delays_size, receives_size, action_size}
use Rattle.code_scheme.specs.StatementCode.{CodeAt, no_code, no_label_code, labelled_around, next_place, joining, chosen, behind_handler, turn_back_code, statements_code, statement_code, handler_code, handled_code, otherwise_code, action_code, choices_code, cases_code, delays_code, receives_code}
use Rattle.code_scheme.specs.BodyItems.{raised_in, raise_again_code, initialising_code, region_code, items_code, item_code, item_action_code}
use Rattle.code_scheme.specs.BodyCode.{lowest_value_code, locals_code, lowest_result_code, lowest_code, behind_lowest, standing_in, items_of, guarded_code, end_code, comes_to_end, raised_again, doing_code, body_code, site_in, bodies_code}
use Rattle.scheme_heights.specs.Laws.{ThingsLaw}
use Rattle.scheme_heights.proofs.Things.{Given, none_given, both_given, plain_given, one_given, if_given, scalars_given}
use Rattle.scheme_heights.proofs.Items.{IsPlain}
use Rattle.scheme_heights.proofs.GivenActions.{condition_given, declare_given, lowest_given, assign_given, update_given, way_out_given, result_given, return_given, perform_given, routine_dropped_given, taken_given, start_of_given, assert_given, delay_given, send_given, control_given, delay_wait_given, receive_wait_given}

-- ---- parts

leave_code_given : (goes : Bool) (rest place : ℕ) → Given (leave_code goes rest place)
leave_code_given false rest place = none_given
leave_code_given true zero place = none_given
leave_code_given true (suc rest) place = plain_given (i.Jump place ∷ []) refl

joining_given : (actions : List Instr) (goes : Bool) (rest place : ℕ) → Given actions → Given (joining actions goes rest place)
joining_given actions goes rest place known = both_given actions (leave_code goes rest place) known (leave_code_given goes rest place)

-- code from each place on
abbrev GivenAt : CodeAt → Type 0
GivenAt code = (at : ℕ) → Given (code at)

chosen_given : (actions : CodeAt) (size : ℕ) (goes : Bool) (rest place at : ℕ) → GivenAt actions → Given (chosen actions size goes rest place at)
chosen_given actions size goes rest place at known = one_given (i.Unless (next_place at (suc size) goes rest)) (joining (actions (at + 1)) goes rest place) refl (joining_given (actions (at + 1)) goes rest place (known (at + 1)))

label_given : (kept : ℕ) (b : Bounds) → Given (label_code kept b)
label_given kept b = if_given (are_same b.low b.high) _ _ (plain_given (i.Local kept 1 ∷ i.Push b.low ∷ i.Same 1 ∷ []) refl) (plain_given (i.Local kept 1 ∷ i.Push b.low ∷ i.Less 1 ∷ i.Push b.high ∷ i.Local kept 1 ∷ i.Less 1 ∷ i.Or ∷ i.Not ∷ []) refl)

more_labels_given : (kept : ℕ) (bs : List Bounds) → Given (more_labels_code kept bs)
more_labels_given kept [] = none_given
more_labels_given kept (b ∷ bs) = both_given _ _ (label_given kept b) (one_given i.Or _ refl (more_labels_given kept bs))

labels_given : (kept : ℕ) (bs : List Bounds) → Given (labels_code kept bs)
labels_given kept [] = plain_given (labels_code kept []) refl
labels_given kept (b ∷ bs) = both_given _ _ (label_given kept b) (more_labels_given kept bs)

turn_back_given : (goes : Bool) (turns : ℕ) → Given (turn_back_code goes turns)
turn_back_given goes turns = if_given goes (i.Again turns ∷ []) [] (plain_given (i.Again turns ∷ []) refl) none_given

-- ---- what is told of each kind of node

record StatementsGiven (ss : StatementNodes) : Type 0 where
  given : (w : Standing) → GivenAt (statements_code w ss)

record StatementGiven (s : StatementTree) : Type 0 where
  given : (w : Standing) → GivenAt (statement_code w s)

record HandlerGiven (h : HandlerNode) : Type 0 where
  given : (w : Standing) (comes : Bool) → GivenAt (handler_code w h comes)

record HandledGiven (hs : HandledNodes) : Type 0 where
  given : (w : Standing) (place last : ℕ) (rest : CodeAt) → GivenAt rest → GivenAt (handled_code w hs place last rest)

record OtherwiseGiven (o : OtherwiseNode) : Type 0 where
  given : (w : Standing) (rest : CodeAt) → GivenAt rest → GivenAt (otherwise_code w o rest)

record ActionGiven (a : ActionTree) : Type 0 where
  given : (w : Standing) → GivenAt (action_code w a)

record ChoicesGiven (cs : ChoiceNodes) : Type 0 where
  given : (w : Standing) (place last : ℕ) (rest : CodeAt) → GivenAt rest → GivenAt (choices_code w cs place last rest)

record CasesGiven (cs : CaseNodes) : Type 0 where
  given : (w : Standing) (place last : ℕ) (rest : CodeAt) → GivenAt rest → GivenAt (cases_code w cs place last rest)

record DelaysGiven (ds : DelayNodes) : Type 0 where
  given : (w : Standing) (kept k place : ℕ) → GivenAt (delays_code w kept k ds place)

record ReceivesGiven (rs : ReceiveNodes) : Type 0 where
  given : (w : Standing) (kept k place last : ℕ) (rest : CodeAt) → GivenAt rest → GivenAt (receives_code w kept k rs place last rest)

nothing_at : GivenAt no_code
nothing_at at = none_given

no_label_at : GivenAt no_label_code
no_label_at at = plain_given (i.Raise 1 ∷ []) refl

more_statements_given : (s : StatementTree) (ss : StatementNodes) → StatementGiven s → StatementsGiven ss → StatementsGiven (more_statements s ss)
more_statements_given s ss first rest = record { given = λ w at. both_given _ _ (first.given w at) (if_given (goes_on s) _ [] (rest.given w (at + statement_size w.site s)) none_given) }

whole_given : (labelled : Bool) (a : ActionTree) (h : HandlerNode) → ActionGiven a → HandlerGiven h → StatementGiven (statement labelled a h)
whole_given labelled a h action known = record {
  given = λ w at. both_given _ _ (action.given (labelled_around labelled w (at + statement_size w.site (statement labelled a h))) at) (known.given (labelled_around labelled w (at + statement_size w.site (statement labelled a h))) (action_goes_on a) (at + action_size w.site a));
}

handler_given : (hs : HandledNodes) (o : OtherwiseNode) → HandledGiven hs → OtherwiseGiven o → HandlerGiven (handler hs o)
handler_given hs o alternatives other = record {
  given = λ w comes at.
      both_given _ _ (leave_code_given comes (handler_size w.site (handler hs o)) (behind_handler comes (handler_size w.site (handler hs o)) at))
      (alternatives.given w (behind_handler comes (handler_size w.site (handler hs o)) at) (otherwise_size w.site o 0) (otherwise_code w o no_code) (other.given w no_code nothing_at) (at + leave_size comes (handler_size w.site (handler hs o))));
}

more_handled_given : (names : List ℕ) (ss : StatementNodes) (hs : HandledNodes) → StatementsGiven ss → HandledGiven hs → HandledGiven (more_handled names ss hs)
more_handled_given names ss hs first others = record {
  given = λ w place last rest known at.
      both_given _ _ (joining_given (statements_code w ss at) (go_on ss) (handled_size w.site hs last) place (first.given w at))
      (others.given w place last rest known (next_place at (statements_size w.site ss) (go_on ss) (handled_size w.site hs last)));
}

more_choices_given : (e : ExprTree) (ss : StatementNodes) (cs : ChoiceNodes) → StatementsGiven ss → ChoicesGiven cs → ChoicesGiven (more_choices e ss cs)
more_choices_given e ss cs first others = record {
  given = λ w place last rest known at.
      let p = next_place at (condition_size e false + statements_size w.site ss) (go_on ss) (choices_size w.site cs last) in
      both_given _ _ (condition_given (layout w.site) w.free e false p at)
      (both_given _ _ (joining_given (statements_code w ss (at + condition_size e false)) (go_on ss) (choices_size w.site cs last) place (first.given w (at + condition_size e false))) (others.given w place last rest known p));
}

more_cases_given : (labels : List Bounds) (ss : StatementNodes) (cs : CaseNodes) → StatementsGiven ss → CasesGiven cs → CasesGiven (more_cases labels ss cs)
more_cases_given labels ss cs first others = record {
  given = λ w place last rest known at.
      both_given _ _ (labels_given w.free labels)
      (both_given _ _ (chosen_given (statements_code w ss) (statements_size w.site ss) (go_on ss) (cases_size w.site cs last) place (at + labels_size labels) (first.given w))
      (others.given w place last rest known (next_place at (labels_size labels + suc (statements_size w.site ss)) (go_on ss) (cases_size w.site cs last))));
}

more_delays_given : (es : List ℕ) (ss : StatementNodes) (ds : DelayNodes) → StatementsGiven ss → DelaysGiven ds → DelaysGiven (more_delays es ss ds)
more_delays_given es ss ds first others = record {
  given = λ w kept k place at.
      both_given _ _ (plain_given (is_chosen_code kept k) refl)
      (both_given _ _ (chosen_given (statements_code w ss) (statements_size w.site ss) (go_on ss) (delays_size w.site ds) place (at + 3) (first.given w))
      (others.given w kept (suc k) place (next_place at (3 + suc (statements_size w.site ss)) (go_on ss) (delays_size w.site ds))));
}

more_receives_given : (source : ℕ) (ks : List ℕ) (ss : StatementNodes) (rs : ReceiveNodes) → StatementsGiven ss → ReceivesGiven rs → ReceivesGiven (more_receives source ks ss rs)
more_receives_given source ks ss rs first others = record {
  given = λ w kept k place last rest known at.
      both_given _ _ (plain_given (is_chosen_code kept k) refl)
      (both_given _ _ (chosen_given (statements_code w ss) (statements_size w.site ss) (go_on ss) (receives_size w.site rs last) place (at + 3) (first.given w))
      (others.given w kept (suc k) place last rest known (next_place at (3 + suc (statements_size w.site ss)) (go_on ss) (receives_size w.site rs last))));
}

case_given : (e : ExprTree) (cs : CaseNodes) (o : OtherwiseNode) → CasesGiven cs → OtherwiseGiven o → ActionGiven (case_of e cs o)
case_given e cs o parts other = record {
  given = λ w at.
      both_given _ _ (taken_given w e (i.SetLocal w.free 1) at refl)
      (parts.given w (at + (expr_size e + suc (cases_size w.site cs (otherwise_size w.site o 1)))) (otherwise_size w.site o 1) (otherwise_code w o no_label_code) (other.given w no_label_code no_label_at) (at + (expr_size e + 1)));
}

loop_given : (c : ControlTree) (ss : StatementNodes) → StatementsGiven ss → ActionGiven (do_loop c ss)
loop_given c ss known = record {
  given = λ w at.
      both_given _ _ (control_given w c (at + (control_size c + (statements_size w.site ss + turn_back_size (go_on ss)))) at)
      (both_given _ _ (known.given (taking w (locals_kept c)) (at + control_size c)) (turn_back_given (go_on ss) (at + before_turns_size c)));
}

delay_case_given : (set : Option LocationTree) (priority : ℕ) (ds : DelayNodes) → DelaysGiven ds → ActionGiven (delay_case set priority ds)
delay_case_given set priority ds parts = record {
  given = λ w at. both_given _ _ (delay_wait_given w set priority ds at) (parts.given w (chosen_in w.free set) 0 (at + (delay_wait_size set ds + delays_size w.site ds)) (at + delay_wait_size set ds));
}

buffers_given : (set : Option LocationTree) (rs : ReceiveNodes) (o : OtherwiseNode) → ReceivesGiven rs → OtherwiseGiven o → ActionGiven (receive_buffers set rs o)
buffers_given set rs o parts other = record {
  given = λ w at.
      let m = otherwise_size w.site o 0 in
      let n = receive_wait_size set rs (has_else o) in
      let place = at + (n + receives_size w.site rs m) in
      both_given _ _ (receive_wait_given w from_buffers set rs (has_else o) (place - m) at) (parts.given w (chosen_in w.free set) 0 place m (otherwise_code w o no_code) (other.given w no_code nothing_at) (at + n));
}

signals_given : (set : Option LocationTree) (rs : ReceiveNodes) (o : OtherwiseNode) → ReceivesGiven rs → OtherwiseGiven o → ActionGiven (receive_signals set rs o)
signals_given set rs o parts other = record {
  given = λ w at.
      let m = otherwise_size w.site o 0 in
      let n = receive_wait_size set rs (has_else o) in
      let place = at + (n + receives_size w.site rs m) in
      both_given _ _ (receive_wait_given w of_signals set rs (has_else o) (place - m) at) (parts.given w (chosen_in w.free set) 0 place m (otherwise_code w o no_code) (other.given w no_code nothing_at) (at + n));
}

mutual
  statements_given : (ss : StatementNodes) → StatementsGiven ss
  statements_given no_statements = record { given = λ w at. none_given }
  statements_given (more_statements s ss) = more_statements_given s ss (statement_given s) (statements_given ss)

  statement_given : (s : StatementTree) → StatementGiven s
  statement_given (statement labelled a h) = whole_given labelled a h (action_given a) (handler_node_given h)

  handler_node_given : (h : HandlerNode) → HandlerGiven h
  handler_node_given no_handler = record { given = λ w comes at. none_given }
  handler_node_given (handler hs o) = handler_given hs o (handled_given hs) (otherwise_given o)

  handled_given : (hs : HandledNodes) → HandledGiven hs
  handled_given no_handled = record { given = λ w place last rest known. known }
  handled_given (more_handled names ss hs) = more_handled_given names ss hs (statements_given ss) (handled_given hs)

  otherwise_given : (o : OtherwiseNode) → OtherwiseGiven o
  otherwise_given no_otherwise = record { given = λ w rest known. known }
  otherwise_given (otherwise ss) = record { given = λ w rest known. (let all = statements_given ss in all.given w) }

  action_given : (a : ActionTree) → ActionGiven a
  action_given do_nothing = record { given = λ w at. none_given }
  action_given (declare names r) = record { given = λ w. declare_given w names r }
  action_given (set_lowest locals xs) = record { given = λ w at. lowest_given (layout w.site) locals xs }
  action_given (module_at ss) = record { given = λ w at. none_given }
  action_given (region_at r ss) = record { given = λ w at. none_given }
  action_given (assign l r) = record { given = λ w. assign_given w l r }
  action_given (update l o e bounds) = record { given = λ w. update_given w l o e bounds }
  action_given (perform c) = record { given = λ w. perform_given w c }
  action_given (drop_routine r e) = record { given = λ w. routine_dropped_given w r e }
  action_given (evaluate e) = record { given = λ w at. taken_given w e (i.Pop (count_of e)) at refl }
  action_given (put_int e) = record { given = λ w at. taken_given w e i.PutInt at refl }
  action_given (put_text e) = record { given = λ w at. taken_given w e (i.PutText (count_of e)) at refl }
  action_given put_line = record { given = λ w at. plain_given (i.PutLine ∷ []) refl }
  action_given (exit_from k) = record { given = λ w at. plain_given (i.Jump (slice_index_or w.exits k 0) ∷ []) refl }
  action_given (return_with r) = record { given = λ w. return_given w r }
  action_given (set_result r) = record { given = λ w. result_given w r }
  action_given (assert_that e) = record { given = λ w. assert_given w e }
  action_given (cause x) = record { given = λ w at. plain_given (i.Raise x ∷ []) refl }
  action_given stop = record { given = λ w at. plain_given (i.Stop ∷ []) refl }
  action_given (start_of t) = record { given = λ w. start_of_given w t }
  action_given (delay e priority) = record { given = λ w at. delay_given e priority }
  action_given (continue_at e) = record { given = λ w at. plain_given (i.Continue e ∷ []) refl }
  action_given (send sent priority) = record { given = λ w. send_given w sent priority }
  action_given (if_then cs ss) = record {
    given = λ w at.
        let parts = choices_given cs in
        let last = statements_given ss in
        parts.given w (at + choices_size w.site cs (statements_size w.site ss)) (statements_size w.site ss) (statements_code w ss) (last.given w) at;
  }
  action_given (case_of e cs o) = case_given e cs o (cases_given cs) (otherwise_given o)
  action_given (do_loop c ss) = loop_given c ss (statements_given ss)
  action_given (begin_end ss) = record { given = (let all = statements_given ss in all.given) }
  action_given (delay_case set priority ds) = delay_case_given set priority ds (delays_given ds)
  action_given (receive_buffers set rs o) = buffers_given set rs o (receives_given rs) (otherwise_given o)
  action_given (receive_signals set rs o) = signals_given set rs o (receives_given rs) (otherwise_given o)

  choices_given : (cs : ChoiceNodes) → ChoicesGiven cs
  choices_given no_choices = record { given = λ w place last rest known. known }
  choices_given (more_choices e ss cs) = more_choices_given e ss cs (statements_given ss) (choices_given cs)

  cases_given : (cs : CaseNodes) → CasesGiven cs
  cases_given no_cases = record { given = λ w place last rest known. known }
  cases_given (more_cases labels ss cs) = more_cases_given labels ss cs (statements_given ss) (cases_given cs)

  delays_given : (ds : DelayNodes) → DelaysGiven ds
  delays_given no_delays = record { given = λ w kept k place at. none_given }
  delays_given (more_delays es ss ds) = more_delays_given es ss ds (statements_given ss) (delays_given ds)

  receives_given : (rs : ReceiveNodes) → ReceivesGiven rs
  receives_given no_receives = record { given = λ w kept k place last rest known. known }
  receives_given (more_receives source ks ss rs) = more_receives_given source ks ss rs (statements_given ss) (receives_given rs)

-- ---- items

raise_again_given : (r : ℕ) (xs : List ℕ) → Given (raise_again_code r xs)
raise_again_given r [] = none_given
raise_again_given r (x ∷ xs) = one_given (i.Leave r) _ refl (one_given (i.Raise x) _ refl (raise_again_given r xs))

region_given : (w : Standing) (r : ℕ) (ss : StatementNodes) (h : HandlerNode) (at : ℕ) → Given (region_code w r ss h at)
region_given w r ss h at =
    let first = statements_given ss in
    let handled = handler_node_given h in
    one_given (i.Enter r) _ refl (both_given _ _ (both_given _ _ (first.given w (at + 1)) (handled.given w true (at + 1 + statements_size w.site ss))) (one_given (i.Leave r) _ refl (one_given (i.Jump _) _ refl (raise_again_given r (raised_in w.site.program (initialising_code w ss h (at + 1)))))))

record ItemsGiven (ss : StatementNodes) : Type 0 where
  given : (w : Standing) → GivenAt (items_code w ss)

record ItemGiven (s : StatementTree) : Type 0 where
  given : (w : Standing) → GivenAt (item_code w s)

record ItemActionGiven (a : ActionTree) : Type 0 where
  given : (w : Standing) (labelled : Bool) (h : HandlerNode) → GivenAt (item_action_code w labelled a h)

module_given : (ss : StatementNodes) → ItemsGiven ss → ItemActionGiven (module_at ss)
module_given ss items = record {
  given = λ w labelled h at.
      let handled = handler_node_given h in
      both_given _ _ (items.given w at) (handled.given w (go_on ss) (at + length (items_code w ss at)));
}

plain_item_given : (a : ActionTree) → IsPlain a → ItemActionGiven a
plain_item_given (module_at ss) still = absurd still
plain_item_given (region_at r ss) still = absurd still
plain_item_given a still = record { given = λ w labelled h. (let all = statement_given (statement labelled a h) in all.given w) }

more_items_given : (s : StatementTree) (ss : StatementNodes) → ItemGiven s → ItemsGiven ss → ItemsGiven (more_statements s ss)
more_items_given s ss first rest = record { given = λ w at. both_given _ _ (first.given w at) (if_given (goes_on s) _ [] (rest.given w (at + length (item_code w s at))) none_given) }

item_of_given : (labelled : Bool) (a : ActionTree) (h : HandlerNode) → ItemActionGiven a → ItemGiven (statement labelled a h)
item_of_given labelled a h known = record { given = λ w. known.given w labelled h }

mutual
  items_given : (ss : StatementNodes) → ItemsGiven ss
  items_given no_statements = record { given = λ w at. none_given }
  items_given (more_statements s ss) = more_items_given s ss (item_given s) (items_given ss)

  item_given : (s : StatementTree) → ItemGiven s
  item_given (statement labelled a h) = item_of_given labelled a h (item_action_given a)

  item_action_given : (a : ActionTree) → ItemActionGiven a
  item_action_given (module_at ss) = module_given ss (items_given ss)
  item_action_given (region_at r ss) = record { given = λ w labelled h. region_given w r ss h }
  item_action_given a = plain_item_given a tt

-- ---- bodies

value_given : (xs : List ℤ) (first : ℕ) → Given (lowest_value_code xs first)
value_given xs first = if_given _ [] _ none_given (both_given _ _ (scalars_given xs) (plain_given (i.SetLocal first (length xs) ∷ []) refl))

locals_given : (rows : List LocalRowTree) → Given (locals_code rows)
locals_given [] = none_given
locals_given (row ∷ rows) = both_given _ _ (value_given (lowest_of row.mode) row.first) (locals_given rows)

result_value_given : (m : Option ModeTree) (first : ℕ) → Given (lowest_result_code m first)
result_value_given None first = none_given
result_value_given (Some m) first = value_given (lowest_of m) first

guarded_given : (site : Site) (at : ℕ) → Given (guarded_code site at)
guarded_given site at =
    let items = items_given (behind_lowest site.body.statements) in
    let handled = handler_node_given site.body.handler in
    both_given _ _ (items.given (standing_in site) at) (handled.given (standing_in site) (go_on site.body.statements) (at + length (items_of site at)))

end_given : (b : BodyRowTree) → Given (end_code b)
end_given b = if_given (comes_to_end b) (way_out_code b) [] (way_out_given b.sort b) none_given

doing_given : (region : Option ℕ) (site : Site) (at : ℕ) → Given (doing_code region site at)
doing_given None site at = both_given _ _ (guarded_given site at) (end_given site.body)
doing_given (Some r) site at = one_given (i.Enter r) _ refl (both_given _ _ (guarded_given site (at + 1)) (both_given _ _ (end_given site.body) (raise_again_given r (raised_again site (at + 1)))))

body_given : (site : Site) (at : ℕ) → Given (body_code site at)
body_given site at =
    both_given _ _ (both_given _ _ (locals_given (drop (length site.body.parameters) site.body.locals)) (result_value_given site.body.result (declared_scalars site.body)))
    (doing_given (entered_by site.body) site (at + length (lowest_code site.body)))

bodies_given : (p : CheckedTree) (bs : List BodyRowTree) (at : ℕ) → Given (bodies_code p bs at)
bodies_given p [] at = none_given
bodies_given p (b ∷ bs) at = both_given _ _ (body_given (site_in p b) at) (bodies_given p bs (at + length (body_code (site_in p b) at)))

pub things_law : ThingsLaw
things_law p = let all = bodies_given p p.bodies 0 in all.all
