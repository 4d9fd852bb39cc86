-- The code of statements one behind the other, of handlers, and of parts of which one is done.
use Rattle.std.proofs.Common.{◌≡◌, ◌+◌, ◌-◌, ℕ, suc, Bool, true, false, List, [], ◌++◌, length, refl, sym, ap, ◌∙◌, subst, arith, append-nil}
use Rattle.std.specs.Prelude.{◌||◌}
use Rattle.std.proofs.lemmas.List.{append_assoc}
use Rattle.modes.specs.declared.mode.Bounds.{Bounds}
use Rattle.code_types.specs.declared.instr.Instr.{Instr}
use Rattle.code_types.specs.declared.instr.Instr.TheVariants as i
use Rattle.code_types.specs.declared.code.Handler.{Handler}
use Rattle.program_trees.specs.ExprTree.{ExprTree}
use Rattle.program_trees.specs.StatementTree.{StatementTree, statement, ActionTree, StatementNodes, no_statements, more_statements, ChoiceNodes, no_choices, more_choices, CaseNodes, no_cases, more_cases, DelayNodes, no_delays, more_delays, ReceiveNodes, no_receives, more_receives, OtherwiseNode, no_otherwise, otherwise, HandledNodes, no_handled, more_handled, HandlerNode, no_handler, handler}
use Rattle.code_scheme.specs.ExprSizes.{condition_size}
use Rattle.code_scheme.specs.StatementSite.{layout, Standing, within_label}
use Rattle.code_scheme.specs.StatementGoing.{has_label, go_on, goes_on, handler_goes_on, otherwise_goes_on, some_handled_goes_on, action_goes_on, some_choice_goes_on, some_case_goes_on, leave_size, leave_code, joined}
use Rattle.code_scheme.specs.StatementWaits.{is_chosen_code}
use Rattle.code_scheme.specs.StatementSize.{labels_code, labels_size, statements_size, statement_size, handler_size, handled_size, otherwise_size, choices_size, cases_size, delays_size, receives_size, action_size}
use Rattle.code_scheme.specs.StatementCode.{no_code, next_place, joining, behind_handler, statements_code, handled_code, otherwise_code}
use Rattle.code_scheme.specs.StatementRows.{statements_rows, handler_rows}
use Rattle.code_scheme.specs.BodyCode.{heads_of}
use Rattle.scheme_heights.specs.Stretches.{no_outlets, IsStretch}
use Rattle.scheme_heights.specs.Closed.{inside_or, IsBlock, leads_out}
use Rattle.scheme_heights.proofs.Parts.{sized, end}
use Rattle.scheme_heights.proofs.Conditions.{condition_stretch}
use Rattle.scheme_heights.proofs.Waits.{is_chosen_stretch}
use Rattle.scheme_heights.proofs.Closing.{wider}
use Rattle.scheme_heights.proofs.Blocks.{out_into, goes_out, exits_out, plain_block, resized_block, follow_block, joining_block, either_block, tested_block, insert_rows, last_block}
use Rattle.scheme_heights.proofs.Choosing.{StandsBefore, behind_less, chosen_block, chosen_into, entry_rest, goes_same, if_low, label_goes, label_is, labels_length, labels_stretch, or_left, or_left_true, or_none, or_past, or_swap, or_turn, place_same, regroup_handled, unhandled, unlabelled}
use Rattle.scheme_heights.proofs.Holding.{ActionHolds, CasesHold, ChoicesHold, DelaysHold, HandledHold, HandlerHolds, OtherwiseHolds, ReceivesHold, StatementHolds, StatementsHold}

pub no_statements_hold : StatementsHold no_statements
no_statements_hold = record {
  holds =
      λ w body at bound stands low fits.
      plain_block w.exits (sized 0 refl (end refl));
}

pub more_statements_hold : (s : StatementTree) (ss : StatementNodes) → StatementHolds s → StatementsHold ss → StatementsHold (more_statements s ss)
more_statements_hold s ss first_known known = record {
  holds =
      λ w body at bound stands low fits.
      let n = statement_size w.site s in
      follow_block (heads_of w.site.program) body w.exits (goes_on s) (go_on ss) at n (statements_size w.site ss) _ _ _ _ (first_known.holds w body at bound stands (omega (arith, low)) fits.0)
      (λ on. known.holds w body (at + n) bound stands (if_low (goes_on s) at n (statements_size w.site ss) bound on low) fits.1);
}

pub unlabelled_holds : (a : ActionTree) (h : HandlerNode) → ActionHolds a → HandlerHolds h → StatementHolds (statement false a h)
unlabelled_holds a h action_known handler_known = record {
  holds =
      λ w body at bound stands low fits.
      let n = action_size w.site a in
      handler_known.holds w body (action_goes_on a) at n (at + n) bound _ _ stands refl (omega (arith, low)) fits.1 (action_known.holds w body at bound stands (omega (arith, low)) fits.0);
}

pub labelled_holds : (a : ActionTree) (h : HandlerNode) → ActionHolds a → HandlerHolds h → StatementHolds (statement true a h)
labelled_holds a h action_known handler_known = record {
  holds =
      λ w body at bound stands low fits.
      let n = action_size w.site a in
      let size = joined n (action_goes_on a) (handler_size w.site h) in
      let place = at + size in
      let inner : Standing = within_label w place in
      let within : StandsBefore body place inner = record { is_body = stands.is_body; exits = (omega arith, behind_less bound place w.exits low stands.exits) } in
      let block = handler_known.holds inner body (action_goes_on a) at n (at + n) place _ _ within refl (omega arith) fits.1 (action_known.holds inner body at place within (omega arith) fits.0) in
      goes_same (heads_of w.site.program) body w.exits place at size _ _ true (has_label true a || (action_goes_on a || handler_goes_on h)) (label_is (has_label true a) (action_goes_on a || handler_goes_on h) (label_goes w.site (suc (length w.exits)) a fits.0))
      (unlabelled (heads_of w.site.program) body w.exits place at size _ _ (action_goes_on a || handler_goes_on h) block);
}

pub no_handler_holds : HandlerHolds no_handler
no_handler_holds = record {
  holds =
      λ w body comes from n at bound x some stands there low fits block.
      unhandled (heads_of w.site.program) body w.exits comes from n at x some there block;
}

pub handler_holds : (hs : HandledNodes) (o : OtherwiseNode) → HandledHold hs → OtherwiseHolds o → HandlerHolds (handler hs o)
handler_holds hs o alternatives else_known = record {
  holds =
      λ w body comes from n at bound x some stands there low fits block.
      let heads = heads_of w.site.program in
      let size = handled_size w.site hs (otherwise_size w.site o 0) in
      let l = leave_size comes size in
      let place = behind_handler comes size at in
      let goes = comes || (otherwise_goes_on o || some_handled_goes_on hs) in
      let leave = leave_code comes size place in
      let rest = handled_code w hs place (otherwise_size w.site o 0) (otherwise_code w o no_code) (at + l) in
      let part = joining_block heads body w.exits comes from n size place x some (omega (arith, there)) (place_same heads body w.exits comes from n x some at (from + n) there block) in
      let all = alternatives.holds o else_known w body from (at + l) at place bound (x ++ leave) some (n + l) comes stands (omega (arith, there)) (omega (arith, there)) (omega arith) (omega arith) (omega (arith, there, low)) fits.0 fits.1 part in
      let rows = insert_rows heads body (leads_out goes place w.exits) from ((x ++ leave) ++ rest) some _ _ (n + l + size) all.1 all.0 in
      resized_block (joined n comes size) (omega arith)
      (place_same heads body w.exits goes from (n + l + size) _ _ place (from + joined n comes size) (omega (arith, there))
      (subst (λ (is : List Instr). IsBlock heads body (leads_out goes place w.exits) from is (some ++ handler_rows w.site (handler hs o) comes from at) (n + l + size)) (append_assoc x leave rest) rows));
}

pub no_otherwise_holds : OtherwiseHolds no_otherwise
no_otherwise_holds = record {
  handled =
      λ w body from at until place bound x some n goes stands there first last place_is low hfits fits block. (
        subst (λ (is : List Instr). IsBlock (heads_of w.site.program) body (leads_out (goes || false) place w.exits) from is (some ++ []) (n + 0)) (sym (append-nil x))
            (subst (λ (rs : List Handler). IsBlock (heads_of w.site.program) body (leads_out (goes || false) place w.exits) from x rs (n + 0)) (sym (append-nil some))
            (resized_block (n + 0) (omega arith) (goes_same (heads_of w.site.program) body w.exits place from n x some goes (goes || false) (sym (or_none goes)) block))),
        tt,
      );
  labels =
      λ w body at place bound stands there low fits.
      last_block (heads_of w.site.program) body w.exits at place (i.Raise 1) refl tt tt refl refl (omega arith);
  received =
      λ w body at place bound stands there low fits.
      place_same (heads_of w.site.program) body w.exits true at 0 [] [] (at + 0) place there (plain_block w.exits (sized 0 refl (end refl)));
}

pub otherwise_holds : (ss : StatementNodes) → StatementsHold ss → OtherwiseHolds (otherwise ss)
otherwise_holds ss known = record {
  handled =
      λ w body from at until place bound x some n goes stands there first last place_is low hfits fits block.
      let heads = heads_of w.site.program in
      let m = statements_size w.site ss in
      let statements = place_same heads body w.exits (go_on ss) at m _ _ (at + m) place (sym place_is) (known.holds w body at bound stands (omega (arith, place_is, low)) fits) in
      let both = either_block heads body w.exits goes (go_on ss) from at n m place x _ some _ there block statements in
      let goes' = goes || (go_on ss || false) in
      let same : (go_on ss || goes) ≡ goes' = or_swap (go_on ss) goes ∙ ap (λ (g : Bool). goes || g) (sym (or_none (go_on ss))) in
      let whole = goes_same heads body w.exits place from (n + m) _ _ (go_on ss || goes) goes' same both in (
        whole,
        (
          record {
            from = omega arith;
            ordered = first;
            behind_range = last;
            level = refl;
            target = entry_rest heads w.exits (go_on ss) goes' place from at x (statements_code w ss at) n there (λ on. subst (λ (g : Bool). g ≡ true) same (or_left_true (go_on ss) goes on)) block.closed.count block.closed.leaves statements.closed.entry;
          },
          tt,
        ),
      );
  labels =
      λ w body at place bound stands there low fits.
      place_same (heads_of w.site.program) body w.exits (go_on ss) at (statements_size w.site ss) _ _ (at + statements_size w.site ss) place there (known.holds w body at bound stands (omega (arith, there, low)) fits);
  received =
      λ w body at place bound stands there low fits.
      let out = leads_out true place w.exits in
      wider out (out_into (go_on ss) place w.exits out (λ on. goes_out true place w.exits refl) (exits_out true place w.exits))
      (place_same (heads_of w.site.program) body w.exits (go_on ss) at (statements_size w.site ss) _ _ (at + statements_size w.site ss) place there (known.holds w body at bound stands (omega (arith, there, low)) fits));
}

pub no_handled_hold : HandledHold no_handled
no_handled_hold = record { holds = λ o else_known. else_known.handled }

pub more_handled_hold : (names : List ℕ) (ss : StatementNodes) (hs : HandledNodes) → StatementsHold ss → HandledHold hs → HandledHold (more_handled names ss hs)
more_handled_hold names ss hs known alternatives = record {
  holds = λ o else_known w body from at until place bound x some n goes stands there first last place_is low hfits ofits block.
      let heads = heads_of w.site.program in
      let m = statements_size w.site ss in
      let rest_size = handled_size w.site hs (otherwise_size w.site o 0) in
      let l = leave_size (go_on ss) rest_size in
      let q = next_place at m (go_on ss) rest_size in
      let statements = known.holds w body at bound stands (omega (arith, place_is, low)) hfits.0 in
      let part = joining_block heads body w.exits (go_on ss) at m rest_size place (statements_code w ss at) (statements_rows w.site ss at) (omega (arith, place_is)) statements in
      let both = either_block heads body w.exits goes (go_on ss) from at n (m + l) place x _ some _ there block part in
      let rest = alternatives.holds o else_known w body from q until place bound _ _ (n + (m + l)) (go_on ss || goes) stands (omega (arith, there)) first (omega (arith, last)) (omega (arith, place_is)) low hfits.1 ofits both in
      regroup_handled heads body w.exits from until at place x (joining (statements_code w ss at) (go_on ss) rest_size place) _ some _ _ n (m + l) rest_size (n + joined m (go_on ss) rest_size) names _ ((go_on ss || goes) || (otherwise_goes_on o || some_handled_goes_on hs)) _ (go_on ss) (omega arith) (or_past (otherwise_goes_on o) (some_handled_goes_on hs) (go_on ss) goes) first last there (or_left (go_on ss) goes (otherwise_goes_on o || some_handled_goes_on hs)) block.closed.count block.closed.leaves part.closed.entry rest;
}

pub no_choices_hold : ChoicesHold no_choices
no_choices_hold = record {
  holds =
      λ w body at place bound last rest rows goes stands there low fits rest_known.
      goes_same (heads_of w.site.program) body w.exits place at last (rest at) (rows at) goes (goes || false) (sym (or_none goes)) (rest_known at (sym there));
}

pub more_choices_hold : (e : ExprTree) (ss : StatementNodes) (cs : ChoiceNodes) → StatementsHold ss → ChoicesHold cs → ChoicesHold (more_choices e ss cs)
more_choices_hold e ss cs known parts_known = record {
  holds =
      λ w body at place bound last rest rows goes stands there low fits rest_known.
      let heads = heads_of w.site.program in
      let c = condition_size e false in
      let n = statements_size w.site ss in
      let m = choices_size w.site cs last in
      let l = leave_size (go_on ss) m in
      let p = next_place at (c + n) (go_on ss) m in
      let part = joining_block heads body w.exits (go_on ss) (at + c) n m place _ _ (omega (arith, there)) (known.holds w body (at + c) bound stands (omega (arith, there, low)) fits.1) in
      let others = parts_known.holds w body p place bound last rest rows goes stands (omega (arith, there)) low fits.2 rest_known in
      resized_block (joined (c + n) (go_on ss) m) (omega arith)
      (goes_same heads body w.exits place at (c + (n + l + m)) _ _ ((goes || some_choice_goes_on cs) || go_on ss) (goes || (go_on ss || some_choice_goes_on cs)) (or_turn goes (some_choice_goes_on cs) (go_on ss))
      (tested_block heads body w.exits (go_on ss) (goes || some_choice_goes_on cs) at (at + c) p c (n + l) m place _ _ _ _ _ refl (omega arith) (condition_stretch (layout w.site) body w.free e fits.0.0 fits.0.1 false p at 0 (omega arith)) part others));
}

pub no_cases_hold : CasesHold no_cases
no_cases_hold = record {
  holds =
      λ w body at place bound last rest rows goes stands there low fits rest_known.
      goes_same (heads_of w.site.program) body w.exits place at last (rest at) (rows at) goes (goes || false) (sym (or_none goes)) (rest_known at (sym there));
}

pub more_cases_hold : (labels : List Bounds) (ss : StatementNodes) (cs : CaseNodes) → StatementsHold ss → CasesHold cs → CasesHold (more_cases labels ss cs)
more_cases_hold labels ss cs known parts_known = record {
  holds =
      λ w body at place bound last rest rows goes stands there low fits rest_known.
      let heads = heads_of w.site.program in
      let c = labels_size labels in
      let n = statements_size w.site ss in
      let m = cases_size w.site cs last in
      let p = next_place at (c + suc n) (go_on ss) m in
      let tests : IsStretch heads body no_outlets at 0 (labels_code w.free labels) c 1 = sized c (labels_length w.free labels) ((labels_stretch heads body at 0 w.free labels)) in
      let first = known.holds w body (at + c + 1) bound stands (omega (arith, there, low)) fits.0 in
      let others = parts_known.holds w body p place bound last rest rows goes stands (omega (arith, there)) low fits.1 rest_known in
      goes_same heads body w.exits place at (joined (c + suc n) (go_on ss) m) _ _ ((goes || some_case_goes_on cs) || go_on ss) (goes || (go_on ss || some_case_goes_on cs)) (or_turn goes (some_case_goes_on cs) (go_on ss))
      (chosen_block heads body w.exits (go_on ss) (goes || some_case_goes_on cs) at c n m place (labels_code w.free labels) (statements_code w ss) _ _ _ there tests first others);
}

pub no_delays_hold : DelaysHold no_delays
no_delays_hold = record {
  holds =
      λ w body kept k at place bound stands there low fits.
      place_same (heads_of w.site.program) body w.exits true at 0 [] [] (at + 0) place (sym there) (plain_block w.exits (sized 0 refl (end refl)));
}

pub more_delays_hold : (es : List ℕ) (ss : StatementNodes) (ds : DelayNodes) → StatementsHold ss → DelaysHold ds → DelaysHold (more_delays es ss ds)
more_delays_hold es ss ds known parts_known = record {
  holds =
      λ w body kept k at place bound stands there low fits.
      let heads = heads_of w.site.program in
      let n = statements_size w.site ss in
      let m = delays_size w.site ds in
      let p = next_place at (3 + suc n) (go_on ss) m in
      let first = known.holds w body (at + 3 + 1) bound stands (omega (arith, there, low)) fits.0 in
      chosen_block heads body w.exits (go_on ss) true at 3 n m place (is_chosen_code kept k) (statements_code w ss) _ _ _ there ((is_chosen_stretch heads body at 0 kept k)) first (parts_known.holds w body kept (suc k) p place bound stands (omega (arith, there)) low fits.1);
}

pub no_receives_hold : ReceivesHold no_receives
no_receives_hold = record {
  holds =
      λ w body kept k at place bound last rest rows stands there low fits rest_known.
      let block = rest_known at (sym there) in (
        block,
        subst (λ (x : ℕ). inside_or (heads_of w.site.program) at 0 (rest at) (leads_out true place w.exits) x 0) (let e : at ≡ place - last = omega (arith, there) in e) block.closed.entry,
      );
}

pub more_receives_hold : (source : ℕ) (ks : List ℕ) (ss : StatementNodes) (rs : ReceiveNodes) → StatementsHold ss → ReceivesHold rs → ReceivesHold (more_receives source ks ss rs)
more_receives_hold source ks ss rs known parts_known = record {
  holds =
      λ w body kept k at place bound last rest rows stands there low fits rest_known.
      let heads = heads_of w.site.program in
      let n = statements_size w.site ss in
      let m = receives_size w.site rs last in
      let p = next_place at (3 + suc n) (go_on ss) m in
      let first = known.holds w body (at + 3 + 1) bound stands (omega (arith, there, low)) fits.0 in
      let others = parts_known.holds w body kept (suc k) p place bound last rest rows stands (omega (arith, there)) low fits.1 rest_known in
      let tests = (is_chosen_stretch heads body at 0 kept k) in (
        chosen_block heads body w.exits (go_on ss) true at 3 n m place (is_chosen_code kept k) (statements_code w ss) _ _ _ there tests first others.0,
        chosen_into heads body w.exits (go_on ss) at 3 n m place (is_chosen_code kept k) (statements_code w ss) _ _ (leads_out true place w.exits) there tests first (place - last) 0 others.1,
      );
}
