-- The tokens of an action that holds no other, and of what controls a loop, are one at other places too.
use Rattle.std.proofs.Common.{true, false, List, map, Option, Some, None, refl}
use Rattle.std.specs.Prelude.{option_map}
use Rattle.chill_tree.specs.ExprTree.{ExprTree, place_of}
use Rattle.chill_tree.specs.SimpleTree.{SimpleTree, assign, update, call_of, exit, return_with, result_of, assert_that, cause, stop, start_of, delay, continue_event, send, ControlTree, while_holds, for_ever, for_members, for_steps}
use Rattle.rules_model.specs.Marks.{Toks}
use Rattle.rules_model.specs.ExprGrammar.{IsExpr}
use Rattle.rules_model.specs.SimpleGrammar.{IsControl, is_while, is_ever, is_members, is_steps, IsValue, no_value, with_value, IsMessage, no_message, with_message, IsSimple, is_assign, is_update, is_call, is_call_word, is_exit, is_return, is_result, is_assert, is_cause, is_stop, is_start, is_delay, is_continue, is_send}
use Rattle.tree_print.specs.SameTree.{nowhere, unplaced_name, unplaced_expr, unplaced_control, unplaced_simple}
use Rattle.tree_print.proofs.SameTokens.{Places, before, Again, Stays}
use Rattle.tree_print.proofs.SameTokensExpr.{same_args, same_exprs, same_ranked, same_location}
use Rattle.tree_print.proofs.SameTokensList.{same_clause, same_flag}

pub same_expr : (f : Places) → Stays IsExpr unplaced_expr f
same_expr f e toks rest d = same_ranked d f

pub same_control : {c : ControlTree} {toks rest : Toks} → IsControl c toks rest → (f : Places) → Again IsControl unplaced_control f c toks rest
same_control (is_while d) f = let x = same_ranked d f in record { tree = while_holds _ x.tree; is = is_while x.is; same = λ i. while_holds nowhere (x.same i) }
same_control is_ever f = record { tree = for_ever _; is = is_ever; same = refl }
same_control (is_members {n = n} d w) f =
    let x = same_ranked d f in
    let y = same_clause unplaced_expr f (same_expr f) w in
    record { tree = for_members _ (record { at = _; text = n.text }) x.tree y.tree; is = is_members x.is y.is; same = λ i. for_members nowhere (unplaced_name n) (x.same i) (y.same i) }
same_control (is_steps {n = n} {d = down} d by flag to w) f =
    let x = same_ranked d f in
    let y = same_clause unplaced_expr f (same_expr f) by in
    let z = same_ranked to f in
    let u = same_clause unplaced_expr f (same_expr f) w in
    record { tree = for_steps _ (record { at = _; text = n.text }) x.tree y.tree down z.tree u.tree; is = is_steps x.is y.is (same_flag flag f) z.is u.is; same = λ i. for_steps nowhere (unplaced_name n) (x.same i) (y.same i) down (z.same i) (u.same i) }

same_value : {v : Option ExprTree} {toks rest : Toks} → IsValue v toks rest → (f : Places) → Again IsValue (option_map unplaced_expr) f v toks rest
same_value no_value f = record { tree = None; is = no_value; same = refl }
same_value (with_value d) f = let x = same_ranked d f in record { tree = Some x.tree; is = with_value x.is; same = λ i. Some (x.same i) }

same_message : {es : Option (List ExprTree)} {toks rest : Toks} → IsMessage es toks rest → (f : Places) → Again IsMessage (option_map (map unplaced_expr)) f es toks rest
same_message no_message f = record { tree = None; is = no_message; same = refl }
same_message (with_message d) f = let x = same_exprs d f in record { tree = Some x.tree; is = with_message x.is; same = λ i. Some (x.same i) }

pub same_simple : {a : SimpleTree} {toks rest : Toks} → IsSimple a toks rest → (f : Places) → Again IsSimple unplaced_simple f a toks rest
same_simple (is_assign t v) f =
    let x = same_location t f in
    let y = same_ranked v f in
    record { tree = assign (place_of x.tree) x.tree y.tree; is = is_assign x.is y.is; same = λ i. assign nowhere (x.same i) (y.same i) }
same_simple (is_update {o = o} t is may v) f =
    let x = same_location t f in
    let y = same_ranked v f in
    record { tree = update (place_of x.tree) x.tree o _ y.tree; is = is_update x.is is may y.is; same = λ i. update nowhere (x.same i) o nowhere (y.same i) }
same_simple (is_call {n = n} d) f =
    let x = same_args d f in
    record { tree = call_of _ false (record { at = _; text = n.text }) x.tree; is = is_call x.is; same = λ i. call_of nowhere false (unplaced_name n) (x.same i) }
same_simple (is_call_word {n = n} d) f =
    let x = same_args d f in
    record { tree = call_of _ true (record { at = _; text = n.text }) x.tree; is = is_call_word x.is; same = λ i. call_of nowhere true (unplaced_name n) (x.same i) }
same_simple (is_exit {n = n}) f = record { tree = exit _ (record { at = _; text = n.text }); is = is_exit; same = refl }
same_simple (is_return v) f = let x = same_value v f in record { tree = return_with _ x.tree; is = is_return x.is; same = λ i. return_with nowhere (x.same i) }
same_simple (is_result v) f = let x = same_ranked v f in record { tree = result_of _ x.tree; is = is_result x.is; same = λ i. result_of nowhere (x.same i) }
same_simple (is_assert v) f = let x = same_ranked v f in record { tree = assert_that _ x.tree; is = is_assert x.is; same = λ i. assert_that nowhere (x.same i) }
same_simple (is_cause {n = n}) f = record { tree = cause _ (record { at = _; text = n.text }); is = is_cause; same = refl }
same_simple (is_stop {rest = rest}) f = record { tree = stop (before f rest); is = is_stop; same = refl }
same_simple (is_start {n = n} d) f =
    let x = same_args d f in
    record { tree = start_of _ (record { at = _; text = n.text }) x.tree; is = is_start x.is; same = λ i. start_of nowhere (unplaced_name n) (x.same i) }
same_simple (is_delay {n = n} c) f =
    let x = same_clause unplaced_expr f (same_expr f) c in
    record { tree = delay _ (record { at = _; text = n.text }) x.tree; is = is_delay x.is; same = λ i. delay nowhere (unplaced_name n) (x.same i) }
same_simple (is_continue {n = n}) f = record { tree = continue_event _ (record { at = _; text = n.text }); is = is_continue; same = refl }
same_simple (is_send {n = n} es to c) f =
    let x = same_message es f in
    let y = same_clause unplaced_expr f (same_expr f) to in
    let z = same_clause unplaced_expr f (same_expr f) c in
    record { tree = send _ (record { at = _; text = n.text }) x.tree y.tree z.tree; is = is_send x.is y.is z.is; same = λ i. send nowhere (unplaced_name n) (x.same i) (y.same i) (z.same i) }
