use Rattle.std.proofs.Common.{◌≡◌, ◌++◌, ◌∙◌, ap, sym, subst, rules, arith, List, Option}
use Rattle.std.specs.Prelude.{Bool, true, false, ◌&&◌, IfOk, OnOk}
use Rattle.chill_base.specs.declared.pos.Pos.{Pos}
use Rattle.chill_tree.specs.declared.tree.expr.ValueRange.{ValueRange}
use Rattle.chill_tree.specs.ExprTree.{ExprTree, ExprNodes, apply, tuple, expr_tree, expr_trees, expr_nodes, range_trees, range_nodes, place_of}
use Rattle.chill_tree.proofs.ExprViews.{tree-apply, tree-tuple, expr_built}
use Rattle.modes.specs.ModeTree.{ClassTree}
use Rattle.diagnostics.specs.declared.diagnostic.Diagnostic.{Diagnostic}
use Rattle.class_operators.specs.Predefined.{predefined_tree}
use Rattle.checks_model.specs.Told.{is_none_told}
use Rattle.checks_model.specs.Operations.{gives_no_value}
use Rattle.checks_model.specs.Classes.{class_as, count_exprs, calls, no_callee, callee_of, shape_fits}
use Rattle.checks_model.specs.ValueRules.{Receiver, nothing_asked, received_mode, told_in, told_in_parts, index_receiver}
use Rattle.checks_model.specs.ActionRules.{told_in_routine}
use Rattle.expr_rules.specs.Grounds.{ground_in}
use Rattle.expr_rules.specs.Known.{IsOwn}
use Rattle.expr_rules.specs.Views.{receiver_tree, formal_receiver, own_class}
use Rattle.statement_laws.specs.Steps.{told_in_all}
use Rattle.expr_rules.specs.Steps.{args_in_index}
use Rattle.expr_rules.proofs.Arguments.{index-all}
use Rattle.expr_rules.proofs.RangeViews.{same_parts, args_counted}
use Rattle.expr_rules.proofs.Operands.{routine_known}
use Rattle.expr_rules.proofs.Turns.{and_then, and_else, all_turn, each_turn, procedure_known, index_told, index_known}
use Rattle.expr_rules.proofs.surroundings.Walk.+expr.Goals.{all_to-then-is_clean, all_to-else-is_clean, each_to_its_own-then-is_clean, each_to_its_own-else-is_clean}
use Rattle.expr_rules.proofs.surroundings.Walk.+expr.Goals as goal

pub all_to-loop-arg-preserved : goal.all_to-loop-arg-preserved
all_to-loop-arg-preserved t c = λ has.
    let k = c.in_ok-known.known in
    let known = c.in_ok-known.ensures.known has in
    let both : c.if-is_clean.is_clean ≡ (c.loop-arg.is_clean && k.is_clean) = elim c.if-is_clean.branch [
      | all_to-then-is_clean w ↦ and_then c.loop-arg.is_clean k.is_clean c.if-is_clean.is_clean w.if-is_clean.true w.is_clean-is
      | all_to-else-is_clean w ↦ and_else c.loop-arg.is_clean k.is_clean c.if-is_clean.is_clean w.if-is_clean.false w.is_clean-is
    ] in
    all_turn (ground_in c.args.self.now) (receiver_tree c.args.receiver) c.args.args.now c.loop-arg.arg-index c.arg-item.result c.args.told.now c.loop-arg.told c.value.new.told c.loop-arg.is_clean k.is_clean c.if-is_clean.is_clean
    c.loop-arg-test.true c.arg-item.is (c.loop-arg.invariant has) (c.in_ok-known.ensures.told has) known.is_clean both

pub each_to_its_own-loop-arg-preserved : goal.each_to_its_own-loop-arg-preserved
each_to_its_own-loop-arg-preserved t c = λ has.
    let k = c.in_ok-known.known in
    let known = c.in_ok-known.ensures.known has in
    let both : c.if-is_clean.is_clean ≡ (c.loop-arg.is_clean && k.is_clean) = elim c.if-is_clean.branch [
      | each_to_its_own-then-is_clean w ↦ and_then c.loop-arg.is_clean k.is_clean c.if-is_clean.is_clean w.if-is_clean.true w.is_clean-is
      | each_to_its_own-else-is_clean w ↦ and_else c.loop-arg.is_clean k.is_clean c.if-is_clean.is_clean w.if-is_clean.false w.is_clean-is
    ] in
    each_turn (ground_in c.args.self.now) _ _ _ (receiver_tree c.first_receiver.result) c.args.args.now c.loop-arg.arg-index c.arg-item.result c.args.told.now c.loop-arg.told c.value.new.told c.loop-arg.is_clean k.is_clean c.if-is_clean.is_clean
    c.loop-arg-test.true c.arg-item.is c.first_receiver.ensures c.behind_first-rest.ensures (c.loop-arg.invariant has) (c.in_ok-known.ensures.told has) known.is_clean both

pub applied-returns-in-Procedure-clause-known : goal.applied-returns-in-Procedure-clause-known
applied-returns-in-Procedure-clause-known t c = λ has.
    let g = ground_in c.args.self.now in
    let es = expr_nodes (expr_trees c.as_slice.result.now) in
    let tree : expr_tree c.args.expr.now ≡ apply c.in-Apply.at (expr_tree c.deref.result.now) es = search (rules, expr_built) in
    let callee : calls c.in-Procedure.name.now ≡ callee_of g (expr_tree c.deref.result.now) = search rules in
    procedure_known c.called.result g (expr_tree c.args.expr.now) c.in-Apply.at (expr_tree c.deref.result.now) es c.in-Procedure.name.now tree callee (c.called.ensures.known has)

pub applied-returns-in_ok-base-in-Nothing-clause-told : goal.applied-returns-in_ok-base-in-Nothing-clause-told
applied-returns-in_ok-base-in-Nothing-clause-told t c = λ has.
    let g = ground_in c.args.self.now in
    let e = expr_tree c.deref-in-Nothing.result.now in
    let es = expr_nodes (expr_trees c.as_slice-in-Nothing.result.now) in
    let base = c.in_ok-base-in-Nothing.base in
    let tree : expr_tree c.args.expr.now ≡ apply c.in-Apply.at e es = search (rules, expr_built) in
    let callee : no_callee ≡ callee_of g e = search rules in
    let place : c.at-in-Nothing.result ≡ place_of e = search rules in
    let told : c.node.new.told ≡ c.args.told.now ++ told_in g nothing_asked e = c.in_ok-base-in-Nothing.ensures.told has in
    let known : IsOwn (told_in g nothing_asked e) (class_as g (received_mode nothing_asked) e) base = c.in_ok-base-in-Nothing.ensures.known has in
    index_told c.indexed.result g (expr_tree c.args.expr.now) c.in-Apply.at c.at-in-Nothing.result e es c.args.told.now c.node.new.told c.indexed.new.told (own_class base.class) base.is_clean tree callee place told known.is_clean known.class (c.indexed.ensures.told has)

pub applied-returns-in_ok-base-in-Nothing-clause-known : goal.applied-returns-in_ok-base-in-Nothing-clause-known
applied-returns-in_ok-base-in-Nothing-clause-known t c = λ has.
    let g = ground_in c.args.self.now in
    let e = expr_tree c.deref-in-Nothing.result.now in
    let es = expr_nodes (expr_trees c.as_slice-in-Nothing.result.now) in
    let base = c.in_ok-base-in-Nothing.base in
    let tree : expr_tree c.args.expr.now ≡ apply c.in-Apply.at e es = search (rules, expr_built) in
    let callee : no_callee ≡ callee_of g e = search rules in
    let place : c.at-in-Nothing.result ≡ place_of e = search rules in
    let known : IsOwn (told_in g nothing_asked e) (class_as g (received_mode nothing_asked) e) base = c.in_ok-base-in-Nothing.ensures.known has in
    index_known c.indexed.result g (expr_tree c.args.expr.now) c.in-Apply.at c.at-in-Nothing.result e es (own_class base.class) base.is_clean tree callee place known.is_clean known.class (c.indexed.ensures.clean has) (c.indexed.ensures.class has)

pub node-returns-in-Tuple-clause-told : goal.node-returns-in-Tuple-clause-told
node-returns-in-Tuple-clause-told t c = λ has.
    let g = ground_in c.args.self.now in
    let r = receiver_tree c.args.receiver in
    let tree : tuple c.in-Tuple.at c.in-Tuple.mode c.in-Tuple.bracket (range_nodes (range_trees c.as_slice-in-Tuple.result.now)) ≡ expr_tree c.args.expr.now = search (rules, expr_built) in
    subst (λ (e : ExprTree). OnOk c.tuple.result (c.tuple.new.told ≡ c.args.told.now ++ told_in g r e)) tree (c.tuple.ensures.told has)

pub node-returns-in-Tuple-clause-known : goal.node-returns-in-Tuple-clause-known
node-returns-in-Tuple-clause-known t c = λ has.
    let g = ground_in c.args.self.now in
    let r = receiver_tree c.args.receiver in
    let tree : tuple c.in-Tuple.at c.in-Tuple.mode c.in-Tuple.bracket (range_nodes (range_trees c.as_slice-in-Tuple.result.now)) ≡ expr_tree c.args.expr.now = search (rules, expr_built) in
    subst (λ (e : ExprTree). IfOk c.tuple.result (IsOwn (told_in g r e) (class_as g (received_mode r) e))) tree (c.tuple.ensures.known has)

pub routine_called-returns-clause-known : goal.routine_called-returns-clause-known
routine_called-returns-clause-known t c = λ has.
    let g = ground_in c.args.self.now in
    let p = predefined_tree c.args.own in
    let es = expr_nodes (expr_trees c.args.args.now) in
    let clean : c.in_ok-known.known.is_clean ≡ true = search rules in
    let none : is_none_told (told_in_routine g p es) ≡ true = sym (c.in_ok-known.ensures.clean has) ∙ clean in
    let gives : gives_no_value p ≡ false = grind arith in
    routine_known g p es c.args.at c.in_ok-result.result (own_class c.in_ok-known.known.class) none gives (c.in_ok-known.ensures.class has) (c.in_ok-result.ensures.known has clean)

pub tell_in_parts-returns-clause-told : goal.tell_in_parts-returns-clause-told
tell_in_parts-returns-clause-told t c = λ has.
    let g = ground_in c.args.self.now in
    let rs = range_nodes (range_trees c.args.parts.now) in
    let m = received_mode (receiver_tree c.args.receiver) in
    subst (λ (x : List Diagnostic). OnOk c.tell_in_shape.result (c.tell_in_shape.new.told ≡ c.args.told.now ++ x)) (same_parts g c.shape_of-shape.result (shape_fits rs) m 0 rs c.shape_of-shape.ensures.parts) (c.tell_in_shape.ensures.told has)

pub tell_in_parts-returns-clause-clean : goal.tell_in_parts-returns-clause-clean
tell_in_parts-returns-clause-clean t c = λ has.
    let g = ground_in c.args.self.now in
    let rs = range_nodes (range_trees c.args.parts.now) in
    let m = received_mode (receiver_tree c.args.receiver) in
    subst (λ (x : List Diagnostic). IfOk c.tell_in_shape.result (λ clean. clean ≡ is_none_told x)) (same_parts g c.shape_of-shape.result (shape_fits rs) m 0 rs c.shape_of-shape.ensures.parts) (c.tell_in_shape.ensures.clean has)

pub tell_in_indices-returns-clause-clean : goal.tell_in_indices-returns-clause-clean
tell_in_indices-returns-clause-clean t c = λ has.
    let g = ground_in c.args.self.now in
    let es = expr_nodes (expr_trees c.args.args.now) in
    let base = own_class c.args.base.now.class in
    let receiver : receiver_tree c.index_receiver-receiver.result ≡ index_receiver base (count_exprs es) = c.index_receiver-receiver.ensures has ∙ ap (index_receiver base) (sym (args_counted c.args.args.now)) in
    let same : told_in_all g (receiver_tree c.index_receiver-receiver.result) es ≡ args_in_index g es base = ap (λ (r : Receiver). told_in_all g r es) receiver ∙ sym (index-all g es base) in
    subst (λ (x : List Diagnostic). IfOk c.all_to.result (λ clean. clean ≡ is_none_told x)) same (c.all_to.ensures.clean has)
