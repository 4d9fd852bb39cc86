use Rattle.std.proofs.Common.{◌≡◌, ◌++◌, List, map, ap, ◌∙◌}
use Rattle.chill_tree.specs.declared.tree.name.Name.{Name}
use Rattle.chill_tree.specs.ItemTree.{param_tree}
use Rattle.checks_model.specs.Ground.{mode_of_entry, entry_defined}
use Rattle.checks_model.specs.ValueRules.{passed, receivers_of_param}
use Rattle.expr_rules.specs.Grounds.{ground_in}
use Rattle.expr_rules.specs.Views.{formal_receiver}
use Rattle.expr_rules.proofs.Turns.{param_turn}
use Rattle.expr_rules.proofs.surroundings.Walk.add_params.Goals as goal

pub loop-param-preserved : goal.loop-param-preserved
loop-param-preserved c = λ has.
    let g = ground_in c.args.self.now in
    let p = c.param-item.result in
    let before = map formal_receiver c.loop-param.found.items in
    let more : map formal_receiver c.add_formals.new.found.items ≡ before ++ receivers_of_param g (param_tree p) =
    c.in_ok-add_formals.ensures has ∙ ap (λ (ns : List Name). before ++ map (λ n. passed p.passing (mode_of_entry (entry_defined g n))) ns) c.as_slice.ensures in
    param_turn g c.args.params.now c.loop-param.param-index p (map formal_receiver c.args.found.now.items) before (map formal_receiver c.add_formals.new.found.items) c.loop-param-test.true c.param-item.is (c.loop-param.invariant has) more
