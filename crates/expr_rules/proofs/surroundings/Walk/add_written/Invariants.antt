use Rattle.std.proofs.Common.{◌≡◌, ◌++◌, drop, map}
use Rattle.std.specs.Prelude.{flat_map}
use Rattle.chill_tree.specs.ItemTree.{formal_tree}
use Rattle.checks_model.specs.ValueRules.{receivers_of_formal}
use Rattle.expr_rules.specs.Grounds.{ground_in, HasItsGround}
use Rattle.expr_rules.specs.Views.{formal_receiver}
use Rattle.expr_rules.proofs.surroundings.Walk.add_written.Given as goal

abbrev pub invariant-loop-formal : goal.invariant-loop-formal
invariant-loop-formal l = HasItsGround l.self →
    map formal_receiver l.found.items ++ flat_map (receivers_of_formal (ground_in l.self)) (map formal_tree (drop l.formal-index l.formals))
    ≡ map formal_receiver l.fn.found.items ++ flat_map (receivers_of_formal (ground_in l.self)) (map formal_tree l.formals)
