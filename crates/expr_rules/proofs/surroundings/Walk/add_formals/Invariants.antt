use Rattle.std.proofs.Common.{◌≡◌, ◌++◌, drop, map}
use Rattle.checks_model.specs.Ground.{mode_of_entry, entry_defined}
use Rattle.checks_model.specs.ValueRules.{passed}
use Rattle.expr_rules.specs.Grounds.{ground_in, HasItsGround}
use Rattle.expr_rules.specs.Views.{formal_receiver}
use Rattle.expr_rules.proofs.surroundings.Walk.add_formals.Given as goal

abbrev pub invariant-loop-name : goal.invariant-loop-name
invariant-loop-name l = HasItsGround l.self →
    map formal_receiver l.found.items ++ map (λ n. passed l.passing (mode_of_entry (entry_defined (ground_in l.self) n))) (drop l.name-index l.names)
    ≡ map formal_receiver l.fn.found.items ++ map (λ n. passed l.passing (mode_of_entry (entry_defined (ground_in l.self) n))) l.names
