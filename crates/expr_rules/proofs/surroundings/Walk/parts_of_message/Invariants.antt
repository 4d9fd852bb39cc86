use Rattle.std.proofs.Common.{◌≡◌, ◌++◌, drop, map}
use Rattle.checks_model.specs.ValueRules.{of_mode}
use Rattle.expr_rules.specs.Views.{part_modes, formal_receiver}
use Rattle.expr_rules.proofs.surroundings.Walk.parts_of_message.Given as goal

abbrev pub invariant-loop-mode : goal.invariant-loop-mode
invariant-loop-mode l = map formal_receiver l.found.items ++ map of_mode (part_modes (drop l.mode-index l.parts)) ≡ map of_mode (part_modes l.parts)
