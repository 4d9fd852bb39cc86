-- The parts of a tuple by its shape.
use Rattle.std.specs.Prelude.{ℕ, suc, Bool, true, false, List, [], ◌++◌}
use Rattle.chill_tree.specs.ExprTree.{RangeTree, RangeNodes, alone, between, no_ranges, more_ranges}
use Rattle.diagnostics.specs.declared.diagnostic.Diagnostic.{Diagnostic}
use Rattle.checks_model.specs.Ground.{Ground}
use Rattle.checks_model.specs.ValueRules.{of_mode}
use Rattle.expr_rules.specs.declared.tuples.Shape.{Shape}
use Rattle.expr_rules.specs.Views.{part_of_shape}
use Rattle.expr_rules.specs.Steps.{range_told}

-- what is told in the parts of a tuple from the k-th on, each for what its shape gives it
abbrev pub told_in_shape : Ground → Shape → ℕ → RangeNodes → List Diagnostic
told_in_shape g s k no_ranges = []
told_in_shape g s k (more_ranges r rs) = range_told g (of_mode (part_of_shape s k)) r ++ told_in_shape g s (suc k) rs

abbrev pub is_between : RangeTree → Bool
is_between (alone e) = false
is_between (between l h) = true
