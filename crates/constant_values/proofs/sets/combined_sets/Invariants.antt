use Rattle.std.proofs.Common.{◌≡◌, ◌++◌, drop}
use Rattle.scalar_operators.specs.Members.{by_pairs}
use Rattle.constant_values.specs.Sets.{word_operator}
use Rattle.constant_values.proofs.sets.combined_sets.Given as goal

abbrev pub invariant-loop-place : goal.invariant-loop-place
invariant-loop-place l = by_pairs (word_operator l.operator) l.left l.right ≡ l.found ++ by_pairs (word_operator l.operator) (drop l.place l.left) (drop l.place l.right)
