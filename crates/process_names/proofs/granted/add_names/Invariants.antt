use Rattle.std.proofs.Common.{◌≡◌, ◌||◌, ℕ, List, drop}
use Rattle.process_names.specs.Rules.{has, has_name}
use Rattle.process_names.proofs.granted.add_names.Given as goal

abbrev pub invariant-loop-name : goal.invariant-loop-name
invariant-loop-name l = (n : List ℕ) → (has l.table n || has_name n (drop l.name-index l.names)) ≡ (has l.fn.table n || has_name n l.names)
