use Rattle.std.proofs.Common.{◌≡◌, ℕ, ◌+◌, ◌-◌, ◌≤◌, length}
use Rattle.std.specs.List.{filter, list_all}
use Rattle.scalar_operators.specs.Powersets.{has_member, numbers_up, first_of_list, last_of_list}
use Rattle.number_operators.proofs.PowersetMembers.{last_behind}
use Rattle.number_operators.proofs.words.greatest_below.Given as goal

abbrev pub invariant-loop-k : goal.invariant-loop-k
invariant-loop-k l = last_of_list (filter (has_member l.set) (numbers_up 0 l.count)) ≡ last_behind l.last (filter (has_member l.set) (numbers_up l.k (l.count - l.k)))
