use Rattle.std.proofs.Common.{◌≡◌, ℕ, ◌+◌, ◌-◌, ◌≤◌, length}
use Rattle.std.specs.List.{filter, list_all}
use Rattle.scalar_operators.specs.Powersets.{has_member, numbers_up, first_of_list, last_of_list}
use Rattle.number_operators.proofs.words.count_below.Given as goal

abbrev pub invariant-loop-k : goal.invariant-loop-k
invariant-loop-k l = (l.found + length (filter (has_member l.set) (numbers_up l.k (l.count - l.k))) ≡ length (filter (has_member l.set) (numbers_up 0 l.count))) × (l.found ≤ l.k)
