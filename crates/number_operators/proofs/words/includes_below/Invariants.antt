use Rattle.std.proofs.Common.{◌≡◌, ℕ, ◌+◌, ◌-◌, ◌≤◌, length}
use Rattle.std.specs.List.{filter, list_all}
use Rattle.scalar_operators.specs.Powersets.{has_member, numbers_up, first_of_list, last_of_list}
use Rattle.number_operators.proofs.words.includes_below.Given as goal

abbrev pub invariant-loop-k : goal.invariant-loop-k
invariant-loop-k l = list_all (has_member l.b) (filter (has_member l.a) (numbers_up 0 l.count)) ≡ list_all (has_member l.b) (filter (has_member l.a) (numbers_up l.k (l.count - l.k)))
