use Rattle.std.proofs.Common.{◌≡◌, ◌++◌, drop}
use Rattle.names_model.specs.Dependence.{among_locations}
use Rattle.visibility.proofs.locations.among_locations.Given as goal

-- those so far and those of the rest are all
abbrev pub invariant-loop-group : goal.invariant-loop-group
invariant-loop-group l = l.among.items ++ among_locations l.book.all.items (drop l.group-index l.groups) ≡ among_locations l.book.all.items l.groups
