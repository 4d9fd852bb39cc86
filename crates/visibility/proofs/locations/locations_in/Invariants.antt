use Rattle.std.proofs.Common.{◌≡◌, ◌++◌, drop}
use Rattle.names_model.specs.Dependence.{locations_in}
use Rattle.visibility.proofs.locations.locations_in.Given as goal

-- those so far and those of the rest are all
abbrev pub invariant-loop-number : goal.invariant-loop-number
invariant-loop-number l = l.locations ++ locations_in l.book.all.items (drop l.number-index l.numbers) ≡ locations_in l.book.all.items l.numbers
