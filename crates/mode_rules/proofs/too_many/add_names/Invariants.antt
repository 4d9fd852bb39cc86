use Rattle.std.proofs.Common.{◌≡◌, ◌++◌, drop}
use Rattle.mode_rules.specs.Shared.{places_of}
use Rattle.mode_rules.proofs.too_many.add_names.Given as goal

abbrev pub invariant-loop-name : goal.invariant-loop-name
invariant-loop-name l = l.found ++ places_of (drop l.name-index l.names) ≡ l.fn.found ++ places_of l.names
