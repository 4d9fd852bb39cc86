use Rattle.std.proofs.Common.{◌≡◌, ◌++◌, drop}
use Rattle.names_model.specs.Identifiers.{identifiers}
use Rattle.reach_parts.proofs.clause.identifiers_of.Given as goal

abbrev pub invariant-loop-name : goal.invariant-loop-name
invariant-loop-name l = l.all ++ identifiers (drop l.name-index l.names) ≡ identifiers l.names
