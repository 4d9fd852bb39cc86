use Rattle.std.proofs.Common.{◌≡◌, ◌++◌, drop}
use Rattle.reach_tables.specs.Named.{named}
use Rattle.reach_tables.proofs.definitions.push_named.Given as goal

abbrev pub invariant-loop-name : goal.invariant-loop-name
invariant-loop-name l = l.out.items ++ named l.inside l.kind l.elements (drop l.name-index l.names) ≡ l.fn.out.items ++ named l.inside l.kind l.elements l.names
