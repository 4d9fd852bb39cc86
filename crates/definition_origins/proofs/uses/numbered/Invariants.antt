use Rattle.std.proofs.Common.{◌≡◌, ◌++◌, drop}
use Rattle.checks_model.specs.Table.{numbered}
use Rattle.definition_origins.proofs.uses.numbered.Given as goal

abbrev pub invariant-loop-own : goal.invariant-loop-own
invariant-loop-own l = l.found ++ numbered l.to (drop l.own-index l.definitions) ≡ numbered 0 l.definitions
