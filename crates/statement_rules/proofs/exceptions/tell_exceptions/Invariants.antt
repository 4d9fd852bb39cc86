use Rattle.std.proofs.Common.{◌≡◌, ◌++◌, drop}
use Rattle.checks_model.specs.ActionRules.{told_exceptions}
use Rattle.statement_rules.proofs.exceptions.tell_exceptions.Given as goal

abbrev pub invariant-loop-name : goal.invariant-loop-name
invariant-loop-name l = (l.listed ++ drop l.name-index l.names ≡ l.fn.earlier ++ l.names) × (l.told ++ told_exceptions l.listed (drop l.name-index l.names) ≡ l.fn.told ++ told_exceptions l.fn.earlier l.names)
