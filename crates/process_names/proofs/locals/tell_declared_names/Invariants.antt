use Rattle.std.proofs.Common.{◌≡◌, ◌++◌, drop}
use Rattle.process_names.specs.Walk.{declared_names}
use Rattle.process_names.proofs.locals.tell_declared_names.Given as goal

abbrev pub invariant-loop-name : goal.invariant-loop-name
invariant-loop-name l =
    l.told ++ declared_names l.meetings (drop l.name-index l.names) ≡ l.fn.told ++ declared_names l.meetings l.names
