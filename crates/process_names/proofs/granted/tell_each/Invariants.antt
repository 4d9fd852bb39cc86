use Rattle.std.proofs.Common.{◌≡◌, ◌++◌, drop}
use Rattle.std.specs.Prelude.{flat_map}
use Rattle.process_names.specs.Rules.{told_had}
use Rattle.process_names.proofs.granted.tell_each.Given as goal

abbrev pub invariant-loop-name : goal.invariant-loop-name
invariant-loop-name l = l.told ++ flat_map (told_had l.table) (drop l.name-index l.names) ≡ l.fn.told ++ flat_map (told_had l.table) l.names
