use Rattle.std.proofs.Common.{◌≡◌, ◌+◌, ◌<◌, ◌^◌, ◌++◌, drop, length}
use Rattle.names_model.specs.Entries.{named_entries}
use Rattle.reach_tables.specs.Places.{singles}
use Rattle.reach_tables.proofs.entries.enter_names.Given as goal

abbrev pub invariant-loop-name : goal.invariant-loop-name
invariant-loop-name l = l.fn.from + length l.fn.names < 2 ^ 32 → record {
  next : l.next + length (drop l.name-index l.names) ≡ l.fn.from + length l.fn.names;
  out : singles l.out.items ++ named_entries l.next (drop l.name-index l.names) ≡ singles l.fn.out.items ++ named_entries l.fn.from l.fn.names;
}
