use Rattle.std.proofs.Common.{◌≡◌, ◌+◌, ◌<◌, ◌^◌, ◌++◌, drop, length}
use Rattle.names_model.specs.Entries.{named_entries}
use Rattle.names_model.specs.Sizes.{elements_in}
use Rattle.reach_tables.specs.Places.{singles}
use Rattle.reach_tables.proofs.entries.enter_elements.Given as goal

abbrev pub invariant-loop-mention : goal.invariant-loop-mention
invariant-loop-mention l = l.fn.from + length (elements_in l.fn.text) < 2 ^ 32 → record {
  next : l.next + length (elements_in (drop l.mention-index l.text)) ≡ l.fn.from + length (elements_in l.fn.text);
  out : singles l.out.items ++ named_entries l.next (elements_in (drop l.mention-index l.text)) ≡ singles l.fn.out.items ++ named_entries l.fn.from (elements_in l.fn.text);
}
