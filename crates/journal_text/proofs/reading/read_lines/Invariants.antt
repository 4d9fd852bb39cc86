use Rattle.std.proofs.Common.{◌≡◌, ◌+◌, ◌≤◌, ◌++◌, length}
use Rattle.std.specs.List.{flat_map}
use Rattle.journal_text.specs.Journal.{event_line}
use Rattle.journal_text.proofs.Events.{AreInRange}
use Rattle.journal_text.proofs.reading.read_lines.Given as goal

abbrev pub invariant-lines : goal.invariant-lines
invariant-lines l = record {
  in_range : AreInRange l.events.items;
  whole : l.bytes ≡ flat_map event_line l.events.items ++ l.rest;
  few : length l.events.items + length l.rest ≤ length l.bytes;
}

abbrev pub decreases-lines : goal.decreases-lines
decreases-lines l = length l.rest
