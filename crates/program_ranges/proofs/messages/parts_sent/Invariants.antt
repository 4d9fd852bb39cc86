use Rattle.std.proofs.Common.{◌≡◌, drop, map}
use Rattle.program_ranges.specs.ExprRanges.{received_ranges}
use Rattle.program_ranges.specs.Messages.{parts_sent}
use Rattle.program_ranges.proofs.messages.parts_sent.Given as goal

abbrev pub invariant-loop-part : goal.invariant-loop-part
invariant-loop-part l =
    parts_sent l.signal l.part (map received_ranges (drop l.part l.values)) l.program l.body ≡ parts_sent l.signal 0 (map received_ranges l.values) l.program l.body
