use Rattle.std.proofs.Common.{◌≡◌, drop}
use Rattle.program_ranges.specs.Messages.{parts_received}
use Rattle.program_ranges.proofs.messages.parts_received.Given as goal

abbrev pub invariant-loop-part : goal.invariant-loop-part
invariant-loop-part l =
    parts_received l.source l.number l.part (drop l.part l.received) l.program l.body ≡ parts_received l.source l.number 0 l.received l.program l.body
