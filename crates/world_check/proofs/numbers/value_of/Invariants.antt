use Rattle.std.proofs.Common.{◌≤◌, take}
use Rattle.world_model.specs.Input.{value_from}
use Rattle.world_check.specs.Numbers.{limit, IsClipped}
use Rattle.world_check.proofs.numbers.value_of.Given as goal

abbrev pub invariant-loop-byte : goal.invariant-loop-byte
invariant-loop-byte l = (l.read ≤ limit) × IsClipped (value_from 0 (take l.byte-index l.bytes)) l.read
